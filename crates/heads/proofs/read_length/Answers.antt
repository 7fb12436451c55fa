use Rattle.heads.proofs.Heads.{length-short, length-known, length_over, length-odd, length-past, length-cuts}
use Rattle.heads.proofs.read_length.Goals as goal

pub returns-then-input-lt4 : goal.returns-then-input-lt4
returns-then-input-lt4 c = length-short _ c.if-input-lt4.true

pub returns-then-n-gt-LONGEST_FRAMED : goal.returns-then-n-gt-LONGEST_FRAMED
returns-then-n-gt-LONGEST_FRAMED c = length-known _ c.if-input-lt4.false c.be_u32-n.ensures (length_over _ c.if-n-gt-LONGEST_FRAMED.true)

pub returns-then-n-ne0 : goal.returns-then-n-ne0
returns-then-n-ne0 c =
    length-known _ c.if-input-lt4.false c.be_u32-n.ensures (length-odd _ c.if-n-gt-LONGEST_FRAMED.false c.if-n-ne0.true)

pub returns-then-input-n : goal.returns-then-input-n
returns-then-input-n c =
    length-known _ c.if-input-lt4.false c.be_u32-n.ensures
    (length-past _ c.if-n-gt-LONGEST_FRAMED.false c.if-n-ne0.false c.if-input-n.true)

pub returns : goal.returns
returns c =
    length-known _ c.if-input-lt4.false c.be_u32-n.ensures
    (length-cuts _ c.if-n-gt-LONGEST_FRAMED.false c.if-n-ne0.false c.if-input-n.false)
