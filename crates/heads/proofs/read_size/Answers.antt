use Rattle.heads.proofs.Heads.{size-short, size-past, size_holds}
use Rattle.heads.proofs.read_size.Goals as goal

pub returns-then-input-lt4 : goal.returns-then-input-lt4
returns-then-input-lt4 c = size-short _ c.if-input-lt4.true

pub returns-then-input-size : goal.returns-then-input-size
returns-then-input-size c = size-past _ c.if-input-lt4.false c.be_u32-size.ensures c.if-input-size.true

pub returns : goal.returns
returns c = size_holds _ c.if-input-lt4.false c.be_u32-size.ensures c.if-input-size.false
