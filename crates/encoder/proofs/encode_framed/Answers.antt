-- The length, and the packet in the later part.
use Rattle.encoder.proofs.Answers.{element-long, element-short, element-written}
use Rattle.encoder.proofs.encode_framed.Goals as goal

pub returns-then-n-gt-LONGEST_FRAMED : goal.returns-then-n-gt-LONGEST_FRAMED
returns-then-n-gt-LONGEST_FRAMED c = λ F s. element-long c.requires F s c.args.out.now c.if-n-gt-LONGEST_FRAMED.true

pub returns-then-out-n : goal.returns-then-out-n
returns-then-out-n c = λ F s. element-short c.requires F s c.args.out.now c.if-n-gt-LONGEST_FRAMED.false c.if-out-n.true

pub returns : goal.returns
returns c =
    λ F s. element-written c.requires F s c.args.out.now c.if-n-gt-LONGEST_FRAMED.false c.put_u32.ensures c.encode_packet-written.ensures
