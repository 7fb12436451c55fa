-- Where the output has no room for the packet it is refused, and otherwise it is written.
use Rattle.encoder.proofs.Answers.{packet-short, packet-written}
use Rattle.encoder.proofs.encode_into.Goals as goal

pub returns-then-out-n : goal.returns-then-out-n
returns-then-out-n c = λ F s. packet-short c.requires F s c.args.out.now c.if-out-n.true

pub returns : goal.returns
returns c = λ F s. packet-written c.requires F s c.args.out.now c.encode_packet.ensures
