use borrow.Author.Rules.{rules}
use Rattle.wire.proofs.Numbers.{turned-bytes}
use Rattle.wire.proofs.Writers.{four-written}
use Rattle.wire.proofs.put_u32.Goals as goal

pub returns : goal.returns
returns c =
    rw (← turned-bytes c.args.x (search rules) c.turned-y.ensures) (four-written c.args.out.now _ _ _ _ c.requires)
