use borrow.Author.Rules.{rules}
use Rattle.node.proofs.Recorded.{kind-bytes}
use Rattle.node.proofs.record.put_kind.Goals as goal

pub returns : goal.returns
returns c =
    rw (← kind-bytes c.args.kind (search rules)) c.put_u32.ensures
