-- Unknown tags are what is left.
use borrow.Enum.Refused.{opened}
use Rattle.argument.proofs.Classes.{unknown-left}
use Rattle.argument.proofs.read_checked.Goals as goal

pub returns-in_default : goal.returns-in_default
returns-in_default c =
    let a = c.args in
    unknown-left a.tag a.class a.base a.input.now a.pos (opened c.in_default.in_default-own.keys4) c.requires.checked
