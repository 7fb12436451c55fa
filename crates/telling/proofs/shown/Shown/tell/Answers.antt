-- `telling::shown::Shown::tell` meets its contract, by the value's case.
use Rattle.telling.proofs.Told.{says-as}
use Rattle.telling.proofs.Said.{bare-shown}
use Rattle.telling.proofs.shown.Shown.tell.Goals as goal

pub returns-in-Float : goal.returns-in-Float
returns-in-Float c = rw c.in-Float.is c.one.ensures

pub returns-in-Double : goal.returns-in-Double
returns-in-Double c = rw c.in-Double.is c.two.ensures

pub returns-in-Char : goal.returns-in-Char
returns-in-Char c = rw c.in-Char.is c.one-in-Char.ensures

pub returns-in_default : goal.returns-in_default
returns-in_default c =
    let s = c.args.self in
    says-as (bare-shown s.index s.kind s.end c.args.value c.in_default.in_default-own.keys13) c.fill_in.ensures
