-- `telling::shown::Shown::signed` meets its contract, by the number's sign.
use Rattle.telling.proofs.Told.{says-as}
use Rattle.telling.proofs.Said.{with-sign, without_sign}
use Rattle.telling.proofs.shown.Shown.signed.Goals as goal

pub returns-then-x-lt0 : goal.returns-then-x-lt0
returns-then-x-lt0 c =
    let s = c.args.self in
    says-as (with-sign s.index s.kind s.end c.ranges.x c.magnitude.ensures c.if-x-lt0.true) c.one.ensures

pub returns : goal.returns
returns c =
    let s = c.args.self in
    says-as (without_sign s.index s.kind s.end c.ranges.x c.magnitude-2.ensures c.if-x-lt0.false) c.one-2.ensures
