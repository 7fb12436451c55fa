-- `all` over the numbers of the records says of each whether it has a value.
use Rattle.std.proofs.Common.{◌≡◌, true, false, rules, refl, arith}
use Rattle.std.proofs.lemmas.Iterator.{cases_from_all, YieldsList-from_range}
use Rattle.values.specs.Look.{look_at}
use Rattle.shifts.specs.Shifts.{is_value}
use Rattle.shifts.proofs.Lookable.{all_lookable}
use Rattle.shifts.proofs.is_lookable.Goals as goal

pub returns : goal.returns
returns c =
    let t = c.args.table.now in
    let n = c.args.count in
    all_lookable t n c.all.result
    (cases_from_all _ _ _ (λ i. is_value (look_at t i) ≡ true) (λ i. is_value (look_at t i) ≡ false) c.all.ensures.ran
    (YieldsList-from_range 0 n n refl (omega arith)) (λ x q k. search rules) (λ x q k. search rules))
