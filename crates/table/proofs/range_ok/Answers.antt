-- Each kind with a range is a case of the definition, and no other kind is.
use mathlib.Core.Path.{refl, sym}
use Rattle.std.proofs.Common.{rules, tests}
use mathlib.Core.Bool.{true}
use mathlib.Core.List.{[], ◌∷◌}
use Prim.Native.Nat.{ℕ}
use Rattle.node.specs.Tags.{message_kind, among}
use Rattle.node.proofs.Keys.{by-keys}
use Rattle.table.specs.Formed.{range_ok}
use Rattle.table.proofs.range_ok.Goals as goal

pub returns-in-47 : goal.returns-in-47
unfolding range_ok
returns-in-47 c =
    let texts = message_kind ∷ 115 ∷ [] in
    let e = sym (by-keys (λ (k : ℕ). among k texts) true texts (refl, (refl, tt)) _ c.in-47.is) in
    rw e c.text_ok.ensures

pub returns-in-98 : goal.returns-in-98
unfolding range_ok
returns-in-98 c = rw c.in-98.is c.lies_in.ensures

pub returns-in_default : goal.returns-in_default
unfolding range_ok
returns-in_default c = search (rules, tests)
