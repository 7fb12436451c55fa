-- `telling::form::fill_in` meets its contract. The invariant: what stands there, and what the rest of the form gives, make the whole.
use mathlib.Core.Path.{◌≡◌}
use mathlib.Core.List.{◌++◌}
use Prim.Native.Nat.{◌≤◌}
use lib.ListN.{length, take, drop}
use Rattle.telling.specs.Forms.{filled_in}
use Rattle.telling.proofs.form.fill_in.Given as goal

abbrev pub invariant-loop-mark : goal.invariant-loop-mark
invariant-loop-mark l =
    (l.mark-index ≤ length l.form) × (l.k ≤ l.mark-index) × (l.at ≤ length l.out) × (length l.out ≡ length l.initial.out)
    × (take (length l.out) (take l.at l.out ++ filled_in l.text (drop l.k l.numbers) (drop l.mark-index l.form)) ≡ take (length l.out) (filled_in l.text l.numbers l.form))
