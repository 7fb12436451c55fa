-- `telling::refusals::tell_numbered` meets its contract: the form that is filled in is that of the number.
use mathlib.Core.Path.{ap}
use mathlib.Core.List.{List, [], ◌∷◌}
use Prim.Native.Nat.{ℕ}
use Rattle.telling.specs.Forms.{filled_in}
use Rattle.telling.specs.Refusals.{numbered_line}
use Rattle.telling.proofs.Told.{says-as}
use Rattle.telling.proofs.refusals.tell_numbered.Goals as goal

pub returns : goal.returns
unfolding numbered_line
returns c =
    let a = c.args in
    says-as (ap (λ (form : List ℕ). filled_in [] (a.number ∷ a.beside ∷ []) form) c.form_of.ensures) c.fill_in.ensures
