-- What an answer that decides a statement is, and what it shows.
use mathlib.Core.Path.{◌≡◌, refl, sym, ◌∙◌}
use mathlib.Core.Bool.{Bool, true, false, true≢false, false≢true}
use Rattle.utf8.specs.Utf8.{Decides}

-- true decides what holds
pub yes : {A : Type 0} → A → Decides true A
yes a = record { sound = λ e. a; complete = λ x. refl }

-- false decides what does not
pub no : {A : Type 0} → (A → ⊥) → Decides false A
no n = record { sound = λ e. absurd (false≢true e); complete = λ x. absurd (n x) }

-- an answer that is false: the statement does not hold
pub fails : {r : Bool} {A : Type 0} → Decides r A → r ≡ false → A → ⊥
fails d e x = true≢false (sym (d.complete x) ∙ e)
