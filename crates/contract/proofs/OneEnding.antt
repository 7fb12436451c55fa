-- Demand 1 of a contract that one ending alone meets, and so of every call that writes nothing.
use mathlib.Core.Path.{◌≡◌, refl, sym, subst, ◌∙◌}
use mathlib.Core.List.{List}
use Prim.Native.Nat.{ℕ}
use Rattle.contract.specs.Endings.{Ending}
use Rattle.contract.specs.Contract.{Contract, answers, Fruitless, Lists, Keeps, Demand1}

-- an answer that is listed and, with what is left of what was lent, keeps it where it must
abbrev pub WellEnded : (c : Contract) → c.Answer → c.Lent → Type 0
WellEnded c r l = Lists c r × Keeps c r l

-- where one ending alone meets a contract, of demand 1 there is left to show that it ends well
pub one-ending : (c : Contract) (r : c.Answer) (l : c.Lent) → c.Meets r l
    → ((r' : c.Answer) (l' : c.Lent) → c.Meets r' l' → (r' ≡ r) × (l' ≡ l)) → WellEnded c r l → Demand1 c
one-ending c r l m only h =
    record {
      settled =
          λ r₁ r₂ l₁ l₂ m₁ m₂.
          let x = only r₁ l₁ m₁ in
          let y = only r₂ l₂ m₂ in
          (x.0 ∙ sym y.0, x.1 ∙ sym y.1);
      met = λ n. n r l m;
      listed = λ r' l' m'. subst (Lists c) (sym (only r' l' m').0) h.0;
      unchanged =
          λ r' l' m' f. let x = only r' l' m' in x.1 ∙ h.1 (subst (λ (a : c.Answer). Fruitless (c.ending a)) x.0 f);
    }

-- of a call that writes nothing there is left to show that its answer is listed
pub answers-demand : {A : Type 0} {value : A} {ending : A → Ending} {numbers : List ℕ} → Lists (answers A value ending numbers) value
    → Demand1 (answers A value ending numbers)
answers-demand {A} {value} {ending} {numbers} h =
    one-ending (answers A value ending numbers) value tt refl (λ r l m. (m, refl)) (h, λ _. refl)
