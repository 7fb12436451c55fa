-- Demand 1 of `shift_table`; and what its C function is held to: the answers that there are, and that no second outcome meets it.
use Rattle.std.proofs.Common.{◌≡◌, ℕ, ◌<◌, ◌≤◌, ltb, List, length, sym, refl, ap, ◌∙◌, arith, ltb-true, le-ltb, lt-ltb}
use Rattle.refusal.specs.declared.Refusal.TheVariants.{BadTable}
use Rattle.contract.specs.Contract.{Demand1}
use Rattle.contract.proofs.OneEnding.{WellEnded, one-ending}
use Rattle.wire.proofs.Choices.{by-test}
use Rattle.shifts.specs.Shifts.{time_tags, lookable, shift_answer, shift_leaves, Shifts}
use Rattle.shifts.specs.Call.{shifting, most_shifted, ShiftsTold}
use Rattle.shifts.specs.Results.{Shifted}
use Rattle.std.specs.Prelude.{Err, Ok}
use Rattle.shifts.proofs.Loop.{few-tags}

module _ (t : List ℕ) (count by : ℕ) where
  -- no second outcome meets the contract
  shifts-only : {r s : Shifted} {l m : List ℕ} → Shifts t count by r l → Shifts t count by s m → (r ≡ s) × (l ≡ m)
  shifts-only v w =
      let e = v.answers ∙ sym w.answers in
      (e, v.leaves ∙ ap (λ (x : Shifted). shift_leaves x t count by) e ∙ sym w.leaves)

  shifts-met : Shifts t count by (shift_answer t count) (shift_leaves (shift_answer t count) t count by)
  shifts-met = record { answers = refl; leaves = refl }

  pub shift-demand : Demand1 (shifting t count by)
  shift-demand =
      one-ending (shifting t count by) _ _ shifts-met (λ r l m. shifts-only m shifts-met)
      (by-test (λ (r : Shifted). WellEnded (shifting t count by) r (shift_leaves r t count by)) (lookable t count)
      (λ _. (tt, λ n. absurd n)) (λ _. (refl, λ _. refl)))

  -- ---- the C function

  pub told-only : {r s : Shifted} {l m : List ℕ} → ShiftsTold t count by r l → ShiftsTold t count by s m → (r ≡ s) × (l ≡ m)
  told-only v w =
      let e = v.answers ∙ sym w.answers in
      (e, v.leaves ∙ ap (λ (x : Shifted). shift_leaves x t count by) e ∙ sym w.leaves)

  -- what holds of its answer, by the answers that there are
  pub by-told : (P : Shifted → Type 0) → ((n : ℕ) → n < most_shifted → P (Ok n)) → P (Err BadTable)
      → {r : Shifted} {l : List ℕ} → ShiftsTold t count by r l → P r
  by-told P f g w =
      rw w.answers
      (by-test P (ltb count most_shifted)
      (λ h. by-test P (lookable t count)
      (λ _. f (length (time_tags count t)) (omega (arith, few-tags count t, ltb-true count most_shifted h)))
      (λ _. g))
      (λ _. g))

  -- 11 of a count whose tags have no room
  pub told_over : most_shifted ≤ count → ShiftsTold t count by (Err BadTable) t
  told_over h = record { answers = rw (le-ltb count most_shifted h); leaves = refl }

  -- what the call does, of any other
  pub told-call : count < most_shifted → {r : Shifted} {l : List ℕ} → Shifts t count by r l → ShiftsTold t count by r l
  told-call h w = record { answers = w.answers ∙ rw (lt-ltb count most_shifted h); leaves = w.leaves }

  -- the tags of an answer have their bits
  pub tags-low : count < most_shifted → {r : Shifted} {l : List ℕ} {n : ℕ} → Shifts t count by r l → r ≡ Ok n → n < most_shifted
  tags-low h {r} {l} {n} w e =
      by-told (λ (x : Shifted). x ≡ Ok n → n < most_shifted)
      (λ m k d. let same : m ≡ n = cc in omega arith)
      (λ d. let z : ◌≡◌ {A = ℕ} 0 1 = cc in absurd (omega arith))
      (told-call h w) e
