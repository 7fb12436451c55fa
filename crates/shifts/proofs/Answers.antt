-- The answers of `shift_table`, by its check.
use Rattle.std.proofs.Common.{◌≡◌, ℕ, true, false, List, length, refl}
use Rattle.refusal.specs.declared.Refusal.TheVariants.{BadTable}
use Rattle.shifts.specs.Shifts.{shifted_table, time_tags, lookable, Shifts}
use Rattle.std.specs.Prelude.{Err, Ok}

pub answer-refused : (t : List ℕ) (count by : ℕ) → lookable t count ≡ false → Shifts t count by (Err BadTable) t
answer-refused t count by h = record { answers = rw h; leaves = refl }

pub answer-moved : (t : List ℕ) (count by : ℕ) {n : ℕ} {after : List ℕ} → lookable t count ≡ true → n ≡ length (time_tags count t)
    → after ≡ shifted_table by count t → Shifts t count by (Ok n) after
answer-moved t count by h e l = record { answers = rw (h, e); leaves = l }
