-- When an answer is the one that is due.
use Rattle.std.specs.Prelude.{◌≡◌, ℕ, List, length, Result, Ok, Err, ⊤}
use Rattle.runs.specs.Kept.{Begins, Kept}
use Rattle.recorded_runs.specs.declared.replay.Difference.{Difference}
use Rattle.recorded_runs.specs.declared.replay.Difference.TheVariants.{OtherAnswer, OtherField, OtherBytes, LaterByte}

-- a case is right only where the answer is the due one, so is what is said beside it, the buffer begins with the due bytes and the rest of
-- it is as it was
abbrev pub Compared : (answer due more field : ℕ) (out written : List ℕ) → Result ⊤ Difference → Type 0
Compared answer due more field out written (Ok x) = (answer ≡ due) × (more ≡ field) × Begins written out × Kept out (length written)
Compared answer due more field out written (Err OtherAnswer) = answer ≡ due → ⊥
Compared answer due more field out written (Err OtherField) = more ≡ field → ⊥
Compared answer due more field out written (Err OtherBytes) = Begins written out → ⊥
Compared answer due more field out written (Err LaterByte) = Kept out (length written) → ⊥
