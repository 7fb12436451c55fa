-- What the program says of the cue index of a recording: the check of a part, and a cue asked for.
use Rattle.std.specs.Prelude.{Bool, true, false, ◌≡◌, List, ℕ, ◌+◌, ◌≤◌, ltb, length, Result, Ok, Err}
use Rattle.refusal.specs.declared.Refusal.TheVariants.{BadTable}
use Rattle.cues.specs.Checks.{compared, numbered_from}
use Rattle.results.specs.Results.{Checked}
use Rattle.telling.specs.Forms.{Says}
use Rattle.telling.specs.Refusals.{refused_line}
use Rattle.telling.specs.Indexes.{differs_line}
use Rattle.outcomes.specs.declared.Told.{Told}

-- an answer that accepts tells at most so many records
abbrev pub AtMost : ℕ → Checked → Type 0
AtMost most (Ok n) = n ≤ most
AtMost most (Err differs) = Unit {0}

-- the check of a part, before which stand so many records: the answer of that part, its number moved by them
pub record ChecksPart (before : ℕ) (fresh given : List ℕ) (r : Checked) : Type 0 where
  pub answers : r ≡ numbered_from before (compared fresh given)
  pub few : AtMost (before + length fresh) r

-- what is said where there is no cue k: that of an index that differs, or that there is no such record
abbrev pub no_cue_line : Checked → List ℕ
no_cue_line (Ok n) = refused_line BadTable
no_cue_line (Err differs) = differs_line differs.at

-- there is cue k where the index fits and has more than k records
abbrev pub has_cue : Checked → ℕ → Bool
has_cue (Ok n) k = ltb k n
has_cue (Err differs) k = false

-- what is told: the cue, or the line, and then nothing is kept
abbrev pub JumpTold : Checked → ℕ → List ℕ → Result ℕ Told → Type 0
JumpTold checked k line (Ok j) = (has_cue checked k ≡ true) × (j ≡ k)
JumpTold checked k line (Err told) =
    (has_cue checked k ≡ false) × (told.is_kept ≡ false) × (told.bytes ≡ 0) × Says (no_cue_line checked) line told.line
