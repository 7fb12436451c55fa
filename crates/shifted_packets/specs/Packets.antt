-- What a shifted table is and encodes to: document 02, Ticket 13, "Designers slide whole acts and slide them back".
use Rattle.std.specs.Prelude.{◌≡◌, List, [], ◌∷◌, ◌++◌, ℕ, ◌*◌, ◌≤◌, ◌<◌, length, take, get_or, Ok}
use Rattle.wire.specs.Number.{bytes}
use Rattle.node.specs.Records.{record_size}
use Rattle.table.specs.Formed.{WellFormed}
use Rattle.encoder.specs.Outcome.{Outcome, Encodes}
use Rattle.clock.specs.Shift.{shifted}
use Rattle.shifts.specs.Shifts.{shifted_table, time_tags}

-- a well-formed table stays well formed, over the same source
abbrev pub StaysFormed : Type 0
StaysFormed = (t : List ℕ) (count by : ℕ) (source : List ℕ) → WellFormed t count source → WellFormed (shifted_table by count t) count source

-- two rows of bytes that differ in these tags alone, in their order: each is eight bytes of the first, and shifted in the second
pub data Retagged (by : ℕ) : List ℕ → List ℕ → List ℕ → Type 0 where
  none : Retagged by [] [] []
  same : {x : ℕ} {tags bs cs : List ℕ} → Retagged by tags bs cs → Retagged by tags (x ∷ bs) (x ∷ cs)
  moved : {tag : ℕ} {tags bs cs : List ℕ} → Retagged by tags bs cs
      → Retagged by (tag ∷ tags) (bytes 8 tag ++ bs) (bytes 8 (shifted tag by) ++ cs)

-- the outcomes of an encoder for a table and for the same table shifted: the same answer, and bytes that differ in the table's tags alone
pub record EncodedAlike (by : ℕ) (tags : List ℕ) (r s : Outcome) : Type 0 where
  pub answer : s.answer ≡ r.answer
  pub written : (n : ℕ) → r.answer ≡ Ok n → Retagged by tags (take n r.out) (take n s.out)

-- a table whose records exist and the same table shifted encode so, by an encoder's frame; where one is not well formed, neither is
abbrev pub EncodesAlike : (ℕ → List ℕ → List ℕ) → Type 0
EncodesAlike frame =
    (t : List ℕ) → ((i : ℕ) → get_or t i 0 < 256) → (count by : ℕ) (source out : List ℕ) (r s : Outcome) → record_size * count ≤ length t
    → Encodes frame t count source out r → Encodes frame (shifted_table by count t) count source out s
    → EncodedAlike by (time_tags count t) r s
