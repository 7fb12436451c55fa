-- Describes code, and no part of the document: what is known before a byte is written, the refusals 11, 9 and 1 or the packet's length.
use Rattle.std.specs.Prelude.{◌≡◌, true, List, ℕ, ◌*◌, ◌≤◌, ◌<◌, length, Err, Ok}
use Rattle.refusal.specs.declared.Refusal.{Refusal}
use Rattle.node.specs.Forest.{Forest}
use Rattle.node.specs.Records.{record_size, end_at, item_at}
use Rattle.table.specs.Formed.{range_ok}
use Rattle.table.specs.Tree.{Spans}
use Rattle.encoder.specs.Outcome.{Outcome, bytes_outcome}
use Rattle.encoder.specs.AfterNo.{AfterNo}
use Rattle.writers.specs.CodeWriters.{SoundIn, packet_at}
use Rattle.survey.specs.Surveys.{ShallowTree}
use Rattle.encoder.specs.Results.{Prepared}
use Rattle.wire.specs.Limits.{longest}

-- the survey is not sure: a packet that the table has is too long
abbrev pub Unsure : List ℕ → ℕ → List ℕ → Type 0
Unsure t count source = (inside : Forest) → ShallowTree t count source inside → longest < length (packet_at source t 0 inside)

-- the packet of the first record can be written, and n is its length, which is not over the limit
pub record Writable (source t : List ℕ) (n : ℕ) : Type 0 where
  pub inside : Forest
  pub spans : Spans t 1 (end_at t 0) inside
  pub sound : SoundIn source inside
  pub range : range_ok source (item_at t 0) ≡ true
  pub table : record_size * end_at t 0 ≤ length t
  pub sized : n ≡ length (packet_at source t 0 inside)
  pub short : n ≤ longest

-- whatever tree stands in the table, the outcome is that of writing what `frame` makes of its packet
abbrev pub Writes : (List ℕ → List ℕ) → List ℕ → List ℕ → List ℕ → Outcome → Type 0
Writes frame source t out r = (F : Forest) → Spans t 1 (end_at t 0) F → r ≡ bytes_outcome (frame (packet_at source t 0 F)) out

-- the refusal that the survey's "no" leads to, or the length of a packet that can be written
pub data Prepares (t : List ℕ) (count : ℕ) (source : List ℕ) (r : Prepared) : Type 0 where
  no : (x : Refusal) → AfterNo t count source x → r ≡ Err x → Prepares t count source r
  ready : (inside : Forest) → ShallowTree t count source inside → (n : ℕ) → r ≡ Ok n → Writable source t n → Prepares t count source r
