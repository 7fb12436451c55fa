-- The round trip of demand 2 as a fact about a function that calls `encode` and then `decode_udp`.
use Rattle.std.specs.Prelude.{◌≡◌, List, ℕ, ◌≤◌, length, take}
use Rattle.node.specs.Forest.{Forest}
use Rattle.node.specs.Records.{capacity}
use Rattle.node.specs.declared.record.Item.{Item}
use Rattle.writers.specs.Osc.{write_packet}
use Rattle.results.specs.Results.{DecodeAnswer, Packets}
use Rattle.standards.specs.Trip.{SameTable, Playable}

-- what comes back: the same count with nothing left over and no dirty padding, and the same table over the bytes that were written
pub record CameBack (t : List ℕ) (count : ℕ) (source written : List ℕ) (r : DecodeAnswer) (back : List ℕ) : Type 0 where
  pub answer : r ≡ Packets count 0 0
  pub same : SameTable source t written back count

-- for every table that demand 2 speaks of, with room in both buffers
abbrev pub Returns : List ℕ → ℕ → List ℕ → List ℕ → List ℕ → DecodeAnswer → List ℕ → List ℕ → Type 0
Returns t count source out back r out' back' =
    (item : Item) (inside : Forest) → Playable t count source item inside
    → length (write_packet source item inside) ≤ length out → count ≤ capacity back
    → CameBack t count source (take (length (write_packet source item inside)) out') r back'
