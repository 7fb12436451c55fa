-- Ticket 10, of the fifth number of a record: "The encoder ignores it".
use Rattle.std.specs.Prelude.{◌≡◌, List, ℕ, ◌%◌, ◌<◌, length, get_or}
use Rattle.node.specs.Records.{record_size}
use Rattle.encoder.specs.Outcome.{Outcome, Encodes}

-- two tables of one length differ in the starts of their records alone: in the last 4 bytes of each 20
pub record StartsDiffer (t t' : List ℕ) : Type 0 where
  pub long : length t ≡ length t'
  pub same : (j : ℕ) → j % record_size < 16 → get_or t j 0 ≡ get_or t' j 0

-- of two such tables an encoder gives the same answer and leaves the same output
abbrev pub IgnoresStarts : (ℕ → List ℕ → List ℕ) → Type 0
IgnoresStarts frame =
    (t t' : List ℕ) → StartsDiffer t t' → (count : ℕ) (source out : List ℕ) (r r' : Outcome) → Encodes frame t count source out r
    → Encodes frame t' count source out r' → r ≡ r'
