-- Document 02, Ticket 4: what the encoders answer where the survey says "no", by the encode order of document 01, "Refusal numbers".
use Rattle.std.specs.Prelude.{◌≡◌, List, ℕ, ◌<◌, length}
use Rattle.refusal.specs.declared.Refusal.{Refusal}
use Rattle.refusal.specs.declared.Refusal.TheVariants.{TooLong, TooDeep, BadTable}
use Rattle.wire.specs.Limits.{longest, deepest}
use Rattle.node.specs.Forest.{Forest, nil, node, depth}
use Rattle.node.specs.Records.{item_at}
use Rattle.table.specs.Formed.{WellFormed}
use Rattle.table.specs.Tree.{IsTree}
use Rattle.writers.specs.Osc.{write_packet}
use Rattle.survey.specs.Surveys.{ShallowTree}
use Rattle.encoder.specs.Outcome.{Outcome, refuse}

-- the refusal that a "no" of the survey leads to (Ticket 4), by the encode order: 11 for a table that is not well formed, then 9 for a tree
-- that is deeper than 64, then 1 for a packet over 65,535 bytes
pub data AfterNo (t : List ℕ) (count : ℕ) (source : List ℕ) (x : Refusal) : Type 0 where
  malformed : (WellFormed t count source → ⊥) → x ≡ BadTable → AfterNo t count source x
  deep : (inside : Forest) → IsTree t count source (item_at t 0) inside → deepest < depth (node (item_at t 0) inside nil)
      → x ≡ TooDeep → AfterNo t count source x
  long : (inside : Forest) → ShallowTree t count source inside → longest < length (write_packet source (item_at t 0) inside)
      → x ≡ TooLong → AfterNo t count source x

-- the outcome of an encoder after a "no": that refusal, and every byte of the output as it was; so never 12, and nothing is written
pub record NoOutcome (t : List ℕ) (count : ℕ) (source out : List ℕ) (r : Outcome) : Type 0 where
  pub refusal : Refusal
  pub after : AfterNo t count source refusal
  pub is : r ≡ refuse refusal out
