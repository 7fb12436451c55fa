-- What the program tells of a decoding that is tried in a room which may be too small.
use Rattle.std.specs.Prelude.{◌≡◌, Bool, true, false, List, ℕ, ◌<◌, min, eqb, Option, Some, None, Err}
use Rattle.refusal.specs.Refusal.{number_of}
use Rattle.node.specs.Records.{most_records, capacity}
use Rattle.framing.specs.Framing.{rule_of}
use Rattle.answering.specs.Limits.{decoded}
use Rattle.results.specs.Results.{DecodeAnswer}
use Rattle.results.specs.Results as answer
use Rattle.edition.specs.declared.Framing.{Framing}
use Rattle.commands.specs.declared.options.Options.{Options}
use Rattle.commands.specs.Options.{depth_for, records_for}
use Rattle.outcomes.specs.declared.Told.{Told}
use Rattle.outcomes.specs.Told.{DecodeTold}

-- 10: "the result has more records than the capacity"
abbrev pub is_full : DecodeAnswer → Bool
is_full (answer.Packets count left dirty) = false
is_full answer.Waiting = false
is_full (Err refusal) = eqb (number_of refusal) 10
is_full (answer.Stopped count left dirty refusal frame) = false

-- demand 3, "More room never takes back an answer": what is told is what the options ask for, and only a 10 is left to more room
abbrev pub TriedTold : Framing → Options → List ℕ → List ℕ → List ℕ → Option Told → Type 0
TriedTold framing options msg table line (Some told) = DecodeTold framing options msg table line told
TriedTold framing options msg table line None =
    (capacity table < min (records_for options) most_records)
    × (is_full (decoded (rule_of framing (depth_for options)) (capacity table) (depth_for options) msg) ≡ true)
