-- Describes code, and no part of the document: what keeps the program's walk over a recording within its numbers and brings it to its end.
use Rattle.std.specs.Prelude.{◌≡◌, List, ℕ, ◌*◌, ◌≤◌, length}
use Rattle.wire.specs.Limits.{longest}
use Rattle.cues.specs.Cues.{entry_size, most_entries, longest_recording}
use Rattle.results.specs.Ends.{FieldUpTo}
use Rattle.walks.specs.Walks.{LowPosition, LowLast}
use Rattle.tool_recordings.specs.declared.Came.{Came}
use Rattle.tool_recordings.specs.declared.Came.TheVariants.{On, Ended, Differs, Failed}
use Rattle.tool_recordings.specs.declared.Judged.{Judged}
use Rattle.tool_recordings.specs.declared.Judged.TheVariants as judged

-- the three buffers: a recording's bytes, their records, and as many bytes of a given index
pub record Room (buf out given : List ℕ) : Type 0 where
  pub bytes : length buf ≡ longest
  pub records : length out ≡ entry_size * most_entries
  pub others : length given ≡ entry_size * most_entries

-- a walk stands at an offset of a recording, and where it goes on, that is not before `least`
abbrev pub LowCame : ℕ → Came → Type 0
LowCame least (On next) = LowPosition next × (least ≤ next.at)
LowCame least (Ended last why) = LowLast last why
LowCame least (Differs k) = Unit {0}
LowCame least Failed = Unit {0}

-- a walk stands as it did, or what went wrong was said
pub data StaysOrFails (came r : Came) : Type 0 where
  stays : r ≡ came → StaysOrFails came r
  fails : r ≡ Failed → StaysOrFails came r

-- where a check's walk ended, a field that was short begins in the recording
abbrev pub LowJudged : Judged → Type 0
LowJudged (judged.As checked at why) = FieldUpTo at longest_recording why
LowJudged judged.Failed = Unit {0}
