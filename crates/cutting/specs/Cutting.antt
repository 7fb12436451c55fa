-- Ticket 14: cutting a stream of edition 2 changes nothing. Over the answers and tables of `decode_tcp_vec` and of the step that a recorder
-- repeats. Streams of at most 65,535 bytes, with room for every record, under one depth limit: where the call for all of the stream gives
-- records, it is such a one, since 13, 1 and 10 refuse every other.
use Rattle.std.specs.Prelude.{◌≡◌, List, [], ◌∷◌, ◌++◌, ℕ, ◌+◌, ◌-◌, ◌*◌, ◌≤◌, length, take, drop, Err}
use Rattle.refusal.specs.declared.Refusal.{Refusal}
use Rattle.node.specs.Records.{record_size, capacity}
use Rattle.framing.specs.Framing.{tcp_vec2}
use Rattle.results.specs.Results.{DecodeAnswer, Packets, Stopped, Waiting}
use Rattle.results.specs.Results as step
use Rattle.folding.specs.Folding.{joined_bytes}
use Rattle.portions.specs.Portions.{step_of, table_by}
use Rattle.calls.specs.Words.{Gives}
use Rattle.calls.specs.Demands.{answer_to, table_after}
use Rattle.osc10.specs.Words.{Bytes}
use Rattle.cutting.specs.Moved.{moved_refusal, MovedRecords}

-- the answer of `decode_tcp_vec` in edition 2
abbrev pub list_answer : ℕ → List ℕ → List ℕ → DecodeAnswer
list_answer limit = answer_to (tcp_vec2 limit) limit

-- the table that it leaves
abbrev pub list_table : ℕ → List ℕ → List ℕ → List ℕ
list_table limit = table_after (tcp_vec2 limit) limit

-- the answer for a stream by that for its rest, where k bytes came before, with `count` records and so much dirty padding: counts and dirty
-- padding add up, and how the list ends is the same (Ticket 14)
abbrev pub joined_answer : ℕ → ℕ → ℕ → DecodeAnswer → DecodeAnswer
joined_answer k count dirty (Packets n left d) = Packets (count + n) left (dirty + d)
joined_answer k count dirty Waiting = Waiting
joined_answer k count dirty (Err r) = Err r
joined_answer k count dirty (Stopped n left d why at) = Stopped (count + n) left (dirty + d) (moved_refusal k why) (k + at)

-- law 1: "the list from a beginning of the stream is the first part of the list from all of it"
pub record FirstPart (limit : ℕ) (msg more whole part : List ℕ) (total : ℕ) : Type 0 where
  pub count : ℕ
  pub dirty : ℕ
  pub gives : Gives (list_answer limit msg part) count dirty
  pub no_more : count ≤ total
  pub same : take (record_size * count) (list_table limit msg part) ≡ take (record_size * count) (list_table limit (msg ++ more) whole)

-- law 2: "a frame refused there is refused again at the same offset with the same number", and the field's offset; the bytes from it on are
-- more
abbrev pub RefusedAgain : ℕ → List ℕ → List ℕ → List ℕ → List ℕ → Type 0
RefusedAgain limit msg more whole part =
    (count left dirty : ℕ) (why : Refusal) (at : ℕ) → list_answer limit msg part ≡ Stopped count left dirty why at
    → list_answer limit (msg ++ more) whole ≡ Stopped count (left + length more) dirty why at

-- law 3, of k bytes that were consumed: "the unread remainder followed by the later bytes yields the rest, offsets moved by the bytes
-- consumed and ends by the records given"
pub record YieldsRest (limit : ℕ) (msg more whole rest : List ℕ) (count dirty k : ℕ) : Type 0 where
  pub n : ℕ
  pub d : ℕ
  pub gives : Gives (list_answer limit (drop k msg ++ more) rest) n d
  pub answers : list_answer limit (msg ++ more) whole ≡ joined_answer k count dirty (list_answer limit (drop k msg ++ more) rest)
  pub records : MovedRecords k count n (list_table limit (drop k msg ++ more) rest) (list_table limit (msg ++ more) whole)

-- the three laws of one cut, of calls with three tables: for all of the stream, for its beginning, and for what follows
pub record CutChangesNothing (limit : ℕ) (msg more whole part rest : List ℕ) (total : ℕ) : Type 0 where
  pub begins : FirstPart limit msg more whole part total
  pub refused_again : RefusedAgain limit msg more whole part
  pub yields_rest : (count left dirty : ℕ) → list_answer limit msg part ≡ Packets count left dirty
      → YieldsRest limit msg more whole rest count dirty (length msg - left)

-- Ticket 14: so is every cut
abbrev pub EveryCut : Type 0
EveryCut =
    (limit : ℕ) (msg more whole part rest : List ℕ) (total soil : ℕ) → Bytes (msg ++ more)
    → Gives (list_answer limit (msg ++ more) whole) total soil → total ≤ capacity part → total ≤ capacity rest
    → CutChangesNothing limit msg more whole part rest total

-- ---- a stream in portions

-- what a recorder meets that repeats the step: before it k bytes were consumed, with `count` records and so much dirty padding, and it
-- holds what was kept. It adds the next portion, has a table with room, and keeps the bytes from `used` on. t is the table of the whole
-- stream, and the last index the answer that all steps together make
pub data Recorded (limit total : ℕ) (t : List ℕ) : ℕ → ℕ → ℕ → List ℕ → List (List ℕ) → DecodeAnswer → Type 0 where
  -- there is no portion more
  done : {k count dirty : ℕ} {held : List ℕ} → Recorded limit total t k count dirty held [] (Packets count (length held) dirty)
  -- the step reads some frames
  reads : {k count dirty n used d : ℕ} {held portion : List ℕ} {later : List (List ℕ)} {r : DecodeAnswer}
      → ((table : List ℕ) → total ≤ capacity table
      → (step_of limit (held ++ portion) table ≡ step.Read n used d) × MovedRecords k count n (table_by limit (held ++ portion) table) t)
      → Recorded limit total t (k + used) (count + n) (dirty + d) (drop used (held ++ portion)) later r
      → Recorded limit total t k count dirty held (portion ∷ later) r
  -- the step meets a refused frame, and so does the call for the whole stream: what came later is not read
  ends : {k count dirty n used d : ℕ} {why : Refusal} {held portion : List ℕ} {later : List (List ℕ)}
      → ((table : List ℕ) → total ≤ capacity table
      → (step_of limit (held ++ portion) table ≡ step.Ended n used d why) × MovedRecords k count n (table_by limit (held ++ portion) table) t)
      → Recorded limit total t k count dirty held (portion ∷ later)
      (Stopped (count + n) (length (held ++ portion) - used + length (joined_bytes later)) (dirty + d) (moved_refusal k why) (k + used))

-- "reading a stream in any portions, keeping the unread remainder each time, gives the packets of the whole stream, portion by portion"
abbrev pub AnyPortions : Type 0
AnyPortions =
    (limit : ℕ) (portions : List (List ℕ)) (whole : List ℕ) (total soil : ℕ) → Bytes (joined_bytes portions)
    → Gives (list_answer limit (joined_bytes portions) whole) total soil
    → Recorded limit total (list_table limit (joined_bytes portions) whole) 0 0 0 [] portions (list_answer limit (joined_bytes portions) whole)
