-- The cue index of a recording: document 02, Ticket 5, over edition 2 of Ticket 1. It is a fold (crates/folding) over the bytes of a whole
-- recording, or of a part of it that stands at some offset.
use Rattle.std.specs.Prelude.{◌≡◌, cond, List, [], ◌++◌, ℕ, ◌+◌, ◌-◌, ◌*◌, ◌/◌, ◌<◌, leb, ltb, length, take, drop, Err, Ok}
use Rattle.refusal.specs.declared.Refusal.TheVariants.{TooLong, BadTable, OutputShort}
use Rattle.wire.specs.Limits.{longest, deepest}
use Rattle.wire.specs.Number.{number, bytes}
use Rattle.node.specs.Forest.{size}
use Rattle.folding.specs.Folding.{Verdict, takes, waits, refuses, Fold, Folding, fold_of, sum_in}
use Rattle.folding.specs.Frames.{Reading, FrameAdds, judge_of, over_frames}
use Rattle.folding.specs.Walks.{Stepping}
use Rattle.cues.specs.Results.{Cue}
use Rattle.results.specs.Results.{CueAnswer, IndexAnswer}
use Rattle.cues.specs.Results as cue
use Rattle.results.specs.Results as results
use Rattle.results.specs.declared.End.{End}
-- an index is a fold, and `index` makes one
pub use Rattle.folding.specs.Folding.{folded as index}
pub use Rattle.folding.specs.Walks.{MayContinue}

-- "64 KiB tables hold 3,276 records, also in Ticket 5" (Ticket 10): a frame with more is not accepted
abbrev pub most_in_a_cue : ℕ
most_in_a_cue = 3276

-- how the frames of a recording are read: at depth 64, with 3,276 records, and each counted from its prefix
abbrev pub recorded : Reading
recorded = record { limit = deepest; from = λ base. 0; room = λ inside. leb (1 + size inside) most_in_a_cue }

-- the records of a frame's table
abbrev pub record_adds : FrameAdds ℕ
record_adds base own item inside = 1 + size inside

-- a frame, as it is judged for an index: its bytes with the prefix, and the records of its table
abbrev pub judged_cue : Verdict ℕ → Cue
judged_cue (takes size records) = cue.Given size records
judged_cue waits = cue.Waiting
judged_cue (refuses k) = Err k

-- the frame at the front of l; "Waiting counts so" (as not accepted)
unfoldable pub cue_of : List ℕ → Cue
cue_of l = judged_cue (judge_of recorded record_adds 0 l)

-- a recording has any length below 2^63: every offset is a number of 63 bits
abbrev pub longest_recording : ℕ
longest_recording = 0x7fff_ffff_ffff_ffff

-- the bytes of a record of the index
abbrev pub entry_size : ℕ
entry_size = 16

-- the most records that the frames of a buffer have: a frame has 12 bytes at least (proofs/Indexes.antt: written_fits)
abbrev pub most_entries : ℕ
most_entries = 5461

-- a record: "offset of the prefix (8), frame length without prefix (4), records in its table (4)", big-endian
abbrev pub entry_of : ℕ → ℕ → ℕ → List ℕ
entry_of offset size records = bytes 8 offset ++ (bytes 4 (size - 4) ++ bytes 4 records)

-- the record of a frame, whose own bytes have its prefix
abbrev pub entry_adds : FrameAdds (List ℕ)
entry_adds base own item inside = entry_of base (length own) (1 + size inside)

-- an index is a fold over the frames that are accepted: records end to end; "writing stops at the first frame not accepted and says where"
abbrev pub indexing : Folding (List ℕ)
indexing = over_frames recorded entry_adds [] (λ a b. a ++ b)

-- an index: its bytes, the offset at which writing stopped, and why
abbrev pub Index : Type 0
Index = Fold (List ℕ)

-- the index of the bytes l of a recording, which stand at offset `base`; that of a whole recording begins at 0
abbrev pub index_of : ℕ → List ℕ → Index
index_of base l = fold_of indexing base l

-- its bytes
abbrev pub written_of : Index → List ℕ
written_of = sum_in

-- the number of its records
abbrev pub entries_of : Index → ℕ
entries_of i = length (written_of i) / entry_size

-- ---- a step over a buffer

-- what a step says of bytes at offset `base`, where its output has room
abbrev pub indexed_as : ℕ → Index → IndexAnswer
indexed_as base (index written at why) = results.Written (length written / entry_size) (at - base) why

-- the answer of a step: 1 of a buffer over 65,535 bytes or of a recording of 2^63 bytes and more; 12 where the output is too short
abbrev pub index_answer : ℕ → List ℕ → ℕ → IndexAnswer
index_answer base l room =
    cond (leb (length l) longest)
    (cond (leb (base + length l) longest_recording)
    (cond (leb (length (written_of (index_of base l))) room) (indexed_as base (index_of base l)) (Err OutputShort))
    (Err TooLong))
    (Err TooLong)

-- the output after an answer: the index's bytes over its first ones, and a refusal changes none
abbrev pub index_leaves : IndexAnswer → List ℕ → List ℕ → List ℕ
index_leaves (Ok indexed') written out = written ++ drop (length written) out
index_leaves (Err k) written out = out

-- the contract of a step
pub record Indexes (l : List ℕ) (base : ℕ) (out : List ℕ) (r : IndexAnswer) (after : List ℕ) : Type 0 where
  pub answers : r ≡ index_answer base l (length out)
  pub leaves : after ≡ index_leaves r (written_of (index_of base l)) out

-- what a step does by this contract, with any output: the records are the front of it
abbrev pub IndexStep : Stepping (List ℕ)
IndexStep base l written used why =
    (n : ℕ) × (out : List ℕ) × (after : List ℕ) × Indexes l base out (results.Written n used why) after
    × (written ≡ take (entry_size * n) after)

-- what waits leaves room in a buffer for a byte more, so that every recording can be read
abbrev pub KeptIsShort : Type 0
KeptIsShort =
    (base : ℕ) (l w : List ℕ) (at : ℕ) (why : End) → MayContinue why → index_of base l ≡ index w at why
    → length (drop (at - base) l) < longest

-- ---- a cue by its number

-- the numbers of record k of an index: "offset of the prefix (8), frame length without prefix (4), records in its table (4)"
abbrev pub cue_offset : List ℕ → ℕ → ℕ
cue_offset w k = number 8 (drop (entry_size * k) w)

abbrev pub cue_size : List ℕ → ℕ → ℕ
cue_size w k = number 4 (drop (entry_size * k + 8) w)

abbrev pub cue_records : List ℕ → ℕ → ℕ
cue_records w k = number 4 (drop (entry_size * k + 12) w)

-- what is found by number k: those of a record that is all there; else 11
abbrev pub cue_in : List ℕ → ℕ → CueAnswer
cue_in w k = cond (ltb k (length w / entry_size)) (results.At (cue_offset w k) (cue_size w k) (cue_records w k)) (Err BadTable)
