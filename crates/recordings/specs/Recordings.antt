-- Ticket 5 of a recording of any length: its index through buffers, where the cues lie, and a cue looked up. Over the contract of the step
-- that writes an index (crates/cues).
use Rattle.std.specs.Prelude.{◌≡◌, List, [], ◌∷◌, ◌++◌, ℕ, suc, ◌+◌, ◌*◌, ◌/◌, ◌%◌, ◌<◌, ◌≤◌, length, take, drop, Err, Ok}
use Rattle.refusal.specs.declared.Refusal.TheVariants.{BadTable}
use Rattle.wire.specs.Limits.{longest, deepest}
use Rattle.framing.specs.Framing.{tcp2}
use Rattle.folding.specs.Folding.{CutAnywhere, ReadIsWhole, joined_bytes}
use Rattle.folding.specs.Walks as walks
use Rattle.folding.specs.Walks.{Stepping, Walk, AnyWalk}
use Rattle.answering.specs.Limits.{decoded}
use Rattle.results.specs.Results.{Checked, CueAnswer, Packets, Written}
use Rattle.cues.specs.Results as cue
use Rattle.cues.specs.Cues.{most_in_a_cue, cue_of, entry_size, longest_recording, indexing, Index, index, index_of, Indexes, IndexStep}
use Rattle.cues.specs.Cues.{cue_offset, cue_size, cue_records, cue_in}
use Rattle.cues.specs.Checks.{compared, checked_as, followed_by}
use Rattle.results.specs.declared.End.{End}

-- ---- a cut

-- an index is written in one go or in two: "writing stops at the first frame not accepted"; where none was refused, what was not read is
-- indexed with the bytes that come
abbrev pub CutIndex : Type 0
CutIndex = CutAnywhere indexing

-- the bytes that were read have the same index, and are whole
abbrev pub IndexReadIsWhole : Type 0
IndexReadIsWhole = ReadIsWhole indexing

-- ---- "files are read through buffers of at most 64 KiB"

-- a step over bytes at offset `base`, with any output that has room, writes the n records w for the first `used` of them and says why no
-- more
pub record WritesIndex (base : ℕ) (l w : List ℕ) (n used : ℕ) (why : End) : Type 0 where
  pub counted : length w ≡ entry_size * n
  pub meets : (out : List ℕ) → length l ≤ longest → length w ≤ length out
      → Indexes l base out (Written n used why) (w ++ drop (length w) out)

-- a writer repeats this step: its buffer is at most 65,535 bytes, and it has an output with room
abbrev pub WritingStep : Stepping (List ℕ)
WritingStep base l written used why = (n : ℕ) × WritesIndex base l written n used why

-- indexing a recording through any row of buffers, each holding the unread remainder and what follows, is the index of the whole
abbrev pub AnyBuffers : Type 0
AnyBuffers = AnyWalk indexing WritingStep longest_recording

-- ---- a program that walks over a recording

-- every walk by the step that writes an index, with any outputs, writes the index of the whole recording
abbrev pub EveryWalk : Type 0
EveryWalk = walks.EveryWalk indexing IndexStep

-- ---- a program that checks an index

-- the parts of a fresh index are whole records
abbrev pub WholeRecords : List (List ℕ) → Type 0
WholeRecords [] = Unit {0}
WholeRecords (part ∷ later) = (length part % entry_size ≡ 0) × WholeRecords later

-- a check as a program makes it: each part of the fresh index against as many bytes of the given one, or those that it still has, the
-- records before being added to its number; and after the last part what the given one still has
unfoldable pub checked_in_parts : List (List ℕ) → List ℕ → Checked
checked_in_parts [] given = compared [] given
checked_in_parts (part ∷ later) given =
    followed_by (compared part (take (length part) given)) (checked_in_parts later (drop (length part) given))

-- every such check says what the check of all says
abbrev pub EveryCheck : Type 0
EveryCheck = (parts : List (List ℕ)) (given : List ℕ) → WholeRecords parts → checked_in_parts parts given ≡ compared (joined_bytes parts) given

-- a walk over a recording, whose records are checked part by part against a given index, answers as the check of all does: with 25 and the
-- number of the first record that differs, too
abbrev pub WalkChecks : Type 0
WalkChecks =
    (portions parts : List (List ℕ)) (i : Index) (given : List ℕ) → Walk indexing IndexStep 0 [] portions parts i
    → checked_in_parts parts given ≡ checked_as (joined_bytes portions) given

-- ---- where the cues lie

-- the frames of an index, the first of which stands at offset `base`, stand end to end up to where writing stopped
pub record EndToEnd (base : ℕ) (w : List ℕ) (at : ℕ) : Type 0 where
  pub first : 0 < length w / entry_size → cue_offset w 0 ≡ base
  -- a record's offset is the end of the frame of the record before it
  pub next : (k : ℕ) → suc k < length w / entry_size → cue_offset w (suc k) ≡ cue_offset w k + 4 + cue_size w k
  pub last : (k : ℕ) → suc k ≡ length w / entry_size → at ≡ cue_offset w k + 4 + cue_size w k
  pub none : length w / entry_size ≡ 0 → at ≡ base

-- the index determines where each cue lies, from the recording's first byte on
abbrev pub WhereCuesLie : Type 0
WhereCuesLie =
    (l w : List ℕ) (at : ℕ) (why : End) → length l ≤ longest_recording → index_of 0 l ≡ index w at why → EndToEnd 0 w at

-- ---- "operators jump to a cue by number"

-- at offset o of the recording l stands a frame of n bytes after its prefix, which is accepted with c records
pub record CueThere (l : List ℕ) (o n c : ℕ) : Type 0 where
  pub inside : o + (4 + n) ≤ length l
  pub judged : cue_of (take (4 + n) (drop o l)) ≡ cue.Given (4 + n) c
  pub few : c ≤ most_in_a_cue
  pub dirt : ℕ
  -- `decode_tcp` in edition 2 gives it, with room for its records
  pub decodes : (room : ℕ) → c ≤ room → decoded (tcp2 deepest) room deepest (take (4 + n) (drop o l)) ≡ Packets c 0 dirt

-- what record k of an index says is there
abbrev pub EveryCue : Type 0
EveryCue =
    (l w : List ℕ) (at : ℕ) (why : End) → length l ≤ longest_recording → index_of 0 l ≡ index w at why
    → (k : ℕ) → k < length w / entry_size → CueThere l (cue_offset w k) (cue_size w k) (cue_records w k)

-- what a lookup of cue k gives, in an index of n records that was checked against the recording l: a cue that is there, or 11
abbrev pub CueFound : List ℕ → ℕ → ℕ → CueAnswer → Type 0
CueFound l n k (Ok cue) = (k < n) × CueThere l cue.offset cue.size cue.records
CueFound l n k (Err r) = (n ≤ k) × (r ≡ BadTable)

-- "an index that was checked": every lookup in it gives such a cue
abbrev pub CheckedCue : Type 0
CheckedCue =
    (recording given : List ℕ) (n k : ℕ) → length recording ≤ longest_recording → checked_as recording given ≡ Ok n
    → CueFound recording n k (cue_in given k)
