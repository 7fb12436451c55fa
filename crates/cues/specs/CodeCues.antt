-- Describes code, and no part of the document: what the two passes over a buffer answer and need.
use Rattle.std.specs.Prelude.{◌≡◌, List, ℕ, ◌+◌, ◌-◌, ◌/◌, ◌≤◌, length}
use Rattle.wire.specs.Limits.{longest}
use Rattle.cues.specs.Cues.{longest_recording, Index, index, index_of, written_of, entries_of, entry_size}
use Rattle.results.specs.declared.Indexed.{Indexed}

-- the first pass over bytes at offset `base`: how many records, how many bytes, and why no more
abbrev pub stretch_by : ℕ → Index → Indexed
stretch_by base (index written at why) = record { records = length written / entry_size; used = at - base; end = why }

-- that of a buffer's frames
abbrev pub stretch_of : ℕ → List ℕ → Indexed
stretch_of base l = stretch_by base (index_of base l)

-- the bytes that the second pass writes
abbrev pub written_in : List ℕ → ℕ → List ℕ
written_in l base = written_of (index_of base l)

-- what it needs: the number of records, room for them, and offsets of 64 bits
pub record CanWrite (l : List ℕ) (base records : ℕ) (out : List ℕ) : Type 0 where
  pub short : length l ≤ longest
  pub counted : records ≡ entries_of (index_of base l)
  pub room : length (written_in l base) ≤ length out
  pub low : base + length l ≤ longest_recording
