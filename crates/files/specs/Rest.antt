-- What a read does to a buffer, in whose front bytes are kept.
use Rattle.std.specs.Prelude.{◌≡◌, Result, Ok, Err, List, ℕ, ◌≤◌, ◌<◌, length, take}
use Rattle.io.specs.Counts.{IsPrefixLen}
use Rattle.files.specs.declared.pieces.Unread.{Unread}
use Rattle.files.specs.declared.pieces.Unread.TheVariants.{Output, Failed}

-- the first `kept` bytes stay, and are counted with those that were read after them
pub record ReadsOn (kept : ℕ) (buf after : List ℕ) (count : ℕ) : Type 0 where
  pub stays : take kept after ≡ take kept buf
  pub more : kept ≤ count
  pub counts : IsPrefixLen count after

-- how many bytes a read that failed had put at the start of the buffer
abbrev pub count_of : Unread → ℕ
count_of Output = 0
count_of (Failed count) = count

-- they stand there, and do not fill it
pub record Before (after : List ℕ) (count : ℕ) : Type 0 where
  pub counts : IsPrefixLen count after
  pub fewer : 0 < length after → count < length after

-- the same of a read that may fail: it keeps the first bytes then too, and counts with them those that were read before it failed
abbrev pub ReadOn : ℕ → List ℕ → List ℕ → Result ℕ Unread → Type 0
ReadOn kept buf after (Ok count) = ReadsOn kept buf after count
ReadOn kept buf after (Err Output) = ReadsOn kept buf after kept
ReadOn kept buf after (Err (Failed count)) = ReadsOn kept buf after count × Before after count
