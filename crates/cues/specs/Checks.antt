-- The check of a cue index: document 02, Ticket 5, "a check accepts an index exactly when its bytes equal the index written afresh from
-- that recording", and 25 otherwise, with "the first differing, missing or extra record (a part counts as one), from 0".
use Rattle.std.specs.Prelude.{◌≡◌, cond, List, ◌++◌, ℕ, zero, suc, ◌+◌, ◌*◌, ◌<◌, ◌≤◌, eqb, length, take, drop, Ok, Err}
use Rattle.wire.specs.Same.{same_bytes}
use Rattle.cues.specs.Cues.{entry_size, index_of, written_of}
use Rattle.results.specs.Results.{Checked, Differs}

-- an index against the one that was written afresh, record by record: k is the number of the first of these, and there are at most n
unfoldable pub compared_at : ℕ → ℕ → List ℕ → List ℕ → Checked
compared_at zero k fresh given = Ok k
compared_at (suc n) k fresh given =
    cond (eqb (length fresh + length given) 0) (Ok k)
    (cond (same_bytes (take entry_size fresh) (take entry_size given)) (compared_at n (k + 1) (drop entry_size fresh) (drop entry_size given))
    (Differs k))

-- all of an index against all of the other
abbrev pub compared : List ℕ → List ℕ → Checked
compared fresh given = compared_at (length fresh + length given) 0 fresh given

-- the check of an index against a recording
abbrev pub checked_as : List ℕ → List ℕ → Checked
checked_as recording given = compared (written_of (index_of 0 recording)) given

-- ---- what a check says

-- so many bytes are n records, a part counting as one
abbrev pub InRecords : ℕ → ℕ → Type 0
InRecords size n = (size ≤ entry_size * n) × (entry_size * n < size + entry_size)

-- "a check accepts an index exactly when its bytes equal the index written afresh", and tells how many records these are
pub record FitsExactly (fresh given : List ℕ) : Type 0 where
  pub accepts : fresh ≡ given → ((n : ℕ) × compared fresh given ≡ Ok n)
  pub only : (n : ℕ) → compared fresh given ≡ Ok n → fresh ≡ given
  pub counts : (n : ℕ) → compared fresh given ≡ Ok n → InRecords (length fresh) n

-- record k is the first that differs, is missing or is extra: those before it are the same, and with it they are not
pub record FirstAt (fresh given : List ℕ) (k : ℕ) : Type 0 where
  pub before : take (entry_size * k) fresh ≡ take (entry_size * k) given
  pub there : take (entry_size * (k + 1)) fresh ≡ take (entry_size * (k + 1)) given → ⊥

-- an index that is not accepted is told by that record
abbrev pub DiffersFirst : List ℕ → List ℕ → Type 0
DiffersFirst fresh given = (k : ℕ) → compared fresh given ≡ Differs k → FirstAt fresh given k

-- an answer with n added to its number, as of what stands after n records
abbrev pub numbered_from : ℕ → Checked → Checked
numbered_from n (Ok k) = Ok (n + k)
numbered_from n (Err differs) = Differs (n + differs.at)

-- an answer of whole records, and then that of what follows them
abbrev pub followed_by : Checked → Checked → Checked
followed_by (Ok n) rest = numbered_from n rest
followed_by (Err differs) rest = Differs differs.at

-- a check in parts, each of whole records but for the last, says what a check of all says
abbrev pub CheckInParts : Type 0
CheckInParts =
    (n : ℕ) (fresh fresh₂ given given₂ : List ℕ) → length fresh ≡ entry_size * n → length given ≡ entry_size * n
    → compared (fresh ++ fresh₂) (given ++ given₂) ≡ followed_by (compared fresh given) (compared fresh₂ given₂)
