-- Shifting the time tags of a table: document 02, Ticket 13, and the reading of it: the first `count` records alone are looked at.
use Rattle.std.specs.Prelude.{◌≡◌, ℕ, zero, suc, Bool, true, false, cond, ◌&&◌, List, [], ◌∷◌, ◌++◌, length, take, drop, slice_index, Err, Ok}
use Rattle.refusal.specs.declared.Refusal.TheVariants.{BadTable}
use Rattle.wire.specs.Number.{number, bytes}
use Rattle.node.specs.Tags.{bundle_kind, among}
use Rattle.node.specs.Records.{record_size}
use Rattle.values.specs.Look.{look_at}
use Rattle.shifts.specs.Results.{Shifted}
use Rattle.values.specs.Results.{Looked}
use Rattle.clock.specs.Shift.{shifted}

-- ---- one record, as its 20 bytes

-- the kinds whose two numbers are a time tag: # and t (document 01, "The node table")
abbrev pub is_timed : ℕ → Bool
is_timed kind = among kind (bundle_kind ∷ 116 ∷ [])

-- the time tag of a record: a (from its byte 8 on) is the upper half, b (from its byte 12 on) the lower half
abbrev pub time_tag : List ℕ → ℕ
time_tag r = number 8 (drop 8 r)

-- a record with its tag shifted modulo 2^64, the carry between the halves included; no other byte changes, and none of other kinds
abbrev pub shifted_record : ℕ → List ℕ → List ℕ
shifted_record by r = cond (is_timed (slice_index r 0)) (take 8 r ++ (bytes 8 (shifted (time_tag r) by) ++ drop 16 r)) r

-- the tag of a record, where it has one
abbrev pub own_tag : List ℕ → List ℕ
own_tag r = cond (is_timed (slice_index r 0)) (time_tag r ∷ []) []

-- ---- a table

-- the first n records shifted, and then every byte after them as it is
unfoldable pub shifted_table : ℕ → ℕ → List ℕ → List ℕ
shifted_table by zero t = t
shifted_table by (suc n) t = shifted_record by (take record_size t) ++ shifted_table by n (drop record_size t)

-- the tags of the first n records, in their order
unfoldable pub time_tags : ℕ → List ℕ → List ℕ
time_tags zero t = []
time_tags (suc n) t = own_tag (take record_size t) ++ time_tags n (drop record_size t)

-- `look` gives a value: the record exists and obeys its own rules
abbrev pub is_value : Looked → Bool
is_value (Ok v) = true
is_value (Err r) = false

-- the first n records exist and obey their own rules, as `look` tests them
unfoldable pub lookable : List ℕ → ℕ → Bool
lookable t zero = true
lookable t (suc n) = lookable t n && is_value (look_at t n)

-- ---- the call

-- the answer: how many tags were moved, or 11
abbrev pub shift_answer : List ℕ → ℕ → Shifted
shift_answer t count = cond (lookable t count) (Ok (length (time_tags count t))) (Err BadTable)

-- the table after an answer: a refusal changes no byte
abbrev pub shift_leaves : Shifted → List ℕ → ℕ → ℕ → List ℕ
shift_leaves (Ok n) t count by = shifted_table by count t
shift_leaves (Err r) t count by = t

-- the contract of `shift_table`
pub record Shifts (t : List ℕ) (count by : ℕ) (r : Shifted) (after : List ℕ) : Type 0 where
  pub answers : r ≡ shift_answer t count
  pub leaves : after ≡ shift_leaves r t count by
