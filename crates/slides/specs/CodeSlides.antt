-- Describes code, and no part of the document: the time tags of a row of records, one after another.
use Rattle.std.specs.Prelude.{◌≡◌, true, List, ℕ, zero, suc, ◌+◌, ◌<◌, ◌≤◌}
use Rattle.node.specs.Records.{item_at}
use Rattle.node.specs.declared.record.Item.{Item}
use Rattle.slides.specs.Slides.{has_time, time_place, slide_one}

-- a frame with the time tags of n records shifted, from record lo on
unfoldable pub slid_records : ℕ → List ℕ → ℕ → ℕ → List ℕ → List ℕ
slid_records by table lo zero l = l
slid_records by table lo (suc n) l = slid_records by table (lo + 1) n (slide_one by (item_at table lo) l)

-- a time tag lies in a frame of so many bytes
abbrev pub TimeFits : ℕ → Item → Type 0
TimeFits size item = has_time item.kind ≡ true → time_place item + 8 ≤ size

-- those of the first n records do
abbrev pub RecordsFit : ℕ → List ℕ → ℕ → Type 0
RecordsFit size table n = (i : ℕ) → i < n → TimeFits size (item_at table i)
