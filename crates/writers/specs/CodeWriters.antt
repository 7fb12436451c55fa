-- Describes code, and no part of the document: what the writers are given, and what they leave in the output.
use Rattle.std.specs.Prelude.{◌≡◌, true, List, ◌∷◌, ℕ, ◌+◌, ◌*◌, ◌≤◌, length}
use Rattle.wire.specs.Limits.{longest}
use Rattle.wire.specs.Wrote.{Filled}
use Rattle.node.specs.Forest.{Forest}
use Rattle.node.specs.Records.{record_size, end_at, item_at}
use Rattle.table.specs.Formed.{range_ok}
use Rattle.table.specs.Tree.{Spans, Obeys}
use Rattle.strings.specs.Atomic.{osc_string}
use Rattle.writers.specs.Osc.{write_tags, write_packet}

-- any forest will do
abbrev pub Any : Forest → Type 0
Any F = Unit {0}

-- the forest obeys the rules of some container, so that its ranges lie in the source
pub record SoundIn (source : List ℕ) (F : Forest) : Type 0 where
  pub container : ℕ
  pub obeys : Obeys source container F

-- the records lo to hi - 1 are a forest that is P, and n bytes have room for what f makes of it, which an encoder may write
pub record OutputRoom (P : Forest → Type 0) (f : Forest → List ℕ) (t : List ℕ) (lo hi n : ℕ) : Type 0 where
  pub forest : Forest
  pub spans : Spans t lo hi forest
  pub holds : P forest
  pub fits : length (f forest) ≤ n
  pub few : length (f forest) ≤ longest
  pub table : record_size * hi ≤ length t

-- the bytes that f makes of those records stand over the output's first ones, and their number is the answer
abbrev pub WritesRow : (Forest → List ℕ) → List ℕ → ℕ → ℕ → List ℕ → List ℕ → ℕ → Type 0
WritesRow f t lo hi o₀ o r = (F : Forest) → Spans t lo hi F → Filled (f F) o₀ o r

-- the bytes of a bundle before its elements: its mark and its time tag
abbrev pub bundle_head : ℕ
bundle_head = 16

-- the type tag text of arguments: a comma and their tags
abbrev pub tag_text : Forest → List ℕ
tag_text F = osc_string (44 ∷ write_tags F)

-- the packet of record `at`, by what it contains
abbrev pub packet_at : List ℕ → List ℕ → ℕ → Forest → List ℕ
packet_at source t at inside = write_packet source (item_at t at) inside

-- its bytes stand over the output's first ones, and their number is the answer
abbrev pub WritesPacket : List ℕ → List ℕ → ℕ → List ℕ → List ℕ → ℕ → Type 0
WritesPacket source t at o₀ o r = WritesRow (packet_at source t at) t (at + 1) (end_at t at) o₀ o r

-- n bytes have room for the packet of record `at`, and its own range lies in the source
pub record Ready (source t : List ℕ) (at n : ℕ) : Type 0 where
  pub room : OutputRoom (SoundIn source) (packet_at source t at) t (at + 1) (end_at t at) n
  pub range : range_ok source (item_at t at) ≡ true
