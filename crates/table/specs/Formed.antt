-- When a table is well formed: document 01, "The node table", record by record.
use Rattle.std.specs.Prelude.{◌≡◌, Bool, true, false, not, cond, List, [], ◌∷◌, ℕ, ◌+◌, ◌*◌, ◌≤◌, ◌<◌, eqb, length}
use Rattle.wire.specs.Part.{part, inside}
use Rattle.utf8.specs.Derive.{utf8}
use Rattle.node.specs.Tags.{message_kind, bundle_kind, array_kind, among}
use Rattle.node.specs.Records.{record_size, most_records, kind_at, zeros_at, end_at, item_at}
use Rattle.node.specs.Rules.{is_packet, own_rules}
use Rattle.node.specs.declared.record.Item.{Item}

-- a range lies in the source slice and is valid UTF-8
abbrev pub text_ok : List ℕ → ℕ → ℕ → Bool
text_ok source offset n = cond (inside source offset n) (utf8 (part source offset n)) false

-- "text, address and blob ranges lie in the source slice, and text and addresses are valid UTF-8"
unfoldable pub range_ok : List ℕ → Item → Bool
range_ok source item =
    cond (among item.kind (message_kind ∷ 115 ∷ [])) (text_ok source item.a item.b)
    (cond (eqb item.kind 98) (inside source item.a item.b) true)

-- "a bundle contains only / and #; a message or array contains only the other kinds"; any other kind contains nothing
unfoldable pub allowed : ℕ → ℕ → Bool
allowed container kind =
    cond (eqb container bundle_kind) (is_packet kind)
    (cond (among container (message_kind ∷ array_kind ∷ [])) (not (is_packet kind)) false)

-- nodes of kinds that the container may have stand from lo to hi: "each contained node starts where the one before it ends, and the
-- last ends where its container ends"
pub data Tiles (t : List ℕ) (container : ℕ) : ℕ → ℕ → Type 0 where
  done : {i : ℕ} → Tiles t container i i
  step : {i j : ℕ} → i < j → allowed container (kind_at t i) ≡ true → i < end_at t i → Tiles t container (end_at t i) j
      → Tiles t container i j

-- record i of a table of `count` records
pub record NodeOk (t : List ℕ) (count : ℕ) (source : List ℕ) (i : ℕ) : Type 0 where
  pub zeros : zeros_at t i ≡ 0
  pub rules : own_rules (item_at t i) ≡ true
  pub range : range_ok source (item_at t i) ≡ true
  pub within : end_at t i ≤ count
  pub tiles : Tiles t (kind_at t i) (i + 1) (end_at t i)

-- a table of `count` records over a source; a kind that contains nothing has end = own index + 1, since its tiles are none
pub record WellFormed (t : List ℕ) (count : ℕ) (source : List ℕ) : Type 0 where
  pub some : 1 ≤ count
  pub few : count ≤ most_records
  pub fits : record_size * count ≤ length t
  pub root : is_packet (kind_at t 0) ≡ true
  pub whole : end_at t 0 ≡ count
  pub nodes : (i : ℕ) → i < count → NodeOk t count source i
