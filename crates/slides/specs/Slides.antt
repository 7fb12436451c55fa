-- A recording that is slid: document 02, Ticket 13, over the frames that Ticket 5 accepts. Every place counts from the prefix of its
-- frame.
use Rattle.std.specs.Prelude.{◌≡◌, Bool, true, cond, ◌||◌, ◌⊎◌, List, [], ◌++◌, ℕ, ◌+◌, ◌*◌, ◌/◌, ◌%◌, ◌^◌, ◌<◌, ◌≤◌, eqb, take, drop}
use Rattle.clock.specs.Shift.{shifted}
use Rattle.wire.specs.Number.{bytes}
use Rattle.wire.specs.Pad.{padded}
use Rattle.node.specs.Forest.{Forest, nil, node}
use Rattle.node.specs.Tags.{bundle_kind}
use Rattle.node.specs.declared.record.Item.{Item}
use Rattle.folding.specs.Folding.{Fold, Folding, fold_of}
use Rattle.folding.specs.Frames.{FrameAdds, over_frames}
use Rattle.cues.specs.Cues.{recorded}

-- the kinds that have a time tag: # and t ("The node table")
abbrev pub has_time : ℕ → Bool
has_time kind = eqb kind bundle_kind || eqb kind 116

-- the time tag of a node: seconds and fractions ("The node table")
abbrev pub time_tag_of : Item → ℕ
time_tag_of item = item.a * 2 ^ 32 + item.b

-- where its eight bytes begin: those of a t at its start, those of a bundle after the 8 bytes of its "#bundle" and their padding (rule 5)
abbrev pub time_place : Item → ℕ
time_place item = cond (eqb item.kind bundle_kind) (padded (item.start + 8)) item.start

-- a node's own numbers with another time tag
abbrev pub with_time : ℕ → Item → Item
with_time x item = record { kind = item.kind; a = x / 2 ^ 32; b = x % 2 ^ 32; start = item.start }

-- a node's own numbers, slid: only a time tag changes, by `by` modulo 2^64 (Ticket 13)
abbrev pub slid_item : ℕ → Item → Item
slid_item by item = cond (has_time item.kind) (with_time (shifted (time_tag_of item) by) item) item

-- trees, slid
unfoldable pub slid_forest : ℕ → Forest → Forest
slid_forest by nil = nil
slid_forest by (node item inside rest) = node (slid_item by item) (slid_forest by inside) (slid_forest by rest)

-- bytes with the eight from `at` on replaced by those of x, big-endian
unfoldable pub put_time : ℕ → ℕ → List ℕ → List ℕ
put_time at x l = take at l ++ (bytes 8 x ++ drop (at + 8) l)

-- a frame with one node's time tag shifted
abbrev pub slide_one : ℕ → Item → List ℕ → List ℕ
slide_one by item l = cond (has_time item.kind) (put_time (time_place item) (shifted (time_tag_of item) by) l) l

-- a frame with each time tag of its trees shifted: packets are not encoded anew
unfoldable pub slid_bytes : ℕ → Forest → List ℕ → List ℕ
slid_bytes by nil l = l
slid_bytes by (node item inside rest) l = slid_bytes by rest (slid_bytes by inside (slide_one by item l))

-- byte i of a frame lies in a time tag of its trees
abbrev pub InTime : ℕ → Forest → Type 0
InTime i nil = ⊥
InTime i (node item inside rest) =
    ((has_time item.kind ≡ true) × (time_place item ≤ i) × (i < time_place item + 8)) ⊎ (InTime i inside ⊎ InTime i rest)

-- what an accepted frame adds: its own bytes, slid
abbrev pub slide_adds : ℕ → FrameAdds (List ℕ)
slide_adds by base own item inside = slid_bytes by (node item inside nil) own

-- a slide is a fold over the frames that an index accepts: "it stops at the first frame not accepted and says where"
abbrev pub sliding : ℕ → Folding (List ℕ)
sliding by = over_frames recorded (slide_adds by) [] (λ a b. a ++ b)

-- the bytes l of a recording, which stand at offset `base`, slid: up to where, and why no more
abbrev pub slide_of : ℕ → ℕ → List ℕ → Fold (List ℕ)
slide_of by base l = fold_of (sliding by) base l
