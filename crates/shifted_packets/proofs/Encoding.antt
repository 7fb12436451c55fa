-- What the encoders answer for a table and for the same table shifted.
use mathlib.Core.Path.{◌≡◌, refl, ◌∙◌}
use mathlib.Core.List.{List, ◌++◌}
use Prim.Native.Nat.{ℕ, ◌<◌}
use native.Mathlib.Omega.{arith}
use lib.Dec.{leb}
use lib.ListN.{length, drop, get_or}
use lib.Seq.{take_at}
use Rattle.edition.specs.declared.Edition.{Edition}
use Rattle.refusal.specs.declared.Refusal.{Refusal}
use Rattle.refusal.specs.declared.Refusal.TheVariants.{TooLong, TooDeep, BadTable, OutputShort}
use Rattle.std.specs.Prelude.{Ok}
use Rattle.wire.specs.Limits.{longest, deepest}
use Rattle.wire.proofs.Choices.{by_both}
use Rattle.node.specs.Forest.{Forest, nil, node, depth}
use Rattle.node.specs.declared.record.Item.{Item}
use Rattle.table.specs.Tree.{IsTree}
use Rattle.table.proofs.Spanned.{spans_unique}
use Rattle.table.proofs.Theorem.{tree_formed}
use Rattle.encoder.specs.Outcome.{Outcome, refuse, bytes_outcome, unframed, length_before, framed_by, tree_outcome, malformed, formed}
use Rattle.shifts.specs.Shifts.{shifted_table, time_tags}
use Rattle.shifts.proofs.Items.{shifted_item, kind-kept}
use Rattle.shifted_packets.specs.Packets.{Retagged, EncodedAlike, EncodesAlike}
use Rattle.shifted_packets.proofs.Retags.{retag-length}
use Rattle.shifted_packets.proofs.Trees.{shifted_forest, forest_tags, depth-kept, row_fits, tree-shifted, tree-tags, was-formed}
use Rattle.shifted_packets.proofs.Writing.{element-moved, tree-moved}

-- ---- outcomes

refused-alike : (by : ℕ) (tags : List ℕ) (x : Refusal) (out : List ℕ) → EncodedAlike by tags (refuse x out) (refuse x out)
refused-alike by tags x out = record { answer = refl; written = λ n e. let z : ◌≡◌ {A = ℕ} 0 1 = cc in absurd (omega arith) }

module _ (by : ℕ) {tags bs cs : List ℕ} (w : Retagged by tags bs cs) (out : List ℕ) where
  abbrev left : List ℕ → Outcome
  left x = record { answer = Ok (length bs); out = x ++ drop (length bs) out }

  written-alike : EncodedAlike by tags (left bs) (left cs)
  written-alike =
      record {
        answer = refl;
        written = λ n e.
            let k : length bs ≡ n = cc in
            rw (k, take_at bs (drop n out) n k, take_at cs (drop n out) n (retag-length w ∙ k)) w;
      }

  bytes-alike : EncodedAlike by tags (bytes_outcome bs out) (bytes_outcome cs out)
  unfolding bytes_outcome
  bytes-alike =
      rw (retag-length w)
      (by_both (EncodedAlike by tags) (leb (length bs) longest)
      (by_both (EncodedAlike by tags) (leb (length bs) (length out)) written-alike (refused-alike by tags OutputShort out))
      (refused-alike by tags TooLong out))

-- ---- frames

-- a frame adds no tag
abbrev Frames : (ℕ → List ℕ → List ℕ) → Type 0
Frames frame = (by kind : ℕ) (tags bs cs : List ℕ) → Retagged by tags bs cs → Retagged by tags (frame kind bs) (frame kind cs)

unframed-frames : Frames unframed
unframed-frames by kind tags bs cs w = w

framed-frames : (edition : Edition) → Frames (framed_by edition)
framed-frames edition by kind tags bs cs w =
    by_both (Retagged by tags) (length_before edition kind) (element-moved w) w

-- ---- the encoders

module _ (frame : ℕ → List ℕ → List ℕ) (fr : Frames frame) where
  trees-alike : (t : List ℕ) → ((i : ℕ) → get_or t i 0 < 256) → (count by : ℕ) (source out : List ℕ) (item : Item) (inside : Forest)
      → IsTree t count source item inside
      → EncodedAlike by (time_tags count t) (tree_outcome frame source out item inside)
      (tree_outcome frame source out (shifted_item by item) (shifted_forest by inside))
  unfolding tree_outcome shifted_forest shifted_item
  trees-alike t small count by source out item inside w =
      let F = node item inside nil in
      let deep : depth (node (shifted_item by item) (shifted_forest by inside) nil) ≡ depth F = depth-kept by F in
      rw (deep, kind-kept by item, tree-tags w)
      (by_both (EncodedAlike by (forest_tags F)) (leb (depth F) deepest)
      (bytes-alike by
      (fr by item.kind (forest_tags F) _ _ (tree-moved by source item inside w.obeys (row_fits t small 0 count F w.spans))) out)
      (refused-alike by (forest_tags F) TooDeep out))

  alike : EncodesAlike frame
  alike t small count by source out r s h (malformed n e) (malformed m d) =
      rw (e, d) (refused-alike by (time_tags count t) BadTable out)
  alike t small count by source out r s h (malformed n e) (formed item inside w d) =
      absurd (n (was-formed t small count by source h (tree_formed w)))
  alike t small count by source out r s h (formed item inside w e) (malformed n d) = absurd (n (tree_formed (tree-shifted w by)))
  alike t small count by source out r s h (formed item inside w e) (formed item' inside' w' d) =
      let u : node item' inside' nil ≡ node (shifted_item by item) (shifted_forest by inside) nil
      = spans_unique (shifted_table by count t) 0 count (node item' inside' nil) _ w'.spans (tree-shifted w by).spans in
      let i : item' ≡ shifted_item by item = cc in
      let j : inside' ≡ shifted_forest by inside = cc in
      rw (e, d, i, j) (trees-alike t small count by source out item inside w)

-- of `encode`
pub encode_alike : EncodesAlike unframed
encode_alike = alike unframed unframed-frames

-- of `encode_tcp`, in both editions
pub encode_tcp_alike : (edition : Edition) → EncodesAlike (framed_by edition)
encode_tcp_alike edition = alike (framed_by edition) (framed-frames edition)
