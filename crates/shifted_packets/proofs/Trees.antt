-- The tree of a shifted table: each # and each t with its tag shifted, and nothing else.
use mathlib.Core.Path.{◌≡◌, refl, ap, sym, subst, ◌∙◌}
use mathlib.Core.Bool.{Bool, true, false, cond}
use mathlib.Core.Logic.{⊎_elim}
use mathlib.Core.List.{List, [], ◌∷◌, ◌++◌, append_assoc}
use Prim.Native.Nat.{ℕ, zero, suc, ◌+◌, ◌-◌, ◌*◌, ◌%◌, ◌^◌, ◌≤◌, ◌<◌}
use native.Mathlib.Nat.{zero-add}
use native.Mathlib.Omega.{arith}
use lib.ListN.{length, take, drop, get_or}
use lib.Seq.{drop-drop}
use Rattle.wire.proofs.Numbers.{number_small}
use Rattle.wire.proofs.Parts.{drop-small}
use Rattle.node.specs.Forest.{Forest, nil, node, size, depth}
use Rattle.node.specs.Records.{record_size, field_at, end_at}
use Rattle.node.specs.declared.record.Item.{Item}
use Rattle.table.specs.Formed.{range_ok, allowed, WellFormed}
use Rattle.table.specs.Tree.{Spans, Obeys, IsTree, FieldsFit}
use Rattle.table.proofs.Spanned.{spans-size}
use Rattle.table.proofs.Theorem.{formed_tree, tree_formed, tree-size}
use Rattle.clock.specs.Shift.{shifted}
use Rattle.shifts.specs.Shifts.{is_timed, own_tag, shifted_table, time_tags}
use Rattle.shifts.proofs.Items.{item_tag, shifted_item, item-other, timed-kinds, kind-kept, rules-kept}
use Rattle.shifts.proofs.Tables.{length-table, zeros-same, end_same, item-at-shifted, own-tag}
use Rattle.shifts.proofs.Sums.{table-back}
use Rattle.shifted_packets.specs.Packets.{StaysFormed}

-- the trees with every tag shifted
unfoldable pub shifted_forest : ℕ → Forest → Forest
shifted_forest by nil = nil
shifted_forest by (node item inside rest) = node (shifted_item by item) (shifted_forest by inside) (shifted_forest by rest)

-- the tag of a node, where it has one
abbrev pub node_tag : Item → List ℕ
node_tag item = cond (is_timed item.kind) (item_tag item ∷ []) []

-- the tags of trees in preorder
unfoldable pub forest_tags : Forest → List ℕ
forest_tags nil = []
forest_tags (node item inside rest) = node_tag item ++ (forest_tags inside ++ forest_tags rest)

-- ---- the rules

timed-range : (source : List ℕ) (item : Item) → is_timed item.kind ≡ true → range_ok source item ≡ true
unfolding range_ok
timed-range source item e = ⊎_elim (λ q. rw q) (λ q. rw q) (timed-kinds item.kind e)

range-kept : (by : ℕ) (source : List ℕ) (item : Item) → range_ok source (shifted_item by item) ≡ range_ok source item
range-kept by source item = go (is_timed item.kind) refl
  where
    go : (b : Bool) → is_timed item.kind ≡ b → range_ok source (shifted_item by item) ≡ range_ok source item
    go true e =
        timed-range source (shifted_item by item) (ap is_timed (kind-kept by item) ∙ e) ∙ sym (timed-range source item e)
    go false e = ap (range_ok source) (item-other by item e)

obeys-kept : (by : ℕ) (source : List ℕ) (container : ℕ) (F : Forest) → Obeys source container F
    → Obeys source container (shifted_forest by F)
unfolding Obeys shifted_forest
obeys-kept by source container nil o = tt
obeys-kept by source container (node item inside rest) o = (
  rules-kept by item ∙ o.0,
  range-kept by source item ∙ o.1,
  ap (allowed container) (kind-kept by item) ∙ o.2,
  rw (kind-kept by item) (obeys-kept by source item.kind inside o.3),
  obeys-kept by source container rest o.4,
)

-- a shifted tree is as deep as before
pub depth-kept : (by : ℕ) (F : Forest) → depth (shifted_forest by F) ≡ depth F
unfolding shifted_forest depth
depth-kept by nil = refl
depth-kept by (node item inside rest) = rw (kind-kept by item, depth-kept by inside, depth-kept by rest)

-- ---- the table

module _ (t : List ℕ) (count : ℕ) (fits : record_size * count ≤ length t) where
  spans-shifted : (by lo hi : ℕ) (F : Forest) → Spans t lo hi F → hi ≤ count → Spans (shifted_table by count t) lo hi (shifted_forest by F)
  unfolding Spans shifted_forest
  spans-shifted by lo hi nil s h = s
  spans-shifted by lo hi (node item inside rest) s h =
      let x : lo + 1 + size inside ≡ end_at t lo = spans-size t (lo + 1) (end_at t lo) inside s.1 in
      let y : end_at t lo + size rest ≡ hi = spans-size t (end_at t lo) hi rest s.2 in
      let e : end_at (shifted_table by count t) lo ≡ end_at t lo = end_same by count lo t (omega arith) fits in (
        item-at-shifted by count lo t (omega arith) fits ∙ ap (shifted_item by) s.0,
        rw e (spans-shifted by (lo + 1) (end_at t lo) inside s.1 (omega arith)),
        rw e (spans-shifted by (end_at t lo) hi rest s.2 h),
      )

  -- the tags of a row of records are those of its trees
  tags-split : (n m : ℕ) (u : List ℕ) → time_tags (n + m) u ≡ time_tags n u ++ time_tags m (drop (record_size * n) u)
  unfolding time_tags
  tags-split zero m u = rw zero-add
  tags-split (suc n) m u =
      let e : suc n + m ≡ suc (n + m) = omega arith in
      let k : record_size * suc n ≡ record_size + record_size * n = omega arith in
      rw (e, tags-split n m (drop record_size u), k, ← drop-drop (record_size * n) record_size u)
      (sym (append_assoc (own_tag (take record_size u)) (time_tags n (drop record_size u)) _))

  row-tags : (lo hi : ℕ) (F : Forest) → Spans t lo hi F → hi ≤ count → time_tags (size F) (drop (record_size * lo) t) ≡ forest_tags F
  unfolding Spans forest_tags size time_tags
  row-tags lo hi nil s h = refl
  row-tags lo hi (node item inside rest) s h =
      let x : lo + 1 + size inside ≡ end_at t lo = spans-size t (lo + 1) (end_at t lo) inside s.1 in
      let y : end_at t lo + size rest ≡ hi = spans-size t (end_at t lo) hi rest s.2 in
      let u = drop (record_size * lo) t in
      let n : 1 + size inside + size rest ≡ suc (size inside + size rest) = omega arith in
      let p : record_size * lo + record_size ≡ record_size * (lo + 1) = omega arith in
      let q : record_size * (lo + 1) + record_size * size inside ≡ record_size * end_at t lo = omega arith in
      let one : own_tag (take record_size u) ≡ node_tag item
      = own-tag 0 count lo t (omega arith) fits ∙ ap node_tag s.0 in
      let down : drop record_size u ≡ drop (record_size * (lo + 1)) t
      = drop-drop record_size (record_size * lo) t ∙ ap (λ (k : ℕ). drop k t) p in
      let on : drop (record_size * size inside) (drop (record_size * (lo + 1)) t) ≡ drop (record_size * end_at t lo) t
      = drop-drop (record_size * size inside) (record_size * (lo + 1)) t ∙ ap (λ (k : ℕ). drop k t) q in
      ap (λ (k : ℕ). time_tags k u) n
      ∙ ap (λ (l : List ℕ). l ++ time_tags (size inside + size rest) (drop record_size u)) one
      ∙ ap (λ (l : List ℕ). node_tag item ++ l)
      (tags-split (size inside) (size rest) (drop record_size u)
      ∙ ap (λ (v : List ℕ). time_tags (size inside) v ++ time_tags (size rest) (drop (record_size * size inside) v)) down
      ∙ ap (λ (l : List ℕ). l ++ time_tags (size rest) (drop (record_size * size inside) (drop (record_size * (lo + 1)) t)))
      (row-tags (lo + 1) (end_at t lo) inside s.1 (omega arith))
      ∙ ap (λ (l : List ℕ). forest_tags inside ++ l)
      (ap (time_tags (size rest)) on ∙ row-tags (end_at t lo) hi rest s.2 h))

-- the numbers of a row of records fit their bytes
pub row_fits : (t : List ℕ) → ((i : ℕ) → get_or t i 0 < 256) → (lo hi : ℕ) (F : Forest) → Spans t lo hi F → FieldsFit F
unfolding Spans FieldsFit field_at
row_fits t small lo hi nil s = tt
row_fits t small lo hi (node item inside rest) s =
    let low : (k : ℕ) → field_at t lo k < 256 ^ 4
    = λ k. number_small 4 (drop (record_size * lo + k) t) (drop-small (record_size * lo + k) t small) in (
      rw (← s.0) (low 8),
      rw (← s.0) (low 12),
      rw (← s.0) (low 16),
      row_fits t small (lo + 1) (end_at t lo) inside s.1,
      row_fits t small (end_at t lo) hi rest s.2,
    )

module _ {t : List ℕ} {count : ℕ} {source : List ℕ} {item : Item} {inside : Forest} (w : IsTree t count source item inside) where
  -- the tree of a shifted table
  pub tree-shifted : (by : ℕ) → IsTree (shifted_table by count t) count source (shifted_item by item) (shifted_forest by inside)
  unfolding shifted_forest
  tree-shifted by =
      record {
        spans = spans-shifted t count w.fits by 0 count (node item inside nil) w.spans (omega arith);
        obeys = obeys-kept by source _ (node item inside nil) w.obeys;
        few = w.few;
        fits = omega (arith, length-table by count t w.fits, w.fits);
        zeros = λ i h. zeros-same by count i t h w.fits ∙ w.zeros i h;
      }

  -- its tags are those of the table
  pub tree-tags : time_tags count t ≡ forest_tags (node item inside nil)
  tree-tags =
      ap (λ (k : ℕ). time_tags k t) (sym (tree-size w))
      ∙ row-tags t count w.fits 0 count (node item inside nil) w.spans (omega arith)

-- "a well-formed table stays well formed, over the same source"
pub stays_formed : StaysFormed
stays_formed t count by source w = tree_formed (tree-shifted (formed_tree t count source w).1 by)

-- and no other becomes so: shifted back it is what it was
pub was-formed : (t : List ℕ) → ((i : ℕ) → get_or t i 0 < 256) → (count by : ℕ) (source : List ℕ) → record_size * count ≤ length t
    → WellFormed (shifted_table by count t) count source → WellFormed t count source
was-formed t small count by source fits w =
    let opposite : shifted by (2 ^ 64 - by % 2 ^ 64) ≡ 0 = omega arith in
    subst (λ (u : List ℕ). WellFormed u count source) (table-back by (2 ^ 64 - by % 2 ^ 64) count t small fits opposite)
    (stays_formed (shifted_table by count t) count (2 ^ 64 - by % 2 ^ 64) source w)
