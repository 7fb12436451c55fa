-- A bundle is written element by element, and its own record last: what is written, and what is left.
use mathlib.Core.Path.{◌≡◌, refl, ap, sym, ◌∙◌, subst}
use mathlib.Core.List.{List}
use mathlib.Core.Logic.{◌⊎◌, inl, inr}
use Prim.Native.Nat.{ℕ, ◌+◌, ◌-◌, ◌*◌, ◌<◌, ◌≤◌}
use native.Mathlib.Omega.{arith}
use lib.ListN.{length, take, drop, length-drop}
use borrow.Rule.Slice.PartMut.{mid_of, put_mid}
use Rattle.wire.specs.Limits.{longest}
use Rattle.wire.specs.Wrote as written
use Rattle.wire.proofs.Choices.{lt-or-le}
use Rattle.wire.proofs.Parts.{tail, length-lent}
use Rattle.node.specs.Forest.{Forest, nil, node, size}
use Rattle.node.specs.declared.record.Item.{Item}
use Rattle.node.specs.Records.{record_size, most_records, record_of, stored, TableRoom}
use Rattle.node.proofs.Stored.{completed, length-completed, completed-nil, lent-stored, completed-turn, completed-node}
use Rattle.heads.specs.Heads.{bundle_item}
use Rattle.packet.specs.Packet.{Out, fault, one, Elements, upto, bundle_with, read_elements, read_bundle, read_element, used_by, trees_in}
use Rattle.packet.proofs.Bundles.{contents, bundle-short, bundle-long, ended, first-trees, first_rest, Stepped, stepped}
use Rattle.packet.proofs.Bundles.{Counted, counted_start, counted-on}
use Rattle.fill.specs.CodeFill.{tree_of, reread, Fills, PacketAccepted, Known}
use Rattle.fill.specs.Results.{Reread, Wrote}
use Rattle.fill.specs.declared.Element.{Element}
use Rattle.wire.proofs.Payloads.{some-is}
use Rattle.std.specs.Prelude.{None}
use Rattle.fill.proofs.Fills.{known-refused}

module _ (base start : ℕ) (l : List ℕ) (p : ℕ) where
  -- a bundle with its time tag is its own record, and what it contains
  bundle-tree : 8 ≤ length l → tree_of (read_bundle base start l p) ≡ node (bundle_item start l) (trees_in (contents base l p)) nil
  bundle-tree h = ap tree_of (bundle-long base start l p h) ∙ by-elements (contents base l p)
    where
      by-elements : (k : Elements) → tree_of (bundle_with (bundle_item start l) k) ≡ node (bundle_item start l) (trees_in k) nil
      by-elements (upto f u) = refl

  -- a bundle that was accepted has its time tag
  pub known-long : {count : ℕ} → Known (read_bundle base start l p) count → 8 ≤ length l
  known-long w = by_length (lt-or-le (length l) 8)
    where
      by_length : (length l < 8) ⊎ (8 ≤ length l) → 8 ≤ length l
      by_length (inl h) = absurd (known-refused w (bundle-short base start l p h))
      by_length (inr h) = h

  known-count : {count : ℕ} → Known (read_bundle base start l p) count → count ≡ 1 + size (trees_in (contents base l p))
  unfolding size
  known-count w = omega (arith, w.records, ap size (bundle-tree (known-long w)))

  -- room for the bundle's own record and for those of its elements
  contents-room : {i : ℕ} {T : List ℕ} → 8 ≤ length l → TableRoom (tree_of (read_bundle base start l p)) i T
      → TableRoom (node (bundle_item start l) (trees_in (contents base l p)) nil) i T
  contents-room {i} {T} h w = subst (λ (f : Forest). TableRoom f i T) (bundle-tree h) w

is_none : (p : ℕ) (o : Out) → None ≡ reread p o → tree_of o ≡ nil
is_none p (fault k) e = refl
is_none p (one item f u) e = let z : ◌≡◌ {A = ℕ} 0 1 = cc in absurd (omega arith)

-- what is written of the next element is among what is written of all that are left
next-room : (base : ℕ) (m : List ℕ) (q : ℕ) → size (tree_of (read_element base m q)) ≤ size (trees_in (read_elements base m q))
unfolding size
next-room base m q = by_out (read_element base m q) refl
  where
    by_out : (o : Out) → read_element base m q ≡ o → size (tree_of o) ≤ size (trees_in (read_elements base m q))
    by_out (fault k) e = omega arith
    by_out (one item f u) e = omega (arith, ap size (first-trees base m q e))

-- a forest of no records
no-records : (f : Forest) → size f ≡ 0 → f ≡ nil
unfolding size
no-records nil e = refl
no-records (node item f g) e = absurd (omega arith)

-- an element that was written, and one of which nothing was
tree-step : {n next : ℕ} (base : ℕ) (m : List ℕ) (q : ℕ) → Wrote n next ≡ reread (q + 4) (read_element base m q)
    → Stepped base m q n next
tree-step {n} {next} base m q h = by_out (read_element base m q) refl h
  where
    by_out : (o : Out) → read_element base m q ≡ o → Wrote n next ≡ reread (q + 4) o → Stepped base m q n next
    by_out (fault k) e g = let z : ◌≡◌ {A = ℕ} 0 1 = cc in absurd (omega arith)
    by_out (one item f u) e g =
        let en : n ≡ 1 + size f = ap (λ (x : Element). x.count) (some-is g) in
        let ee : next ≡ q + 4 + u = ap (λ (x : Element). x.next) (some-is g) in
        rw (en, ee) (stepped base m q e)

no_step : (base : ℕ) (m : List ℕ) (q : ℕ) → None ≡ reread (q + 4) (read_element base m q) → read_elements base m q ≡ upto nil 0
no_step base m q h = by_out (read_element base m q) refl h
  where
    by_out : (o : Out) → read_element base m q ≡ o → None ≡ reread (q + 4) o → read_elements base m q ≡ upto nil 0
    by_out (fault k) e g = ended base m q e
    by_out (one item f u) e g = let z : ◌≡◌ {A = ℕ} 0 1 = cc in absurd (omega arith)

with-elements : {c q : ℕ} {Z : List ℕ} (p i : ℕ) (item : Item) (T : List ℕ) (k : Elements) → c ≡ 1 + size (trees_in k)
    → q ≡ p + (8 + used_by k)
    → Z ≡ stored i (node item (trees_in k) nil) T
    → Fills (bundle_with item k) p i T (Wrote c q) Z
with-elements p i item T (upto f u) ec eq et = record { answered = rw (ec, eq); table = et }

-- the bundle l at p, which has its time tag, is written to T, which was T₀ and has room, from index i on: c records have their place, and
-- the elements from m on, at q, are left
pub record Filling (base start : ℕ) (l : List ℕ) (p i : ℕ) (T₀ T m : List ℕ) (q c : ℕ) : Type 0 where
  pub long : 8 ≤ length l
  pub low : base + p + length l ≤ longest
  pub room : TableRoom (node (bundle_item start l) (trees_in (contents base l p)) nil) i T₀
  pub some : 1 ≤ c
  pub same : length T ≡ length T₀
  pub on : p + 8 ≤ q
  pub ends : q + length m ≡ p + length l
  pub counted : Counted base l p m q c
  pub left : completed T c (i + c) (trees_in (read_elements base m q)) ≡ completed T₀ 1 (i + 1) (trees_in (contents base l p))

-- before the first element
pub filling-start : {base start p i : ℕ} {l T : List ℕ} → 8 ≤ length l → base + p + length l ≤ longest
    → TableRoom (tree_of (read_bundle base start l p)) i T → Filling base start l p i T T (take (length l - 8) (drop 8 l)) (p + 8) 1
filling-start {base} {start} {p} {i} {l} {T} h low w = record {
  long = h;
  low = low;
  room = contents-room base start l p h w;
  some = omega arith;
  same = refl;
  on = omega arith;
  ends = rw tail (omega (arith, length-drop 8 l));
  counted = counted_start base l p;
  left = rw tail;
}

module _ {base start p i q c : ℕ} {l T₀ T m : List ℕ} (w : Filling base start l p i T₀ T m q c) where
  -- the table that is lent for the next element
  abbrev later : List ℕ
  later = mid_of (record_size * c) (length T - record_size * c) T

  -- records that have their place fit
  pub filling-fits : (record_size * (c + size (trees_in (read_elements base m q))) ≤ length T) ×
      (i + (c + size (trees_in (read_elements base m q))) ≤ most_records)
  unfolding size
  filling-fits = (omega (arith, w.room.fits), omega (arith, w.room.low))

  -- what is left lies in the input, and is shorter than the bundle
  pub rest-is-shorter : (base + q + length m ≤ longest) × (length m < length l)
  rest-is-shorter = (omega arith, omega arith)

  -- there is room for the next element
  pub next_fits : TableRoom (tree_of (read_element base m q)) (i + c) later
  next_fits = record {
    fits = omega (arith, filling-fits, next-room base m q, length-lent T (record_size * c));
    low = omega (arith, filling-fits, next-room base m q);
  }

  -- the next element was written: it has n records and ends at `next`
  module _ {n next : ℕ} {x : Reread} {Y : List ℕ} (f : Fills (read_element base m q) (q + 4) (i + c) later x Y) (z : x ≡ Wrote n next) where
    step : Stepped base m q n next
    step = tree-step base m q (sym z ∙ f.answered)

    -- it takes some bytes, all of them there, and its records fit
    pub turn-fits : (q + 4 + n ≤ next) × (next ≤ q + length m) × (c + n ≤ most_records)
    turn-fits = (omega (arith, step.low), step.high, omega (arith, step.nodes, filling-fits))

    -- fewer bytes are left
    pub turn-falls : length (take (length m - (next - q)) (drop (next - q) m)) < length m
    turn-falls = rw tail (omega (arith, length-drop (next - q) m, turn-fits))

    -- one element shorter
    filling-one : {item : Item} {u : ℕ} {g : Forest} → read_element base m q ≡ one item g u → n ≡ 1 + size g → next ≡ q + 4 + u
        → Filling base start l p i T₀ (put_mid (record_size * c) (length T - record_size * c) T Y)
        (take (length m - (next - q)) (drop (next - q) m)) next (c + n)
    filling-one {item} {u} {g} e en ee =
        let N = node item g nil in
        let put : put_mid (record_size * c) (length T - record_size * c) T Y ≡ completed T c (i + c) N
        = lent-stored T c (i + c) N (f.table ∙ ap (λ (o : Out). stored (i + c) (tree_of o) later) e) in
        let fit : record_size * (c + size N) ≤ length T = omega
        (arith, filling-fits, next-room base m q, ap (λ (o : Out). size (tree_of o)) e) in
        let sum : i + (c + n) ≡ i + c + n = omega arith in
        record {
          long = w.long;
          low = w.low;
          room = w.room;
          some = omega (arith, w.some);
          same = ap length put ∙ length-completed T c (i + c) N fit ∙ w.same;
          on = omega (arith, w.on, turn-fits);
          ends = rw tail (omega (arith, length-drop (next - q) m, turn-fits, w.ends));
          counted = counted-on base l p m q c w.counted step;
          left =
              rw (tail m (next - q), ee, sum, first_rest base m q e)
              (completed-turn T c n (i + c) item g (trees_in (read_elements base (drop (4 + u) m) (q + (4 + u)))) (omega arith) en put
              ∙ ap (λ (h : Forest). completed T c (i + c) h) (sym (first-trees base m q e)) ∙ w.left);
        }

    -- the rest is as before, one element shorter
    pub filling-on : Filling base start l p i T₀ (put_mid (record_size * c) (length T - record_size * c) T Y)
        (take (length m - (next - q)) (drop (next - q) m)) next (c + n)
    filling-on = by_out (read_element base m q) refl (sym z ∙ f.answered)
      where
        by_out : (o : Out) → read_element base m q ≡ o → Wrote n next ≡ reread (q + 4) o
            → Filling base start l p i T₀ (put_mid (record_size * c) (length T - record_size * c) T Y)
            (take (length m - (next - q)) (drop (next - q) m)) next (c + n)
        by_out (fault k) e h = let z : ◌≡◌ {A = ℕ} 0 1 = cc in absurd (omega arith)
        by_out (one item g u) e h =
            filling-one e (ap (λ (x : Element). x.count) (some-is h)) (ap (λ (x : Element). x.next) (some-is h))

  filling-count : {count : ℕ} → Known (read_bundle base start l p) count → c + size (trees_in (read_elements base m q)) ≡ count
  filling-count k = omega (arith, w.counted, known-count base start l p k)

  -- while fewer records than the bundle has have their place, the next element is accepted
  pub next-accepted : {count : ℕ} → Known (read_bundle base start l p) count → c < count → PacketAccepted (read_element base m q)
  unfolding size
  next-accepted {count} k h = by_out (read_element base m q) refl
    where
      by_out : (o : Out) → read_element base m q ≡ o → PacketAccepted o
      by_out (fault j) e =
          absurd (omega (arith, filling-count k, ap (λ (g : Elements). size (trees_in g)) (ended base m q e)))
      by_out (one item f u) e = tt

  own-record : {R Z : List ℕ} (item : Item) → R ≡ completed T₀ 1 (i + 1) (trees_in (contents base l p))
      → size (trees_in (read_elements base m q)) ≡ 0
      → written.Wrote (record_of item (i + c)) R Z → Z ≡ stored i (node item (trees_in (contents base l p)) nil) T₀
  unfolding size
  own-record item put none v =
      completed-node T₀ i item (i + c) (trees_in (contents base l p)) (omega (arith, w.room.fits)) put (omega (arith, w.counted)) v

  -- all records have their place: the bundle's own is written
  pub filling-all : {count : ℕ} {item : Item} {Z : List ℕ} → Known (read_bundle base start l p) count → count ≤ c
      → item ≡ bundle_item start l → written.Wrote (record_of item (i + count)) T Z → Z ≡ stored i (tree_of (read_bundle base start l p)) T₀
  filling-all {count} {item} {Z} k h e v =
      let all : c ≡ count = omega (arith, filling-count k) in
      let none : size (trees_in (read_elements base m q)) ≡ 0 = omega (arith, filling-count k) in
      let flat : trees_in (read_elements base m q) ≡ nil = no-records _ none in
      let put : T ≡ completed T₀ 1 (i + 1) (trees_in (contents base l p))
      = sym (completed-nil T c (i + c)) ∙ ap (completed T c (i + c)) (sym flat) ∙ w.left in
      rw (bundle-tree base start l p w.long, ← e) (own-record item put none (rw (← all) at v))

  -- no element follows: the bundle's own record is written
  pub filling-done : {x : Reread} {item : Item} {Y Z : List ℕ} → Fills (read_element base m q) (q + 4) (i + c) later x Y → x ≡ None
      → item ≡ bundle_item start l → written.Wrote (record_of item (i + c)) (put_mid (record_size * c) (length T - record_size * c) T Y) Z
      → Fills (read_bundle base start l p) p i T₀ (Wrote c q) Z
  unfolding size
  filling-done {x} {item} {Y} {Z} f z e v =
      let none : read_elements base m q ≡ upto nil 0 = no_step base m q (sym z ∙ f.answered) in
      let flat : trees_in (read_elements base m q) ≡ nil = ap trees_in none in
      let no-tree : tree_of (read_element base m q) ≡ trees_in (read_elements base m q)
      = is_none (q + 4) (read_element base m q) (sym z ∙ f.answered) ∙ sym flat in
      let no_size : size (trees_in (read_elements base m q)) ≡ 0 = ap size flat in
      let no-use : used_by (read_elements base m q) ≡ 0 = ap used_by none in
      let put : put_mid (record_size * c) (length T - record_size * c) T Y ≡ completed T₀ 1 (i + 1) (trees_in (contents base l p))
      = lent-stored T c (i + c) (trees_in (read_elements base m q)) (f.table ∙ ap (λ (g : Forest). stored (i + c) g later) no-tree)
      ∙ w.left in
      rw (bundle-long base start l p w.long, ← e)
      (with-elements p i item T₀ (contents base l p) (omega (arith, w.counted)) (omega (arith, w.counted))
      (own-record item put no_size v))
