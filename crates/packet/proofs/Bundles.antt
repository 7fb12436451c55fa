-- Elements of a bundle, one after another.
use mathlib.Core.Path.{◌≡◌, refl, ap, ◌∙◌, subst}
use mathlib.Core.List.{List}
use Prim.Native.Nat.{ℕ, ◌+◌, ◌-◌, ◌<◌, ◌≤◌}
use native.Mathlib.Omega.{arith}
use borrow.Author.Tests.{le-leb, lt-leb}
use lib.ListN.{length, take, drop, length-drop}
use Rattle.refusal.specs.declared.Fault.{Fault}
use Rattle.refusal.specs.declared.Fault.TheVariants.{Short}
use Rattle.refusal.specs.declared.Field.TheVariants.{Head}
use Rattle.wire.proofs.Parts.{tail}
use Rattle.node.specs.Forest.{Forest, nil, node, size}
use Rattle.node.specs.declared.record.Item.{Item}
use Rattle.heads.specs.Heads.{bundle_item}
use Rattle.packet.specs.Packet.{fault, one, Elements, upto, bundle_with, bundle_by, joined, go_on, read_elements}
use Rattle.packet.specs.Packet.{read_bundle, read_element, used_by, trees_in}
use Rattle.packet.proofs.Knot.{elements-by}
use Rattle.packet.proofs.Within.{Within, element-in, elements-in}

-- ---- a bundle by its length

-- the elements of the bundle
abbrev pub contents : ℕ → List ℕ → ℕ → Elements
contents base l p = read_elements base (drop 8 l) (p + 8)

module _ (base start : ℕ) (l : List ℕ) (p : ℕ) where
  -- a bundle without its time tag
  pub bundle-short : length l < 8 → read_bundle base start l p ≡ fault (Short Head p)
  unfolding read_bundle bundle_by
  bundle-short h = rw (bundle_by, lt-leb 8 (length l) h)

  -- a bundle with its time tag
  pub bundle-long : 8 ≤ length l → read_bundle base start l p ≡ bundle_with (bundle_item start l) (contents base l p)
  unfolding read_bundle bundle_by
  bundle-long h = rw (bundle_by, le-leb 8 (length l) h)

-- ---- elements by the first one

joined-trees : (item : Item) (f : Forest) (n : ℕ) (g : Elements) → trees_in (joined item f n g) ≡ node item f (trees_in g)
joined-trees item f n (upto g u) = refl

joined-used : (item : Item) (f : Forest) (n : ℕ) (g : Elements) → used_by (joined item f n g) ≡ 4 + n + used_by g
joined-used item f n (upto g u) = refl

module _ (base : ℕ) (m : List ℕ) (q : ℕ) where
  -- an element that fails ends them
  pub ended : {k : Fault} → read_element base m q ≡ fault k → read_elements base m q ≡ upto nil 0
  ended e = elements-by base m q ∙ ap (go_on (λ l p. read_elements base l p) m q) e

  module _ {item : Item} {n : ℕ} {f : Forest} (e : read_element base m q ≡ one item f n) where
    -- the elements after the first
    abbrev rest : Elements
    rest = read_elements base (drop (4 + n) m) (q + (4 + n))

    first_one : read_elements base m q ≡ joined item f n rest
    first_one = elements-by base m q ∙ ap (go_on (λ l p. read_elements base l p) m q) e

    -- the first element's tree stands before the others
    pub first-trees : trees_in (read_elements base m q) ≡ node item f (trees_in rest)
    first-trees = ap trees_in first_one ∙ joined-trees item f n rest

    -- the first element takes its size and 4 bytes
    pub first-used : used_by (read_elements base m q) ≡ 4 + n + used_by rest
    first-used = ap used_by first_one ∙ joined-used item f n rest

    -- the first element lies in what it is read from
    pub first-in : Within (length m - 4) (one item f n)
    first-in = subst (Within (length m - 4)) e (element-in base m q)

    -- what is read after the first element, counted from its end
    pub first_rest : read_elements base (drop (q + 4 + n - q) m) (q + 4 + n) ≡ rest
    first_rest = let d : q + 4 + n - q ≡ 4 + n = omega arith in let a : q + 4 + n ≡ q + (4 + n) = omega arith in rw (d, a)

-- ---- counting

-- the elements from m on, at q, by those after the first, which has n records and ends at `next`
pub record Stepped (base : ℕ) (m : List ℕ) (q n next : ℕ) : Type 0 where
  pub nodes : size (trees_in (read_elements base m q)) ≡ n + size (trees_in (read_elements base (drop (next - q) m) next))
  pub bytes : q + used_by (read_elements base m q) ≡ next + used_by (read_elements base (drop (next - q) m) next)
  pub low : (1 ≤ n) × (q + 4 + n ≤ next)
  pub high : next ≤ q + length m

-- an element is one step
pub stepped : {item : Item} {u : ℕ} {f : Forest} (base : ℕ) (m : List ℕ) (q : ℕ) → read_element base m q ≡ one item f u
    → Stepped base m q (1 + size f) (q + 4 + u)
unfolding size
stepped {item} {u} {f} base m q e =
    let w = first-in base m q e in
    record {
      nodes = rw (first_rest base m q e) (ap size (first-trees base m q e));
      bytes = rw (first_rest base m q e) (omega (arith, first-used base m q e));
      low = (omega arith, omega arith);
      high = omega arith;
    }

-- the bundle l at p has c records so far, and the elements from m on, at q, are left
pub record Counted (base : ℕ) (l : List ℕ) (p : ℕ) (m : List ℕ) (q c : ℕ) : Type 0 where
  pub count : 1 + size (trees_in (contents base l p)) ≡ c + size (trees_in (read_elements base m q))
  pub used : p + 8 + used_by (contents base l p) ≡ q + used_by (read_elements base m q)

-- before the first element
pub counted_start : (base : ℕ) (l : List ℕ) (p : ℕ) → Counted base l p (take (length l - 8) (drop 8 l)) (p + 8) 1
counted_start base l p = rw (tail l 8) (record { count = refl; used = refl })

-- after one element more
pub counted-on : {n next : ℕ} (base : ℕ) (l : List ℕ) (p : ℕ) (m : List ℕ) (q c : ℕ) → Counted base l p m q c → Stepped base m q n next
    → Counted base l p (take (length m - (next - q)) (drop (next - q) m)) next (c + n)
counted-on {n} {next} base l p m q c w s = rw (tail m (next - q)) (record { count = omega arith; used = omega arith })

-- there are no more records than bytes
pub counted-in : (base : ℕ) (l : List ℕ) (p : ℕ) → 1 + size (trees_in (contents base l p)) ≤ 1 + (length l - 8)
counted-in base l p = omega (arith, elements-in base (drop 8 l) (p + 8), length-drop 8 l)
