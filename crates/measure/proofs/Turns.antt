-- A turn of the loop over a bundle's elements: what is left of the bundle, and what its next element is found to be.
use mathlib.Core.Path.{◌≡◌, refl, sym, ◌∙◌}
use mathlib.Core.List.{List, ◌++◌}
use Prim.Native.Nat.{ℕ, ◌+◌, ◌-◌, ◌*◌, ◌<◌, ◌≤◌}
use native.Mathlib.Omega.{arith}
use lib.ListN.{length, take, drop, replicate, length-drop}
use Rattle.refusal.specs.declared.Fault.{Fault}
use Rattle.wire.specs.Limits.{longest}
use Rattle.wire.proofs.Parts.{tail}
use Rattle.argument.specs.CodeParts.{StandsAt}
use Rattle.argument.proofs.Stands.{stands-somewhere}
use Rattle.packet.specs.Packet.{read_elements, read_bundle, read_element, used_by}
use Rattle.packet.proofs.Bundles.{counted-in}
use Rattle.measure.specs.CodeMeasure.{extent, node_dirt, bundle_dirt}
use Rattle.measure.specs.Results.{Deep, Extent, Tree}
use Rattle.std.specs.Prelude.{Err}
use Rattle.measure.proofs.Extents.{Going, going_start, going_on, going-deep, going_done, turned}

-- of a bundle l at p the elements in m, at q, are left; with it c records and d bytes of dirt are counted so far
pub record Inside (l : List ℕ) (p room dirt : ℕ) (m : List ℕ) (q c d : ℕ) : Type 0 where
  pub ends : q + length m ≡ p + length l
  pub past : p + 8 ≤ q
  pub going : (base : ℕ) (msg : List ℕ) → StandsAt msg (base + p) l → Going base msg l p room dirt m q c d

-- before the first element
pub inside-start : (l : List ℕ) (p room dirt : ℕ) → 8 ≤ length l
    → Inside l p room dirt (take (length l - 8) (drop 8 l)) (p + 8) 1 dirt
inside-start l p room dirt h =
    record {
      ends = rw (tail l 8) (omega (arith, length-drop 8 l));
      past = omega arith;
      going = λ base msg w. going_start base msg l p room dirt w h;
    }

-- a turn
pub record Turn : Type 0 where
  pub input : List ℕ
  pub pos : ℕ
  pub room : ℕ
  pub dirt : ℕ
  pub rest : List ℕ
  pub at : ℕ
  pub count : ℕ
  pub sum : ℕ
  pub short : (pos + length input ≤ longest) × (dirt ≤ longest)
  pub long : 8 ≤ length input
  pub opens : room ≡ 0 → ⊥
  pub inside : Inside input pos (room - 1) dirt rest at count sum
  pub found : Extent
  pub finds : (base : ℕ) (msg : List ℕ) → StandsAt msg (base + at) rest
      → found ≡ extent (room - 1) (at + 4) (node_dirt base msg) (read_element base rest at)

module _ (t : Turn) where
  -- what is left after an element that ends at `next`
  abbrev later : ℕ → List ℕ
  later next = take (length t.rest - (next - t.at)) (drop (next - t.at) t.rest)

  -- an element that is a tree is passed: it lies in what is left, and what is counted with it is small
  pub record Passed (n next x : ℕ) : Type 0 where
    pub low : t.at + 4 + n ≤ next
    pub high : next ≤ t.at + length t.rest
    pub few : t.count + n ≤ longest
    pub clean : t.sum + x ≤ 7 * longest
    pub shorter : length (later next) < length t.rest
    pub inside : Inside t.input t.pos (t.room - 1) t.dirt (later next) next (t.count + n) (t.sum + x)

  pub tree-passed : {n next x : ℕ} → t.found ≡ Tree n next x → Passed n next x
  tree-passed {n} {next} {x} e =
      let msg = replicate (0 + t.pos) 0 ++ t.input in
      let g = t.inside.going 0 msg (stands-somewhere (0 + t.pos) t.input) in
      let u = turned 0 msg t.rest t.at (t.room - 1) (sym e ∙ t.finds 0 msg g.stands) in
      let few : t.count + n ≤ 1 + (length t.input - 8) = omega (arith, u.step.nodes, g.counted, counted-in 0 t.input t.pos) in
      let left : length (later next) ≡ length t.rest - (next - t.at)
      = rw (tail t.rest (next - t.at)) (length-drop (next - t.at) t.rest) in
      record {
        low = u.step.low.1;
        high = u.step.high;
        few = omega (arith, t.short, t.long);
        clean = omega (arith, t.short, t.long, g.few, u.few);
        shorter = omega (arith, u.step.low, u.step.high);
        inside = record {
          ends = omega (arith, u.step.low, u.step.high, t.inside.ends);
          past = omega (arith, u.step.low, t.inside.past);
          going = λ base m w.
              let h = t.inside.going base m w in
              going_on base m t.input t.pos (t.room - 1) t.dirt t.rest t.at t.count t.sum h
              (sym e ∙ t.finds base m h.stands);
        };
      }

  module _ (base : ℕ) (msg : List ℕ) (w : StandsAt msg (base + t.pos) t.input) (start : ℕ) where
    -- at an element that is too deep
    pub deep-here : {next x : ℕ} → t.found ≡ Deep next → x ≡ t.at + used_by (read_elements base t.rest t.at)
        → Deep x ≡ extent t.room t.pos (bundle_dirt base msg t.dirt) (read_bundle base start t.input t.pos)
    deep-here e u =
        let g = t.inside.going base msg w in
        going-deep base msg t.input t.pos (t.room - 1) t.dirt t.rest t.at t.count t.sum g start
        (omega (arith, t.opens)) t.long (sym e ∙ t.finds base msg g.stands) u

    -- at an element that fails
    pub fails-here : {k : Fault} → t.found ≡ Err k
        → Tree t.count t.at t.sum
        ≡ extent t.room t.pos (bundle_dirt base msg t.dirt) (read_bundle base start t.input t.pos)
    fails-here e =
        let g = t.inside.going base msg w in
        going_done base msg t.input t.pos (t.room - 1) t.dirt t.rest t.at t.count t.sum g start
        (omega (arith, t.opens)) t.long (sym e ∙ t.finds base msg g.stands)

-- the turn of a loop that has come so far
module _ {l : List ℕ} {p room dirt : ℕ} {m : List ℕ} {q c d : ℕ} {found : Extent}
    (short : (p + length l ≤ longest) × (dirt ≤ longest)) (long : 8 ≤ length l) (opens : room ≡ 0 → ⊥)
    (inside : Inside l p (room - 1) dirt m q c d)
    (finds : (base : ℕ) (msg : List ℕ) → StandsAt msg (base + q) m
    → found ≡ extent (room - 1) (q + 4) (node_dirt base msg) (read_element base m q)) where
  abbrev pub turn_of : Turn
  turn_of = record {
    input = l;
    pos = p;
    room = room;
    dirt = dirt;
    rest = m;
    at = q;
    count = c;
    sum = d;
    short = short;
    long = long;
    opens = opens;
    inside = inside;
    found = found;
    finds = finds;
  }

-- a turn in which a tree is found
pub passed : {l : List ℕ} {p room dirt : ℕ} {m : List ℕ} {q c d n next x : ℕ}
    (short : (p + length l ≤ longest) × (dirt ≤ longest)) (long : 8 ≤ length l) (opens : room ≡ 0 → ⊥)
    (inside : Inside l p (room - 1) dirt m q c d)
    (finds : (base : ℕ) (msg : List ℕ) → StandsAt msg (base + q) m
    → Tree n next x ≡ extent (room - 1) (q + 4) (node_dirt base msg) (read_element base m q))
    → Passed (turn_of short long opens inside finds) n next x
passed short long opens inside finds = tree-passed (turn_of short long opens inside finds) refl
