-- The walk along a container's children, and a record's tests: what each shows of the rules.
use mathlib.Core.Path.{◌≡◌, sym, ◌∙◌}
use mathlib.Core.Bool.{Bool, true, false, true≢false}
use mathlib.Core.List.{List}
use Prim.Native.Nat.{ℕ, ◌+◌, ◌≤◌, ◌<◌}
use native.Mathlib.Omega.{arith}
use lib.Dec.{eqb}
use borrow.Author.Tests.{eqb-true, eq-eqb}
use Rattle.wire.specs.Part.{part, inside}
use Rattle.utf8.specs.Utf8.{Octets, Decides}
use Rattle.utf8.proofs.Decided.{no}
use Rattle.utf8.proofs.Grammar.{octets, same_answer}
use Rattle.node.specs.Records.{kind_at, zeros_at, end_at, item_at}
use Rattle.node.specs.Rules.{own_rules}
use Rattle.node.specs.declared.record.Item.{Item}
use Rattle.table.specs.Formed.{text_ok, range_ok, allowed, Tiles, done, step, NodeOk}
use Rattle.table.proofs.Grown.{tiles-le}

-- ---- the children of a container, from lo on

-- at `at`, what is left decides about the whole
pub record Walked (t : List ℕ) (container lo hi at : ℕ) : Type 0 where
  pub back : Tiles t container at hi → Tiles t container lo hi
  pub on : Tiles t container lo hi → Tiles t container at hi

-- the walk begins with all tiles before it
pub walk : {t : List ℕ} {container lo hi : ℕ} → Walked t container lo hi lo
walk = record { back = λ x. x; on = λ x. x }

-- what the first child of a row shows
tiles-cut : {t : List ℕ} {container lo hi : ℕ} → lo < hi → Tiles t container lo hi
    → (allowed container (kind_at t lo) ≡ true) × (lo < end_at t lo) × Tiles t container (end_at t lo) hi
tiles-cut h done = absurd (omega arith)
tiles-cut h (step lt may on r) = (may, on, r)

module _ {t : List ℕ} {container lo hi at : ℕ} (w : Walked t container lo hi at) where
  -- the last child ends where the container does, or not
  pub walked_end : hi ≤ at → Decides (eqb at hi) (Tiles t container lo hi)
  walked_end h =
      record {
        sound = λ e. let q : at ≡ hi = eqb-true at hi e in w.back (rw q done);
        complete = λ x. eq-eqb at hi (omega (arith, tiles-le (w.on x)));
      }

  -- the kind and the end that were read at `at`
  module _ {kind : ℕ} (ke : kind ≡ kind_at t at) (h : at < hi) where
    -- a child that the container may not have
    pub not-allowed : allowed container kind ≡ false → Decides false (Tiles t container lo hi)
    not-allowed n = no (λ x. true≢false (sym (tiles-cut h (w.on x)).0 ∙ rw ke at n))

    module _ {end : ℕ} (ee : end ≡ end_at t at) where
      -- a child that does not end after itself
      pub ends-early : end ≤ at → Decides false (Tiles t container lo hi)
      ends-early n = no (λ x. omega (arith, (tiles-cut h (w.on x)).1))

      -- a child is passed
      pub walked_on : allowed container kind ≡ true → at < end → Walked t container lo hi end
      walked_on may on = record {
        back = λ x. w.back (step h (rw ke at may) (rw ee at on) (rw ee at x));
        on = λ x. rw ee (tiles-cut h (w.on x)).2;
      }

-- ---- a record's tests

-- the test of a range that lies in the source
pub text-tested : {x : Bool} (source : List ℕ) (a b : ℕ) → inside source a b ≡ true → Decides x (Octets (part source a b))
    → x ≡ text_ok source a b
text-tested source a b h d = rw h (same_answer d (octets (part source a b)))

module _ {t : List ℕ} {count : ℕ} {source : List ℕ} {i : ℕ} where
  -- three bytes that are not 0
  pub not_zeros : {z : ℕ} → z ≡ zeros_at t i → (z ≡ 0 → ⊥) → Decides false (NodeOk t count source i)
  not_zeros e n = no (λ x. n (e ∙ x.zeros))

  -- a record against its own rules
  pub not-rules : {item : Item} → item ≡ item_at t i → own_rules item ≡ false → Decides false (NodeOk t count source i)
  not-rules e n = no (λ x. true≢false (sym x.rules ∙ rw e at n))

  -- a record whose range is wrong
  pub not-range : {item : Item} → item ≡ item_at t i → range_ok source item ≡ false → Decides false (NodeOk t count source i)
  not-range e n = no (λ x. true≢false (sym x.range ∙ rw e at n))

  -- a record that ends after the table
  pub not_within : {end : ℕ} → end ≡ end_at t i → count < end → Decides false (NodeOk t count source i)
  not_within e n = no (λ x. omega (arith, x.within))

  -- otherwise its tiles decide
  pub node-decides : {b : Bool} {z end : ℕ} {item : Item} → z ≡ zeros_at t i → item ≡ item_at t i → end ≡ end_at t i
      → z ≡ 0 → own_rules item ≡ true → range_ok source item ≡ true → end ≤ count
      → Decides b (Tiles t item.kind (i + 1) end) → Decides b (NodeOk t count source i)
  node-decides {b} ze ie ee z o g w d =
      let q : Decides b (Tiles t (kind_at t i) (i + 1) (end_at t i)) = rw (ie, ee) at d in
      record {
        sound = λ y. record { zeros = sym ze ∙ z; rules = rw ie at o; range = rw ie at g; within = rw ee at w; tiles = q.sound y };
        complete = λ x. q.complete x.tiles;
      }
