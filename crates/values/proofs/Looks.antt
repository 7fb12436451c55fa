-- The answers of `look` and of `start_of`, each by the tests that lead to it.
use mathlib.Core.Path.{◌≡◌, ap, sym, ◌∙◌}
use mathlib.Core.Bool.{true, false}
use mathlib.Core.List.{List}
use Prim.Native.Nat.{ℕ, ◌<◌, ◌≤◌}
use borrow.Author.Tests.{lt-ltb, le-ltb, eq-eqb, ne_eqb}
use Rattle.refusal.specs.declared.Refusal.TheVariants.{BadTable}
use Rattle.node.specs.Records.{zeros_at, item_at, start_at, capacity}
use Rattle.node.specs.Rules.{own_rules}
use Rattle.node.specs.declared.record.Item.{Item}
use Rattle.values.specs.Value.{value_of}
use Rattle.values.specs.Look.{look_at, started_at}
use Rattle.std.specs.Prelude.{Err, Ok}

-- the start of a record that exists
pub starts : (t : List ℕ) (i : ℕ) → i < capacity t → Ok (start_at t i) ≡ started_at t i
unfolding started_at
starts t i h = rw (lt-ltb i (capacity t) h)

-- a record that does not exist has none
pub no_start : (t : List ℕ) (i : ℕ) → capacity t ≤ i → Err BadTable ≡ started_at t i
unfolding started_at
no_start t i h = rw (le-ltb i (capacity t) h)

-- there is no such record
pub no_record : (t : List ℕ) (i : ℕ) → capacity t ≤ i → Err BadTable ≡ look_at t i
unfolding look_at
no_record t i h = rw (le-ltb i (capacity t) h)

module _ (t : List ℕ) (i : ℕ) {z : ℕ} (e : z ≡ zeros_at t i) (h : i < capacity t) where
  -- the three bytes after the kind are not zeros
  pub not-zero : (z ≡ 0 → ⊥) → Err BadTable ≡ look_at t i
  unfolding look_at
  not-zero n =
      let y : zeros_at t i ≡ 0 → ⊥ = λ q. n (e ∙ q) in
      rw (lt-ltb i (capacity t) h, ne_eqb (zeros_at t i) 0 y)

  module _ (y : z ≡ 0) {item : Item} (f : item ≡ item_at t i) where
    -- the record breaks its own rules
    pub breaks-rules : own_rules item ≡ false → Err BadTable ≡ look_at t i
    unfolding look_at
    breaks-rules o =
        let q : own_rules (item_at t i) ≡ false = sym (ap own_rules f) ∙ o in
        rw (lt-ltb i (capacity t) h, eq-eqb (zeros_at t i) 0 (sym e ∙ y), q)

    -- the record obeys them: its value
    pub is-value : own_rules item ≡ true → Ok (value_of item) ≡ look_at t i
    unfolding look_at
    is-value o =
        let q : own_rules (item_at t i) ≡ true = sym (ap own_rules f) ∙ o in
        rw (lt-ltb i (capacity t) h, eq-eqb (zeros_at t i) 0 (sym e ∙ y), q) (ap (λ (x : Item). Ok (value_of x)) f)
