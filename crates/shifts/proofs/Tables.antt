-- A shifted table, record by record.
use Rattle.std.proofs.Common.{◌≡◌, ℕ, zero, suc, ◌+◌, ◌-◌, ◌*◌, ◌<◌, ◌≤◌, Bool, true, false, cond, ◌&&◌, eqb, ltb, List, [], ◌∷◌, ◌++◌, length, get_or, take, drop, sym, refl, ap, ◌∙◌, add-zero, arith, length-append, length-drop, length-take-le, get_or-drop, get_or-take, drop-drop, drop_at}
use lib.ListN.{get_or-append}
use Rattle.wire.specs.Number.{number}
use Rattle.node.specs.Records.{record_size, kind_at, zeros_at, field_at, end_at, item_at, capacity}
use Rattle.node.specs.Rules.{own_rules}
use Rattle.values.specs.Look.{look_at}
use Rattle.values.specs.Value.{value_of}
use Rattle.values.specs.declared.value.OscType.{OscType}
use Rattle.std.specs.Prelude.{Err, Ok}
use Rattle.refusal.specs.declared.Refusal.TheVariants.{BadTable}
use Rattle.shifts.specs.Shifts.{is_timed, shifted_record, own_tag, shifted_table, is_value, lookable}
use Rattle.shifts.proofs.Records.{number-inside, number-front, length-shifted}
use Rattle.shifts.proofs.Items.{item_tag, shifted_item, rules-kept, tag-halves, head-same, item-shifted}

-- a shifted table is as long as before
pub length-table : (by n : ℕ) (t : List ℕ) → record_size * n ≤ length t → length (shifted_table by n t) ≡ length t
unfolding shifted_table
length-table by zero t h = refl
length-table by (suc n) t h =
    let l : length (take record_size t) ≡ record_size = length-take-le record_size t (omega arith) in
    let d : length (drop record_size t) ≡ length t - record_size = length-drop record_size t in
    length-append (shifted_record by (take record_size t)) (shifted_table by n (drop record_size t))
    ∙ omega (arith, length-shifted by (take record_size t) l, length-table by n (drop record_size t) (omega arith))

-- from record i on
pub drop-table : (by n i : ℕ) (t : List ℕ) → i ≤ n → record_size * n ≤ length t
    → drop (record_size * i) (shifted_table by n t) ≡ shifted_table by (n - i) (drop (record_size * i) t)
unfolding shifted_table
drop-table by n zero t h f = let z : n - 0 ≡ n = omega arith in rw z
drop-table by zero (suc i) t h f = absurd (omega arith)
drop-table by (suc n) (suc i) t h f =
    let S = shifted_record by (take record_size t) in
    let rest = shifted_table by n (drop record_size t) in
    let l : length S ≡ record_size = length-shifted by (take record_size t) (length-take-le record_size t (omega arith)) in
    let e : record_size * suc i ≡ record_size + record_size * i = omega arith in
    let m : suc n - suc i ≡ n - i = omega arith in
    ap (λ (k : ℕ). drop k (S ++ rest)) e ∙ sym (drop-drop (record_size * i) record_size (S ++ rest))
    ∙ ap (drop (record_size * i)) (drop_at S rest record_size l)
    ∙ drop-table by n i (drop record_size t) (omega arith) (omega (arith, length-drop record_size t))
    ∙ rw (m, e, ← drop-drop (record_size * i) record_size t)

module _ (by n i : ℕ) (t : List ℕ) (h : i < n) (f : record_size * n ≤ length t) where
  abbrev after : List ℕ
  after = shifted_table by n t

  -- the bytes of record i
  abbrev own : List ℕ
  own = take record_size (drop (record_size * i) t)

  pub own-length : length own ≡ record_size
  own-length = length-take-le record_size (drop (record_size * i) t) (omega (arith, length-drop (record_size * i) t))

  -- and those after it
  abbrev later : List ℕ
  later = shifted_table by (n - suc i) (drop record_size (drop (record_size * i) t))

  pub at-record : drop (record_size * i) after ≡ shifted_record by own ++ later
  unfolding shifted_table
  at-record = let e : n - i ≡ suc (n - suc i) = omega arith in drop-table by n i t (omega arith) f ∙ rw e

  number-before : (w k : ℕ) → k + w ≤ record_size → number w (drop (record_size * i + k) t) ≡ number w (drop k own)
  number-before w k b =
      ap (number w) (sym (drop-drop k (record_size * i) t))
      ∙ sym (number-front w k (drop (record_size * i) t) b (omega (arith, length-drop (record_size * i) t)))

  number-after : (w k : ℕ) → k + w ≤ record_size → number w (drop (record_size * i + k) after) ≡ number w (drop k (shifted_record by own))
  number-after w k b =
      ap (number w) (sym (drop-drop k (record_size * i) after) ∙ ap (drop k) at-record)
      ∙ number-inside w k (shifted_record by own) later (omega (arith, length-shifted by own own-length))

  kind-before : kind_at t i ≡ get_or own 0 0
  unfolding kind_at
  kind-before =
      ap (λ (k : ℕ). get_or t k 0) (sym (add-zero (record_size * i))) ∙ sym (get_or-drop (record_size * i) t 0 0)
      ∙ sym (get_or-take record_size (drop (record_size * i) t) 0 0 (omega arith))

  kind-after : kind_at after i ≡ get_or (shifted_record by own) 0 0
  unfolding kind_at
  kind-after =
      ap (λ (k : ℕ). get_or after k 0) (sym (add-zero (record_size * i))) ∙ sym (get_or-drop (record_size * i) after 0 0)
      ∙ ap (λ (x : List ℕ). get_or x 0 0) at-record
      ∙ get_or-append (shifted_record by own) later 0 0 (omega (arith, length-shifted by own own-length))

  -- the three zero bytes and the end are as before
  pub zeros-same : zeros_at after i ≡ zeros_at t i
  unfolding zeros_at
  zeros-same = number-after 3 1 (omega arith) ∙ head-same by own own-length 3 1 (omega arith) ∙ sym (number-before 3 1 (omega arith))

  pub end_same : end_at after i ≡ end_at t i
  unfolding field_at
  end_same = number-after 4 4 (omega arith) ∙ head-same by own own-length 4 4 (omega arith) ∙ sym (number-before 4 4 (omega arith))

  -- its node is the shifted one
  pub item-at-shifted : item_at after i ≡ shifted_item by (item_at t i)
  unfolding field_at
  item-at-shifted =
      rw (
        kind-after,
        number-after 4 8 (omega arith),
        number-after 4 12 (omega arith),
        number-after 4 16 (omega arith),
        kind-before,
        number-before 4 8 (omega arith),
        number-before 4 12 (omega arith),
        number-before 4 16 (omega arith),
      )
      (item-shifted by own own-length)

  -- its tag, where it has one, is that of its node
  pub own-tag : own_tag own ≡ cond (is_timed (kind_at t i)) (item_tag (item_at t i) ∷ []) []
  unfolding field_at
  own-tag =
      rw (tag-halves by own own-length, kind-before, number-before 4 8 (omega arith), number-before 4 12 (omega arith))

-- ---- what `look` says of a shifted table

value-tests : (a b : Bool) (v : OscType)
    → is_value (cond a (cond b (Ok v) (Err BadTable)) (Err BadTable)) ≡ (a && b)
value-tests true true v = refl
value-tests true false v = refl
value-tests false b v = refl

-- "exists and obeys its own rules"
pub value-is : (t : List ℕ) (i : ℕ) → is_value (look_at t i) ≡ (ltb i (capacity t) && (eqb (zeros_at t i) 0 && own_rules (item_at t i)))
unfolding look_at
value-is t i = value-tests (ltb i (capacity t)) (eqb (zeros_at t i) 0 && own_rules (item_at t i)) (value_of (item_at t i))

-- every record can be looked at as before
pub lookable-same : (by n m : ℕ) (t : List ℕ) → m ≤ n → record_size * n ≤ length t → lookable (shifted_table by n t) m ≡ lookable t m
unfolding lookable
lookable-same by n zero t h f = refl
lookable-same by n (suc m) t h f =
    let after = shifted_table by n t in
    let one : is_value (look_at after m) ≡ is_value (look_at t m) =
    value-is after m
    ∙ rw (
      length-table by n t f,
      zeros-same by n m t (omega arith) f,
      item-at-shifted by n m t (omega arith) f,
      rules-kept by (item_at t m),
    )
    (sym (value-is t m)) in
    rw (lookable-same by n m t (omega arith) f, one)
