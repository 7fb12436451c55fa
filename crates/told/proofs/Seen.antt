-- The kind that is told of a value is the kind of the record that was looked at.
use mathlib.Core.Path.{◌≡◌, sym, ap, subst, ◌∙◌}
use mathlib.Core.Bool.{Bool, true, false, ◌&&◌, false≢true}
use mathlib.Core.List.{List}
use Prim.Native.Nat.{ℕ, ◌<◌}
use borrow.Author.Tests.{ne_eqb, ltb-true}
use lib.Dec.{eqb, ltb}
use mathlib.Core.Logic.{⊎_elim}
use Rattle.wire.proofs.Choices.{by-test, by-eq, is-or}
use Rattle.node.specs.Tags.{message_kind, bundle_kind, array_kind, class_of, sort_of}
use Rattle.node.specs.Rules.{own_rules}
use Rattle.node.specs.Records.{kind_at, zeros_at, item_at, capacity}
use Rattle.node.specs.declared.record.Item.{Item}
use Rattle.values.specs.Value.{bare_of, narrow_of, value_by, value_of}
use Rattle.values.specs.Look.{look_at}
use Rattle.values.specs.declared.value.OscType.{OscType}
use Rattle.std.specs.Prelude.{Err, Ok}
use Rattle.values.specs.Results.{Looked}
use Rattle.told.specs.Answers.{told_answer, kind_of, looked_told}

no_way : {A : Type 0} → false ≡ true → A
no_way e = absurd (false≢true e)

-- the value of a record whose own rules hold has the record's kind
kind-kept : (item : Item) → own_rules item ≡ true → kind_of (value_of item) ≡ item.kind
unfolding value_by narrow_of bare_of own_rules sort_of class_of
kind-kept item o =
    let k = item.kind in
    let P : OscType → Type 0 = λ v. kind_of v ≡ k in
    by-eq P k message_kind (λ e. sym e)
    (λ n47. by-eq P k bundle_kind (λ e. sym e) (λ n35. by-eq P k 115 (λ e. sym e) (λ n115. by-eq P k 98 (λ e. sym e)
    (λ n98. by-eq P k 116 (λ e. sym e) (λ n116. by-eq P k 104 (λ e. sym e) (λ n104. by-eq P k 100 (λ e. sym e)
    (λ n100. by-eq P k 105 (λ e. sym e) (λ n105. by-eq P k 102 (λ e. sym e) (λ n102. by-eq P k 99 (λ e. sym e)
    (λ n99. by-eq P k 114 (λ e. sym e) (λ n114. by-eq P k 109 (λ e. sym e) (λ n109. by-eq P k 84 (λ e. sym e)
    (λ n84. by-eq P k 70 (λ e. sym e) (λ n70. by-eq P k 78 (λ e. sym e) (λ n78. by-eq P k 73 (λ e. sym e)
    (λ n73. ⊎_elim (λ e. sym e) (λ n91. ⊎_elim (λ e. no_way (rw e at o)) (λ n93. no_way (rw (
      ne_eqb k bundle_kind n35,
      ne_eqb k message_kind n47,
      ne_eqb k array_kind n91,
      ne_eqb k 93 n93,
      ne_eqb k 102 n102,
      ne_eqb k 105 n105,
      ne_eqb k 109 n109,
      ne_eqb k 114 n114,
      ne_eqb k 100 n100,
      ne_eqb k 104 n104,
      ne_eqb k 116 n116,
      ne_eqb k 70 n70,
      ne_eqb k 73 n73,
      ne_eqb k 78 n78,
      ne_eqb k 84 n84,
      ne_eqb k 115 n115,
      ne_eqb k 98 n98,
      ne_eqb k 99 n99,
    ) at o)) (is-or k 93)) (is-or k array_kind)))))))))))))))))

-- what an answer of `look` shows of the record: it exists, and the value has its kind
abbrev Seen : List ℕ → ℕ → Looked → Type 0
Seen t i (Ok v) = (i < capacity t) × (kind_of v ≡ kind_at t i)
Seen t i (Err r) = Unit {0}

second-true : (x y : Bool) → x && y ≡ true → y ≡ true
second-true true y e = e
second-true false y e = absurd (false≢true e)

-- so it does
seen : (t : List ℕ) (i : ℕ) → Seen t i (look_at t i)
unfolding look_at
seen t i =
    by-test (Seen t i) (ltb i (capacity t))
    (λ h. by-test (Seen t i) (eqb (zeros_at t i) 0 && own_rules (item_at t i))
    (λ e. (ltb-true i (capacity t) h, kind-kept (item_at t i) (second-true (eqb (zeros_at t i) 0) (own_rules (item_at t i)) e))) (λ _. tt))
    (λ _. tt)

-- a value is given only where there is such a record
pub in_table : (t : List ℕ) (i : ℕ) {v : OscType} → Ok v ≡ look_at t i → i < capacity t
in_table t i e = (subst (Seen t i) (sym e) (seen t i)).0

-- and then the record's kind is what is told
pub kind-told : (t : List ℕ) (i : ℕ) {v : OscType} → Ok v ≡ look_at t i → told_answer 0 (kind_at t i) 0 ≡ looked_told (look_at t i)
kind-told t i e = ap (λ (k : ℕ). told_answer 0 k 0) (sym (subst (Seen t i) (sym e) (seen t i)).1) ∙ ap looked_told e
