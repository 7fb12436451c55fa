-- An argument that is no array: its test says what the rules say of its record, and its length is that of its data.
use mathlib.Core.Path.{◌≡◌, refl, sym, ap, ◌∙◌}
use mathlib.Core.Bool.{Bool, true, false, cond, true≢false, false≢true}
use mathlib.Core.Logic.{⊎_elim}
use mathlib.Core.List.{List, [], ◌∷◌}
use Prim.Native.Nat.{ℕ, ◌+◌, ◌≤◌}
use lib.Dec.{eqb}
use lib.ListN.{length, length-append}
use borrow.Author.Tests.{ne_eqb, not-true}
use native.Mathlib.Omega.{arith}
use Rattle.wire.proofs.Choices.{by-test, then-only, is-or}
use Rattle.wire.proofs.Numbers.{length-bytes}
use Rattle.wire.proofs.Parts.{length_part}
use Rattle.node.specs.Forest.{Forest, nil, node}
use Rattle.node.specs.Tags.{sort_of, class_of, among, message_kind, bundle_kind, array_kind}
use Rattle.node.specs.Rules.{own_rules, is_packet}
use Rattle.node.specs.declared.record.Item.{Item}
use Rattle.node.specs.declared.tags.Class.{Class}
use Rattle.node.specs.declared.tags.Class.TheVariants.{Four, Eight, Bare, Text, Blob, Scalar, Unknown}
use Rattle.node.specs.declared.tags.Sort.{Sort}
use Rattle.node.specs.declared.tags.Sort.TheVariants.{Opens, Closes, Leaf}
use Rattle.table.specs.Formed.{range_ok, allowed}
use Rattle.table.specs.Tree.{Obeys}
use Rattle.strings.specs.Atomic.{write_argument}
use Rattle.strings.specs.CodeStrings.{has_range}
use Rattle.strings.proofs.Lengths.{length-string, length-blob}
use Rattle.writers.specs.Osc.{write_data, write_tags}
use Rattle.writers.proofs.Classed.{leaf-range, tags-none, data-none, tags-is, data_is}
use Rattle.survey.specs.CodeSurvey.{leaf_range, leaf_ok, argument_length}

-- ---- which kinds are arguments, and which contain nothing

-- what stands in a message is no packet
pub no_packet : (k : ℕ) → allowed message_kind k ≡ true → is_packet k ≡ false
unfolding allowed
no_packet k a = not-true (is_packet k) a

-- a kind that is not a packet's is neither of them
pub other-kind : (k p : ℕ) → is_packet p ≡ true → is_packet k ≡ false → k ≡ p → ⊥
other-kind k p y n e = true≢false (sym y ∙ sym (ap is_packet e) ∙ n)

-- a node that is neither a packet nor an array contains nothing
pub leaf-empty : (source : List ℕ) (k : ℕ) (inside : Forest) → is_packet k ≡ false → (k ≡ array_kind → ⊥) → Obeys source k inside
    → inside ≡ nil
unfolding Obeys allowed
leaf-empty source k nil n m o = refl
leaf-empty source k (node item inside rest) n m o =
    absurd (false≢true (rw (
      ne_eqb k bundle_kind (other-kind k bundle_kind refl n),
      ne_eqb k message_kind (other-kind k message_kind refl n),
      ne_eqb k array_kind m,
    ) at o.2))

-- ---- the test

-- the range of an argument, by the sort of its kind
abbrev sort_range : List ℕ → Sort → Item → Bool
sort_range source Opens item = true
sort_range source Closes item = true
sort_range source (Leaf class) item = leaf_range source class item

-- a kind that is neither s nor b has no range
no-range : (source : List ℕ) (item : Item) (k : ℕ) → (k ≡ 115 → ⊥) → (k ≡ 98 → ⊥) → sort_range source (sort_of k) item ≡ true
unfolding sort_of class_of
no-range source item k n m =
    let P : Sort → Type 0 = λ s. sort_range source s item ≡ true in
    let Q : Class → Type 0 = λ c. leaf_range source c item ≡ true in
    rw (ne_eqb k 115 n, ne_eqb k 98 m)
    (by-test P (eqb k array_kind) (λ _. refl) (λ _. by-test P (eqb k 93) (λ _. refl)
    (λ _. by-test Q (among k (102 ∷ 105 ∷ 109 ∷ 114 ∷ [])) (λ _. refl) (λ _. by-test Q (among k (100 ∷ 104 ∷ 116 ∷ [])) (λ _. refl)
    (λ _. by-test Q (among k (70 ∷ 73 ∷ 78 ∷ 84 ∷ [])) (λ _. refl) (λ _. by-test Q (eqb k 99) (λ _. refl) (λ _. refl)))))))

-- the rule for ranges, said by the sort
range-is : (source : List ℕ) (item : Item) → is_packet item.kind ≡ false
    → range_ok source item ≡ sort_range source (sort_of item.kind) item
unfolding range_ok sort_of class_of
range-is source item n =
    ⊎_elim
    (λ q. rw q)
    (λ l. ⊎_elim
    (λ q. rw q)
    (λ m. rw (
      no-range source item item.kind l m,
      ne_eqb item.kind message_kind (other-kind item.kind message_kind refl n),
      ne_eqb item.kind 115 l,
      ne_eqb item.kind 98 m,
    ))
    (is-or item.kind 98))
    (is-or item.kind 115)

-- a record obeys its own rules and its range's, and may stand in a message
pub record LeafRules (source : List ℕ) (item : Item) : Type 0 where
  pub rules : own_rules item ≡ true
  pub range : range_ok source item ≡ true
  pub may : allowed message_kind item.kind ≡ true

module _ (source : List ℕ) (item : Item) (class : Class) (s : sort_of item.kind ≡ Leaf class) where
  -- what is no packet passes exactly where its own rules and its range's hold
  ok-is : is_packet item.kind ≡ false → leaf_ok source class item ≡ cond (own_rules item) (range_ok source item) false
  unfolding own_rules
  ok-is n = rw (range-is source item n, n, s)

  -- the kinds of packets have no class
  not-unknown : leaf_ok source class item ≡ true → (k : ℕ) → sort_of k ≡ Leaf Unknown → item.kind ≡ k → ⊥
  not-unknown o k u q =
      let e : Leaf Unknown ≡ Leaf class = sym u ∙ sym (ap sort_of q) ∙ s in
      let c : class ≡ Unknown = cc in
      false≢true (rw c at o)

  -- so what passes is no packet
  known : leaf_ok source class item ≡ true → is_packet item.kind ≡ false
  unfolding sort_of class_of
  known o =
      rw (ne_eqb item.kind bundle_kind (not-unknown o bundle_kind refl), ne_eqb item.kind message_kind (not-unknown o message_kind refl))

  -- what passes obeys them, and may stand in a message
  pub leaf-sound : leaf_ok source class item ≡ true → LeafRules source item
  unfolding allowed
  leaf-sound o =
      let n = known o in
      let e : cond (own_rules item) (range_ok source item) false ≡ true = sym (ok-is n) ∙ o in
      let r = then-only (own_rules item) (range_ok source item) e false≢true in
      record { rules = r; range = rw r at e; may = rw n }

  -- and only that passes
  pub leaf-complete : LeafRules source item → leaf_ok source class item ≡ true
  leaf-complete w = ok-is (no_packet item.kind w.may) ∙ rw (w.rules, w.range)

-- ---- its length

length-argument : (class : Class) (source : List ℕ) (item : Item) → (has_range class ≡ true → item.a + item.b ≤ length source)
    → length (write_argument class source item) ≡ argument_length class item.b
length-argument Four source item h = length-bytes 4 item.a
length-argument Eight source item h = simp (length-append, length-bytes)
length-argument Bare source item h = refl
length-argument Text source item h = length-string _ ∙ rw (length_part source item.a item.b (h refl))
length-argument Blob source item h = length-blob _ ∙ rw (length_part source item.a item.b (h refl))
length-argument Scalar source item h = length-bytes 4 item.a
length-argument Unknown source item h = refl

module _ (source : List ℕ) (item : Item) (class : Class) (s : sort_of item.kind ≡ Leaf class) where
  -- its data is as long as its class and its second number say
  pub leaf-data : range_ok source item ≡ true → length (write_data source (node item nil nil)) ≡ argument_length class item.b
  leaf-data r =
      let e = length-argument class source item (leaf-range source item class r s) in
      let d = ap length (data_is item nil nil source (Leaf class) (sym s)) in
      omega (arith, simp length-append at d, ap length (data-none source))

  -- and it has one tag
  pub leaf-tag : length (write_tags (node item nil nil)) ≡ 1
  leaf-tag =
      let d = ap length (tags-is item nil nil) in
      omega (arith, simp length-append at (rw s at d), ap length tags-none)
