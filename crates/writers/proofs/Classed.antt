-- What a record's kind says of its range, its tags and its data.
use mathlib.Core.Path.{◌≡◌, refl, sym, ap, ◌∙◌}
use mathlib.Core.Bool.{Bool, true, false, cond, false≢true}
use mathlib.Core.List.{List, [], ◌∷◌, ◌++◌, append_assoc, append-nil}
use mathlib.Core.Logic.{◌⊎◌, inl, inr, ⊎_elim}
use Prim.Native.Nat.{ℕ, ◌+◌, ◌≤◌}
use lib.Dec.{eqb}
use native.Mathlib.Omega.{arith}
use lib.ListN.{length, length-append}
use borrow.Author.Tests.{eqb-true, ne_eqb, leb-true}
use Rattle.utf8.specs.Derive.{utf8}
use Rattle.node.specs.Forest.{Forest, nil, node}
use Rattle.node.specs.Tags.{message_kind, array_kind, sort_of, class_of, among}
use Rattle.node.specs.declared.record.Item.{Item}
use Rattle.node.specs.declared.tags.Class.{Class}
use Rattle.node.specs.declared.tags.Class.TheVariants.{Four, Eight, Bare, Text, Blob, Scalar, Unknown}
use Rattle.node.specs.declared.tags.Sort.{Sort}
use Rattle.node.specs.declared.tags.Sort.TheVariants.{Opens, Closes, Leaf}
use Rattle.wire.proofs.Choices.{then-only, else-only}
use Rattle.wire.specs.Part.{part, inside}
use Rattle.table.specs.Formed.{text_ok, range_ok}
use Rattle.writers.specs.Osc.{data_by, write_data, tags_by, write_tags, write_message, write_bundle, write_element, write_elements}
use Rattle.writers.specs.Osc.{write_packet}
use Rattle.strings.specs.CodeStrings.{has_range}

-- two sorts, or two classes, that a test tells apart
apart : {A : Type 0} (f : A → Bool) (x y : A) → f x ≡ false → f y ≡ true → x ≡ y → ⊥
apart f x y p q e = false≢true (sym p ∙ ap f e ∙ q)

-- ---- the kind of an array, and of a range

abbrev opening : Sort → Bool
opening Opens = true
opening Closes = false
opening (Leaf class) = false

abbrev leafy : Sort → Bool
leafy Opens = false
leafy Closes = false
leafy (Leaf class) = true

-- [ opens an array
pub opens : (k : ℕ) → k ≡ array_kind → sort_of k ≡ Opens
unfolding sort_of
opens k e = rw e

-- no other kind does
pub opens-only : (k : ℕ) → sort_of k ≡ Opens → k ≡ array_kind
unfolding sort_of
opens-only k e =
    eqb-true k array_kind (then-only (eqb k array_kind) Opens e
    (λ f. apart opening (Leaf (class_of k)) Opens refl refl (else-only (eqb k 93) f (apart opening Closes Opens refl refl))))

class-of : (k : ℕ) (class : Class) → sort_of k ≡ Leaf class → class_of k ≡ class
unfolding sort_of
class-of k class e =
    let f : Leaf (class_of k) ≡ Leaf class
    = else-only (eqb k 93) (else-only (eqb k array_kind) e (apart leafy Opens (Leaf class) refl refl))
    (apart leafy Closes (Leaf class) refl refl) in
    cc

skip : (x : Bool) (p q : Class) → has_range p ≡ false → has_range (cond x p q) ≡ true → has_range q ≡ true
skip true p q n e = absurd (false≢true (sym n ∙ e))
skip false p q n e = e

-- only s and b have a range
ranged-kind : (k : ℕ) → has_range (class_of k) ≡ true → (k ≡ 115) ⊎ (k ≡ 98)
unfolding class_of
ranged-kind k e =
    let late = cond (eqb k 115) Text (cond (eqb k 98) Blob (cond (eqb k 99) Scalar Unknown)) in
    let bare = among k (70 ∷ 73 ∷ 78 ∷ 84 ∷ []) in
    let eight = among k (100 ∷ 104 ∷ 116 ∷ []) in
    let four = among k (102 ∷ 105 ∷ 109 ∷ 114 ∷ []) in
    text (eqb k 115) refl
    (skip bare Bare late refl
    (skip eight Eight (cond bare Bare late) refl (skip four Four (cond eight Eight (cond bare Bare late)) refl e)))
  where
    blob : (x : Bool) → has_range (cond x Blob (cond (eqb k 99) Scalar Unknown)) ≡ true → x ≡ true
    blob true e = refl
    blob false e = absurd (false≢true (skip (eqb k 99) Scalar Unknown refl e))

    text : (x : Bool) → eqb k 115 ≡ x → has_range (cond x Text (cond (eqb k 98) Blob (cond (eqb k 99) Scalar Unknown))) ≡ true
        → (k ≡ 115) ⊎ (k ≡ 98)
    text true q e = inl (eqb-true k 115 q)
    text false q e = inr (eqb-true k 98 (blob (eqb k 98) e))

-- a range that is UTF-8 lies in the source
text-range : (source : List ℕ) (item : Item) → text_ok source item.a item.b ≡ true → item.a + item.b ≤ length source
text-range source item r =
    leb-true _ _ (then-only (inside source item.a item.b) (utf8 (part source item.a item.b)) r false≢true)

-- the range of a text or a blob lies in the source
pub leaf-range : (source : List ℕ) (item : Item) (class : Class) → range_ok source item ≡ true → sort_of item.kind ≡ Leaf class
    → has_range class ≡ true → item.a + item.b ≤ length source
unfolding range_ok
leaf-range source item class r s e =
    ⊎_elim
    (λ q. text-range source item (rw q at r))
    (λ q. leb-true _ _ (rw q at r))
    (ranged-kind item.kind (rw (class-of item.kind class s) e))

-- and so does an address
pub address-range : (source : List ℕ) (item : Item) → range_ok source item ≡ true → item.kind ≡ message_kind
    → item.a + item.b ≤ length source
unfolding range_ok
address-range source item r q = text-range source item (rw q at r)

-- ---- the first node's tags and data

tags-by-leaf : (sort : Sort) (k : ℕ) (within : List ℕ) → (sort ≡ Opens → ⊥) → tags_by sort k within ≡ k ∷ []
tags-by-leaf Opens k within n = absurd (n refl)
tags-by-leaf Closes k within n = refl
tags-by-leaf (Leaf class) k within n = refl

tags-by-some : (sort : Sort) (k : ℕ) (within : List ℕ) → 1 ≤ length (tags_by sort k within)
tags-by-some Opens k within = omega arith
tags-by-some Closes k within = omega arith
tags-by-some (Leaf class) k within = omega arith

-- no arguments have no tags
pub tags-none : write_tags nil ≡ []
unfolding write_tags
tags-none = refl

-- no arguments have no data
pub data-none : (source : List ℕ) → write_data source nil ≡ []
unfolding write_data
data-none source = refl

-- no elements have no bytes
pub elements-none : (source : List ℕ) → write_elements source nil ≡ []
unfolding write_elements
elements-none source = refl

module _ (item : Item) (inside rest : Forest) where
  -- an argument has a tag
  pub tags-some : 1 ≤ length (write_tags (node item inside rest))
  unfolding write_tags
  tags-some = simp length-append (omega (arith, tags-by-some (sort_of item.kind) item.kind (write_tags inside)))

  -- an array's tags stand in brackets, before those of the arguments after it
  pub tags-array : item.kind ≡ array_kind
      → write_tags (node item inside rest) ≡ (item.kind ∷ (write_tags inside ++ (93 ∷ []))) ++ write_tags rest
  unfolding write_tags
  tags-array e = rw (opens item.kind e)

  -- any other argument has its kind as its tag
  pub tags-leaf : (item.kind ≡ array_kind → ⊥) → write_tags (node item inside rest) ≡ (item.kind ∷ []) ++ write_tags rest
  unfolding write_tags
  tags-leaf n = rw (tags-by-leaf (sort_of item.kind) item.kind (write_tags inside) (λ e. n (opens-only item.kind e)))

  -- the tags of the first argument stand before those of the rest
  pub tags-is : write_tags (node item inside rest) ≡ tags_by (sort_of item.kind) item.kind (write_tags inside) ++ write_tags rest
  unfolding write_tags
  tags-is = refl

  -- the data of the first argument stands before that of the rest
  pub data_is : (source : List ℕ) (sort : Sort) → sort ≡ sort_of item.kind
      → write_data source (node item inside rest) ≡ data_by sort source item (write_data source inside) ++ write_data source rest
  unfolding write_data
  data_is source sort e = rw e

  -- the first element stands before the rest
  pub elements-is : (source : List ℕ)
      → write_elements source (node item inside rest) ≡ write_element (write_packet source item inside) ++ write_elements source rest
  unfolding write_elements write_packet
  elements-is source = refl

-- ---- a packet by its kind

module _ (source : List ℕ) (item : Item) (inside : Forest) where
  -- a packet whose kind is / is a message
  pub message-is : item.kind ≡ message_kind → write_packet source item inside ≡ write_message source item inside
  unfolding write_packet
  message-is e = rw e

  -- any other packet is a bundle: its head, and its elements
  pub bundle-is : (item.kind ≡ message_kind → ⊥) → write_packet source item inside ≡ write_bundle item [] ++ write_elements source inside
  unfolding write_packet write_bundle
  bundle-is n = rw (ne_eqb item.kind message_kind n) (simp (append_assoc, append-nil))
