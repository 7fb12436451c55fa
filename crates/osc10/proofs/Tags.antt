-- The type tags of OSC 1.0 and the one table of tags that reader and writer go by: what each says of the other.
use mathlib.Core.Path.{◌≡◌, refl}
use mathlib.Core.Bool.{Bool, true, false, ◌||◌, ◌&&◌, false≢true}
use mathlib.Core.List.{List, [], ◌∷◌}
use Prim.Native.Nat.{ℕ, ◌^◌, ◌<◌}
use native.Mathlib.Omega.{arith}
use borrow.Author.Tests.{eqb-true, eqb-false, ltb-true, leb-true}
use lib.Dec.{eqb, leb, ltb}
use Rattle.node.specs.Tags.{array_kind, among, is_scalar, class_of, sort_of}
use Rattle.node.specs.declared.tags.Class.{Class}
use Rattle.node.specs.declared.tags.Class.TheVariants.{Four, Eight, Bare, Text, Blob, Scalar, Unknown}
use Rattle.node.specs.declared.tags.Sort.{Sort}
use Rattle.node.specs.declared.tags.Sort.TheVariants.{Opens, Closes, Leaf}
use Rattle.osc10.specs.Osc10.{Atom, word, long, bare, string, blob, char, words, longs, bares, AtomAllowed, tag_of}
use Rattle.osc10.specs.Strict.{All}
use Rattle.wire.proofs.Choices.{by-test}

-- ---- one of a list

-- what holds of each of a list holds of one of them
pub of-among : (P : ℕ → Type 0) (t : ℕ) (xs : List ℕ) → All P xs → among t xs ≡ true → P t
of-among P t [] a e = absurd (false≢true e)
of-among P t (x ∷ xs) a e = go (eqb t x) refl (of-among P t xs a.1) e
  where
    go : (b : Bool) → eqb t x ≡ b → (among t xs ≡ true → P t) → b || among t xs ≡ true → P t
    go true q later f = rw (eqb-true t x q) a.0
    go false q later f = later f

-- ---- from OSC 1.0 to the table

-- the class of an argument that is no array
abbrev pub class_is : Atom → Class
class_is (word tag x) = Four
class_is (long tag high low) = Eight
class_is (bare tag) = Bare
class_is (string text) = Text
class_is (blob content) = Blob
class_is (char x) = Scalar

-- its tag has that class
pub atom-sort : (v : Atom) → AtomAllowed v → sort_of (tag_of v) ≡ Leaf (class_is v)
unfolding sort_of class_of
atom-sort (word tag x) h = of-among (λ t. sort_of t ≡ Leaf Four) tag words (refl, (refl, (refl, (refl, tt)))) h.0
atom-sort (long tag high low) h = of-among (λ t. sort_of t ≡ Leaf Eight) tag longs (refl, (refl, (refl, tt))) h.0
atom-sort (bare tag) h = of-among (λ t. sort_of t ≡ Leaf Bare) tag bares (refl, (refl, (refl, (refl, tt)))) h
atom-sort (string text) h = refl
atom-sort (blob content) h = refl
atom-sort (char x) h = refl

-- ---- from the table to OSC 1.0

-- the tags of each class, as OSC 1.0 lists them
abbrev pub HasTag : ℕ → Class → Type 0
HasTag k Four = among k words ≡ true
HasTag k Eight = among k longs ≡ true
HasTag k Bare = among k bares ≡ true
HasTag k Text = k ≡ 115
HasTag k Blob = k ≡ 98
HasTag k Scalar = k ≡ 99
HasTag k Unknown = Unit {0}

has_tag : (k : ℕ) → HasTag k (class_of k)
unfolding class_of
has_tag k =
    by-test (HasTag k) (among k (102 ∷ 105 ∷ 109 ∷ 114 ∷ []))
    (of-among (λ t. among t words ≡ true) k (102 ∷ 105 ∷ 109 ∷ 114 ∷ []) (refl, (refl, (refl, (refl, tt)))))
    (λ _. by-test (HasTag k) (among k (100 ∷ 104 ∷ 116 ∷ []))
    (of-among (λ t. among t longs ≡ true) k (100 ∷ 104 ∷ 116 ∷ []) (refl, (refl, (refl, tt))))
    (λ _. by-test (HasTag k) (among k (70 ∷ 73 ∷ 78 ∷ 84 ∷ []))
    (of-among (λ t. among t bares ≡ true) k (70 ∷ 73 ∷ 78 ∷ 84 ∷ []) (refl, (refl, (refl, (refl, tt)))))
    (λ _. by-test (HasTag k) (eqb k 115) (eqb-true k 115)
    (λ _. by-test (HasTag k) (eqb k 98) (eqb-true k 98)
    (λ _. by-test (HasTag k) (eqb k 99) (eqb-true k 99) (λ _. tt))))))

-- what the sort of a kind says of it
abbrev pub HasSort : ℕ → Sort → Type 0
HasSort k Opens = k ≡ array_kind
HasSort k Closes = k ≡ 93
HasSort k (Leaf class) = (k ≡ array_kind → ⊥) × HasTag k class

-- every kind is of its sort, and its tag one of those that OSC 1.0 lists for its class
pub has-sort : (k : ℕ) → HasSort k (sort_of k)
unfolding sort_of
has-sort k =
    by-test (HasSort k) (eqb k array_kind) (eqb-true k array_kind)
    (λ e. by-test (HasSort k) (eqb k 93) (eqb-true k 93) (λ _. (eqb-false k array_kind e, has_tag k)))

-- a scalar number fits 4 bytes
pub scalar-small : (x : ℕ) → is_scalar x ≡ true → x < 256 ^ 4
scalar-small x e = low (ltb x 55296) refl e
  where
    high : (b : Bool) → leb 57344 x ≡ b → b && leb x 1114111 ≡ true → x < 256 ^ 4
    high true q f = omega (arith, leb-true x 1114111 f)
    high false q f = absurd (false≢true f)

    low : (b : Bool) → ltb x 55296 ≡ b → b || (leb 57344 x && leb x 1114111) ≡ true → x < 256 ^ 4
    low true q f = omega (arith, ltb-true x 55296 q)
    low false q f = high (leb 57344 x) refl f
