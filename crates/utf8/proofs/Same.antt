-- Tests whether two lists of rows of ranges are equal, and whether two answers are; what passes them is equal.
use mathlib.Core.Path.{◌≡◌, refl, ap₂}
use mathlib.Core.Bool.{Bool, true, false, ◌&&◌}
use mathlib.Core.List.{List, [], ◌∷◌}
use lib.Dec.{T, eqb, eqb→eq}
use mir.Facts.{and_yes}
use Rattle.utf8.specs.Utf8.{Range, to}

-- two lists, by a test of their elements
abbrev same-list : {A : Type 0} → (A → A → Bool) → List A → List A → Bool
same-list f [] [] = true
same-list f [] (y ∷ ys) = false
same-list f (x ∷ xs) [] = false
same-list f (x ∷ xs) (y ∷ ys) = f x y && same-list f xs ys

same-list→eq : {A : Type 0} (f : A → A → Bool) → ((x y : A) → T (f x y) → x ≡ y) → (xs ys : List A) → T (same-list f xs ys) → xs ≡ ys
same-list→eq f h [] [] t = refl
same-list→eq f h [] (y ∷ ys) t = absurd t
same-list→eq f h (x ∷ xs) [] t = absurd t
same-list→eq f h (x ∷ xs) (y ∷ ys) t =
    ap₂ ◌∷◌ (h x y (and_yes (f x y) (same-list f xs ys) t).0)
    (same-list→eq f h xs ys (and_yes (f x y) (same-list f xs ys) t).1)

-- two ranges, by their ends
abbrev same-range : Range → Range → Bool
same-range (to a b) (to c d) = eqb a c && eqb b d

same-range→eq : (r s : Range) → T (same-range r s) → r ≡ s
same-range→eq (to a b) (to c d) t =
    ap₂ to (eqb→eq a c (and_yes (eqb a c) (eqb b d) t).0) (eqb→eq b d (and_yes (eqb a c) (eqb b d) t).1)

-- two lists of rows
abbrev pub same_rows : List (List Range) → List (List Range) → Bool
same_rows = same-list (same-list same-range)

-- lists of rows that are told the same are equal
pub same-rows→eq : (xs ys : List (List Range)) → T (same_rows xs ys) → xs ≡ ys
same-rows→eq = same-list→eq (same-list same-range) (same-list→eq same-range same-range→eq)

-- two answers
abbrev pub same : Bool → Bool → Bool
same true b = b
same false true = false
same false false = true

-- so are truth values
pub same→eq : (a b : Bool) → T (same a b) → a ≡ b
same→eq true true t = refl
same→eq true false t = absurd t
same→eq false true t = absurd t
same→eq false false t = refl
