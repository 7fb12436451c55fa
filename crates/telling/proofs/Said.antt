-- What a line says, by what it is made of.
use mathlib.Core.Path.{◌≡◌, refl, sym, ap, ap₂, ◌∙◌, subst}
use mathlib.Core.Bool.{Bool, true, false, not}
use mathlib.Core.List.{List, [], ◌∷◌}
use Prim.Native.Nat.{ℕ}
use Prim.Native.String.{String}
use native.Mathlib.Omega.{arith}
use types.Run.{OneOf, miss}
use denote.Enum.Declared.{tag_of}
use lib.Dec.{T, le→leb}
use lib.IntN.{ℤ, pos, negsuc, nat_abs}
use lib.Signed.{◌<ℤ◌, lt_z, lt_z_no, non_neg, yes_non_neg, clash_ℤ}
use mir.Syntax.{w64}
use mir.Val.{SFits, to_z, of_z}
use mir.Facts.{to_z-of_z}
use Rattle.values.specs.declared.value.OscType.{OscType}
use Rattle.values.specs.declared.value.OscType.TheVariants as value
use Rattle.values.specs.contracts.value.OscType as kinds
use Rattle.telling.specs.Shown.{shown_as, sign_words, value_line}

-- ---- values that hold nothing

-- their cases in the enum, by their places
abbrev bare : List ℕ
bare = 12 ∷ 13 ∷ 14 ∷ 15 ∷ []

-- a value of such a case has no words
pub bare-shown : (i k e : ℕ) (v : OscType) → OneOf bare (tag_of kinds.the_type v) → shown_as i k e "" [] ≡ value_line i k e v
bare-shown i k e (value.Message x y) h = absurd (miss bare 0 tt h)
bare-shown i k e (value.Bundle x) h = absurd (miss bare 1 tt h)
bare-shown i k e (value.Int x) h = absurd (miss bare 2 tt h)
bare-shown i k e (value.Float x y) h = absurd (miss bare 3 tt h)
bare-shown i k e (value.String x y) h = absurd (miss bare 4 tt h)
bare-shown i k e (value.Blob x y) h = absurd (miss bare 5 tt h)
bare-shown i k e (value.Time x) h = absurd (miss bare 6 tt h)
bare-shown i k e (value.Long x) h = absurd (miss bare 7 tt h)
bare-shown i k e (value.Double x y) h = absurd (miss bare 8 tt h)
bare-shown i k e (value.Char x) h = absurd (miss bare 9 tt h)
bare-shown i k e (value.Color x) h = absurd (miss bare 10 tt h)
bare-shown i k e (value.Midi x) h = absurd (miss bare 11 tt h)
bare-shown i k e (value.Bool x) h = refl
bare-shown i k e value.Nil h = refl
bare-shown i k e value.Inf h = refl
bare-shown i k e value.Array h = refl

-- ---- signs

below : (z : ℤ) → z <ℤ pos 0 → " -%" ≡ sign_words z
below (pos n) h = clash_ℤ h (record { le = le→leb 0 n (omega arith) })
below (negsuc n) h = refl

above : (z : ℤ) → T (non_neg z) → " %" ≡ sign_words z
above (pos n) h = refl
above (negsuc n) h = absurd h

-- a number as the machine reads it from its bits
abbrev read : ℤ → ℤ
read z = to_z w64 (of_z w64 z)

module _ (i k e : ℕ) {n : ℕ} {z : ℤ} (f : SFits w64 z) (q : n ≡ nat_abs (read z)) where
  shown : {words : String} → words ≡ sign_words z → shown_as i k e words (n ∷ []) ≡ shown_as i k e (sign_words z) (nat_abs z ∷ [])
  shown w = ap₂ (λ (words : String) (m : ℕ). shown_as i k e words (m ∷ [])) w (q ∙ ap nat_abs (to_z-of_z f))

  -- a number that the machine finds below 0 is written with a sign
  pub with-sign : lt_z (read z) (pos 0) ≡ true → shown_as i k e " -%" (n ∷ []) ≡ shown_as i k e (sign_words z) (nat_abs z ∷ [])
  with-sign h = shown (below z (subst (λ (y : ℤ). y <ℤ pos 0) (to_z-of_z f) (record { lt = subst T (sym h) tt })))

  -- another without
  pub without_sign : lt_z (read z) (pos 0) ≡ false → shown_as i k e " %" (n ∷ []) ≡ shown_as i k e (sign_words z) (nat_abs z ∷ [])
  without_sign h =
      let l : T (not (lt_z (read z) (pos 0))) = subst (λ (t : Bool). T (not t)) (sym h) tt in
      shown (above z (subst (λ (y : ℤ). T (non_neg y)) (to_z-of_z f) (yes_non_neg {z = read z} (lt_z_no {a = read z} {b = pos 0} l))))
