-- What an argument that is given shows: its bytes are there, its text is found, its number is a scalar number. So its answer is known
-- without a test.
use mathlib.Core.Path.{◌≡◌, refl, ap, sym, subst, ◌∙◌}
use mathlib.Core.Bool.{true}
use mathlib.Core.List.{List, [], ◌∷◌}
use Prim.Native.Nat.{ℕ, ◌+◌, ◌-◌, ◌*◌, ◌/◌, ◌≤◌}
use native.Mathlib.Omega.{arith}
use types.Run.{OneOf, miss}
use denote.Enum.Declared.{tag_of}
use lib.ListN.{length}
use Rattle.refusal.specs.declared.Fault.{Fault}
use Rattle.wire.specs.Number.{number}
use Rattle.wire.proofs.Choices.{by-test, by_le}
use Rattle.node.specs.Tags.{is_scalar}
use Rattle.node.specs.declared.record.Item.{Item}
use Rattle.node.specs.declared.tags.Class.{Class}
use Rattle.node.specs.declared.tags.Class.TheVariants.{Four, Eight, Bare, Text as String, Blob, Scalar, Unknown}
use Rattle.node.specs.contracts.tags.Class.{the_type}
use Rattle.text.specs.CodeFound.{TextFound}
use Rattle.text.specs.Text.{reach, read_text}
use Rattle.argument.specs.Results.{Arg, Given}
use Rattle.std.specs.Prelude.{Err, Ok}
use Rattle.text.specs.Results.{Text}
use Rattle.argument.specs.Argument.{read_arg, having, text_arg, arg_item}
use Rattle.argument.specs.CodeRead.{ArgRead}
use Rattle.argument.proofs.Argued.{four-given, scalar-given, blob-given}

-- what is there for an argument of each class
abbrev pub There : Class → List ℕ → ℕ → Type 0
There Four l p = 4 ≤ length l
There Eight l p = 8 ≤ length l
There Bare l p = Unit {0}
There String l p = TextFound l p
There Blob l p = (4 ≤ length l) × (4 + number 4 l ≤ length l) × (reach p (4 + number 4 l) ≤ length l)
There Scalar l p = (4 ≤ length l) × (is_scalar (number 4 l) ≡ true)
There Unknown l p = ⊥

-- an argument that is read only if n bytes are there
having-given : (n : ℕ) (l : List ℕ) (k : Fault) (x : Arg) → ArgRead (having n l k x) → (n ≤ length l) × ArgRead x
having-given n l k x = by_le (λ (y : Arg). ArgRead y → (n ≤ length l) × ArgRead x) n (length l) (λ h g. (h, g)) (λ _ g. absurd g)

-- an argument that is given has what is there for its class
given-there : (tag : ℕ) (class : Class) (base : ℕ) (l : List ℕ) (p : ℕ) → ArgRead (read_arg tag class base l p) → There class l p
unfolding read_arg
given-there tag Four base l p g = (having-given 4 l _ _ g).0
given-there tag Eight base l p g = (having-given 8 l _ _ g).0
given-there tag Bare base l p g = tt
given-there tag String base l p g = by-text (read_text l p) refl g
  where
    by-text : (t : Text) → read_text l p ≡ t → ArgRead (text_arg tag (base + p) p t) → TextFound l p
    by-text (Ok text) e g = (text.length, text.used, e)
    by-text (Err lack) e g = absurd g
given-there tag Blob base l p g =
    let a = having-given 4 l _ _ g in
    let b = having-given (4 + number 4 l) l _ _ a.1 in
    (a.0, b.0, (having-given (reach p (4 + number 4 l)) l _ _ b.1).0)
given-there tag Scalar base l p g =
    let a = having-given 4 l _ _ g in
    (a.0, by-test (λ (y : Arg). ArgRead y → is_scalar (number 4 l) ≡ true) (is_scalar (number 4 l)) (λ e _. e) (λ _ g. absurd g) a.1)
given-there tag Unknown base l p g = g

-- the same of the class that a match found
pub there : {class k : Class} (tag base : ℕ) (l : List ℕ) (p : ℕ) → class ≡ k → ArgRead (read_arg tag class base l p) → There k l p
there {class} tag base l p e g = subst (λ (c : Class). There c l p) e (given-there tag class base l p g)

-- ---- the answers, for the class that a match found

-- numbers that are those of the answer
pub with-numbers : {x : Arg} {item item' : Item} {used used' : ℕ} → Given item' used' ≡ x → (item ≡ item') × (used ≡ used')
    → x ≡ Given item used
with-numbers e w = rw (w.0, w.1) (sym e)

module _ (tag base : ℕ) (l : List ℕ) (p : ℕ) where
  -- 4 bytes are there, which are the first field: plain ones, or a scalar number
  pub four-again : (class : Class) → OneOf (0 ∷ 5 ∷ []) (tag_of the_type class) → ArgRead (read_arg tag class base l p)
      → (4 ≤ length l) × ((x : ℕ) → x ≡ number 4 l → Given (arg_item tag (base + p) x 0) 4 ≡ read_arg tag class base l p)
  four-again Four h g = let w = given-there tag Four base l p g in (w, λ x e. four-given l tag base p w e)
  four-again Eight h g = absurd (miss (0 ∷ 5 ∷ []) 1 tt h)
  four-again Bare h g = absurd (miss (0 ∷ 5 ∷ []) 2 tt h)
  four-again String h g = absurd (miss (0 ∷ 5 ∷ []) 3 tt h)
  four-again Blob h g = absurd (miss (0 ∷ 5 ∷ []) 4 tt h)
  four-again Scalar h g =
      let w = given-there tag Scalar base l p g in
      (w.0, λ x e. scalar-given l tag base p w.0 e (ap is_scalar e ∙ w.1))
  four-again Unknown h g = absurd (miss (0 ∷ 5 ∷ []) 6 tt h)

  -- a blob is all there: its answer, with its start by itself
  pub blob-again : {n : ℕ} → There Blob l p → n ≡ number 4 l
      → Given (arg_item tag (base + p) (base + p + 4) n) ((p + (4 + n) + 3) / 4 * 4 - p) ≡ read_arg tag Blob base l p
  blob-again {n} w e =
      let t : base + p + 4 - 4 ≡ base + p = omega arith in
      rw t at (blob-given l tag base p w.0 e (omega (arith, w.1)) (omega (arith, w.2)))

  -- of an argument that is given, what the other classes leave over is one without data
  pub bare-left : (class : Class) → OneOf (2 ∷ 6 ∷ []) (tag_of the_type class) → ArgRead (read_arg tag class base l p)
      → Given (arg_item tag (base + p) 0 0) 0 ≡ read_arg tag class base l p
  unfolding read_arg
  bare-left Four h g = absurd (miss (2 ∷ 6 ∷ []) 0 tt h)
  bare-left Eight h g = absurd (miss (2 ∷ 6 ∷ []) 1 tt h)
  bare-left Bare h g = refl
  bare-left String h g = absurd (miss (2 ∷ 6 ∷ []) 3 tt h)
  bare-left Blob h g = absurd (miss (2 ∷ 6 ∷ []) 4 tt h)
  bare-left Scalar h g = absurd (miss (2 ∷ 6 ∷ []) 5 tt h)
  bare-left Unknown h g = absurd g
