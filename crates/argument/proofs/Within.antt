-- What is known of one argument's reading whatever its class: it lies in its part, and its fields fit a record.
use mathlib.Core.Path.{◌≡◌, refl, sym, subst}
use mathlib.Core.List.{List}
use Prim.Native.Nat.{ℕ, ◌+◌, ◌^◌, ◌<◌, ◌≤◌}
use native.Mathlib.Omega.{arith}
use borrow.Author.Tests.{leb-true}
use lib.Dec.{leb}
use lib.ListN.{length, get_or, drop}
use Rattle.refusal.specs.Refusal.{fault_offset}
use Rattle.refusal.specs.declared.Fault.{Fault}
use Rattle.refusal.specs.declared.Field.TheVariants.{Data}
use Rattle.wire.specs.Number.{number}
use Rattle.wire.proofs.Choices.{by-test}
use Rattle.text.proofs.Within.{found_in, lacks-low}
use Rattle.wire.proofs.Numbers.{number_small}
use Rattle.wire.proofs.Parts.{drop-small}
use Rattle.node.specs.Tags.{is_scalar}
use Rattle.node.specs.declared.record.Item.{Item}
use Rattle.node.specs.declared.tags.Class.{Class}
use Rattle.node.specs.declared.tags.Class.TheVariants.{Four, Eight, Bare, Text as String, Blob, Scalar, Unknown}
use Rattle.text.specs.Text.{reach, read_text}
use Rattle.argument.specs.Results.{Arg, Given}
use Rattle.std.specs.Prelude.{Err, Ok}
use Rattle.text.specs.Results.{Found, Text}
use Rattle.argument.specs.Argument.{read_arg, having, text_arg, arg_item}

-- ---- what holds of the numbers and of the bytes used

-- P holds of what is given; of a refusal nothing is said
abbrev pub Holds : (Item → ℕ → Type 0) → Arg → Type 0
Holds P (Ok given) = P given.item given.used
Holds P (Err k) = Unit {0}

module _ (P : Item → ℕ → Type 0) where
  -- of an argument that is read only if n bytes are there
  if-there : (n : ℕ) (l : List ℕ) (k : Fault) (x : Arg) → (n ≤ length l → Holds P x) → Holds P (having n l k x)
  if-there n l k x f = by-test (Holds P) (leb n (length l)) (λ h. f (leb-true n (length l) h)) (λ _. tt)

  -- of a text, if it holds of each that is found
  of-text : (tag offset p : ℕ) (t : Text) → ((n used : ℕ) → Found n used ≡ t → P (arg_item tag offset offset n) used)
      → Holds P (text_arg tag offset p t)
  of-text tag offset p (Ok text) f = f text.length text.used refl
  of-text tag offset p (Err k) f = tt

  -- five cases are enough for all classes
  module _ (tag base : ℕ) (l : List ℕ) (p : ℕ)
      (four : 4 ≤ length l → P (arg_item tag (base + p) (number 4 l) 0) 4)
      (eight : 8 ≤ length l → P (arg_item tag (base + p) (number 4 l) (number 4 (drop 4 l))) 8)
      (bare : P (arg_item tag (base + p) 0 0) 0)
      (string : (n used : ℕ) → Found n used ≡ read_text l p → P (arg_item tag (base + p) (base + p) n) used)
      (blob : 4 ≤ length l → reach p (4 + number 4 l) ≤ length l
      → P (arg_item tag (base + p) (base + (p + 4)) (number 4 l)) (reach p (4 + number 4 l))) where
    -- P holds of each argument, if it does of those five
    pub arg-holds : (class : Class) → Holds P (read_arg tag class base l p)
    unfolding read_arg
    arg-holds Four = if-there 4 l _ _ four
    arg-holds Eight = if-there 8 l _ _ eight
    arg-holds Bare = bare
    arg-holds String = of-text tag (base + p) p (read_text l p) string
    arg-holds Blob = if-there 4 l _ _ (λ h. if-there (4 + number 4 l) l _ _ (λ j. if-there (reach p (4 + number 4 l)) l _ _ (blob h)))
    arg-holds Scalar = if-there 4 l _ _ (λ h. by-test (Holds P) (is_scalar (number 4 l)) (λ _. four h) (λ _. tt))
    arg-holds Unknown = tt

-- an argument's data lies in its part
pub arg-within : (tag : ℕ) (class : Class) (base : ℕ) (l : List ℕ) (p : ℕ)
    → Holds (λ item used. used ≤ length l) (read_arg tag class base l p)
arg-within tag class base l p =
    arg-holds (λ item used. used ≤ length l) tag base l p (λ h. h) (λ h. h) (omega arith) (λ n used f. (found_in l p f).1) (λ h k. k) class

module _ {item : Item} {used : ℕ} (tag : ℕ) (class : Class) (base : ℕ) (l : List ℕ) (p : ℕ)
    (e : Given item used ≡ read_arg tag class base l p) where
  -- so does one that is given
  pub given-within : used ≤ length l
  given-within = subst (Holds (λ item used. used ≤ length l)) (sym e) (arg-within tag class base l p)

  -- its kind is its tag
  pub given-kind : item.kind ≡ tag
  given-kind =
      subst (Holds (λ item used. item.kind ≡ tag)) (sym e)
      (arg-holds (λ item used. item.kind ≡ tag) tag base l p (λ h. refl) (λ h. refl) refl (λ n used f. refl) (λ h k. refl) class)

  -- its data begins where it is read
  pub given-start : item.start ≡ base + p
  given-start =
      subst (Holds (λ item used. item.start ≡ base + p)) (sym e)
      (arg-holds (λ item used. item.start ≡ base + p) tag base l p (λ h. refl) (λ h. refl) refl (λ n used f. refl) (λ h k. refl) class)

  -- its fields and its start fit in 4 bytes
  pub given-fits : ((j : ℕ) → get_or l j 0 < 256) → base + p + length l < 256 ^ 4
      → (item.a < 256 ^ 4) × (item.b < 256 ^ 4) × (item.start < 256 ^ 4)
  given-fits bytes low =
      let P : Item → ℕ → Type 0 = λ item used. (item.a < 256 ^ 4) × (item.b < 256 ^ 4) × (item.start < 256 ^ 4) in
      let s : base + p < 256 ^ 4 = omega arith in
      let n : number 4 l < 256 ^ 4 = number_small 4 l bytes in
      let m : number 4 (drop 4 l) < 256 ^ 4 = number_small 4 (drop 4 l) (drop-small 4 l bytes) in
      subst (Holds P) (sym e)
      (arg-holds P tag base l p (λ h. (n, omega arith, s)) (λ h. (n, m, s)) (omega arith, omega arith, s)
      (λ k used f. (s, omega (arith, found_in l p f), s)) (λ h k. (omega arith, n, s)) class)

-- ---- the place of a fault

-- a fault begins no later than m; of what is given nothing is said
abbrev FaultLow : ℕ → Arg → Type 0
FaultLow m (Ok given) = Unit {0}
FaultLow m (Err k) = fault_offset k ≤ m

low-there : (m n : ℕ) (l : List ℕ) (k : Fault) (x : Arg) → fault_offset k ≤ m → (n ≤ length l → FaultLow m x) → FaultLow m (having n l k x)
low-there m n l k x h f = by-test (FaultLow m) (leb n (length l)) (λ g. f (leb-true n (length l) g)) (λ _. h)

low-text : (tag offset : ℕ) (l : List ℕ) (p : ℕ) (t : Text) → t ≡ read_text l p → FaultLow (p + length l) (text_arg tag offset p t)
low-text tag offset l p (Ok text) e = tt
low-text tag offset l p (Err lack) e = lacks-low Data l p e

fault-low : (tag : ℕ) (class : Class) (base : ℕ) (l : List ℕ) (p : ℕ) → FaultLow (p + length l) (read_arg tag class base l p)
unfolding read_arg
fault-low tag Four base l p = low-there (p + length l) 4 l _ _ (omega arith) (λ h. tt)
fault-low tag Eight base l p = low-there (p + length l) 8 l _ _ (omega arith) (λ h. tt)
fault-low tag Bare base l p = tt
fault-low tag String base l p = low-text tag (base + p) l p (read_text l p) refl
fault-low tag Blob base l p =
    low-there (p + length l) 4 l _ _ (omega arith)
    (λ h. low-there (p + length l) (4 + number 4 l) l _ _ (omega arith)
    (λ j. low-there (p + length l) (reach p (4 + number 4 l)) l _ _ (omega arith) (λ k. tt)))
fault-low tag Scalar base l p =
    low-there (p + length l) 4 l _ _ (omega arith)
    (λ h. by-test (FaultLow (p + length l)) (is_scalar (number 4 l)) (λ _. tt) (λ _. omega arith))
fault-low tag Unknown base l p = omega arith

-- the fault of an argument begins in its part or right after it
pub arg-low : {k : Fault} (tag : ℕ) (class : Class) (base : ℕ) (l : List ℕ) (p : ℕ) → Err k ≡ read_arg tag class base l p
    → fault_offset k ≤ p + length l
arg-low tag class base l p e = subst (FaultLow (p + length l)) (sym e) (fault-low tag class base l p)
