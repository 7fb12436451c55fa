-- A text that was found lies in its part, and is UTF-8; what a text lacks begins in its part or right after it.
use mathlib.Core.Path.{◌≡◌, refl, sym, subst}
use mathlib.Core.Bool.{true}
use mathlib.Core.List.{List}
use Prim.Native.Nat.{ℕ, ◌+◌, ◌<◌, ◌≤◌}
use native.Mathlib.Omega.{arith}
use borrow.Author.Tests.{ltb-true}
use lib.Dec.{ltb}
use lib.ListN.{length, take}
use Rattle.refusal.specs.Refusal.{fault_offset}
use Rattle.refusal.specs.declared.Field.{Field}
use Rattle.wire.proofs.Choices.{by-test, by_le}
use Rattle.utf8.specs.Derive.{utf8}
use Rattle.text.specs.Text.{reach, until_nul, read_text, fault_in}
use Rattle.text.specs.declared.Lack.{Lack}
use Rattle.std.specs.Prelude.{Err, Ok}
use Rattle.text.specs.Results.{Found, Text}

-- a text that is found lies in the input, with its NUL and padding, and is UTF-8
abbrev pub TextIn : List ℕ → Text → Type 0
TextIn l (Ok text) = (text.length < text.used) × (text.used ≤ length l) × (utf8 (take text.length l) ≡ true)
TextIn l (Err k) = Unit {0}

-- every text does
pub text-within : (l : List ℕ) (p : ℕ) → TextIn l (read_text l p)
unfolding read_text
text-within l p =
    by-test (TextIn l) (ltb (until_nul l) (length l))
    (λ h. by_le (TextIn l) (reach p (until_nul l + 1)) (length l)
    (λ k. by-test (TextIn l) (utf8 (take (until_nul l) l)) (λ e. (omega arith, k, e)) (λ e. tt))
    (λ k. tt))
    (λ h. tt)

-- the same of one that was found
pub found_in : {n used : ℕ} (l : List ℕ) (p : ℕ) → Found n used ≡ read_text l p → (n < used) × (used ≤ length l) × (utf8 (take n l) ≡ true)
found_in l p e = subst (TextIn l) (sym e) (text-within l p)

-- what a text lacks, whichever field it is, begins no later than its part ends
abbrev LackLow : ℕ → ℕ → Text → Type 0
LackLow p m (Ok text) = Unit {0}
LackLow p m (Err lack) = (field : Field) → fault_offset (fault_in field p lack) ≤ p + m

-- every text does
lacks-within : (l : List ℕ) (p : ℕ) → LackLow p (length l) (read_text l p)
unfolding read_text
lacks-within l p =
    by-test (LackLow p (length l)) (ltb (until_nul l) (length l))
    (λ h. by_le (LackLow p (length l)) (reach p (until_nul l + 1)) (length l)
    (λ k. by-test (LackLow p (length l)) (utf8 (take (until_nul l) l)) (λ e. tt) (λ e field. omega arith))
    (λ k field. omega (arith, ltb-true (until_nul l) (length l) h)))
    (λ h field. omega arith)

-- the same of one that lacks something
pub lacks-low : {lack : Lack} (field : Field) (l : List ℕ) (p : ℕ) → Err lack ≡ read_text l p
    → fault_offset (fault_in field p lack) ≤ p + length l
lacks-low field l p e = subst (LackLow p (length l)) (sym e) (lacks-within l p) field

-- where a text that is found ends, and what it takes
abbrev TextEnds : List ℕ → ℕ → Text → Type 0
TextEnds l p (Ok text) = (text.length ≡ until_nul l) × (text.used ≡ reach p (text.length + 1))
TextEnds l p (Err k) = Unit {0}

text-ends : (l : List ℕ) (p : ℕ) → TextEnds l p (read_text l p)
unfolding read_text
text-ends l p =
    by-test (TextEnds l p) (ltb (until_nul l) (length l))
    (λ h. by_le (TextEnds l p) (reach p (until_nul l + 1)) (length l)
    (λ k. by-test (TextEnds l p) (utf8 (take (until_nul l) l)) (λ e. (refl, refl)) (λ e. tt))
    (λ k. tt))
    (λ h. tt)

-- a text that was found ends at its first NUL, and takes its padding: up to 3 bytes
pub found-ends : {n used : ℕ} (l : List ℕ) (p : ℕ) → Found n used ≡ read_text l p → (n ≡ until_nul l) × (used ≡ reach p (n + 1))
found-ends l p e = subst (TextEnds l p) (sym e) (text-ends l p)
