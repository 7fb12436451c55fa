-- Hexadecimal digits read from left to right, and the parts of a word.
use Rattle.std.specs.Prelude.{Some, None}
use mathlib.Core.Path.{◌≡◌, sym, ap, ◌∙◌}
use mathlib.Core.List.{List}
use Prim.Native.Nat.{ℕ, ◌+◌, ◌*◌, ◌^◌, ◌≤◌, ◌<◌}
use native.Mathlib.Nat.{pow-suc, pow-le-pow_right}
use native.Mathlib.Numerals.{add-one}
use native.Mathlib.Omega.{arith}
use lib.ListN.{length, drop, get_or}
use lib.Seq.{drop-cons, drop-length}
use borrow.Author.Tests.{eq-eqb, ne_eqb}
use Rattle.time_words.specs.Tags.{hex_of, hex_more, tag_in}

-- a number of i digits is below 16 to the power of i; so one digit more fits, as long as there are at most 16
pub digit-fits : (x d i : ℕ) → x < 16 ^ i → d < 16 → i < 16 → (x * 16 + d < 16 ^ (i + 1)) × (x * 16 + d < 0x1_0000_0000_0000_0000)
digit-fits x d i h k l =
    let more : 16 ^ (i + 1) ≡ 16 ^ i * 16 = rw add-one (pow-suc 16 i) in
    let most : 16 ^ (i + 1) ≤ 16 ^ 16 = pow-le-pow_right {n = 16} (omega arith) {i = i + 1} {j = 16} (omega arith) in
    (omega arith, omega arith)

module _ (word : List ℕ) (i x : ℕ) where
  -- a byte that is no digit
  pub no-hex : i < length word → hex_of (get_or word i 0) ≡ 16 → hex_more (drop i word) x ≡ None
  unfolding hex_more
  no-hex h e = rw (drop-cons word i 0 h, eq-eqb _ _ e)

  -- a digit, and then the rest
  pub hex-read : i < length word → (hex_of (get_or word i 0) ≡ 16 → ⊥)
      → hex_more (drop i word) x ≡ hex_more (drop (i + 1) word) (x * 16 + hex_of (get_or word i 0))
  unfolding hex_more
  hex-read h e = rw (drop-cons word i 0 h, ne_eqb _ _ e, add-one)

  -- all digits are read
  pub hex-all : i ≡ length word → hex_more (drop i word) x ≡ Some x
  unfolding hex_more
  hex-all h = rw (h, drop-length)

-- the tag so far, of i digits, and the rest of the word make its tag
pub record SoFar (word : List ℕ) (tag i : ℕ) : Type 0 where
  pub sixteen : length word ≡ 16
  pub within : i ≤ 16
  pub fits : tag < 16 ^ i
  pub rest : tag_in word ≡ hex_more (drop i word) tag

-- one digit more
pub one_more : {word : List ℕ} {tag i v : ℕ} → SoFar word tag i → i < length word → v ≡ hex_of (get_or word i 0) → v ≤ 16 → (v ≡ 16 → ⊥)
    → SoFar word (tag * 16 + v) (i + 1)
one_more {word} {tag} {i} {v} s h e l n =
    let fit = digit-fits tag v i s.fits (omega arith) (omega (arith, s.sixteen)) in
    let no : hex_of (get_or word i 0) ≡ 16 → ⊥ = λ q. n (e ∙ q) in
    record {
      sixteen = s.sixteen;
      within = omega (arith, s.sixteen);
      fits = fit.0;
      rest = s.rest ∙ hex-read word i tag h no ∙ ap (λ (x : ℕ). hex_more (drop (i + 1) word) (tag * 16 + x)) (sym e);
    }
