-- How long the line of a refusal may be, so that it has room where its words are taken from it.
use mathlib.Core.Path.{◌≡◌, refl, sym, ap, ◌∙◌}
use mathlib.Core.Bool.{Bool, true, false, cond}
use mathlib.Core.List.{List, [], ◌∷◌}
use Prim.Native.Nat.{ℕ, zero, suc, ◌+◌, ◌-◌, ◌*◌, ◌/◌, ◌%◌, ◌≤◌}
use Prim.Native.String.{String}
use native.Mathlib.Omega.{arith}
use borrow.Author.Tests.{leb-true}
use lib.Dec.{eqb, leb, ltb}
use lib.ListN.{length, get_or, take, drop, length-append}
use lib.Seq.{take_all, take-take, length-take-le}
use Rattle.io.specs.Digits.{hex_digit_ascii, last_digits}
use Rattle.refusal.specs.Refusal.{number_of, offset_of}
use Rattle.refusal.specs.declared.Refusal.{Refusal}
use Rattle.wire.proofs.Choices.{by-test}
use Rattle.words.specs.Ascii.{ascii}
use Rattle.telling.specs.Decimal.{decimal_by, decimal_of, eight_of}
use Rattle.telling.specs.Forms.{piece_of, taken_by, filled_in, Says}
use Rattle.telling.specs.Refusals.{refused_forms, refused_form, numbered_line, refused_line, refused_words}
use Rattle.telling.specs.CodePut.{words_room, FrontIs}
use Rattle.words.proofs.Tables.{both, beside_of}
use Rattle.telling.proofs.Tables.{refused-words}

-- a number in decimal
decimal-short : (k x : ℕ) → length (decimal_by k x) ≤ suc k
unfolding decimal_by
decimal-short zero x = omega arith
decimal-short (suc k) x =
    by-test (λ (l : List ℕ). length l ≤ suc (suc k)) (ltb x 10) (λ _. omega arith)
    (λ _. omega (arith, length-append (decimal_by k (x / 10)) ((48 + x % 10) ∷ []), decimal-short k (x / 10)))

-- a number in hexadecimal
length_digits : (b k n : ℕ) → length (last_digits b k n) ≡ k
length_digits b zero n = refl
length_digits b (suc k) n = omega (arith, length-append (last_digits b k (n / b)) (hex_digit_ascii (n % b) ∷ []), length_digits b k (n / b))

-- what a byte of a form stands for, where there is no text
piece-short : (x mark : ℕ) → length (piece_of [] x mark) ≤ 20
unfolding piece_of decimal_of eight_of
piece-short x mark =
    by-test (λ (l : List ℕ). length l ≤ 20) (eqb mark 37) (λ _. decimal-short 19 x)
    (λ _. by-test (λ (l : List ℕ). length l ≤ 20) (eqb mark 36) (λ _. omega (arith, length_digits 16 8 (x % 0x1_0000_0000)))
    (λ _. by-test (λ (l : List ℕ). length l ≤ 20) (eqb mark 126) (λ _. omega arith) (λ _. omega arith)))

-- the whole form
filled-short : (numbers form : List ℕ) → length (filled_in [] numbers form) ≤ 20 * length form
unfolding filled_in
filled-short numbers [] = omega arith
filled-short numbers (mark ∷ form) =
    let rest = filled_in [] (drop (taken_by mark) numbers) form in
    omega (
      arith,
      length-append (piece_of [] (get_or numbers 0 0) mark) rest,
      piece-short (get_or numbers 0 0) mark,
      filled-short (drop (taken_by mark) numbers) form,
    )

-- each form has at most 120 bytes
abbrev all_short : List String → Bool
all_short [] = true
all_short (word ∷ words) = cond (leb (length (ascii word)) 120) (all_short words) false

form-short : (words : List String) → all_short words ≡ true → (n : ℕ) → length (ascii (get_or words n "")) ≤ 120
form-short [] p n = omega arith
form-short (word ∷ words) p zero = leb-true _ _ (both (leb (length (ascii word)) 120) (all_short words) p).0
form-short (word ∷ words) p (suc n) = form-short words (both (leb (length (ascii word)) 120) (all_short words) p).1 n

-- so the line of a refusal has room
refused-short : (r : Refusal) → length (refused_line r) ≤ words_room
unfolding numbered_line
refused-short r =
    let n = number_of r in
    let short : length (ascii (refused_form n)) ≤ 120 = rw (refused-words n) (form-short (beside_of refused_forms) refl n) in
    omega (arith, filled-short (n ∷ offset_of r ∷ []) (ascii (refused_form n)))

-- and where it stands at the front of a slice, its words do too
pub words-front : (r : Refusal) (out : List ℕ) (n : ℕ) → words_room ≤ length out → Says (refused_line r) out n
    → FrontIs (refused_words r) out (n - 1)
words-front r out n h s =
    let e : take n out ≡ refused_line r = s.says ∙ take_all (length out) (refused_line r) (omega (arith, refused-short r)) in
    let k : n ≡ length (refused_line r) = s.counts.1 ∙ ap length e in
    let l : n - 1 ≤ length out = omega (arith, s.counts.0) in
    record {
      counts = (l, sym (length-take-le (n - 1) out l));
      is = sym (take-take (n - 1) n out (omega arith)) ∙ ap (take (n - 1)) e ∙ ap (λ (m : ℕ). take (m - 1) (refused_line r)) k;
    }
