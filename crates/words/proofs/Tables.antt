-- The words of a line, one after another, and what stands beside a key of a table, by the place of that key.
use mathlib.Core.Path.{◌≡◌, refl, sym, ap, subst, ◌∙◌}
use mathlib.Core.Bool.{Bool, true, false, cond, not, false≢true}
use Rattle.std.specs.Prelude.{Option, nat_eq, ltb, ◌&&◌, unwrap_or}
use Rattle.std.specs.List.{position, position_or_len}
use Rattle.std.proofs.lemmas.List.Sums.{prefix_len-le-length}
use Rattle.std.proofs.lemmas.Bool.{ltb-false}
use mathlib.Core.List.{List, [], ◌∷◌, map}
use Prim.Native.Nat.{ℕ, zero, suc, ◌+◌, ◌-◌, ◌≤◌, ◌<◌}
use native.Mathlib.Nat.{zero-add}
use native.Mathlib.Omega.{arith}
use borrow.Author.Tests.{eq-eqb, ne_eqb, eqb-true}
use lib.Dec.{eqb}
use lib.Pointwise.{pointwise}
use lib.ListN.{length, get_or, take, drop, drop_of_length-le, length-drop}
use lib.Seq.{drop-drop}
use Rattle.wire.specs.Same.{same_bytes}
use Rattle.wire.proofs.Choices.{by-test}
use Rattle.words.specs.Tables.{paired_with, until_byte, longer, words_in, place_in}

-- ---- where a byte is found

-- one byte before it or none, by a test
before-step : (c : ℕ) (t : Bool) (s : List ℕ) {n : ℕ} → length s ≡ n → length (cond t [] (c ∷ s)) ≡ cond (not t) (1 + n) 0
before-step c true s e = refl
before-step c false s e = omega arith

-- the bytes before the first such byte are the longest front without it
front_without : (byte : ℕ) (s : List ℕ) → length (until_byte byte s) ≡ position_or_len (λ x. nat_eq x byte) s
unfolding until_byte
front_without byte [] = refl
front_without byte (c ∷ s) = before-step c (eqb c byte) _ (front_without byte s)

-- so many as the place of that byte, or all
pub place_before : (byte : ℕ) (s : List ℕ) → unwrap_or (position (λ x. nat_eq x byte) s) (length s) ≡ length (until_byte byte s)
place_before byte s =
    let n = position_or_len (λ (x : ℕ). nat_eq x byte) s in
    let most : n ≤ length s = prefix_len-le-length (λ (x : ℕ). not (nat_eq x byte)) s in
    by-test (λ (o : Option ℕ). unwrap_or o (length s) ≡ n) (ltb n (length s)) (λ _. refl)
    (λ e. let h : length s ≤ n = ltb-false n (length s) e in omega arith)
    ∙ sym (front_without byte s)

-- ---- the words of a line

-- no more than there are
pub until-le : (byte : ℕ) (s : List ℕ) → length (until_byte byte s) ≤ length s
until-le byte s =
    let most : position_or_len (λ (x : ℕ). nat_eq x byte) s ≤ length s = prefix_len-le-length (λ (x : ℕ). not (nat_eq x byte)) s in
    omega (arith, front_without byte s)

-- two tests, the second of which has another form
both-or_none : (t : Bool) {x y : Bool} → x ≡ y → (t && x) ≡ cond t y false
both-or_none true e = e
both-or_none false e = refl

-- what finds two slices equal
pub equal-same : (a b : List ℕ) → pointwise eqb a b ≡ same_bytes a b
equal-same [] [] = refl
equal-same [] (y ∷ b) = refl
equal-same (x ∷ a) [] = refl
equal-same (x ∷ a) (y ∷ b) = both-or_none (eqb x y) (equal-same a b)

-- a word is a part of its line
word-front : (byte : ℕ) (s : List ℕ) → take (length (until_byte byte s)) s ≡ until_byte byte s
unfolding until_byte
word-front byte [] = refl
word-front byte (c ∷ s) =
    by-test (λ (l : List ℕ). take (length l) (c ∷ s) ≡ l) (eqb c byte) (λ _. refl) (λ _. ap (λ (l : List ℕ). c ∷ l) (word-front byte s))

-- the first word, and those after its space, by whether the first byte is a space
first_by : (c : ℕ) (s : List ℕ) (t : Bool)
    → longer c (words_in s) ≡ (c ∷ until_byte 32 s) ∷ words_in (drop (suc (length (until_byte 32 s))) s)
    → cond t ([] ∷ words_in s) (longer c (words_in s))
    ≡ cond t [] (c ∷ until_byte 32 s) ∷ words_in (drop (length (cond t [] (c ∷ until_byte 32 s))) s)
first_by c s true p = refl
first_by c s false p = p

words-first : (c : ℕ) (s : List ℕ)
    → words_in (c ∷ s) ≡ until_byte 32 (c ∷ s) ∷ words_in (drop (length (until_byte 32 (c ∷ s))) s)
unfolding words_in until_byte
words-first c [] = first_by c [] (eqb c 32) refl
words-first c (d ∷ s) = first_by c (d ∷ s) (eqb c 32) (ap (longer c) (words-first d s))

-- the same of a line that is not empty
words-cons : (s : List ℕ) → 0 < length s → words_in s ≡ until_byte 32 s ∷ words_in (drop (suc (length (until_byte 32 s))) s)
words-cons [] h = absurd (omega arith)
words-cons (c ∷ s) h = words-first c s

-- the place of a word from `at` on: this one, or one after it
place-from : (names word : List ℕ) (at end : ℕ) → at < length names → end ≡ at + length (until_byte 32 (drop at names))
    → place_in (words_in (drop at names)) word
    ≡ cond (same_bytes (take (end - at) (drop at names)) word) 0 (suc (place_in (words_in (drop (end + 1) names)) word))
unfolding place_in
place-from names word at end h e =
    let w = until_byte 32 (drop at names) in
    let l : end - at ≡ length w = omega arith in
    let n : end + 1 ≡ at + suc (length w) = omega arith in
    let some : 0 < length (drop at names) = simp length-drop (omega arith) in
    rw (l, n, word-front 32 (drop at names), words-cons (drop at names) some, drop-drop (suc (length w)) at names)

module _ (names word : List ℕ) (at end n : ℕ) {r : Bool} (h : at < length names) (e : end ≡ at + length (until_byte 32 (drop at names)))
    (so : place_in (words_in names) word ≡ n + place_in (words_in (drop at names)) word)
    (tests : r ≡ same_bytes (take (end - at) (drop at names)) word) where
  -- the word is this one
  pub place_found : r ≡ true → n ≡ place_in (words_in names) word
  place_found t =
      let z : place_in (words_in (drop at names)) word ≡ 0 = place-from names word at end h e ∙ rw (sym tests ∙ t) in
      omega arith

  -- it is another
  pub place-next : r ≡ false → place_in (words_in names) word ≡ n + 1 + place_in (words_in (drop (end + 1) names)) word
  place-next t =
      let rest = place_in (words_in (drop (end + 1) names)) word in
      let z : place_in (words_in (drop at names)) word ≡ suc rest = place-from names word at end h e ∙ rw (sym tests ∙ t) in
      omega arith

-- no word is left
pub place_none : (names word : List ℕ) (at : ℕ) → length names ≤ at → place_in (words_in (drop at names)) word ≡ 0
unfolding words_in place_in
place_none names word at h = rw (drop_of_length-le names h)

-- no place is past the last
pub place-within : (names : List (List ℕ)) (word : List ℕ) → place_in names word ≤ length names
unfolding place_in
place-within [] word = omega arith
place-within (name ∷ names) word =
    by-test (λ (n : ℕ). n ≤ suc (length names)) (same_bytes name word) (λ _. omega arith) (λ _. omega (arith, place-within names word))

-- ---- a table

-- what stands beside its keys
abbrev pub beside_of : {K A : Type 0} → List (K × A) → List A
beside_of rows = map (λ row. row.1) rows

-- keys whose numbers count up
abbrev pub counts_up : {K A : Type 0} → (K → ℕ) → ℕ → List (K × A) → Bool
counts_up number from [] = true
counts_up number from (row ∷ rows) = cond (eqb (number row.0) from) (counts_up number (suc from) rows) false

-- the tests of two, one after the other
pub both : (x y : Bool) → cond x y false ≡ true → (x ≡ true) × (y ≡ true)
both true y e = (refl, e)
both false y e = absurd (false≢true e)

-- what stands beside the key of a number is found by that number
paired-from : {K A : Type 0} (number : K → ℕ) (other : A) (rows : List (K × A)) (from i : ℕ) → counts_up number from rows ≡ true
    → paired_with (λ k. eqb (number k) (from + i)) other rows ≡ get_or (beside_of rows) i other
paired-from number other [] from i e = refl
paired-from number other (row ∷ rows) from zero e =
    let n : number row.0 ≡ from = eqb-true _ _ (both (eqb (number row.0) from) _ e).0 in
    let q : number row.0 ≡ from + 0 = omega arith in
    let t : eqb (number row.0) (from + 0) ≡ true = eq-eqb _ _ q in
    rw t
paired-from number other (row ∷ rows) from (suc i) e =
    let n : number row.0 ≡ from = eqb-true _ _ (both (eqb (number row.0) from) _ e).0 in
    let q : number row.0 ≡ from + suc i → ⊥ = λ h. omega arith in
    let t : eqb (number row.0) (from + suc i) ≡ false = ne_eqb _ _ q in
    let m : from + suc i ≡ suc from + i = omega arith in
    let rest : paired_with (λ k. eqb (number k) (suc from + i)) other rows ≡ get_or (beside_of rows) i other =
    paired-from number other rows (suc from) i (both (eqb (number row.0) from) _ e).1
    in
    rw t (subst (λ (n : ℕ). paired_with (λ k. eqb (number k) n) other rows ≡ get_or (beside_of rows) i other) (sym m) rest)

pub paired-number : {K A : Type 0} (number : K → ℕ) (other : A) (rows : List (K × A)) (i : ℕ) → counts_up number 0 rows ≡ true
    → paired_with (λ k. eqb (number k) i) other rows ≡ get_or (beside_of rows) i other
paired-number number other rows i e = rw (zero-add i) at (paired-from number other rows 0 i e)
