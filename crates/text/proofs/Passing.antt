-- Bytes up to one that stops a count: passed one by one and in blocks; and that a text's UTF-8 test may begin after its plain bytes.
use mathlib.Core.Path.{◌≡◌, refl, sym, ap, ◌∙◌}
use mathlib.Core.Bool.{Bool, true, false, cond, ◌||◌}
use mathlib.Core.List.{List, [], ◌∷◌}
use Prim.Native.Nat.{ℕ, zero, suc, ◌+◌, ◌-◌, ◌<◌, ◌≤◌}
use native.Mathlib.Nat.{zero-add, suc-add}
use native.Mathlib.Omega.{arith}
use borrow.Author.Tests.{lt-ltb, le-ltb, ltb-true, ltb-false}
use lib.Dec.{eqb, ltb}
use lib.ListN.{length, take, drop, get_or, length-take, length-drop}
use lib.Seq.{drop-drop}
use Rattle.utf8.specs.Utf8.{Range}
use Rattle.utf8.specs.Derive.{run, utf8}
use Rattle.utf8.proofs.Plain.{single}
use Rattle.text.specs.Text.{until_nul}
use Rattle.text.specs.CodePlain.{special, nul, count_to, Passed}
use Rattle.text.proofs.Nuls.{shorter}

one_more : (t : Bool) (m i : ℕ) → (i ≤ m → i + 1 ≤ m) → suc i ≤ cond t 0 (suc m) → suc i + 1 ≤ cond t 0 (suc m)
one_more true m i f h = absurd (omega arith)
one_more false m i f h = omega (arith, f (omega arith))

longer : (t : Bool) {m k n : ℕ} → (n ≤ m → n ≤ k) → suc n ≤ cond t 0 (suc m) → suc n ≤ cond t 0 (suc k)
longer true f h = h
longer false f h = omega (arith, f (omega arith))

count-on : (t : Bool) (m n k : ℕ) → (n ≤ m → m ≡ n + k) → suc n ≤ cond t 0 (suc m) → cond t 0 (suc m) ≡ suc n + k
count-on true m n k f h = absurd (omega arith)
count-on false m n k f h = omega (arith, f (omega arith))

module _ (f : ℕ → Bool) where
  -- a byte that stops the count is not passed
  at-stop : (l : List ℕ) (i : ℕ) → i < length l → f (get_or l i 0) ≡ true → count_to f l ≤ i
  at-stop [] i h e = absurd (omega arith)
  at-stop (b ∷ l) zero h e = rw e (omega arith)
  at-stop (b ∷ l) (suc i) h e = shorter (f b) (at-stop l i (omega arith) e)

  -- another one is
  past : (l : List ℕ) (i : ℕ) → i < length l → f (get_or l i 0) ≡ false → i ≤ count_to f l → i + 1 ≤ count_to f l
  past [] i h e k = absurd (omega arith)
  past (b ∷ l) zero h e k = rw e (omega arith)
  past (b ∷ l) (suc i) h e k = one_more (f b) (count_to f l) i (past l i (omega arith) e) k

  -- whether such a byte was met, and one more that is such or not
  pub one-met : (l : List ℕ) (i : ℕ) → i < length l → {any now : Bool} → any ≡ ltb (count_to f l) i → now ≡ f (get_or l i 0)
      → any || now ≡ ltb (count_to f l) (i + 1)
  one-met l i h {any} {now} g e = go any now (sym g) (sym e)
    where
      go : (s t : Bool) → ltb (count_to f l) i ≡ s → f (get_or l i 0) ≡ t → s || t ≡ ltb (count_to f l) (i + 1)
      go true t g e = sym (lt-ltb (count_to f l) (i + 1) (omega (arith, ltb-true (count_to f l) i g)))
      go false true g e = sym (lt-ltb (count_to f l) (i + 1) (omega (arith, at-stop l i h e)))
      go false false g e = sym (le-ltb (count_to f l) (i + 1) (past l i h e (ltb-false (count_to f l) i g)))

  -- bytes of which none is such are counted
  counted : (l : List ℕ) (n : ℕ) → n ≤ count_to f l → count_to f l ≡ n + count_to f (drop n l)
  counted [] zero h = refl
  counted [] (suc n) h = absurd (omega arith)
  counted (b ∷ l) zero h = omega arith
  counted (b ∷ l) (suc n) h = count-on (f b) (count_to f l) n (count_to f (drop n l)) (counted l n) h

  -- so are they where they are counted by themselves
  alone : (l : List ℕ) (n : ℕ) → n ≤ count_to f (take n l) → n ≤ count_to f l
  alone l zero h = omega arith
  alone [] (suc n) h = h
  alone (b ∷ l) (suc n) h = longer (f b) (alone l n) h

  -- a block in which no such byte was met is passed
  pub block : (l : List ℕ) (at n : ℕ) → Passed f at l → n ≤ length (drop at l)
      → ltb (count_to f (take (at + n - at) (drop at l))) (length (take (at + n - at) (drop at l))) ≡ false → Passed f (at + n) l
  block l at n p h e =
      let m : at + n - at ≡ n = omega arith in
      let all : length (take n (drop at l)) ≡ n = omega (arith, length-take n (drop at l)) in
      let low = ltb-false (count_to f (take n (drop at l))) (length (take n (drop at l))) (rw m at e) in
      let k : count_to f (drop at l) ≡ n + count_to f (drop (at + n) l) = rw drop-drop at
      (counted (drop at l) n (alone (drop at l) n (omega (arith, low, all)))) in
      (omega (arith, length-drop at l), omega (arith, p.1, k))

-- ---- a text

nul-on : (t : Bool) (m n : ℕ) → m ≡ n → cond t 0 (suc m) ≡ cond (cond t true false) 0 (suc n)
nul-on true m n e = refl
nul-on false m n e = ap suc e

-- a text's end is where its NUL stops the count
pub nul-count : (l : List ℕ) → until_nul l ≡ count_to nul l
nul-count [] = refl
nul-count (b ∷ l) = nul-on (eqb b 0) (until_nul l) (count_to nul l) (nul-count l)

nul-by : (b : ℕ) (l : List ℕ) (s t : Bool) → eqb b 0 ≡ s → ltb 0x7F b ≡ t
    → until_nul l ≡ count_to special l + until_nul (drop (count_to special l) l)
    → until_nul (b ∷ l) ≡ count_to special (b ∷ l) + until_nul (drop (count_to special (b ∷ l)) (b ∷ l))
nul-by b l true t e f h = rw (e, e)
nul-by b l false true e f h = rw (e, f, e) (omega arith)
nul-by b l false false e f h = rw (e, f) (omega (arith, h))

-- the first NUL comes after the bytes that are not special
pub nul-after : (l : List ℕ) → until_nul l ≡ count_to special l + until_nul (drop (count_to special l) l)
nul-after [] = refl
nul-after (b ∷ l) = nul-by b l (eqb b 0) (ltb 0x7F b) refl refl (nul-after l)

utf8-by : (b : ℕ) (l : List ℕ) (m : ℕ) (s t : Bool) → eqb b 0 ≡ s → ltb 0x7F b ≡ t
    → utf8 (take (count_to special l + m) l) ≡ utf8 (take m (drop (count_to special l) l))
    → utf8 (take (count_to special (b ∷ l) + m) (b ∷ l)) ≡ utf8 (take m (drop (count_to special (b ∷ l)) (b ∷ l)))
utf8-by b l m true t e f h = rw (e, zero-add)
utf8-by b l m false true e f h = rw (e, f, zero-add)
utf8-by b l m false false e f h =
    rw (e, f, suc-add)
    (ap (λ (rows : List (List Range)). run rows (take (count_to special l + m) l)) (single b (omega (arith, ltb-false 0x7F b f))) ∙ h)

-- the UTF-8 test may begin there
pub utf8-after : (l : List ℕ) (m : ℕ) → utf8 (take (count_to special l + m) l) ≡ utf8 (take m (drop (count_to special l) l))
utf8-after [] m = rw zero-add
utf8-after (b ∷ l) m = utf8-by b l m (eqb b 0) (ltb 0x7F b) refl refl (utf8-after l m)
