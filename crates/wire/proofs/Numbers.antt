-- Big-endian numbers of any width: how far they reach, one byte more read, four and eight written, and that each way undoes the other.
use mathlib.Core.Path.{◌≡◌, refl, ◌∙◌, sym, ap}
use mathlib.Core.List.{List, [], ◌∷◌, ◌++◌, append-nil}
use Prim.Native.Nat.{ℕ, zero, suc, ◌+◌, ◌*◌, ◌/◌, ◌%◌, ◌^◌, ◌<◌, ◌≤◌}
use native.Mathlib.Nat.{pow-suc, pow-zero, pow-le-pow_right, div-add-mod', add-zero, zero-add, add-suc, suc-add, add-mul, mul_assoc}
use native.Mathlib.Nat.{mul_comm}
use native.Mathlib.Omega.{arith}
use lib.Dec.{lit<}
use lib.Arith.{digits_div, digits_mod}
use lib.ListN.{length, take, drop, get_or, length-append, length-drop, take-append-drop}
use lib.Seq.{drop-cons, take-add, drop-drop, take_at, take-append_seam, append_snoc, length-take-le}
use Rattle.wire.specs.Number.{from, number, bytes}
use Rattle.wire.specs.CodeNumber.{LowFirst, high_first}
use Rattle.wire.proofs.Parts.{take-small, drop-small}

-- ---- writing

-- the n lowest bytes of a number are n
pub length-bytes : (n x : ℕ) → length (bytes n x) ≡ n
unfolding bytes
length-bytes zero x = refl
length-bytes (suc n) x = length-append (bytes n (x / 256)) (x % 256 ∷ []) ∙ omega (arith, length-bytes n (x / 256))

-- the four lowest bytes of a number, one by one
pub four_bytes : (x : ℕ) → bytes 4 x ≡ x / 0x100_0000 % 256 ∷ x / 0x1_0000 % 256 ∷ x / 0x100 % 256 ∷ x % 256 ∷ []
unfolding bytes
four_bytes x =
    let p : x / 256 / 256 ≡ x / 0x1_0000 = omega arith in
    let q : x / 256 / 256 / 256 ≡ x / 0x100_0000 = omega arith in
    rw (q, p)

-- a number of four digits, and its digits
digits : (a b c d : ℕ) {r : ℕ} → b < 256 → c < 256 → d < 256 → r ≡ ((a * 256 + b) * 256 + c) * 256 + d
    → (r % 256 ≡ d) × (r / 0x100 % 256 ≡ c) × (r / 0x1_0000 % 256 ≡ b) × (r / 0x100_0000 ≡ a)
digits a b c d f g h e = (omega arith, omega arith, omega arith, omega arith)

-- a number that is turned has its four bytes in the other order
pub turned-bytes : (x : ℕ) {r : ℕ} → x < 256 ^ 4 → r ≡ high_first x
    → (r % 256 ∷ r / 0x100 % 256 ∷ r / 0x1_0000 % 256 ∷ r / 0x100_0000 ∷ []) ≡ bytes 4 x
turned-bytes x h e =
    let w = digits (x % 256) (x / 0x100 % 256) (x / 0x1_0000 % 256) (x / 0x100_0000) (omega arith) (omega arith) (omega arith) e in
    let high : x / 0x100_0000 % 256 ≡ x / 0x100_0000 = omega arith in
    rw (four_bytes, high, w.0, w.1, w.2, w.3)

-- the four lowest bytes are those of the low half
low-bytes : (x : ℕ) → bytes 4 (x % 0x1_0000_0000) ≡ bytes 4 x
low-bytes x =
    let h = x / 0x1_0000_0000 in
    let l = x % 0x1_0000_0000 in
    let whole : l ≡ ((l / 0x100_0000 * 256 + l / 0x1_0000 % 256) * 256 + l / 0x100 % 256) * 256 + l % 256 = omega arith in
    let w = digits (h * 256 + l / 0x100_0000) (l / 0x1_0000 % 256) (l / 0x100 % 256) (l % 256) {r = x}
    (omega arith) (omega arith) (omega arith) (omega arith) in
    rw (four_bytes (x % 0x1_0000_0000), four_bytes x, top h (l / 0x100_0000) w.3, w.0, w.1, w.2)
  where
    top : (h m : ℕ) {y : ℕ} → y ≡ h * 256 + m → y % 256 ≡ m % 256
    top h m e = omega arith

-- eight bytes are those of the two halves
pub eight-bytes : (x : ℕ) → bytes 4 (x / 0x1_0000_0000) ++ bytes 4 (x % 0x1_0000_0000) ≡ bytes 8 x
unfolding bytes
eight-bytes x =
    let high : x / 256 / 256 / 256 / 256 ≡ x / 0x1_0000_0000 = omega arith in
    rw (high, low-bytes x)

-- ---- reading: a number of n + m bytes is one of n and one of m
from-append : (a b : List ℕ) (x : ℕ) → from x (a ++ b) ≡ from (from x a) b
from-append [] b x = refl
from-append (y ∷ a) b x = from-append a b (x * 256 + y)

from_is : (s : List ℕ) (x : ℕ) → from x s ≡ x * 256 ^ length s + from 0 s
from_is [] x = rw pow-zero (omega arith)
from_is (y ∷ s) x =
    let p = 256 ^ length s in
    let a : from (x * 256 + y) s ≡ (x * 256 + y) * p + from 0 s = from_is s (x * 256 + y) in
    let b : from (0 * 256 + y) s ≡ (0 * 256 + y) * p + from 0 s = from_is s (0 * 256 + y) in
    let d : (x * 256 + y) * p ≡ x * (p * 256) + y * p = add-mul (x * 256) y p
    ∙ ap (λ (k : ℕ). k + y * p) (mul_assoc x 256 p ∙ ap (λ (k : ℕ). x * k) (mul_comm 256 p)) in
    let e : (0 * 256 + y) * p ≡ y * p = ap (λ (k : ℕ). k * p) (omega arith) in
    rw pow-suc (omega arith)

-- a number of n + m bytes is that of the first n, moved up by m bytes, and that of the last m
pub number-parts : (n m : ℕ) (s : List ℕ) (at : ℕ) → at + (n + m) ≤ length s
    → number (n + m) (drop at s) ≡ number n (drop at s) * 256 ^ m + number m (drop (at + n) s)
unfolding number
number-parts n m s at h =
    let l : length (take m (drop (at + n) s)) ≡ m = length-take-le m (drop (at + n) s) (omega (arith, length-drop (at + n) s)) in
    ap (from 0) (take-add n m (drop at s) ∙ ap (λ (t : List ℕ). take n (drop at s) ++ take m t) (drop-drop n at s))
    ∙ from-append (take n (drop at s)) (take m (drop (at + n) s)) 0
    ∙ from_is (take m (drop (at + n) s)) (from 0 (take n (drop at s)))
    ∙ ap (λ (k : ℕ). from 0 (take n (drop at s)) * 256 ^ k + from 0 (take m (drop (at + n) s))) l

-- one byte more moves a number up by one byte
pub number_more : (n : ℕ) (s : List ℕ) (at : ℕ) → at + n < length s
    → number (n + 1) (drop at s) ≡ number n (drop at s) * 256 + get_or s (at + n) 0
unfolding number
number_more n s at h =
    let one : number 1 (drop (at + n) s) ≡ get_or s (at + n) 0 = rw (drop-cons s (at + n) 0) (omega arith) in
    number-parts n 1 s at (omega arith) ∙ ap (λ (k : ℕ). number n (drop at s) * 256 + k) one

-- four bytes that stand lowest first, turned, are their number
pub turned-number : (s : List ℕ) (at x : ℕ) → LowFirst s at x → at + 4 ≤ length s → high_first x ≡ number 4 (drop at s)
unfolding number
turned-number s at x w h =
    omega (
      arith,
      w.lowest,
      w.second,
      w.third,
      w.highest,
      rw add-zero at (number_more 0 s at (omega arith)),
      number_more 1 s at (omega arith),
      number_more 2 s at (omega arith),
      number_more 3 s at (omega arith),
    )

-- ---- how far a number of n bytes reaches
grows : (i x y : ℕ) → x < 256 ^ i → y < 256 → x * 256 + y < 256 ^ (suc i)
grows i x y h k = rw pow-suc (omega arith)

from-small : (l : List ℕ) (n x i : ℕ) → x < 256 ^ i → ((j : ℕ) → get_or l j 0 < 256) → from x (take n l) < 256 ^ (i + n)
from-small l zero x i h b = rw add-zero h
from-small [] (suc n) x i h b = omega (arith, pow-le-pow_right {n = 256} (lit< tt) {i = i} {j = i + suc n} (omega arith))
from-small (y ∷ l) (suc n) x i h b =
    let e : i + suc n ≡ suc i + n = omega arith in
    rw e (from-small l n (x * 256 + y) (suc i) (grows i x y h (b 0)) (λ j. b (suc j)))

-- a number of n bytes is below 256 to the power of n
pub number_small : (n : ℕ) (l : List ℕ) → ((j : ℕ) → get_or l j 0 < 256) → number n l < 256 ^ n
unfolding number
number_small n l b = rw zero-add at (from-small l n 0 0 (omega (arith, pow-zero 256)) b)

-- ---- read after write: the number that was written
from-snoc : (s : List ℕ) (x y : ℕ) → from x (s ++ (y ∷ [])) ≡ from x s * 256 + y
from-snoc s x y = from-append s (y ∷ []) x

from_bytes : (n x : ℕ) → x < 256 ^ n → from 0 (bytes n x) ≡ x
unfolding bytes
from_bytes zero x h = omega (arith, rw pow-zero at h)
from_bytes (suc n) x h =
    from-snoc (bytes n (x / 256)) 0 (x % 256)
    ∙ ap (λ (k : ℕ). k * 256 + x % 256) (from_bytes n (x / 256) (omega (arith, rw pow-suc at h)))
    ∙ div-add-mod' x 256

-- what was written is read
pub read-written : (n x : ℕ) (more : List ℕ) → x < 256 ^ n → number n (bytes n x ++ more) ≡ x
unfolding number
read-written n x more h = ap (from 0) (take_at (bytes n x) more n (length-bytes n x)) ∙ from_bytes n x h

-- ---- write after read: the bytes that were read
bytes-from : (s : List ℕ) (n x : ℕ) → ((i : ℕ) → get_or s i 0 < 256) → bytes (n + length s) (from x s) ≡ bytes n x ++ s
unfolding bytes
bytes-from [] n x h = rw (add-zero, append-nil)
bytes-from (y ∷ s) n x h =
    ap (λ (k : ℕ). bytes k (from (x * 256 + y) s)) (add-suc n (length s) ∙ sym (suc-add n (length s)))
    ∙ bytes-from s (suc n) (x * 256 + y) (λ i. h (suc i))
    ∙ rw (digits_div x {m = 256} {r = y} (h 0), digits_mod x {m = 256} {r = y} (h 0)) (append_snoc (bytes n x) y s)

written_read : (s more : List ℕ) → ((i : ℕ) → get_or s i 0 < 256) → bytes (length s) (number (length s) (s ++ more)) ≡ s
unfolding bytes number
written_read s more h = rw (take-append_seam s more) (rw zero-add at (bytes-from s 0 0 h))

-- the bytes of a number that was read are those that were read
pub bytes_read : (t : List ℕ) → ((i : ℕ) → get_or t i 0 < 256) → (n p : ℕ) → p + n ≤ length t
    → bytes n (number n (drop p t)) ≡ take n (drop p t)
bytes_read t small n p h =
    let s = take n (drop p t) in
    let l : length s ≡ n = length-take-le n (drop p t) (omega (arith, length-drop p t)) in
    rw (l, take-append-drop) at (written_read s (drop n (drop p t)) (take-small n (drop p t) (drop-small p t small)))

-- the bytes from p to q are those of the number that they stand for
pub number-bytes : (t : List ℕ) → ((i : ℕ) → get_or t i 0 < 256) → (n p q : ℕ) → p + n ≡ q → q ≤ length t
    → drop p t ≡ bytes n (number n (drop p t)) ++ drop q t
number-bytes t small n p q e h =
    rw (bytes_read t small n p (omega arith), ← e, ← drop-drop) (sym (take-append-drop n (drop p t)))
