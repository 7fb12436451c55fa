-- Parts of a slice, as they are lent and as they come back; and a part of bytes is bytes.
use mathlib.Core.Path.{◌≡◌, ap, ◌∙◌}
use mathlib.Core.List.{List, [], ◌∷◌, ◌++◌, append-nil}
use Prim.Native.Nat.{ℕ, zero, suc, ◌+◌, ◌-◌, ◌<◌, ◌≤◌}
use native.Mathlib.Omega.{arith}
use lib.ListN.{length, get_or, take, drop, length-drop, length-take, drop_of_length-le}
use lib.Seq.{take_all, get_or-drop}
use borrow.Rule.Slice.PartMut.{mid_of, put_mid}

-- `&s[k..]` is what is left after k bytes
pub tail : (s : List ℕ) (k : ℕ) → take (length s - k) (drop k s) ≡ drop k s
tail s k = take_all (length s - k) (drop k s) (omega (arith, length-drop k s))

-- `&mut s[k..]` lends what is left after k bytes
pub lent : (s : List ℕ) (k : ℕ) → mid_of k (length s - k) s ≡ drop k s
lent s k = tail s k

-- what comes back stands after the first k bytes
pub given_back : (s p : List ℕ) (k : ℕ) → put_mid k (length s - k) s p ≡ take k s ++ p
given_back s p k =
    let h : length (drop k s) ≤ length s - k = simp length-drop (omega arith) in
    let e : drop (length s - k) (drop k s) ≡ [] = drop_of_length-le (drop k s) h in
    ap (λ (l : List ℕ). take k s ++ (p ++ l)) e ∙ rw append-nil

-- how long the part is that is lent
pub length-lent : (s : List ℕ) (k : ℕ) → length (mid_of k (length s - k) s) ≡ length s - k
length-lent s k = rw lent (length-drop k s)

-- n bytes from a place on, if they are there
pub length_part : (s : List ℕ) (at n : ℕ) → at + n ≤ length s → length (take n (drop at s)) ≡ n
length_part s at n h = simp (length-take, length-drop) (omega arith)

-- ---- a part of bytes is bytes

-- the first bytes of bytes are bytes
pub take-small : (n : ℕ) (l : List ℕ) → ((i : ℕ) → get_or l i 0 < 256) → (i : ℕ) → get_or (take n l) i 0 < 256
take-small zero l h i = omega arith
take-small (suc n) [] h i = omega arith
take-small (suc n) (x ∷ l) h zero = h 0
take-small (suc n) (x ∷ l) h (suc i) = take-small n l (λ j. h (suc j)) i

-- and so are the last ones
pub drop-small : (n : ℕ) (l : List ℕ) → ((i : ℕ) → get_or l i 0 < 256) → (i : ℕ) → get_or (drop n l) i 0 < 256
drop-small n l h i = rw get_or-drop (h (n + i))
