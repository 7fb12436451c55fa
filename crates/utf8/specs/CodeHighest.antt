-- Describes code, and no part of the document: the greatest octet, by which UTF8-1 alone is told from the rest of RFC 3629, section
-- 4 (`ascii_run`, in proofs/Plain.antt).
use Rattle.std.specs.Prelude.{◌≡◌, cond, List, [], ◌∷◌, ℕ, ◌-◌, ◌<◌, ◌≤◌, ltb, length, take, drop}

-- the greatest of `top` and some octets
abbrev pub highest_of : ℕ → List ℕ → ℕ
highest_of top [] = top
highest_of top (x ∷ s) = highest_of (cond (ltb top x) x top) s

-- the first r octets are below 0x80; the n after them, if more are left, are not
abbrev pub PlainFront : ℕ → ℕ → List ℕ → Type 0
PlainFront n r s =
    (r ≤ length s) × (highest_of 0 (take r s) < 0x80) × (n < length s - r → 0x7F < highest_of 0 (take n (drop r s)))

-- `rest` is what is left of some octets after such a front
abbrev pub PlainBefore : ℕ → List ℕ → List ℕ → Type 0
PlainBefore n s rest = (length rest ≤ length s) × (rest ≡ drop (length s - length rest) s) × PlainFront n (length s - length rest) s
