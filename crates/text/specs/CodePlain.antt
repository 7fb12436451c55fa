-- Describes code, and no part of the document: the bytes of a text that need no UTF-8 test, since each is a character by itself.
use Rattle.std.specs.Prelude.{◌≡◌, Bool, true, false, cond, List, [], ◌∷◌, ℕ, suc, ◌+◌, ◌≤◌, eqb, ltb, length, drop}

-- a byte that stops a scan: NUL does, and where `high` also a byte above 0x7F, which is part of a longer character
abbrev pub stops_at : Bool → ℕ → Bool
stops_at high b = cond (eqb b 0) true (cond high (ltb 0x7F b) false)

-- a byte that is NUL, or above 0x7F
abbrev pub special : ℕ → Bool
special b = stops_at true b

-- a NUL
abbrev pub nul : ℕ → Bool
nul b = stops_at false b

-- how many bytes stand before the first that is as f says; all of them where there is none
abbrev pub count_to : (ℕ → Bool) → List ℕ → ℕ
count_to f [] = 0
count_to f (b ∷ l) = cond (f b) 0 (suc (count_to f l))

-- none of the first n bytes is as f says
abbrev pub Passed : (ℕ → Bool) → ℕ → List ℕ → Type 0
Passed f n l = (n ≤ length l) × (count_to f l ≡ n + count_to f (drop n l))
