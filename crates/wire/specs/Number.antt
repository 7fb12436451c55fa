-- Big-endian numbers of any width: document 01, "The node table" and rule 4 of "How bytes are read".
use Rattle.std.specs.Prelude.{List, [], ◌∷◌, ◌++◌, ℕ, zero, suc, ◌+◌, ◌*◌, ◌/◌, ◌%◌, take}

-- the number x, followed by further bytes: each moves what stands before it up by one byte
abbrev pub from : ℕ → List ℕ → ℕ
from x [] = x
from x (y ∷ l) = from (x * 256 + y) l

-- the number that the first n bytes stand for, the highest first (rule 4: big-endian)
unfoldable pub number : ℕ → List ℕ → ℕ
number n l = from 0 (take n l)

-- the n lowest bytes of a number, the highest first (rule 4: big-endian)
unfoldable pub bytes : ℕ → ℕ → List ℕ
bytes zero x = []
bytes (suc n) x = bytes n (x / 256) ++ (x % 256 ∷ [])
