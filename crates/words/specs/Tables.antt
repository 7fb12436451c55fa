-- A table: keys, and what stands beside each. And the words of a line, which a program searches for a key.
use Rattle.std.specs.Prelude.{Bool, cond, List, [], ◌∷◌, ℕ, suc, eqb, Option, Some, None}
use Rattle.std.specs.Borrow.{Bor}
use Prim.Native.String.{String}
use Rattle.wire.specs.Same.{same_bytes}
use Rattle.words.specs.Ascii.{ascii}

-- what stands beside the first key that is meant; the other where none is
abbrev pub paired_with : {K A : Type 0} → (K → Bool) → A → List (K × A) → A
paired_with meant other [] = other
paired_with meant other (row ∷ rows) = cond (meant row.0) row.1 (paired_with meant other rows)

-- a word is this one
abbrev pub is_word : List ℕ → String → Bool
is_word word text = same_bytes (ascii text) word

-- what stands beside a word in a table of words that a program has, where the word is there
abbrev pub beside : {A : Type 0} → List ℕ → List (Bor (List ℕ) × A) → Option A
beside word [] = None
beside word (row ∷ rows) = cond (same_bytes row.0.now word) (Some row.1) (beside word rows)

-- the bytes of a text before the first of these
unfoldable pub until_byte : ℕ → List ℕ → List ℕ
until_byte byte [] = []
until_byte byte (c ∷ text) = cond (eqb c byte) [] (c ∷ until_byte byte text)

-- a byte more at the front of the first word
abbrev pub longer : ℕ → List (List ℕ) → List (List ℕ)
longer c [] = (c ∷ []) ∷ []
longer c (word ∷ words) = (c ∷ word) ∷ words

-- the words of a line, each of which ends with a space (32) or with the line
unfoldable pub words_in : List ℕ → List (List ℕ)
words_in [] = []
words_in (c ∷ line) = cond (eqb c 32) ([] ∷ words_in line) (longer c (words_in line))

-- the place of a word among others, from 0 on; how many there are where it is none of them
unfoldable pub place_in : List (List ℕ) → List ℕ → ℕ
place_in [] word = 0
place_in (name ∷ names) word = cond (same_bytes name word) 0 (suc (place_in names word))
