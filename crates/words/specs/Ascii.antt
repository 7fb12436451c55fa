-- A quoted text as bytes.
use Rattle.std.specs.Prelude.{List, [] as none, ◌∷◌ as ◌then◌, ℕ}
use Prim.Native.Char.{code}
use Prim.Native.String.{String, [], ◌∷◌}

-- the bytes of a text of ASCII characters, one to a character
abbrev pub ascii : String → List ℕ
ascii [] = none
ascii (c ∷ text) = code c then ascii text
