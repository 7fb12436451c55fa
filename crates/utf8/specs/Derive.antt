-- RFC 3629, section 4, read from the left, octet by octet. What may still come is a list of rows: the rest of a character by one of
-- them, and then whole characters. `utf8` is membership in the grammar (`octets`, in proofs/Grammar.antt).
use Rattle.std.specs.Prelude.{Bool, true, false, ◌&&◌, List, [], ◌∷◌, ◌++◌, ℕ, leb}
use Rattle.utf8.specs.Utf8.{Range, to, chars}

-- whether an octet lies in a range
abbrev pub in_range : Range → ℕ → Bool
in_range (to a b) x = leb a x && leb x b

-- a row before others, where a test passes
abbrev pub keep : Bool → List Range → List (List Range) → List (List Range)
keep true row rows = row ∷ rows
keep false row rows = rows

-- the rows whose first range takes the octet, each without that range
abbrev pub opened : List (List Range) → ℕ → List (List Range)
opened [] x = []
opened ([] ∷ rows) x = opened rows x
opened ((r ∷ row) ∷ rows) x = keep (in_range r x) row (opened rows x)

-- whether the character is whole: one of the rows is used up
abbrev pub whole : List (List Range) → Bool
whole [] = false
whole ([] ∷ rows) = true
whole ((r ∷ row) ∷ rows) = whole rows

-- the rows by which the next octet may go on: where a character is whole, those of a new one too
abbrev pub ready : Bool → List (List Range) → List (List Range)
ready true rows = chars ++ rows
ready false rows = rows

-- one octet: what may come after it (document 01, "How bytes are read": each byte does one step of RFC 3629's grammar)
abbrev pub step : List (List Range) → ℕ → List (List Range)
step rows x = opened (ready (whole rows) rows) x

-- all octets, one step each; at the end the last character must be whole
abbrev pub run : List (List Range) → List ℕ → Bool
run rows [] = whole rows
run rows (x ∷ s) = run (step rows x) s

-- whether octets are UTF-8 (document 01, "How bytes are read", rule 1: the UTF-8 test): they are read as if a character had just ended
abbrev pub utf8 : List ℕ → Bool
utf8 s = run ([] ∷ []) s
