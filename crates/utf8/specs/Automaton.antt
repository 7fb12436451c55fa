-- Document 01, "How bytes are read": UTF-8 is judged by a small automaton, a class for each of the 256 byte values, and a table of next
-- states by state and class; each byte does one step of the grammar of RFC 3629, section 4.
use Rattle.std.specs.Prelude.{◌≡◌, Bool, true, false, List, [], ◌∷◌, ◌++◌, ℕ, suc, ◌+◌, ◌*◌, ◌/◌, ◌%◌, ◌<◌, leb, length, get_or}
use Rattle.utf8.specs.Utf8.{Range, to, tail}
use Rattle.utf8.specs.Derive.{step, utf8}

-- the first octet of each of the grammar's ranges, and the one after its last, without 0x00: between two of these no range begins or ends
abbrev pub limits : List ℕ
limits =
    0x80 ∷ 0x90 ∷ 0xA0 ∷ 0xC0 ∷ 0xC2 ∷ 0xE0 ∷ 0xE1 ∷ 0xED ∷ 0xEE ∷ 0xF0 ∷ 0xF1 ∷ 0xF4 ∷ 0xF5 ∷ []

-- one more, where a test passes
abbrev pub more : Bool → ℕ → ℕ
more true n = suc n
more false n = n

-- how many of the limits are at or below an octet
abbrev pub reached : List ℕ → ℕ → ℕ
reached [] x = 0
reached (l ∷ ls) x = more (leb l x) (reached ls x)

-- the class of an octet (document 01, "How bytes are read": a class for each of the 256 byte values)
abbrev pub byte_class : ℕ → ℕ
byte_class x = reached limits x

-- what each state waits for: in the state 0 a character has just ended, in the state 8 nothing may come any more
abbrev pub states : List (List (List Range))
states =
    ([] ∷ [])
    ∷ ((tail ∷ []) ∷ [])
    ∷ ((tail ∷ tail ∷ []) ∷ [])
    ∷ ((tail ∷ tail ∷ tail ∷ []) ∷ [])
    ∷ ((to 0xA0 0xBF ∷ tail ∷ []) ∷ [])
    ∷ ((to 0x80 0x9F ∷ tail ∷ []) ∷ [])
    ∷ ((to 0x90 0xBF ∷ tail ∷ tail ∷ []) ∷ [])
    ∷ ((to 0x80 0x8F ∷ tail ∷ tail ∷ []) ∷ [])
    ∷ []
    ∷ []

-- what a state waits for, by its number
abbrev pub wants : ℕ → List (List Range)
wants q = get_or states q []

-- the values of the code's CLASS
abbrev pub classes : List ℕ
classes =
    0 ∷ 0 ∷ 0 ∷ 0 ∷ 0 ∷ 0 ∷ 0 ∷ 0 ∷ 0 ∷ 0 ∷ 0 ∷ 0 ∷ 0 ∷ 0 ∷ 0 ∷ 0 ∷ 0 ∷ 0 ∷ 0 ∷ 0 ∷ 0 ∷ 0 ∷ 0 ∷ 0 ∷ 0 ∷ 0 ∷ 0 ∷ 0 ∷ 0 ∷ 0 ∷ 0 ∷ 0
    ∷ 0 ∷ 0 ∷ 0 ∷ 0 ∷ 0 ∷ 0 ∷ 0 ∷ 0 ∷ 0 ∷ 0 ∷ 0 ∷ 0 ∷ 0 ∷ 0 ∷ 0 ∷ 0 ∷ 0 ∷ 0 ∷ 0 ∷ 0 ∷ 0 ∷ 0 ∷ 0 ∷ 0 ∷ 0 ∷ 0 ∷ 0 ∷ 0 ∷ 0 ∷ 0 ∷ 0 ∷ 0
    ∷ 0 ∷ 0 ∷ 0 ∷ 0 ∷ 0 ∷ 0 ∷ 0 ∷ 0 ∷ 0 ∷ 0 ∷ 0 ∷ 0 ∷ 0 ∷ 0 ∷ 0 ∷ 0 ∷ 0 ∷ 0 ∷ 0 ∷ 0 ∷ 0 ∷ 0 ∷ 0 ∷ 0 ∷ 0 ∷ 0 ∷ 0 ∷ 0 ∷ 0 ∷ 0 ∷ 0 ∷ 0
    ∷ 0 ∷ 0 ∷ 0 ∷ 0 ∷ 0 ∷ 0 ∷ 0 ∷ 0 ∷ 0 ∷ 0 ∷ 0 ∷ 0 ∷ 0 ∷ 0 ∷ 0 ∷ 0 ∷ 0 ∷ 0 ∷ 0 ∷ 0 ∷ 0 ∷ 0 ∷ 0 ∷ 0 ∷ 0 ∷ 0 ∷ 0 ∷ 0 ∷ 0 ∷ 0 ∷ 0 ∷ 0
    ∷ 1 ∷ 1 ∷ 1 ∷ 1 ∷ 1 ∷ 1 ∷ 1 ∷ 1 ∷ 1 ∷ 1 ∷ 1 ∷ 1 ∷ 1 ∷ 1 ∷ 1 ∷ 1 ∷ 2 ∷ 2 ∷ 2 ∷ 2 ∷ 2 ∷ 2 ∷ 2 ∷ 2 ∷ 2 ∷ 2 ∷ 2 ∷ 2 ∷ 2 ∷ 2 ∷ 2 ∷ 2
    ∷ 3 ∷ 3 ∷ 3 ∷ 3 ∷ 3 ∷ 3 ∷ 3 ∷ 3 ∷ 3 ∷ 3 ∷ 3 ∷ 3 ∷ 3 ∷ 3 ∷ 3 ∷ 3 ∷ 3 ∷ 3 ∷ 3 ∷ 3 ∷ 3 ∷ 3 ∷ 3 ∷ 3 ∷ 3 ∷ 3 ∷ 3 ∷ 3 ∷ 3 ∷ 3 ∷ 3 ∷ 3
    ∷ 4 ∷ 4 ∷ 5 ∷ 5 ∷ 5 ∷ 5 ∷ 5 ∷ 5 ∷ 5 ∷ 5 ∷ 5 ∷ 5 ∷ 5 ∷ 5 ∷ 5 ∷ 5 ∷ 5 ∷ 5 ∷ 5 ∷ 5 ∷ 5 ∷ 5 ∷ 5 ∷ 5 ∷ 5 ∷ 5 ∷ 5 ∷ 5 ∷ 5 ∷ 5 ∷ 5 ∷ 5
    ∷ 6 ∷ 7 ∷ 7 ∷ 7 ∷ 7 ∷ 7 ∷ 7 ∷ 7 ∷ 7 ∷ 7 ∷ 7 ∷ 7 ∷ 7 ∷ 8 ∷ 9 ∷ 9 ∷ 10 ∷ 11 ∷ 11 ∷ 11 ∷ 12 ∷ 13 ∷ 13 ∷ 13 ∷ 13 ∷ 13 ∷ 13 ∷ 13 ∷ 13 ∷ 13
    ∷ 13 ∷ 13 ∷ []

-- states, each as the place where its row begins: 14 entries to a row, one for each class
abbrev pub places : List ℕ → List ℕ
places [] = []
places (q ∷ qs) = 14 * q ∷ places qs

-- the values of the code's NEXT: a state to a line, and in it the next state on each of the 14 classes
abbrev pub nexts : List ℕ
nexts =
    places
    (
    0 ∷ 8 ∷ 8 ∷ 8 ∷ 8 ∷ 1 ∷ 4 ∷ 2 ∷ 5 ∷ 2 ∷ 6 ∷ 3 ∷ 7 ∷ 8
    ∷ 8 ∷ 0 ∷ 0 ∷ 0 ∷ 8 ∷ 8 ∷ 8 ∷ 8 ∷ 8 ∷ 8 ∷ 8 ∷ 8 ∷ 8 ∷ 8
    ∷ 8 ∷ 1 ∷ 1 ∷ 1 ∷ 8 ∷ 8 ∷ 8 ∷ 8 ∷ 8 ∷ 8 ∷ 8 ∷ 8 ∷ 8 ∷ 8
    ∷ 8 ∷ 2 ∷ 2 ∷ 2 ∷ 8 ∷ 8 ∷ 8 ∷ 8 ∷ 8 ∷ 8 ∷ 8 ∷ 8 ∷ 8 ∷ 8
    ∷ 8 ∷ 8 ∷ 8 ∷ 1 ∷ 8 ∷ 8 ∷ 8 ∷ 8 ∷ 8 ∷ 8 ∷ 8 ∷ 8 ∷ 8 ∷ 8
    ∷ 8 ∷ 1 ∷ 1 ∷ 8 ∷ 8 ∷ 8 ∷ 8 ∷ 8 ∷ 8 ∷ 8 ∷ 8 ∷ 8 ∷ 8 ∷ 8
    ∷ 8 ∷ 8 ∷ 2 ∷ 2 ∷ 8 ∷ 8 ∷ 8 ∷ 8 ∷ 8 ∷ 8 ∷ 8 ∷ 8 ∷ 8 ∷ 8
    ∷ 8 ∷ 2 ∷ 8 ∷ 8 ∷ 8 ∷ 8 ∷ 8 ∷ 8 ∷ 8 ∷ 8 ∷ 8 ∷ 8 ∷ 8 ∷ 8
    ∷ 8 ∷ 8 ∷ 8 ∷ 8 ∷ 8 ∷ 8 ∷ 8 ∷ 8 ∷ 8 ∷ 8 ∷ 8 ∷ 8 ∷ 8 ∷ 8 ∷ []
    )

-- a state as the code keeps it: the place where a row begins
abbrev pub StateRow : ℕ → Type 0
StateRow n = (n % 14 ≡ 0) × (n < 126)

-- the entry of the table in a state, on an octet: it stands at the state's row and the octet's class
abbrev pub next_of : ℕ → ℕ → ℕ
next_of n x = get_or nexts (n + get_or classes x 0) 0

-- the class rule (document 01: proved once over the whole table): each of the 256 octets has its class, one of 14
abbrev pub ClassRule : Type 0
ClassRule = (length classes ≡ 256) × ((x : ℕ) → x < 256 → (get_or classes x 0 < 14) × (get_or classes x 0 ≡ byte_class x))

-- in each state and on each octet, the table has the state that waits for what the grammar's step leaves
abbrev pub StepRule : Type 0
StepRule =
    (length nexts ≡ 9 * 14)
    × ((n x : ℕ) → StateRow n → x < 256 → StateRow (next_of n x) × (wants (next_of n x / 14) ≡ step (wants (n / 14)) x))

-- a run of octets below 128, where a character may begin, changes no answer on what follows it (document 02, Ticket 6: "step over runs of
-- bytes below 128")
abbrev pub RunPasses : Type 0
RunPasses = (s rest : List ℕ) → ((i : ℕ) → i < length s → get_or s i 0 < 128) → utf8 (s ++ rest) ≡ utf8 rest
