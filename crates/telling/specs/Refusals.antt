-- The line for a refusal, by its number.
use Rattle.std.specs.Prelude.{List, [], ◌∷◌, ℕ, ◌-◌, eqb, length, take}
use Prim.Native.String.{String}
use Rattle.refusal.specs.Refusal.{number_of, offset_of}
use Rattle.refusal.specs.declared.Refusal.{Refusal}
use Rattle.results.specs.Differs.{index_differs}
use Rattle.words.specs.Tables.{paired_with}
use Rattle.telling.specs.Forms.{line}

-- the line of a number that no refusal has
abbrev pub unused : String
unused = "\n"

-- document 01's "Refusal numbers", each number beside its words: those of 9 are Ticket 4's, those of 15, 16 and of a frame in 1 Ticket 1's,
-- those of 17 to 21 Ticket 2's, 25 is Ticket 5's, and 26 to 28 are Ticket 7's
abbrev pub refused_forms : List (ℕ × String)
refused_forms =
    (0, unused)
    ∷ (1, "refused %: decode input over 65,535 bytes, or encoded result (prefix included) over it, or frame length over 65,531\n")
    ∷ (2, "refused %: a packet of no bytes\n")
    ∷ (3, unused)
    ∷ (4, "refused %: text is not UTF-8\n")
    ∷ (5, "refused %: first string is neither /-led nor exactly #bundle\n")
    ∷ (6, "refused %: ] with no array open\n")
    ∷ (7, "refused %: unknown type tag\n")
    ∷ (8, "refused %: c is not a scalar number\n")
    ∷ (9, "refused %: bundles and arrays nested deeper than the limit\n")
    ∷ (10, "refused %: the result has more records than the capacity\n")
    ∷ (11, "refused %: table not well formed, or a record asked for does not exist\n")
    ∷ (12, "refused %: output slice shorter than the result\n")
    ∷ (13, "refused %: depth limit over 64\n")
    ∷ (14, "refused %: pad of a position over 2^64 - 4\n")
    ∷ (15, "refused %: bytes left in the frame\n")
    ∷ (16, "refused %: frame length not a multiple of 4\n")
    ∷ (17, "refused %: the address at offset % is not all there\n")
    ∷ (18, "refused %: the type text at offset % is not all there\n")
    ∷ (19, "refused %: the argument data at offset % is not all there\n")
    ∷ (20, "refused %: the padding at offset % is not all there\n")
    ∷ (21, "refused %: the prefix or time tag at offset % is not all there\n")
    ∷ (22, unused)
    ∷ (23, unused)
    ∷ (24, unused)
    ∷ (index_differs, "refused %: index differs, record %\n")
    ∷ (26, "refused %: nanoseconds of 10^9 or more\n")
    ∷ (27, "refused %: later than the rule allows\n")
    ∷ (28, "refused %: before 1970\n")
    ∷ []

-- the words beside a number
abbrev pub refused_form : ℕ → String
refused_form n = paired_with (λ number. eqb number n) "" refused_forms

-- the refusal of a number, and the number that is told beside it: the offset of a field that was short, or a record
unfoldable pub numbered_line : ℕ → ℕ → List ℕ
numbered_line n beside = line (refused_form n) (n ∷ beside ∷ []) []

-- a refusal: its number and its words, with the offset of a field that was short
abbrev pub refused_line : Refusal → List ℕ
refused_line refusal = numbered_line (number_of refusal) (offset_of refusal)

-- the words of a refusal inside another line: its own line without the end
abbrev pub refused_words : Refusal → List ℕ
refused_words refusal = take (length (refused_line refusal) - 1) (refused_line refusal)
