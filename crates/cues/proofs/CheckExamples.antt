-- Examples, computed, that meet the hypotheses of `fits_exactly`, `differs_first` and `check_in_parts`: an index of two records, against
-- itself and against others.
use mathlib.Core.Path.{◌≡◌, refl}
use mathlib.Core.List.{List, [], ◌∷◌, ◌++◌}
use Prim.Native.Nat.{ℕ}
use lib.ListN.{length, take}
use Rattle.wire.specs.Number.{bytes}
use Rattle.cues.specs.Cues.{entry_of}
use Rattle.cues.specs.Checks.{compared_at, compared, InRecords, FirstAt, followed_by}
use Rattle.results.specs.Results.{Differs}
use Rattle.std.specs.Prelude.{Ok}
use Rattle.cues.proofs.Checks.{fits_exactly, differs_first, check_in_parts}

-- a frame of 16 bytes with 2 records at offset 0, one of 20 bytes with 3 after it, and the latter with 4
abbrev first : List ℕ
first = entry_of 0 16 2

abbrev second : List ℕ
second = entry_of 16 20 3

abbrev changed : List ℕ
changed = entry_of 16 20 4

abbrev two : List ℕ
two = first ++ second

-- ---- two records against themselves

itself : compared two two ≡ Ok 2
unfolding compared_at bytes
itself = refl

itself-counts : InRecords (length two) 2
itself-counts = (fits_exactly two two).counts 2 itself

-- ---- a byte of the second changed

other : compared two (first ++ changed) ≡ Differs 1
unfolding compared_at bytes
other = refl

other-first : FirstAt two (first ++ changed) 1
other-first = differs_first two (first ++ changed) 1 other

-- ---- the second cut to 7 bytes

cut : compared two (first ++ take 7 second) ≡ Differs 1
unfolding compared_at bytes
cut = refl

cut-first : FirstAt two (first ++ take 7 second) 1
cut-first = differs_first two (first ++ take 7 second) 1 cut

-- ---- a third one extra

extra : compared two (two ++ entry_of 36 16 2) ≡ Differs 2
unfolding compared_at bytes
extra = refl

extra-first : FirstAt two (two ++ entry_of 36 16 2) 2
extra-first = differs_first two (two ++ entry_of 36 16 2) 2 extra

-- ---- a part of 3 bytes extra

part : compared two (two ++ (0 ∷ 0 ∷ 0 ∷ [])) ≡ Differs 2
unfolding compared_at bytes
part = refl

part-first : FirstAt two (two ++ (0 ∷ 0 ∷ 0 ∷ [])) 2
part-first = differs_first two (two ++ (0 ∷ 0 ∷ 0 ∷ [])) 2 part

-- ---- in parts: the first records, and then what follows

in_parts : compared two (first ++ changed) ≡ followed_by (compared first first) (compared second changed)
unfolding bytes
in_parts = check_in_parts 1 first second first changed refl refl
