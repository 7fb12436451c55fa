-- The forms of the refusals, by their numbers.
use mathlib.Core.Path.{◌≡◌, refl, sym, ap, ◌∙◌}
use mathlib.Core.List.{List, [], ◌∷◌, map}
use Prim.Native.Nat.{ℕ, zero, suc, ◌≤◌, ◌<◌}
use Prim.Native.String.{String}
use native.Mathlib.Omega.{arith}
use lib.ListN.{length, get_or, get_or-eq_default}
use Rattle.std.proofs.Common.{Bor}
use Rattle.words.specs.Ascii.{ascii}
use Rattle.words.proofs.Tables.{beside_of, paired-number}
use Rattle.telling.specs.Refusals.{refused_forms, refused_form}

-- the form at a number is that of its refusal
pub refused-words : (n : ℕ) → refused_form n ≡ get_or (beside_of refused_forms) n ""
refused-words n = paired-number (λ number. number) "" refused_forms n refl

-- a form of a table that has the bytes of these
row-at : (rows : List (Bor (List ℕ))) (words : List String) (n : ℕ) (d : Bor (List ℕ)) → map (λ row. row.now) rows ≡ map ascii words
    → n < length rows → (get_or rows n d).now ≡ ascii (get_or words n "")
row-at [] words n d e h = absurd (omega arith)
row-at (row ∷ rows) [] n d e h = cc
row-at (row ∷ rows) (word ∷ words) zero d e h = cc
row-at (row ∷ rows) (word ∷ words) (suc n) d e h =
    let e' : map (λ row. row.now) rows ≡ map ascii words = cc in row-at rows words n d e' (omega arith)

pub form-at : (rows : List (Bor (List ℕ))) (n : ℕ) (d : Bor (List ℕ)) → map (λ row. row.now) rows ≡ map ascii (beside_of refused_forms)
    → n < length rows → (get_or rows n d).now ≡ ascii (refused_form n)
form-at rows n d e h = row-at rows (beside_of refused_forms) n d e h ∙ ap ascii (sym (refused-words n))

-- past the last there is none
pub form-none : (n : ℕ) → 29 ≤ n → [] ≡ ascii (refused_form n)
form-none n h = ap ascii (sym (refused-words n ∙ get_or-eq_default (beside_of refused_forms) "" h))
