-- A row of checks answers as the check in parts does; and a walk whose parts are checked answers as the check of the whole recording.
use mathlib.Core.Path.{◌≡◌, refl, ap, sym, ◌∙◌}
use mathlib.Core.List.{List, [], ◌∷◌}
use Prim.Native.Nat.{ℕ, suc, ◌+◌, ◌*◌}
use native.Mathlib.Omega.{arith}
use lib.ListN.{length, take, drop}
use Rattle.cues.specs.Cues.{entry_size}
use Rattle.cues.specs.Checks.{compared, compared_at, numbered_from, followed_by}
use Rattle.cues.proofs.Checks.{fits_exactly, numbered-twice, numbered-none, compared-stops}
use Rattle.results.specs.Results.{Checked, Differs}
use Rattle.std.specs.Prelude.{Ok, Err}
use Rattle.recordings.specs.Recordings.{checked_in_parts}
use Rattle.recordings.proofs.Walks.{walk_checks}
use Rattle.tool_walks.specs.Runs.{begun, CheckRun, none_left, part_fits, part_differs, CheckRuns, RunChecks}
use Rattle.tool_walks.proofs.Runs.{run-walks}

-- one byte tells whether there are more
by-one-byte : (given : List ℕ) → compared [] (take 1 given) ≡ compared [] given
by-one-byte [] = refl
by-one-byte (x ∷ given) =
    compared-stops [] (take 1 (x ∷ given)) (λ e. none (ap length e)) ∙ sym (compared-stops [] (x ∷ given) (λ e. none (ap length e)))
  where
    none : {n : ℕ} → 0 ≡ suc n → ⊥
    none z = omega arith

-- a part of n records that fits is followed by record n
module _ (part given : List ℕ) (from n : ℕ) (long : length part ≡ entry_size * n) where
  by_answer : (c : Checked) → compared part given ≡ c → {next : ℕ} → Ok next ≡ numbered_from from c → c ≡ Ok n
  by_answer (Ok k) e f = let w = (fits_exactly part given).counts k e in let same : k ≡ n = omega (arith, w.0, w.1) in rw same
  by_answer (Err differs) e f = let z : ◌≡◌ {A = ℕ} 0 1 = cc in absurd (omega arith)

  fits_all : {next : ℕ} → Ok next ≡ numbered_from from (compared part given) → compared part given ≡ Ok n
  fits_all f = by_answer (compared part given) refl f

-- one that differs ends the check
differs-here : (from : ℕ) {k : ℕ} (c rest : Checked) → Differs k ≡ numbered_from from c → Differs k ≡ numbered_from from (followed_by c rest)
differs-here from (Ok n) rest e = let z : ◌≡◌ {A = ℕ} 0 1 = cc in absurd (omega arith)
differs-here from (Err differs) rest e = e

check-run : {from : ℕ} {parts : List (List ℕ)} {given : List ℕ} {r : Checked} → CheckRun from parts given r
    → r ≡ numbered_from from (checked_in_parts parts given)
unfolding checked_in_parts
check-run {from} {given = given} (none_left e) = e ∙ ap (numbered_from from) (by-one-byte given)
check-run {from} {given = given} (part_fits {part = part} {later = later} n long e c) =
    let rest = checked_in_parts later (drop (length part) given) in
    check-run c ∙ sym (numbered-twice from n rest)
    ∙ ap (λ (x : Checked). numbered_from from (followed_by x rest)) (sym (fits_all part (take (length part) given) from n long e))
check-run {from} {given = given} (part_differs {part = part} {later = later} e) =
    differs-here from (compared part (take (length part) given)) (checked_in_parts later (drop (length part) given)) e

-- every row of checks
pub check-runs : CheckRuns
check-runs from parts given r c = check-run c

-- every run whose parts are checked
pub run_checks : RunChecks
run_checks before portions parts last why given r w c =
    check-run c ∙ numbered-none (checked_in_parts parts given)
    ∙ walk_checks portions parts _ given (run-walks begun before portions parts last why w)
