-- The checks of a walk's parts, chained by the number that is told, tell what the check of all says.
use mathlib.Core.Path.{◌≡◌, refl, ap, sym, ◌∙◌}
use mathlib.Core.List.{List, [], ◌∷◌}
use Prim.Native.Nat.{ℕ, ◌+◌, ◌*◌, ◌<◌, ◌≤◌}
use native.Mathlib.Omega.{arith}
use borrow.Author.Tests.{lt-ltb, ne_eqb, eq-eqb}
use lib.Dec.{eqb}
use lib.ListN.{length, take, drop, length-append, length-take, length-drop}
use Rattle.folding.specs.Folding.{joined_bytes}
use Rattle.cues.specs.Checks.{compared, checked_as, numbered_from, followed_by}
use Rattle.results.specs.Results.{Checked}
use Rattle.std.specs.Prelude.{Ok, Err}
use Rattle.recordings.specs.Recordings.{checked_in_parts}
use Rattle.cues.proofs.Checks.{numbered-twice, numbered-none}
use Rattle.told.specs.Told.{refusal_in}
use Rattle.told.specs.Answers.{differs_number, checked_number}
use Rattle.apart.specs.Boundary.{most_checked, check_number}
use Rattle.apart.proofs.Bounds.{fits-checked, differs-checked}
use Rattle.recordings.proofs.Walks.{walk_checks, walk-written}
use Rattle.check_walk.specs.Chain.{unless_refused, chained, WalkTells}

-- where no limit refuses it, a step tells its check
told-check : (fresh given : List ℕ) (n : ℕ) → n < most_checked → length fresh < most_checked → length given < most_checked
    → check_number fresh given n ≡ checked_number (numbered_from n (compared fresh given))
told-check fresh given n a b c = rw (lt-ltb n most_checked a, lt-ltb (length fresh) most_checked b, lt-ltb (length given) most_checked c)

module _ (part given : List ℕ) (from : ℕ) (next : ℕ → ℕ) (rest : Checked) (low : from + length part < most_checked) where
  abbrev front : List ℕ
  front = take (length part) given

  by-check : (c : Checked) → compared part front ≡ c
      → ((k : ℕ) → from + k < most_checked → k ≤ length part → next (from + k) ≡ checked_number (numbered_from (from + k) rest))
      → unless_refused next (checked_number (numbered_from from c)) ≡ checked_number (numbered_from from (followed_by c rest))
  by-check (Ok k) e go =
      let few : k ≤ length part = omega (arith, fits-checked part front e) in
      let none : eqb (refusal_in (from + k)) 0 ≡ _ = eq-eqb (refusal_in (from + k)) 0 (omega arith) in
      rw none (go k (omega arith) few ∙ ap checked_number (sym (numbered-twice from k rest)))
  by-check (Err differs) e go =
      let few : differs.at < 2 * length part + 1 = omega (arith, differs-checked part front e, length-take (length part) given) in
      let some : eqb (refusal_in (differs_number (from + differs.at))) 0 ≡ _
      = ne_eqb (refusal_in (differs_number (from + differs.at))) 0 (λ z. omega arith) in
      rw some

chain-is : (parts : List (List ℕ)) (from : ℕ) (given : List ℕ) → from + length (joined_bytes parts) < most_checked
    → length given < most_checked → chained from parts given ≡ checked_number (numbered_from from (checked_in_parts parts given))
unfolding chained checked_in_parts joined_bytes
chain-is [] from given low high = told-check [] given from (omega arith) (omega arith) high
chain-is (part ∷ later) from given low high =
    let long = length-append part (joined_bytes later) in
    let front = take (length part) given in
    ap (unless_refused (λ told. chained told later (drop (length part) given)))
    (told-check part front from (omega arith) (omega arith) (omega (arith, length-take (length part) given)))
    ∙ by-check part given from (λ told. chained told later (drop (length part) given))
    (checked_in_parts later (drop (length part) given)) (omega arith) (compared part front) refl
    (λ k fits few. chain-is later (from + k) (drop (length part) given) (omega arith) (omega (arith, length-drop (length part) given)))

-- a walk so checked tells what the check of all says
pub walk_tells : WalkTells
walk_tells portions parts i given w low high =
    chain-is parts 0 given (omega (arith, ap length (walk-written portions parts i w))) high
    ∙ ap (λ (c : Checked). checked_number (numbered_from 0 c)) (walk_checks portions parts i given w)
    ∙ ap checked_number (numbered-none (checked_as (joined_bytes portions) given))
