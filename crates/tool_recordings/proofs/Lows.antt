-- The program's walk over a recording stays within its numbers.
use mathlib.Core.Path.{◌≡◌, ap, subst, subst⁻¹}
use mathlib.Core.List.{List}
use Prim.Native.Nat.{ℕ, ◌≤◌}
use native.Mathlib.Omega.{arith}
use lib.ListN.{length, length-take}
use Rattle.walks.specs.Walks.{LowPosition, LowLast, LowAfter, WalkStep}
use Rattle.walks.specs.declared.Position.{Position}
use Rattle.walks.specs.declared.Walked.{Walked}
use Rattle.walks.specs.declared.Walked.TheVariants as walked
use Rattle.results.specs.declared.End.{End}
use Rattle.tool_recordings.specs.Loops.{fresh_in}

-- a walk that begins
pub start-low : {p : Position} → p ≡ record { at = 0; records = 0; kept = 0 } → LowPosition p
start-low e = subst⁻¹ LowPosition e (record { few = omega arith; near = omega arith; short = omega arith })

-- the records of a step have room where its output has
by-walked : (from : Position) (room : ℕ) (s : Walked) (after : List ℕ) → LowAfter from room s → length (fresh_in s after) ≤ room
by-walked from room (walked.On n next) after low = omega (arith, low.2, length-take n after)
by-walked from room (walked.Ended n last why) after low = omega (arith, low.1, length-take n after)
by-walked from room walked.TooLong after low = omega arith

module _ {from : Position} {buf out kept after : List ℕ} {count : ℕ} {r : Walked} (w : WalkStep from buf count out r kept after) where
  pub fresh-fits : {s : Walked} {fresh : List ℕ} (most : ℕ) → r ≡ s → fresh ≡ fresh_in s after → length out ≤ most → length fresh ≤ most
  fresh-fits {s} most e f fits =
      omega (arith, by-walked from (length out) s after (subst (LowAfter from (length out)) e w.low), ap length f, fits)

  -- a step after which there are no more records
  pub end_low : {n : ℕ} {last : Position} {why : End} → r ≡ walked.Ended n last why → LowLast last why
  end_low e = (subst (LowAfter from (length out)) e w.low).0
