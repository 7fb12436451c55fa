-- Demand 3: n records always hold what n bytes decode to.
use mathlib.Core.Path.{◌≡◌}
use mathlib.Core.List.{List}
use Prim.Native.Nat.{ℕ, ◌≤◌}
use native.Mathlib.Omega.{arith}
use lib.ListN.{length}
use Rattle.refusal.specs.declared.Refusal.TheVariants.{TableFull}
use Rattle.framing.specs.Framing.{Whole, trees, waiting, refusal, stopped, rule_of}
use Rattle.edition.specs.declared.Framing.{Framing}
use Rattle.answering.specs.Limits.{limited}
use Rattle.results.specs.Results.{DecodeAnswer, Stopped}
use Rattle.std.specs.Prelude.{Err}
use Rattle.argument.specs.Dirt.{dirty_in}
use Rattle.node.specs.Forest.{size}
use Rattle.calls.specs.Demands.{RecordsHold}
use Rattle.decoder.proofs.Chosen.{by-decoded, by-trees, by-bounded}
use Rattle.decoder.proofs.Sizes.{WholeIn, whole_in}

-- another answer than 10
abbrev NotTen : DecodeAnswer → Type 0
NotTen r = r ≡ Err TableFull → ⊥

not-ten : (room limit n : ℕ) (msg : List ℕ) (w : Whole) → n ≤ room → WholeIn n w → NotTen (limited room limit msg w)
not-ten room limit n msg (trees f left) h w =
    by-trees NotTen room limit msg f left (λ g e. let z : ◌≡◌ {A = ℕ} 0 1 = cc in omega arith) (λ g e. omega arith)
    (λ g k e. let z : ◌≡◌ {A = ℕ} 0 1 = cc in omega arith)
not-ten room limit n msg waiting h w = λ e. let z : ◌≡◌ {A = ℕ} 0 1 = cc in omega arith
not-ten room limit n msg (refusal k) h w = λ e. w cc
not-ten room limit n msg (stopped f left k at) h w =
    by-bounded NotTen room limit f (Stopped (size f) left (dirty_in msg f) k at) (λ g e. let z : ◌≡◌ {A = ℕ} 0 1 = cc in omega arith)
    (λ g e. omega arith) (λ g j e. let z : ◌≡◌ {A = ℕ} 0 1 = cc in omega arith)

-- no decoder answers 10 where there is a record for each byte
pub records_hold : (framing : Framing) → RecordsHold framing
records_hold framing msg limit room h =
    by-decoded NotTen (rule_of framing limit) room limit msg (λ g e. let z : ◌≡◌ {A = ℕ} 0 1 = cc in omega arith)
    (λ g e. let z : ◌≡◌ {A = ℕ} 0 1 = cc in omega arith)
    (λ g k. not-ten room limit (length msg) msg (rule_of framing limit msg) h (whole_in framing limit msg))
