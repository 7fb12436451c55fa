-- Beside demand 3: bytes appended change no refusal of reading but 2 and 3.
use mathlib.Core.Path.{◌≡◌}
use mathlib.Core.List.{List, ◌++◌}
use Prim.Native.Nat.{ℕ}
use native.Mathlib.Omega.{arith}
use borrow.Author.Tests.{le-leb}
use lib.ListN.{length}
use Rattle.refusal.specs.declared.Fault.{Fault}
use Rattle.refusal.specs.declared.Refusal.TheVariants.{Unreadable}
use Rattle.wire.specs.Limits.{longest, deepest}
use Rattle.framing.specs.Framing.{Whole, trees, waiting, refusal, stopped, udp, tcp}
use Rattle.answering.specs.Limits.{limited, decoded}
use Rattle.results.specs.Results.{Stopped}
use Rattle.std.specs.Prelude.{Err}
use Rattle.argument.specs.Dirt.{dirty_in}
use Rattle.node.specs.Forest.{size}
use Rattle.calls.specs.Words.{Mendable}
use Rattle.calls.specs.Demands.{FaultsStay}
use Rattle.decoder.proofs.Chosen.{by-decoded, by-trees, by-bounded}
use Rattle.decoder.proofs.Answers.{no-packets}
use Rattle.calls.proofs.Longer.Wholes.{Longer, no-tree, udp-longer, tcp-longer}

module _ {k : Fault} where
  limited-refused : (capacity limit : ℕ) (msg : List ℕ) (w : Whole) → limited capacity limit msg w ≡ Err (Unreadable k)
      → w ≡ refusal (Unreadable k)
  limited-refused capacity limit msg (refusal j) e = let same : j ≡ Unreadable k = cc in rw same
  limited-refused capacity limit msg waiting e = let z : ◌≡◌ {A = ℕ} 0 1 = cc in absurd (omega arith)
  limited-refused capacity limit msg (trees f left) e =
      by-trees (λ r. r ≡ Err (Unreadable k) → trees f left ≡ refusal (Unreadable k)) capacity limit msg f left
      (λ h p. let z : ◌≡◌ {A = ℕ} 0 1 = cc in absurd (omega arith))
      (λ h p. let z : ◌≡◌ {A = ℕ} 0 1 = cc in absurd (omega arith))
      (λ h c p. no-packets p) e
  limited-refused capacity limit msg (stopped f left j at) e =
      by-bounded (λ r. r ≡ Err (Unreadable k) → stopped f left j at ≡ refusal (Unreadable k)) capacity limit f
      (Stopped (size f) left (dirty_in msg f) j at) (λ h p. let z : ◌≡◌ {A = ℕ} 0 1 = cc in absurd (omega arith))
      (λ h p. let z : ◌≡◌ {A = ℕ} 0 1 = cc in absurd (omega arith)) (λ h c p. let z : ◌≡◌ {A = ℕ} 0 1 = cc in absurd (omega arith)) e

  -- a refusal of 2 to 8 is given for what the input is read as
  pub read-refused : (rule : List ℕ → Whole) (capacity limit : ℕ) (msg : List ℕ) → decoded rule capacity limit msg ≡ Err (Unreadable k)
      → rule msg ≡ refusal (Unreadable k)
  read-refused rule capacity limit msg =
      by-decoded (λ r. r ≡ Err (Unreadable k) → rule msg ≡ refusal (Unreadable k)) rule capacity limit msg
      (λ h p. let z : ◌≡◌ {A = ℕ} 0 1 = cc in absurd (omega arith))
      (λ h p. let z : ◌≡◌ {A = ℕ} 0 1 = cc in absurd (omega arith))
      (λ h n. limited-refused capacity limit msg (rule msg))

  fault-stays : {w : Whole} → Longer (refusal (Unreadable k)) w → (Mendable k → ⊥) → w ≡ refusal (Unreadable k)
  fault-stays (no-tree s) = s

module _ (rule : List ℕ → Whole) (longer : (msg more : List ℕ) → Longer (rule msg) (rule (msg ++ more))) where
  faults-stay : FaultsStay rule
  unfolding decoded
  faults-stay msg more limit limit' table table' k lasting d n e =
      let same = fault-stays (rw (read-refused rule _ limit msg e) at (longer msg more)) lasting in
      rw (le-leb limit' deepest d, le-leb (length (msg ++ more)) longest n, same)

-- bytes appended leave a refusal of `decode_udp` with 4 to 8
pub faults_stay_udp : FaultsStay udp
faults_stay_udp = faults-stay udp udp-longer

-- and one of `decode_tcp`
pub faults_stay_tcp : FaultsStay tcp
faults_stay_tcp = faults-stay tcp tcp-longer
