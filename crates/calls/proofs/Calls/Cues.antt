-- Demand 1 of the calls over a cue index.
use mathlib.Core.Path.{◌≡◌, refl}
use mathlib.Core.Bool.{true}
use mathlib.Core.List.{List}
use Prim.Native.Nat.{ℕ, ◌+◌, ◌/◌}
use lib.Dec.{ltb}
use lib.ListN.{length}
use Rattle.refusal.specs.Refusal.{number_of}
use Rattle.refusal.specs.declared.Refusal.{Refusal}
use Rattle.wire.specs.Limits.{longest}
use Rattle.node.specs.Tags.{among}
use Rattle.results.specs.declared.End.TheVariants as end
use Rattle.results.specs.Results.{Checked, IndexAnswer}
use Rattle.std.specs.Prelude.{Ok, Err}
use Rattle.cues.specs.Cues.{longest_recording, entry_size, Index, index, index_of, written_of, indexed_as, index_answer, index_leaves}
use Rattle.cues.specs.Checks.{compared}
use Rattle.cues.specs.Refusals.{cue_order}
use Rattle.contract.specs.Contract.{Contract, Lists, Demand1}
use Rattle.calls.specs.Calls.{index_step, compare, cue_at, contract_of}
use Rattle.contract.proofs.OneEnding.{WellEnded, one-ending, answers-demand}
use Rattle.wire.proofs.Choices.{by-test, by_le}
use Rattle.cues.proofs.Indexes.{IndexIn, index_in}
use Rattle.cues.proofs.Numbers.{refused-among}
use Rattle.cues.proofs.Only.{indexes-only, indexes-met}

-- what is known of a refused frame
abbrev FrameListed : ℕ → Refusal → Type 0
FrameListed m k = among (number_of k) cue_order ≡ true

module _ (bytes : List ℕ) (base : ℕ) (out : List ℕ) where
  abbrev indexing : Contract
  indexing = contract_of (index_step bytes base out)

  abbrev Ended : IndexAnswer → Type 0
  Ended r = WellEnded indexing r (index_leaves r (written_of (index_of base bytes)) out)

  written-ends : (i : Index) → IndexIn FrameListed base (length bytes) i → Ended (indexed_as base i)
  written-ends (index written at end.Whole) w = (tt, λ n. absurd n)
  written-ends (index written at end.Waiting) w = (tt, λ n. absurd n)
  written-ends (index written at (end.Refused k)) w = (w.3, λ n. absurd n)

  index-ends : Ended (index_answer base bytes (length out))
  index-ends =
      let i = index_of base bytes in
      by_le Ended (length bytes) longest
      (λ _. by_le Ended (base + length bytes) longest_recording
      (λ _. by_le Ended (length (written_of i)) (length out) (λ _. written-ends i (index_in FrameListed refused-among base bytes))
      (λ _. (refl, λ _. refl))) (λ _. (refl, λ _. refl))) (λ _. (refl, λ _. refl))

  pub index-demand : Demand1 indexing
  index-demand = one-ending indexing _ _ indexes-met (λ r l m. indexes-only m indexes-met) index-ends

module _ (fresh given : List ℕ) where
  checked-listed : (r : Checked) → Lists (contract_of (compare fresh given)) r
  checked-listed (Ok n) = tt
  checked-listed (Err differs) = refl

  pub compare-demand : Demand1 (contract_of (compare fresh given))
  compare-demand = answers-demand (checked-listed (compared fresh given))

pub cue-demand : (w : List ℕ) (k : ℕ) → Demand1 (contract_of (cue_at w k))
cue-demand w k =
    answers-demand (by-test (Lists (contract_of (cue_at w k))) (ltb k (length w / entry_size)) (λ _. tt) (λ _. refl))
