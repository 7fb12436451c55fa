-- Demand 1 of `pad`, `look` and `start_of`, which write nothing; what `text_of` hands back is a result.
use mathlib.Core.Path.{refl}
use mathlib.Core.Bool.{◌&&◌}
use mathlib.Core.List.{List}
use Prim.Native.Nat.{ℕ}
use lib.Dec.{eqb, ltb}
use Rattle.node.specs.Records.{zeros_at, item_at, capacity}
use Rattle.node.specs.Rules.{own_rules}
use Rattle.values.specs.Look.{look_at, started_at}
use Rattle.contract.specs.Contract.{Lists, Demand1}
use Rattle.calls.specs.Calls.{pad, look, start_of, contract_of}
use Rattle.contract.proofs.OneEnding.{answers-demand}
use Rattle.wire.proofs.Choices.{by-test, by_le}

pub pad-demand : (pos : ℕ) → Demand1 (contract_of (pad pos))
pad-demand pos = answers-demand (by_le (Lists (contract_of (pad pos))) pos 0xffff_ffff_ffff_fffc (λ _. tt) (λ _. refl))

module _ (t : List ℕ) (i : ℕ) where
  pub look-listed : Lists (contract_of (look t i)) (look_at t i)
  unfolding look_at
  look-listed =
      let P = Lists (contract_of (look t i)) in
      by-test P (ltb i (capacity t)) (λ _. by-test P (eqb (zeros_at t i) 0 && own_rules (item_at t i)) (λ _. tt) (λ _. refl)) (λ _. refl)

  pub start-listed : Lists (contract_of (start_of t i)) (started_at t i)
  unfolding started_at
  start-listed = by-test (Lists (contract_of (start_of t i))) (ltb i (capacity t)) (λ _. tt) (λ _. refl)
