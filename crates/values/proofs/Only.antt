-- No second outcome satisfies a contract of this crate's public calls.
use mathlib.Core.Path.{◌≡◌}
use mathlib.Core.List.{List}
use Prim.Native.Nat.{ℕ}
use Rattle.values.specs.Look.{look_at, started_at, text_named}
use Rattle.values.specs.declared.value.OscType.{OscType}
use Rattle.values.specs.Results.{Looked, Started}
use Rattle.wire.proofs.Only.{one-outcome}

-- no second answer satisfies the contract of `look`
pub look-only : (table : List ℕ) (index : ℕ) (r s : Looked) → r ≡ look_at table index → s ≡ look_at table index → r ≡ s
look-only table index r s = one-outcome

-- no second answer satisfies the contract of `start_of`
pub start-of-only : (table : List ℕ) (index : ℕ) (r s : Started) → r ≡ started_at table index → s ≡ started_at table index → r ≡ s
start-of-only table index r s = one-outcome

-- no second text satisfies the contract of `text_of`
pub text-of-only : (value : OscType) (packet label r s : List ℕ) → r ≡ text_named value packet label
    → s ≡ text_named value packet label → r ≡ s
text-of-only value packet label r s = one-outcome
