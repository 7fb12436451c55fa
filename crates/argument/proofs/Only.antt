-- No second outcome satisfies the contract of a public function of this crate.
use mathlib.Core.Path.{◌≡◌}
use mathlib.Core.List.{List}
use Prim.Native.Nat.{ℕ}
use Rattle.wire.proofs.Only.{one-outcome}
use Rattle.node.specs.declared.tags.Class.{Class}
use Rattle.argument.specs.Argument.{read_arg}
use Rattle.argument.specs.Results.{Arg, Given}
use Rattle.argument.specs.declared.GivenArg.{GivenArg}

-- an argument that is judged has one answer
pub read-checked-only : (tag : ℕ) (class : Class) (input : List ℕ) (base pos : ℕ) (r s : Arg) → r ≡ read_arg tag class base input pos
    → s ≡ read_arg tag class base input pos → r ≡ s
read-checked-only tag class input base pos r s = one-outcome

-- one that is given has one answer
pub read-osc-arg-only : (tag : ℕ) (class : Class) (input : List ℕ) (base pos : ℕ) (r s : GivenArg)
    → read_arg tag class base input pos ≡ Given r.item r.used → read_arg tag class base input pos ≡ Given s.item s.used
    → (r.item ≡ s.item) × (r.used ≡ s.used)
read-osc-arg-only tag class input base pos r s e f = (cc, cc)
