-- Each kind of container is a case of the definition.
use mathlib.Core.Path.{ap}
use native.Mathlib.Omega.{arith}
use Rattle.std.proofs.lemmas.Bool.Decides.{nat_tests}
use mathlib.Core.Bool.{not}
use mathlib.Core.List.{[], ◌∷◌}
use Prim.Native.Nat.{ℕ}
use Rattle.node.specs.Tags.{message_kind, array_kind}
use Rattle.node.proofs.Keys.{by-keys}
use Rattle.table.specs.Formed.{allowed}
use Rattle.table.proofs.may_contain.Goals as goal

pub returns-in-35 : goal.returns-in-35
unfolding allowed
returns-in-35 c = rw c.in-35.is c.is_packet.ensures

pub returns-in-47 : goal.returns-in-47
unfolding allowed
returns-in-47 c =
    let e = ap not c.is_packet-in-47.ensures in
    by-keys (λ (k : ℕ). allowed k c.args.kind) (not c.is_packet-in-47.result) (message_kind ∷ array_kind ∷ [])
    (e, (e, tt)) _
    c.in-47.is

pub returns-in_default : goal.returns-in_default
unfolding allowed
returns-in_default c = grind (arith, nat_tests)
