-- No second outcome satisfies the contract of a public function of this crate.
use mathlib.Core.Path.{◌≡◌}
use mathlib.Core.List.{List, ◌++◌}
use Prim.Native.Nat.{ℕ, ◌+◌}
use lib.ListN.{replicate}
use Rattle.wire.specs.Wrote.{Wrote}
use Rattle.wire.proofs.Only.{one-outcome}
use Rattle.wire.proofs.Writers.{wrote_one}
use Rattle.node.specs.Records.{records_of}
use Rattle.argument.specs.CodeParts.{StandsAt, dirt_of}
use Rattle.argument.proofs.Stands.{stands-somewhere}
use Rattle.arguments.specs.Arguments.{read_args}
use Rattle.arguments.specs.CodeReadings.{measured, kept_of}
use Rattle.arguments.specs.Results.{Measured}

-- the first reading has one answer: some input has these bytes somewhere
pub measure-osc-args-only : (tags input : List ℕ) (pos : ℕ) (r s : Measured)
    → ((base : ℕ) (msg : List ℕ) → StandsAt msg (base + pos) input → r ≡ measured (dirt_of base msg) (read_args base tags input pos))
    → ((base : ℕ) (msg : List ℕ) → StandsAt msg (base + pos) input → s ≡ measured (dirt_of base msg) (read_args base tags input pos))
    → r ≡ s
measure-osc-args-only tags input pos r s e f =
    let msg = replicate (0 + pos) 0 ++ input in
    let w = stands-somewhere (0 + pos) input in
    one-outcome (e 0 msg w) (f 0 msg w)

-- the second reading leaves one table
pub read-osc-args-only : (tags input : List ℕ) (base pos : ℕ) (table : List ℕ) (index : ℕ) (t u : List ℕ)
    → Wrote (records_of index (kept_of (read_args base tags input pos))) table t
    → Wrote (records_of index (kept_of (read_args base tags input pos))) table u → t ≡ u
read-osc-args-only tags input base pos table index t u = wrote_one
