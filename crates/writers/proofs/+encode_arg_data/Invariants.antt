-- The loop keeps what of the row is written and what is left. The number of records falls, in the loop and in the calls.
use mathlib.Core.Path.{◌≡◌}
use Prim.Native.Nat.{◌-◌}
use Rattle.writers.specs.Osc.{write_data}
use Rattle.writers.specs.CodeWriters.{SoundIn}
use Rattle.writers.proofs.Rows.{Going}
use Rattle.writers.proofs.+encode_arg_data.Given as goal

abbrev pub decreases-encode_arg_data : goal.decreases-encode_arg_data
decreases-encode_arg_data l = l.hi - l.lo

abbrev pub invariant-loop-at : goal.invariant-loop-at
invariant-loop-at l =
    (l.at-iterator.table.now ≡ l.table) × (l.at-iterator.hi ≡ l.hi)
    × Going (SoundIn l.source) (write_data l.source) (write_data l.source) l.table l.lo l.hi l.initial.out l.out l.at-iterator.at l.written
