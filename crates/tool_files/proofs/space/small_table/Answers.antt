-- `tool_files::space::small_table` meets its contract. A repeat of any length is as long as it says.
use Prim.Native.Nat.{ℕ, ◌≤◌}
use native.Mathlib.Omega.{arith}
use lib.ListN.{length, replicate, length-replicate}
use Rattle.tool_files.proofs.space.small_table.Goals as goal

zeros : (n m : ℕ) → n ≤ m → length {A = ℕ} (replicate n 0) ≤ m
zeros n m h = rw (length-replicate {A = ℕ} n 0) h

pub returns : goal.returns
returns c = zeros 520001 1310700 (omega arith)
