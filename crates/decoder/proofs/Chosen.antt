-- What holds of every answer of a decoder, each where it is chosen.
use mathlib.Core.List.{List}
use Prim.Native.Nat.{ℕ, ◌<◌, ◌≤◌}
use lib.ListN.{length}
use Rattle.refusal.specs.declared.Refusal.TheVariants.{TooLong, TooDeep, TableFull, DepthLimit}
use Rattle.wire.specs.Limits.{longest, deepest}
use Rattle.node.specs.Forest.{Forest, size, depth}
use Rattle.wire.proofs.Choices.{by_le}
use Rattle.argument.specs.Dirt.{dirty_in}
use Rattle.framing.specs.Framing.{Whole, trees}
use Rattle.answering.specs.Limits.{bounded, limited, decoded}
use Rattle.results.specs.Results.{DecodeAnswer, Packets}
use Rattle.std.specs.Prelude.{Err}

module _ (P : DecodeAnswer → Type 0) where
  -- 13, then 1, then what the rule gives
  pub by-decoded : (rule : List ℕ → Whole) (capacity limit : ℕ) (msg : List ℕ) → (deepest < limit → P (Err DepthLimit))
      → (longest < length msg → P (Err TooLong))
      → (limit ≤ deepest → length msg ≤ longest → P (limited capacity limit msg (rule msg))) → P (decoded rule capacity limit msg)
  unfolding decoded
  by-decoded rule capacity limit msg deep long f = by_le P limit deepest (λ h. by_le P (length msg) longest (λ k. f h k) long) deep

  -- of an answer with trees: 9, then 10, then the answer
  pub by-bounded : (capacity limit : ℕ) (f : Forest) (given : DecodeAnswer) → (limit < depth f → P (Err TooDeep))
      → (capacity < size f → P (Err TableFull)) → (depth f ≤ limit → size f ≤ capacity → P given)
      → P (bounded capacity limit f given)
  by-bounded capacity limit f given deep full g = by_le P (depth f) limit (λ h. by_le P (size f) capacity (λ k. g h k) full) deep

  -- of trees: 9, then 10, then their count and their dirt
  pub by-trees : (capacity limit : ℕ) (msg : List ℕ) (f : Forest) (left : ℕ) → (limit < depth f → P (Err TooDeep))
      → (capacity < size f → P (Err TableFull))
      → (depth f ≤ limit → size f ≤ capacity → P (Packets (size f) left (dirty_in msg f)))
      → P (limited capacity limit msg (trees f left))
  by-trees capacity limit msg f left deep full g = by-bounded capacity limit f (Packets (size f) left (dirty_in msg f)) deep full g
