-- What a decoder answers, from what the first reading gave: 13, then 1, then the first reading within the limits.
use mathlib.Core.Path.{◌≡◌, refl, ap, sym, ◌∙◌, subst}
use mathlib.Core.List.{List}
use Prim.Native.Nat.{ℕ, ◌<◌, ◌≤◌}
use borrow.Author.Tests.{le-leb, lt-leb}
use lib.Dec.{leb}
use lib.ListN.{length}
use Rattle.refusal.specs.declared.Refusal.TheVariants.{TooLong, DepthLimit}
use Rattle.wire.specs.Limits.{longest, deepest}
use Rattle.wire.proofs.Choices.{by_both}
use Rattle.node.specs.Forest.{depth}
use Rattle.argument.specs.Dirt.{dirty_in}
use Rattle.framing.specs.Framing.{Whole, trees, waiting, refusal, stopped, rule_of}
use Rattle.edition.specs.declared.Framing.{Framing}
use Rattle.rosc_inputs.specs.CodeTotals.{total_of}
use Rattle.results.specs.Results.{DecodeAnswer}
use Rattle.rosc_inputs.specs.Results.{Total}
use Rattle.std.specs.Prelude.{Err}
use Rattle.answering.specs.Limits.{limited, decoded}
use Rattle.answering.specs.CodeAnswered.{answered}

limited-is : (capacity limit : ℕ) (msg : List ℕ) (w : Whole)
    → limited capacity limit msg w ≡ answered capacity (total_of limit (dirty_in msg) w)
limited-is capacity limit msg waiting = refl
limited-is capacity limit msg (refusal k) = refl
limited-is capacity limit msg (trees f left) =
    by_both (λ (x : DecodeAnswer) (y : Total). x ≡ answered capacity y) (leb (depth f) limit) refl refl
limited-is capacity limit msg (stopped f left k at) =
    by_both (λ (x : DecodeAnswer) (y : Total). x ≡ answered capacity y) (leb (depth f) limit) refl refl

-- the first reading by a framing that is known
pub total-by : {f g : Framing} → f ≡ g → {r : Total} (limit : ℕ) (msg : List ℕ) → r ≡ total_of limit (dirty_in msg) (rule_of g limit msg)
    → r ≡ total_of limit (dirty_in msg) (rule_of f limit msg)
total-by e {r} limit msg w = subst (λ (x : Framing). r ≡ total_of limit (dirty_in msg) (rule_of x limit msg)) (sym e) w

module _ (rule : List ℕ → Whole) (capacity limit : ℕ) (msg : List ℕ) where
  -- 13 comes first
  pub depth-over : deepest < limit → Err DepthLimit ≡ decoded rule capacity limit msg
  unfolding decoded
  depth-over h = rw (decoded, lt-leb limit deepest h)

  -- then 1
  pub length_over : limit ≤ deepest → longest < length msg → Err TooLong ≡ decoded rule capacity limit msg
  unfolding decoded
  length_over h g = rw (decoded, le-leb limit deepest h, lt-leb (length msg) longest g)

  -- then the first reading within the limits
  pub decoded-is : {r : Total} {x : DecodeAnswer} → limit ≤ deepest → length msg ≤ longest → x ≡ answered capacity r
      → r ≡ total_of limit (dirty_in msg) (rule msg) → x ≡ decoded rule capacity limit msg
  unfolding decoded
  decoded-is h g a e = a ∙ ap (answered capacity) e ∙ sym (limited-is capacity limit msg (rule msg))
      ∙ rw (decoded, le-leb limit deepest h, le-leb (length msg) longest g)
