-- What a step answers by what `decode_tcp_vec` does: the bytes that are left over are among those that it was given.
use mathlib.Core.Path.{◌≡◌, sym, subst, ap, ◌∙◌}
use mathlib.Core.List.{List}
use Prim.Native.Nat.{ℕ, ◌≤◌}
use native.Mathlib.Omega.{arith}
use lib.ListN.{length}
use Rattle.node.specs.Records.{capacity}
use Rattle.framing.specs.Framing.{Whole, trees, waiting, refusal, stopped, tcp_vec2}
use Rattle.answering.specs.Limits.{limited, decoded, forest_of, tabled, Decodes}
use Rattle.results.specs.Results.{DecodeAnswer}
use Rattle.std.specs.Prelude.{Err}
use Rattle.results.specs.Results as list
use Rattle.decoder.proofs.Chosen.{by-decoded, by-trees, by-bounded}
use Rattle.decoder.proofs.Sizes.{WholeIn, vec2-in}
use Rattle.portions.specs.Portions.{portion_of, Steps}

-- the bytes that an answer leaves over are at most n
abbrev LeftIn : ℕ → DecodeAnswer → Type 0
LeftIn n (list.Packets count left dirty) = left ≤ n
LeftIn n list.Waiting = Unit {0}
LeftIn n (Err r) = Unit {0}
LeftIn n (list.Stopped count left dirty r at) = Unit {0}

limited-left : (capacity limit n : ℕ) (msg : List ℕ) (w : Whole) → WholeIn n w → LeftIn n (limited capacity limit msg w)
limited-left capacity limit n msg (trees f left) h =
    by-trees (LeftIn n) capacity limit msg f left (λ g. tt) (λ g. tt) (λ g k. omega arith)
limited-left capacity limit n msg waiting h = tt
limited-left capacity limit n msg (refusal r) h = tt
limited-left capacity limit n msg (stopped f left r at) h = by-bounded (LeftIn n) capacity limit f _ (λ g. tt) (λ g. tt) (λ g k. tt)

-- a list of edition 2 leaves no more bytes over than it was given
pub left_in : {count left dirty : ℕ} (capacity limit : ℕ) (msg : List ℕ)
    → list.Packets count left dirty ≡ decoded (tcp_vec2 limit) capacity limit msg → left ≤ length msg
left_in capacity limit msg e =
    subst (LeftIn (length msg)) (sym e)
    (by-decoded (LeftIn (length msg)) (tcp_vec2 limit) capacity limit msg (λ g. tt) (λ g. tt)
    (λ g k. limited-left capacity limit (length msg) msg (tcp_vec2 limit msg) (vec2-in limit msg)))

-- a step answers what the decoder's answer x says, and leaves its table
pub step_by : {r x : DecodeAnswer} {bytes table after : List ℕ} {limit : ℕ} → Decodes (tcp_vec2 limit) bytes table limit r after → r ≡ x
    → Steps bytes table limit (portion_of (length bytes) x) after
step_by {r} {x} {bytes} {table} {after} {limit} d e =
    record {
      answers = ap (portion_of (length bytes)) (sym e ∙ d.answered);
      leaves = d.left ∙ ap (λ (y : DecodeAnswer). tabled y (forest_of (tcp_vec2 limit bytes)) table) d.answered;
    }
