-- What `decode_tcp_vec` answers in edition 2 where there is room: what the list is read as, told.
use mathlib.Core.Path.{◌≡◌, refl}
use mathlib.Core.List.{List}
use Prim.Native.Nat.{ℕ, ◌≤◌}
use borrow.Author.Tests.{le-leb}
use lib.ListN.{length}
use Rattle.wire.specs.Limits.{longest, deepest}
use Rattle.node.specs.Forest.{size, depth}
use Rattle.node.specs.Records.{capacity}
use Rattle.argument.specs.Dirt.{dirty_in}
use Rattle.framing.specs.Framing.{Whole, trees, waiting, refusal, stopped, tcp_vec2}
use Rattle.answering.specs.Limits.{limited, decoded, forest_of}
use Rattle.results.specs.Results.{DecodeAnswer, Packets, Stopped, Waiting}
use Rattle.std.specs.Prelude.{Err}
use Rattle.decoder.specs.CodeFrames.{Accepted}
use Rattle.decoder.proofs.Chosen.{by-decoded, by-bounded}
use Rattle.decoder.proofs.Sizes.{vec2-accepted, vec2-shallow}
use Rattle.calls.specs.Words.{Gives}
use Rattle.cutting.specs.Cutting.{list_answer}

-- a list of msg as it is told where no limit refuses it
abbrev pub told_as : List ℕ → Whole → DecodeAnswer
told_as msg (trees f left) = Packets (size f) left (dirty_in msg f)
told_as msg waiting = Waiting
told_as msg (refusal r) = Err r
told_as msg (stopped f left why at) = Stopped (size f) left (dirty_in msg f) why at

-- neither 13 nor 1 refuses a call
pub record Roomy (limit : ℕ) (msg : List ℕ) : Type 0 where
  pub deep : limit ≤ deepest
  pub short : length msg ≤ longest

-- where no limit refuses it, a list is told as it is read
pub told : (limit : ℕ) (msg table : List ℕ) → Roomy limit msg
    → size (forest_of (tcp_vec2 limit msg)) ≤ capacity table → list_answer limit msg table ≡ told_as msg (tcp_vec2 limit msg)
unfolding decoded
told limit msg table r room =
    rw (le-leb limit deepest r.deep, le-leb (length msg) longest r.short) (by_whole (tcp_vec2 limit msg) (vec2-accepted limit msg)
    (vec2-shallow limit msg) room)
  where
    by_whole : (w : Whole) → Accepted w → depth (forest_of w) ≤ limit → size (forest_of w) ≤ capacity table
        → limited (capacity table) limit msg w ≡ told_as msg w
    by_whole (trees f left) a h s = rw (le-leb (depth f) limit h, le-leb (size f) (capacity table) s)
    by_whole waiting a h s = absurd a
    by_whole (refusal r) a h s = absurd a
    by_whole (stopped f left why at) a h s = rw (le-leb (depth f) limit h, le-leb (size f) (capacity table) s)

-- an answer with records has had room
pub roomy : (limit : ℕ) (msg table : List ℕ) (total soil : ℕ) → Gives (list_answer limit msg table) total soil → Roomy limit msg
roomy limit msg table total soil =
    by-decoded (λ r. Gives r total soil → Roomy limit msg) (tcp_vec2 limit) (capacity table) limit msg (λ g p. absurd p)
    (λ g p. absurd p) (λ g k p. record { deep = g; short = k })

-- so is every answer with records
pub given-told : (limit : ℕ) (msg table : List ℕ) (total soil : ℕ) → Gives (list_answer limit msg table) total soil
    → list_answer limit msg table ≡ told_as msg (tcp_vec2 limit msg)
given-told limit msg table total soil =
    by-decoded (λ r. Gives r total soil → r ≡ told_as msg (tcp_vec2 limit msg)) (tcp_vec2 limit) (capacity table) limit msg
    (λ g p. absurd p) (λ g p. absurd p) (λ g k. by_whole (tcp_vec2 limit msg))
  where
    by_whole : (w : Whole) → Gives (limited (capacity table) limit msg w) total soil → limited (capacity table) limit msg w ≡ told_as msg w
    by_whole (trees f left) p =
        by-bounded (λ r. Gives r total soil → r ≡ told_as msg (trees f left)) (capacity table) limit f _ (λ g q. absurd q)
        (λ g q. absurd q) (λ g k q. refl) p
    by_whole waiting p = absurd p
    by_whole (refusal r) p = absurd p
    by_whole (stopped f left why at) p =
        by-bounded (λ r. Gives r total soil → r ≡ told_as msg (stopped f left why at)) (capacity table) limit f _ (λ g q. absurd q)
        (λ g q. absurd q) (λ g k q. refl) p
