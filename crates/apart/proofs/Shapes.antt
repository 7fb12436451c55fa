-- What each framing may read an input as: how many nodes there are at least, whether it waits, how deep a list of edition 2 is, and the
-- refusals of the call and of a frame.
use mathlib.Core.Path.{◌≡◌}
use mathlib.Core.Bool.{true}
use mathlib.Core.List.{List}
use Prim.Native.Nat.{ℕ, ◌≤◌}
use native.Mathlib.Omega.{arith}
use lib.ListN.{length}
use Rattle.refusal.specs.Refusal.{number_of}
use Rattle.node.specs.Forest.{Forest, size, depth}
use Rattle.node.specs.Tags.{among}
use Rattle.packet.specs.Packet.{Out, fault, one, read_packet}
use Rattle.framing.specs.Framing.{Whole, trees, waiting, refusal, stopped, single, udp, Frame, wait, read, refused, read_frame, cut_frame}
use Rattle.framing.specs.Framing.{first}
use Rattle.framing.specs.Framing.{tcp, tcp2, rule_of}
use Rattle.edition.specs.declared.Framing.{Framing}
use Rattle.edition.specs.declared.Framing.TheVariants.{Udp, Tcp, TcpVec}
use Rattle.edition.specs.declared.Edition.TheVariants.{Rosc, Standard}
use Rattle.answering.specs.Limits.{order_of, stops_by, waits_by, forest_of}
use Rattle.decoder.proofs.Numbers.{Among, rule-among}
use Rattle.decoder.proofs.Sizes.{vec2-shallow}
use Rattle.apart.specs.ReadBack.{fewest}

-- 9 is of a frame in a list of edition 2, so that its trees are within the depth limit
abbrev pub Shallow : Framing → ℕ → Forest → Type 0
Shallow Udp limit f = Unit {0}
Shallow (Tcp edition) limit f = Unit {0}
Shallow (TcpVec Rosc) limit f = Unit {0}
Shallow (TcpVec Standard) limit f = depth f ≤ limit

-- what an input is read as
abbrev pub Shaped : Framing → ℕ → Whole → Type 0
Shaped framing limit (trees f left) = (fewest framing ≤ size f) × Shallow framing limit f
Shaped framing limit waiting = waits_by framing ≡ true
Shaped framing limit (refusal k) = among (number_of k) (order_of framing) ≡ true
Shaped framing limit (stopped f left k at) = (among (number_of k) (stops_by framing) ≡ true) × Shallow framing limit f

-- ---- how many nodes

abbrev Some : ℕ → Whole → Type 0
Some n (trees f left) = n ≤ size f
Some n waiting = Unit {0}
Some n (refusal k) = Unit {0}
Some n (stopped f left k at) = Unit {0}

single-some : (n : ℕ) (o : Out) → Some 1 (single n o)
unfolding size
single-some n (fault k) = tt
single-some n (one item f used) = omega arith

first_some : (n : ℕ) (x : Frame) → Some 1 (first n x)
first_some n wait = tt
first_some n (read o) = single-some n o
first_some n (refused k) = tt

none-some : (w : Whole) → Some 0 w
none-some (trees f left) = omega arith
none-some waiting = tt
none-some (refusal k) = tt
none-some (stopped f left k at) = tt

some : (framing : Framing) (limit : ℕ) (msg : List ℕ) → Some (fewest framing) (rule_of framing limit msg)
unfolding udp tcp tcp2
some Udp limit msg = single-some (length msg) (read_packet 0 msg 0)
some (Tcp Rosc) limit msg = first_some (length msg) (read_frame 0 msg)
some (Tcp Standard) limit msg = first_some (length msg) (cut_frame limit 0 msg)
some (TcpVec Rosc) limit msg = none-some (rule_of (TcpVec Rosc) limit msg)
some (TcpVec Standard) limit msg = none-some (rule_of (TcpVec Standard) limit msg)

-- ---- every framing

shallow : (framing : Framing) (limit : ℕ) (msg : List ℕ) → Shallow framing limit (forest_of (rule_of framing limit msg))
shallow Udp limit msg = tt
shallow (Tcp edition) limit msg = tt
shallow (TcpVec Rosc) limit msg = tt
shallow (TcpVec Standard) limit msg = vec2-shallow limit msg

-- so is every input read
pub shaped : (framing : Framing) (limit : ℕ) (msg : List ℕ) → Shaped framing limit (rule_of framing limit msg)
shaped framing limit msg =
    by_whole (rule_of framing limit msg) (rule-among framing limit msg) (some framing limit msg) (shallow framing limit msg)
  where
    by_whole : (w : Whole) → Among (waits_by framing) (order_of framing) (stops_by framing) w → Some (fewest framing) w
        → Shallow framing limit (forest_of w) → Shaped framing limit w
    by_whole (trees f left) a n d = (n, d)
    by_whole waiting a n d = a
    by_whole (refusal k) a n d = a
    by_whole (stopped f left k at) a n d = (a, d)
