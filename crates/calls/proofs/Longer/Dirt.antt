-- Bytes appended leave the dirty padding of a packet that was given as it was, and what a bundle takes of them adds to it.
use mathlib.Core.Path.{◌≡◌, refl, sym, ◌∙◌}
use mathlib.Core.List.{List, ◌++◌}
use Prim.Native.Nat.{ℕ, ◌+◌, ◌-◌, ◌≤◌}
use native.Mathlib.Omega.{arith}
use lib.ListN.{length, drop}
use lib.Seq.{drop-append-le}
use Rattle.node.specs.Forest.{Forest, nil, node}
use Rattle.node.specs.declared.record.Item.{Item}
use Rattle.argument.specs.CodeParts.{StandsAt, dirt_of}
use Rattle.argument.specs.Dirt.{packets_padding, dirty_in}
use Rattle.argument.proofs.Dirt.{dirt-node, dirt-nil}
use Rattle.argument.proofs.Pads.{one-packet}
use Rattle.argument.proofs.Stands.{stands-rest}
use Rattle.heads.specs.Heads.{prefix_of}
use Rattle.heads.specs.declared.Prefix.{Prefix}
use Rattle.heads.specs.declared.Prefix.TheVariants as prefix
use Rattle.heads.proofs.Heads.{prefix-in}
use Rattle.packet.specs.Packet.{Out, fault, one, after, read_packet}
use Rattle.packet.proofs.Dirt.{packet-same}
use Rattle.packet.proofs.Items.{packet-start}
use Rattle.framing.specs.Framing.{Whole, single, udp, frame_with, read_frame, first, tcp}
use Rattle.answering.specs.Limits.{forest_of}
use Rattle.calls.specs.Words.{BeginsSame, none, also, Continues, message, bundle}

-- the trees that are read from some bytes have the same dirt with bytes appended
abbrev pub DirtStays : (List ℕ → Whole) → Type 0
DirtStays rule = (msg more : List ℕ) → dirty_in (msg ++ more) (forest_of (rule msg)) ≡ dirty_in msg (forest_of (rule msg))

begins-dirt : (base : ℕ) (msg : List ℕ) (x y : Forest) → BeginsSame x y → dirt_of base msg x ≤ dirt_of base msg y
begins-dirt base msg x y none = omega (arith, dirt-nil base msg)
begins-dirt base msg x y (also {item} {inside} {f} {g} w) =
    omega (arith, dirt-node base msg item inside f, dirt-node base msg item inside g, begins-dirt base msg f g w)

-- a packet that goes on has no less
pub continues-dirt : (msg : List ℕ) (f g : Forest) → Continues f g → dirty_in msg f ≤ dirty_in msg g
continues-dirt msg f g (message k) = omega arith
continues-dirt msg f g (bundle {item} {inside} {inside'} k w) =
    let base = item.start - 4 in
    omega (
      arith,
      one-packet msg item inside,
      one-packet msg item inside',
      dirt-node base msg item inside nil,
      dirt-node base msg item inside' nil,
      begins-dirt base msg inside inside' w,
    )

-- a packet that stands at one place of two inputs, in a frame at 0
module _ (l : List ℕ) (p : ℕ) (low : p ≤ 4) (msg msg' : List ℕ) (w : StandsAt msg (0 + p) l) (w' : StandsAt msg' (0 + p) l) where
  same-one : {item : Item} {f : Forest} {used : ℕ} → read_packet 0 l p ≡ one item f used
      → dirty_in msg (node item f nil) ≡ dirty_in msg' (node item f nil)
  same-one {item} {f} e =
      let z : item.start - 4 ≡ 0 = omega (arith, packet-start 0 l p e) in
      one-packet msg item f ∙ rw z (packet-same 0 l p msg msg' w w' e) ∙ sym (one-packet msg' item f)

  same-single : (n k : ℕ) → dirty_in msg (forest_of (single n (after k (read_packet 0 l p))))
      ≡ dirty_in msg' (forest_of (single n (after k (read_packet 0 l p))))
  unfolding packets_padding
  same-single n k = by_out (read_packet 0 l p) refl
    where
      by_out : (o : Out) → read_packet 0 l p ≡ o
          → dirty_in msg (forest_of (single n (after k o))) ≡ dirty_in msg' (forest_of (single n (after k o)))
      by_out (fault j) e = refl
      by_out (one item f used) e = same-one e

after_none : (n : ℕ) (o : Out) → forest_of (single n (after 0 o)) ≡ forest_of (single n o)
after_none n (fault j) = refl
after_none n (one item f used) = refl

-- of `decode_udp`
pub udp-dirt : DirtStays udp
unfolding udp
udp-dirt msg more =
    rw (← after_none (length msg) (read_packet 0 msg 0))
    (same-single msg 0 (omega arith) (msg ++ more) msg (more, refl) (stands-rest msg 0) (length msg) 0)

-- and of `decode_tcp`
pub tcp-dirt : DirtStays tcp
unfolding tcp read_frame packets_padding
tcp-dirt msg more = by-prefix (prefix_of msg) refl
  where
    by-prefix : (x : Prefix) → x ≡ prefix_of msg
        → dirty_in (msg ++ more) (forest_of (first (length msg) (frame_with 0 msg x)))
        ≡ dirty_in msg (forest_of (first (length msg) (frame_with 0 msg x)))
    by-prefix prefix.Ready e =
        same-single (drop 4 msg) 4 (omega arith) (msg ++ more) msg (more, drop-append-le 4 msg more (prefix-in msg e)) (stands-rest msg 4)
        (length msg) 4
    by-prefix prefix.Waiting e = refl
    by-prefix prefix.RunsOut e = refl
