-- Bytes appended to the input of a single-packet call.
use mathlib.Core.Path.{◌≡◌, refl, ap}
use mathlib.Core.List.{List, ◌++◌}
use Prim.Native.Nat.{ℕ}
use native.Mathlib.Omega.{arith}
use borrow.Author.Tests.{le-leb}
use lib.ListN.{length, drop, length-append}
use lib.Seq.{drop-append-le}
use Rattle.refusal.specs.declared.Fault.{Fault}
use Rattle.refusal.specs.declared.Refusal.TheVariants.{Unreadable}
use Rattle.wire.specs.Number.{number}
use Rattle.node.specs.Forest.{Forest}
use Rattle.heads.specs.Heads.{prefix_of}
use Rattle.heads.specs.declared.Prefix.{Prefix}
use Rattle.heads.specs.declared.Prefix.TheVariants as prefix
use Rattle.packet.specs.Packet.{Out}
use Rattle.framing.specs.Framing.{Whole, trees, waiting, refusal, single, udp, frame_with, read_frame, first, tcp}
use Rattle.calls.specs.Words.{Continues, message, bundle, Mendable}
use Rattle.wire.proofs.Choices.{by_le}
use Rattle.heads.proofs.Heads.{prefix-in}
use Rattle.calls.proofs.Longer.Arguments.{number-longer}
use Rattle.calls.proofs.Longer.Packets.{Grows, was-refused, same-message, longer-bundle, after-grows, packet-grows}

-- trees that were given go on, and a fault that no bytes mend is the same
pub data Longer : Whole → Whole → Type 0 where
  no-tree : {k : Fault} {w : Whole} → ((Mendable k → ⊥) → w ≡ refusal (Unreadable k)) → Longer (refusal (Unreadable k)) w
  none_yet : {w : Whole} → Longer waiting w
  goes_further : {f g : Forest} {left left' : ℕ} → Continues f g → Longer (trees f left) (trees g left')

single-longer : (n n' : ℕ) {o o' : Out} → Grows o o' → Longer (single n o) (single n' o')
single-longer n n' (was-refused s) = no-tree (λ m. ap (single n') (s m))
single-longer n n' (same-message k) = goes_further (message k)
single-longer n n' (longer-bundle k w) = goes_further (bundle k w)

-- the input of `decode_udp`
pub udp-longer : (msg more : List ℕ) → Longer (udp msg) (udp (msg ++ more))
unfolding udp
udp-longer msg more = single-longer (length msg) (length (msg ++ more)) (packet-grows 0 more msg 0)

-- a frame that was whole is whole
abbrev KeptPrefix : Prefix → Prefix → Type 0
KeptPrefix prefix.Ready x = x ≡ prefix.Ready
KeptPrefix prefix.Waiting x = Unit {0}
KeptPrefix prefix.RunsOut x = Unit {0}

prefix-longer : (msg more : List ℕ) → KeptPrefix (prefix_of msg) (prefix_of (msg ++ more))
unfolding prefix_of
prefix-longer msg more =
    by_le (λ x. KeptPrefix x (prefix_of (msg ++ more))) 4 (length msg)
    (λ h. by_le (λ x. KeptPrefix x (prefix_of (msg ++ more))) (number 4 msg) (length msg)
    (λ k. let four = le-leb 4 (length (msg ++ more)) (omega (arith, length-append msg more)) in
    let within = le-leb (number 4 msg) (length (msg ++ more)) (omega (arith, length-append msg more)) in
    rw (prefix_of, number-longer more 4 msg h, four, within))
    (λ k. tt))
    (λ h. tt)

-- the input of `decode_tcp`
pub tcp-longer : (msg more : List ℕ) → Longer (tcp msg) (tcp (msg ++ more))
unfolding tcp read_frame
tcp-longer msg more = by-prefix (prefix_of msg) (prefix_of (msg ++ more)) refl (prefix-longer msg more)
  where
    by-prefix : (x y : Prefix) → x ≡ prefix_of msg → KeptPrefix x y
        → Longer (first (length msg) (frame_with 0 msg x)) (first (length (msg ++ more)) (frame_with 0 (msg ++ more) y))
    by-prefix prefix.Ready y e k =
        rw (k, drop-append-le 4 msg more (prefix-in msg e))
        (single-longer (length msg) (length (msg ++ more)) (after-grows 4 (packet-grows 0 more (drop 4 msg) 4)))
    by-prefix prefix.Waiting y e k = none_yet
    by-prefix prefix.RunsOut y e k = no-tree (λ s. absurd (s tt))
