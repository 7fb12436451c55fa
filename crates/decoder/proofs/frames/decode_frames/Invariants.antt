-- `decoder::frames::decode_frames` meets its contract. The invariant: the table, completed by the frames that are left, is the
-- table at the end.
use Rattle.decoder.proofs.FrameFills.{Listing, remaining}
use Rattle.framing.specs.Framing.{tcp_vec}
use Rattle.answering.specs.Limits.{forest_of}
use lib.ListN.{length}
use Prim.Native.Nat.{◌-◌, ◌≤◌}
use Rattle.decoder.proofs.frames.decode_frames.Given as goal

abbrev pub invariant-loop-at : goal.invariant-loop-at
invariant-loop-at l = (l.at ≤ length l.msg) × Listing remaining (forest_of (tcp_vec l.msg)) l.msg l.initial.table l.table l.at l.count

abbrev pub decreases-loop-at : goal.decreases-loop-at
decreases-loop-at l = length l.msg - l.at
