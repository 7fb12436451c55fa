-- `decoder::frames::decode_cuts` meets its contract. The invariant: the table, completed by the frames that are left, is the table at the
-- end; and while fewer records are written than were counted, the next frame is given.
use Rattle.decoder.proofs.FrameFills.{Listing, remaining2}
use Rattle.framing.specs.Framing.{tcp_vec2}
use Rattle.answering.specs.Limits.{forest_of}
use lib.ListN.{length}
use Prim.Native.Nat.{◌-◌, ◌≤◌}
use Rattle.decoder.proofs.frames.decode_cuts.Given as goal

abbrev pub invariant-loop-written : goal.invariant-loop-written
invariant-loop-written l =
    (l.from ≤ length l.msg) × Listing (remaining2 l.depth) (forest_of (tcp_vec2 l.depth l.msg)) l.msg l.initial.table l.table l.from l.written

abbrev pub decreases-loop-written : goal.decreases-loop-written
decreases-loop-written l = length l.msg - l.from
