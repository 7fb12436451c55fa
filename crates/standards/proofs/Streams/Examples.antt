-- Examples, computed, that meet the hypotheses of `cut_accepted`, `cut_seen`, `cut_written`, `strict_cut_written`, `stream_accepted`,
-- `cut_trip` and `frames_trip`: a stream of two frames, and document 01's P3.
use mathlib.Core.Path.{refl}
use mathlib.Core.List.{List, [], ◌++◌}
use Prim.Native.Nat.{ℕ}
use native.Mathlib.Omega.{arith}
use lib.ListN.{take, replicate}
use Rattle.edition.specs.declared.Edition.TheVariants.{Standard}
use Rattle.wire.specs.Limits.{deepest}
use Rattle.wire.specs.Number.{bytes}
use Rattle.node.specs.Forest.{depth}
use Rattle.node.specs.Tags.{sort_of, class_of}
use Rattle.framing.specs.Framing.{tcp2}
use Rattle.strings.specs.Atomic.{osc_string}
use Rattle.writers.specs.Osc.{write_element, write_data, write_tags, write_message, write_packet}
use Rattle.encoder.specs.Outcome.{formed, framed_by, tree_outcome, bytes_outcome}
use Rattle.table.proofs.Examples as p3
use Rattle.osc10.specs.Osc10.{none, also, AllAllowed, deep, arguments_deep, Spelled}
use Rattle.osc10.specs.Strict.{StrictNode, StrictForest}
use Rattle.osc10.proofs.Strict.{strict_allowed}
use Rattle.standards.specs.Standards.{osc_frame, AcceptedAs, SeenIn, SpelledStrictly, FrameOf}
use Rattle.standards.specs.Seen.{entries_of, argument_entries}
use Rattle.standards.specs.Trip.{PlaysBack}
use Rattle.standards.specs.Streams.{AcceptedStream, Stream, Fitted, Frames, Returned}
use Rattle.standards.specs.Streams as streams
use Rattle.standards.proofs.Osc10.Examples.{mixed, mixed-bytes, mixed-strict, mixed-spelled}
use Rattle.standards.proofs.Trip.Examples.{p3-playable}
use Rattle.standards.proofs.Trip.Tables.{spans_fit}
use Rattle.standards.proofs.Streams.Frames.{cut_accepted, cut_seen, cut_written, strict_cut_written, cut_trip}
use Rattle.standards.proofs.Streams.Lists.{stream_accepted, frames_trip}

-- the frame of a message is accepted in edition 2
mixed-cut : AcceptedAs (tcp2 deepest) mixed (osc_frame mixed-bytes)
unfolding deep arguments_deep bytes
mixed-cut = cut_accepted mixed mixed-bytes (strict_allowed mixed mixed-strict) mixed-spelled (omega arith) (omega arith)

-- and seen as what it is
mixed-cut-seen : SeenIn (tcp2 deepest) mixed (osc_frame mixed-bytes) (replicate 120 0)
unfolding deep arguments_deep entries_of argument_entries bytes
mixed-cut-seen =
    cut_seen mixed mixed-bytes (strict_allowed mixed mixed-strict) mixed-spelled (omega arith) (omega arith) (replicate 120 0) (omega arith)

-- P3, written after its length to 16 bytes, is a frame of a packet, and of one of OSC 1.0 itself
p3-cut : FrameOf Spelled p3.packet p3.message p3.five
    (take 16 (tree_outcome (framed_by Standard) p3.packet (replicate 16 0) p3.message p3.five).out)
unfolding depth bytes osc_string write_data write_tags write_message write_packet sort_of class_of tree_outcome bytes_outcome
p3-cut =
    cut_written (p3.table 2 2) 2 p3.packet p3.message p3.five p3-playable.bytes p3-playable.sourced p3.p3-tree p3-playable.clean
    (replicate 16 0) _ (formed _ _ p3.p3-tree refl) 16 refl

p3-strict-cut : FrameOf SpelledStrictly p3.packet p3.message p3.five
    (take 16 (tree_outcome (framed_by Standard) p3.packet (replicate 16 0) p3.message p3.five).out)
unfolding depth bytes osc_string write_data write_tags write_message write_packet sort_of class_of tree_outcome bytes_outcome StrictNode StrictForest
p3-strict-cut =
    strict_cut_written (p3.table 2 2) 2 p3.packet p3.message p3.five p3-playable.bytes p3-playable.sourced p3.p3-tree
    ((refl, ((omega arith, omega arith, refl), ((omega arith, omega arith, refl), tt))), (tt, tt, tt), tt)
    (replicate 16 0) _ (formed _ _ p3.p3-tree refl) 16 refl

-- the message twice, as a stream
abbrev twice : List ℕ
twice = osc_frame mixed-bytes ++ (osc_frame mixed-bytes ++ [])

twice-is : Stream (also mixed (also mixed none)) twice
twice-is = streams.frame mixed-spelled (streams.frame mixed-spelled streams.ends)

-- it is accepted as the message twice
twice-accepted : AcceptedStream (also mixed (also mixed none)) twice
unfolding deep arguments_deep bytes AllAllowed
twice-accepted =
    let a = strict_allowed mixed mixed-strict in
    stream_accepted (also mixed (also mixed none)) twice twice-is (a, (a, tt)) (omega arith, (omega arith, tt)) (omega arith)

-- P3, written after its length to 16 bytes, is read back
p3-returns : PlaysBack (tcp2 deepest) (p3.table 2 2) 2 p3.packet (replicate 16 0)
    (tree_outcome (framed_by Standard) p3.packet (replicate 16 0) p3.message p3.five) (replicate 40 0)
unfolding bytes osc_string write_data write_tags write_message write_packet sort_of class_of
p3-returns =
    cut_trip _ _ _ _ _ p3-playable (omega arith) (replicate 16 0) (omega arith) _ (formed _ _ p3-playable.formed refl) (replicate 40 0)
    (omega arith)

-- so are two frames of it, one after another
two-frames : Frames (write_element (write_packet p3.packet p3.message p3.five) ++
    (write_element (write_packet p3.packet p3.message p3.five) ++ []))
two-frames =
    let w = p3-playable in
    let f : Fitted p3.packet p3.message p3.five = record {
      sourced = w.sourced;
      obeys = w.formed.obeys;
      fields = spans_fit (p3.table 2 2) w.bytes 0 2 _ w.formed.spans;
      clean = w.clean;
      shallow = w.shallow;
    } in
    streams.Frames.frame p3.packet p3.message p3.five f (streams.Frames.frame p3.packet p3.message p3.five f streams.Frames.ends)

two-return : Returned
    (write_element (write_packet p3.packet p3.message p3.five) ++ (write_element (write_packet p3.packet p3.message p3.five) ++ []))
unfolding bytes osc_string write_data write_tags write_message write_packet sort_of class_of
two-return = frames_trip _ two-frames (omega arith)
