-- The measure of each member of the cycle is the number of bytes left. In a bundle the table, completed by what is left, is the table at
-- the end.
use lib.ListN.{length}
use Rattle.fill.proofs.Contents.{Filling}
use Rattle.fill.proofs.+decode_bundle_decode_packet_read_bundle_element.Given as goal

abbrev pub decreases-decode_bundle : goal.decreases-decode_bundle
decreases-decode_bundle l = length l.input.now

abbrev pub decreases-decode_packet : goal.decreases-decode_packet
decreases-decode_packet l = length l.input.now

abbrev pub decreases-read_bundle_element : goal.decreases-read_bundle_element
decreases-read_bundle_element l = length l.input.now

abbrev pub invariant-decode_bundle-loop-element : goal.invariant-decode_bundle-loop-element
invariant-decode_bundle-loop-element l = Filling l.base l.start l.input l.pos l.index l.initial.table l.table l.rest l.at l.count

abbrev pub decreases-decode_bundle-loop-element : goal.decreases-decode_bundle-loop-element
decreases-decode_bundle-loop-element l = length l.rest
