-- The measure of each member of the cycle is the number of bytes left. In a turn what is counted so far and what is left make up the whole.
use Rattle.std.proofs.Common.{length, ◌-◌}
use Rattle.measure.proofs.Turns.{Inside}
use Rattle.measure.proofs.+measure_bundle_measure_element_measure_packet.Given as goal

abbrev pub decreases-measure_bundle : goal.decreases-measure_bundle
decreases-measure_bundle l = length l.input.now

abbrev pub decreases-measure_element : goal.decreases-measure_element
decreases-measure_element l = length l.input.now

abbrev pub decreases-measure_packet : goal.decreases-measure_packet
decreases-measure_packet l = length l.input.now

abbrev pub invariant-measure_bundle-loop-n : goal.invariant-measure_bundle-loop-n
invariant-measure_bundle-loop-n l = Inside l.input l.pos (l.room - 1) l.dirt l.rest l.at l.count l.sum

abbrev pub decreases-measure_bundle-loop-n : goal.decreases-measure_bundle-loop-n
decreases-measure_bundle-loop-n l = length l.rest
