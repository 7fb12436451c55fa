-- The records that the loop has passed are so long as elements. The levels of bundles fall; the packets stand above one of them.
use Prim.Native.Nat.{◌+◌, ◌-◌, ◌*◌}
use Rattle.survey.proofs.Packets.{Ahead}
use Rattle.survey.proofs.+survey_packet_survey_packets.Given as goal

abbrev pub decreases-survey_packet : goal.decreases-survey_packet
decreases-survey_packet l = 2 * l.levels

abbrev pub decreases-survey_packets : goal.decreases-survey_packets
decreases-survey_packets l = 2 * l.levels + 1

abbrev pub invariant-survey_packets-loop-at : goal.invariant-survey_packets-loop-at
invariant-survey_packets-loop-at l = Ahead l.table l.source l.levels l.lo l.hi l.at l.total

abbrev pub decreases-survey_packets-loop-at : goal.decreases-survey_packets-loop-at
decreases-survey_packets-loop-at l = l.hi - l.at
