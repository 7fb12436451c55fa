-- The records that the loop has passed have so many tags and so much data. The levels of arrays fall; the arguments stand above one of
-- them.
use Prim.Native.Nat.{◌+◌, ◌-◌, ◌*◌}
use Rattle.survey.proofs.Arguments.{Behind}
use Rattle.survey.proofs.+survey_argument_survey_arguments.Given as goal

abbrev pub decreases-survey_argument : goal.decreases-survey_argument
decreases-survey_argument l = 2 * l.levels

abbrev pub decreases-survey_arguments : goal.decreases-survey_arguments
decreases-survey_arguments l = 2 * l.levels + 1

abbrev pub invariant-survey_arguments-loop-at : goal.invariant-survey_arguments-loop-at
invariant-survey_arguments-loop-at l = Behind l.table l.source l.levels l.lo l.hi l.at l.tags l.content

abbrev pub decreases-survey_arguments-loop-at : goal.decreases-survey_arguments-loop-at
decreases-survey_arguments-loop-at l = l.hi - l.at
