-- `utf8::skip` meets its contract. The invariant: the bytes before those that are left are below 0x80. The measure is how many are left.
use lib.ListN.{length}
use Rattle.utf8.proofs.Plain.{After}
use Rattle.utf8.proofs.skip.Given as goal

abbrev pub invariant-loop-rest : goal.invariant-loop-rest
invariant-loop-rest l = After l.s l.rest

abbrev pub decreases-loop-rest : goal.decreases-loop-rest
decreases-loop-rest l = length l.rest
