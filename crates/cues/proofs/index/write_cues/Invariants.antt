-- `cues::index::write_cues` meets its contract. The invariant: what is written so far, and the records of the frames that are left, are the
-- whole.
use Rattle.cues.proofs.Passes.{Writing}
use Rattle.cues.proofs.index.write_cues.Given as goal

abbrev pub invariant-loop-written : goal.invariant-loop-written
invariant-loop-written l = Writing l.bytes l.base l.initial.out l.at l.written l.out
