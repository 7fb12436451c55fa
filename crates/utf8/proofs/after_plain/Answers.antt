use Rattle.utf8.proofs.Plain.{passed_on}
use Rattle.utf8.proofs.after_plain.Goals as goal

pub returns : goal.returns
returns c = passed_on _ c.skip.result.now c.skip-2.result.now _ _ c.skip.ensures c.skip-2.ensures
