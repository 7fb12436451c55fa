use Rattle.utf8.proofs.Plain.{after-block}
use Rattle.utf8.proofs.skip.Goals as goal

pub loop-rest-preserved : goal.loop-rest-preserved
loop-rest-preserved c =
    let parts = c.split_at.ensures in
    after-block _ c.loop-rest.rest.now c.split_at.result.0.now c.split_at.result.1.now c.args.n c.loop-rest.invariant c.loop-rest-test.true
    parts.front parts.back (rw c.highest.ensures at c.if-highest-gt127.false)
