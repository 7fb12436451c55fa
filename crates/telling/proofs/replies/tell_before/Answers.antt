-- `telling::replies::tell_before` meets its contract, by whether there is dirty padding.
use borrow.Author.Tests.{eq-eqb, ne_eqb}
use Rattle.telling.proofs.replies.tell_before.Goals as goal

pub returns-then-dirty-eq0 : goal.returns-then-dirty-eq0
returns-then-dirty-eq0 c = rw (eq-eqb _ _ c.if-dirty-eq0.true) c.tell_stopped.ensures

pub returns : goal.returns
returns c = rw (ne_eqb _ _ c.if-dirty-eq0.false) c.tell_stopped-2.ensures
