-- `time_words::seconds::nanos_after` meets its contract, by how much stands there.
use mathlib.Core.Path.{ap, ◌∙◌}
use borrow.Author.Tests.{eq-eqb, ne_eqb, lt-ltb, le-ltb}
use Rattle.wire.proofs.Parts.{tail}
use Rattle.words.specs.Numeral.{numeral_of}
use Rattle.time_words.specs.Seconds.{nanos_after, filled_up}
use Rattle.time_words.proofs.seconds.nanos_after.Goals as goal

pub returns-then-rest-eq0 : goal.returns-then-rest-eq0
unfolding nanos_after
returns-then-rest-eq0 c = rw (eq-eqb _ 0 c.if-rest-eq0.true)

pub returns-then-rest-eq1 : goal.returns-then-rest-eq1
unfolding nanos_after
returns-then-rest-eq1 c = rw (ne_eqb _ 0 c.if-rest-eq0.false, eq-eqb _ 1 c.if-rest-eq1.true)

pub returns-then-rest-gt10 : goal.returns-then-rest-gt10
unfolding nanos_after
returns-then-rest-gt10 c = rw (ne_eqb _ 0 c.if-rest-eq0.false, ne_eqb _ 1 c.if-rest-eq1.false, lt-ltb 10 _ c.if-rest-gt10.true)

pub returns : goal.returns
unfolding nanos_after
returns c =
    let rest = c.args.rest.now in
    rw (ne_eqb _ 0 c.if-rest-eq0.false, ne_eqb _ 1 c.if-rest-eq1.false, le-ltb 10 _ c.if-rest-gt10.false)
    (c.decimal.ensures ∙ ap numeral_of (c.copy.ensures.left ∙ ap filled_up (tail rest 1)))
