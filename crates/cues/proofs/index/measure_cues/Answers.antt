-- A frame that is a cue is counted, and the others end the count.
use mathlib.Core.Path.{ap, ◌∙◌}
use Rattle.std.specs.Prelude.{Ok}
use Rattle.cues.proofs.Passes.{counting_more, counting-waits, counting-refused, counting-end}
use Rattle.wire.proofs.Parts.{tail}
use native.Mathlib.Omega.{arith}
use borrow.Author.Rules.{rules}
use Rattle.cues.proofs.index.measure_cues.Goals as goal

pub loop-at-smaller : goal.loop-at-smaller
loop-at-smaller c =
    let l = c.args.bytes.now in
    let w = counting_more l c.loop-at.at c.loop-at.records c.loop-at.invariant c.loop-at-test.true
    (tail l c.loop-at.at) c.cue_of.ensures (c.in-Ok-Some.is ∙ ap Ok c.in-Ok-Some.field-0-is) in
    omega (arith, w.0)

pub loop-at-preserved : goal.loop-at-preserved
loop-at-preserved c =
    let l = c.args.bytes.now in
    (counting_more l c.loop-at.at c.loop-at.records c.loop-at.invariant c.loop-at-test.true (tail l c.loop-at.at)
    c.cue_of.ensures (c.in-Ok-Some.is ∙ ap Ok c.in-Ok-Some.field-0-is)).1

pub returns-in-Ok-None : goal.returns-in-Ok-None
returns-in-Ok-None c =
    let l = c.args.bytes.now in
    counting-waits l c.loop-at.at c.loop-at.records c.loop-at.invariant c.loop-at-test.true (tail l c.loop-at.at)
    c.cue_of.ensures (c.in-Ok-None.is ∙ ap Ok c.in-Ok-None.field-0-is)

pub returns-in-Err : goal.returns-in-Err
returns-in-Err c =
    let l = c.args.bytes.now in
    counting-refused l c.loop-at.at c.loop-at.records c.loop-at.invariant c.loop-at-test.true (tail l c.loop-at.at)
    c.cue_of.ensures c.in-Err.is

pub returns : goal.returns
returns c =
    counting-end _ c.loop-at.at c.loop-at.records c.loop-at.invariant (search rules)

pub overflow_add-at : goal.overflow_add-at
overflow_add-at c =
    let l = c.args.bytes.now in
    let w = counting_more l c.loop-at.at c.loop-at.records c.loop-at.invariant c.loop-at-test.true
    (tail l c.loop-at.at) c.cue_of.ensures (c.in-Ok-Some.is ∙ ap Ok c.in-Ok-Some.field-0-is) in
    omega (arith, w.0, w.1.few, c.requires)
