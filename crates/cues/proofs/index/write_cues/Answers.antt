-- A frame that is a cue gets its entry after those before it.
use mathlib.Core.Path.{ap, ◌∙◌}
use Rattle.std.specs.Prelude.{Ok}
use Rattle.cues.proofs.Passes.{writing-given, writing_more, writing-waits, writing-refused, writing-end}
use Rattle.wire.proofs.Parts.{tail, length-lent}
use native.Mathlib.Omega.{arith}
use Prim.Native.Nat.{◌*◌}
use borrow.Author.Rules.{rules}
use Rattle.cues.specs.Cues.{entry_size}
use Rattle.cues.proofs.index.write_cues.Goals as goal

pub put_entry-requires : goal.put_entry-requires
put_entry-requires c =
    let l = c.args.bytes.now in
    let i = c.loop-written in
    let v = writing-given l c.args.base c.args.out.now i.at i.written i.out i.invariant (tail l i.at)
    c.cue_of.ensures (c.in-Ok-Some.is ∙ ap Ok c.in-Ok-Some.field-0-is) in
    let lent = length-lent i.out (entry_size * i.written) in
    (omega (arith, lent, c.loop-written-test.true, c.requires, i.invariant.same), omega arith, omega arith, omega arith)

pub loop-written-preserved : goal.loop-written-preserved
loop-written-preserved c =
    let l = c.args.bytes.now in
    let i = c.loop-written in
    writing_more l c.args.base c.args.out.now i.at i.written i.out i.invariant (tail l i.at) c.cue_of.ensures
    (c.in-Ok-Some.is ∙ ap Ok c.in-Ok-Some.field-0-is) c.put_entry.ensures

pub returns-in-Ok-None : goal.returns-in-Ok-None
returns-in-Ok-None c =
    let l = c.args.bytes.now in
    let i = c.loop-written in
    writing-waits l c.args.base c.args.out.now i.at i.written i.out i.invariant (tail l i.at) c.cue_of.ensures
    (c.in-Ok-None.is ∙ ap Ok c.in-Ok-None.field-0-is)

pub returns-in-Err : goal.returns-in-Err
returns-in-Err c =
    let l = c.args.bytes.now in
    let i = c.loop-written in
    writing-refused l c.args.base c.args.out.now i.at i.written i.out i.invariant (tail l i.at) c.cue_of.ensures
    c.in-Err.is

pub returns : goal.returns
returns c =
    let i = c.loop-written in
    writing-end c.args.bytes.now c.args.base c.args.out.now i.at i.written i.out i.invariant c.args.records c.requires
    (search rules)

pub overflow_add-at : goal.overflow_add-at
overflow_add-at c =
    let l = c.args.bytes.now in
    let i = c.loop-written in
    let v = writing-given l c.args.base c.args.out.now i.at i.written i.out i.invariant (tail l i.at)
    c.cue_of.ensures (c.in-Ok-Some.is ∙ ap Ok c.in-Ok-Some.field-0-is) in
    omega (arith, v.1, c.requires.short)
