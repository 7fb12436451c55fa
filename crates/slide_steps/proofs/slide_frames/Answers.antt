-- `slide_steps::slide_frames` meets its contract: what the answer on the frame at the front says of the fold of what is left.
use native.Mathlib.Omega.{arith}
use borrow.Author.Rules.{rules}
use mathlib.Core.Path.{ap, ◌∙◌}
use Rattle.std.specs.Prelude.{Ok}
use Rattle.slide_steps.proofs.Frames.{now-long, lent_is, going_end}
use Rattle.slide_steps.proofs.Frames.{going-waits, going-refused, going-in, going_on}
use Rattle.slide_steps.proofs.slide_frames.Goals as goal

pub overflow_add-at : goal.overflow_add-at
overflow_add-at c =
    let i = c.loop-at in
    let e = lent_is c.args.by c.args.bytes.now i.at i.bytes i.table i.invariant in
    let v = going-in c.args.by c.args.bytes.now i.at i.bytes i.table i.invariant e (search rules) c.slide_front.ensures
    (c.in-Ok-Some.is ∙ ap Ok c.in-Ok-Some.field-0-is) in
    let n = now-long c.args.by c.args.bytes.now i.at i.bytes i.table i.invariant in
    omega (arith, v.0, v.1, n)

pub loop-at-smaller : goal.loop-at-smaller
loop-at-smaller c =
    let i = c.loop-at in
    let e = lent_is c.args.by c.args.bytes.now i.at i.bytes i.table i.invariant in
    let v = going-in c.args.by c.args.bytes.now i.at i.bytes i.table i.invariant e (search rules) c.slide_front.ensures
    (c.in-Ok-Some.is ∙ ap Ok c.in-Ok-Some.field-0-is) in
    let n = now-long c.args.by c.args.bytes.now i.at i.bytes i.table i.invariant in
    omega (arith, v.0, v.1, n)

pub loop-at-preserved : goal.loop-at-preserved
loop-at-preserved c =
    let i = c.loop-at in
    let e = lent_is c.args.by c.args.bytes.now i.at i.bytes i.table i.invariant in
    going_on c.args.by c.args.bytes.now i.at i.bytes i.table i.invariant e (search rules) c.slide_front.ensures
    (c.in-Ok-Some.is ∙ ap Ok c.in-Ok-Some.field-0-is) (search rules)

pub returns-in-Ok-None : goal.returns-in-Ok-None
returns-in-Ok-None c =
    let i = c.loop-at in
    let e = lent_is c.args.by c.args.bytes.now i.at i.bytes i.table i.invariant in
    going-waits c.args.by c.args.bytes.now i.at i.bytes i.table i.invariant e (search rules) c.slide_front.ensures
    c.requires.0 (c.in-Ok-None.is ∙ ap Ok c.in-Ok-None.field-0-is) c.requires.1

pub returns-in-Err : goal.returns-in-Err
returns-in-Err c =
    let i = c.loop-at in
    let e = lent_is c.args.by c.args.bytes.now i.at i.bytes i.table i.invariant in
    going-refused c.args.by c.args.bytes.now i.at i.bytes i.table i.invariant e (search rules) c.slide_front.ensures
    c.requires.0 c.in-Err.is c.requires.1

pub returns : goal.returns
returns c =
    let i = c.loop-at in
    going_end c.args.by c.args.bytes.now i.at i.bytes i.table i.invariant c.requires.0 (search rules) c.requires.1
