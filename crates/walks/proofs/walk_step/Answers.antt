-- `walks::walk_step` meets its contract: by the case of the step's answer.
use native.Mathlib.Omega.{arith}
use Rattle.walks.proofs.Steps.{step-low, walks-on, walk_ends, too_long}
use Rattle.walks.proofs.walk_step.Goals as goal

pub keep_rest-kept-requires : goal.keep_rest-kept-requires
keep_rest-kept-requires c =
    ((step-low c.requires c.index_step.ensures c.in-Ok.is).within, c.requires.there)

pub overflow_mul-written : goal.overflow_mul-written
overflow_mul-written c =
    let s = step-low c.requires c.index_step.ensures c.in-Ok.is in
    omega (arith, s.few, s.near)

pub overflow_add-next : goal.overflow_add-next
overflow_add-next c =
    let s = step-low c.requires c.index_step.ensures c.in-Ok.is in
    omega (arith, s.near)

pub overflow_add-next-in-Ok : goal.overflow_add-next-in-Ok
overflow_add-next-in-Ok c =
    let s = step-low c.requires c.index_step.ensures c.in-Ok.is in
    omega (arith, s.few, s.near, c.requires.low.few)

pub returns-then-reads_on : goal.returns-then-reads_on
returns-then-reads_on c =
    walks-on c.requires c.index_step.ensures c.in-Ok.is c.keep_rest-kept.ensures c.reads_on.ensures
    c.if-reads_on.true

pub returns-else-reads_on : goal.returns-else-reads_on
returns-else-reads_on c =
    walk_ends c.requires c.index_step.ensures c.in-Ok.is c.keep_rest-kept.ensures c.reads_on.ensures
    c.if-reads_on.false

pub returns-in-Err : goal.returns-in-Err
returns-in-Err c =
    too_long c.requires c.index_step.ensures c.in-Err.is
