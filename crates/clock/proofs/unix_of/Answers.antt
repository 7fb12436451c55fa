-- Each return is a case of `unix_for`; the sum of what the field stands for and the carry is below 2^34.
use Rattle.std.proofs.Common.{sym, arith}
use Rattle.clock.proofs.Times.{seconds-below, code-early, code_at}
use Rattle.clock.proofs.unix_of.Goals as goal

pub overflow_add-seconds : goal.overflow_add-seconds
overflow_add-seconds c =
    let a = c.args in
    omega (arith, seconds-below a.rule a.tag _ _ c.since_1900.ensures c.nanos_of-nanos.ensures (omega arith))

pub returns-then-seconds-lt-EPOCH : goal.returns-then-seconds-lt-EPOCH
returns-then-seconds-lt-EPOCH c =
    let a = c.args in
    sym (code-early a.rule a.tag _ _ c.since_1900.ensures c.nanos_of-nanos.ensures (omega arith) c.if-seconds-lt-EPOCH.true)

pub returns : goal.returns
returns c =
    let a = c.args in
    sym (code_at a.rule a.tag _ _ c.since_1900.ensures c.nanos_of-nanos.ensures (omega arith) c.if-seconds-lt-EPOCH.false)
