-- The limits come first, then the first reading.
use mathlib.Core.Path.{refl}
use Rattle.std.proofs.lemmas.Result.{err_from_is_err_and}
use Rattle.framing.specs.Framing.{rule_of}
use Rattle.answering.proofs.Order.{depth-over, length_over, decoded-is}
use Rattle.answering.proofs.answer.Goals as goal

pub returns-then-depth-gt-DEEPEST : goal.returns-then-depth-gt-DEEPEST
returns-then-depth-gt-DEEPEST c =
    let a = c.args in
    depth-over (rule_of a.framing a.depth) _ _ _ c.if-depth-gt-DEEPEST.true

pub returns-then-msg-gt-LONGEST : goal.returns-then-msg-gt-LONGEST
returns-then-msg-gt-LONGEST c =
    let a = c.args in
    length_over (rule_of a.framing a.depth) _ _ _ c.if-depth-gt-DEEPEST.false c.if-msg-gt-LONGEST.true

pub returns : goal.returns
returns c =
    let a = c.args in
    decoded-is (rule_of a.framing a.depth) _ _ _ c.if-depth-gt-DEEPEST.false c.if-msg-gt-LONGEST.false c.within.ensures
    c.in_ok-input.ensures

pub returns-in_err-input : goal.returns-in_err-input
returns-in_err-input c =
    let a = c.args in
    let p = err_from_is_err_and c.from_residual.result c.from_residual.ensures.1 in
    rw (p.1, p.2)
    (decoded-is (rule_of a.framing a.depth) _ _ _ c.if-depth-gt-DEEPEST.false c.if-msg-gt-LONGEST.false refl c.in_err-input.ensures)
