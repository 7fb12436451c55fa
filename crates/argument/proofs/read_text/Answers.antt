-- A text that was found lies in the input, so that its length fits 32 bits.
use Rattle.std.proofs.Common.{sym, ◌∙◌, arith}
use Rattle.text.proofs.Within.{found_in}
use Rattle.argument.proofs.There.{with-numbers}
use Rattle.argument.proofs.Argued.{text-given, text-lacks}
use Rattle.argument.proofs.read_text.Goals as goal

pub overflow_cast-text : goal.overflow_cast-text
overflow_cast-text c = omega (arith, found_in _ _ (sym c.in-Ok.is ∙ c.read_osc_string.ensures))

pub returns-in-Ok : goal.returns-in-Ok
returns-in-Ok c = sym (with-numbers (text-given _ _ _ _ (sym c.in-Ok.is ∙ c.read_osc_string.ensures)) c.given.ensures)

pub returns-in-Err : goal.returns-in-Err
returns-in-Err c =
    text-lacks _ _ _ _ (sym c.in-Err.is ∙ c.read_osc_string.ensures) c.fault_in.ensures
