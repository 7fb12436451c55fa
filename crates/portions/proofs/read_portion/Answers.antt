-- The bytes that are left over are among those that it was given.
use mathlib.Core.Path.{refl, ap, sym, ◌∙◌}
use Rattle.std.specs.Prelude.{Ok}
use Rattle.std.proofs.lemmas.Result.{err_from_is_err_and}
use Rattle.portions.proofs.Steps.{left_in, step_by}
use Rattle.portions.proofs.read_portion.Goals as goal

pub overflow_sub-result : goal.overflow_sub-result
overflow_sub-result c = left_in _ _ _ (ap Ok (sym c.in-Packets.is) ∙ c.in_ok-decoded.ensures.answered)

pub returns-in-Packets : goal.returns-in-Packets
returns-in-Packets c = step_by c.in_ok-decoded.ensures (ap Ok c.in-Packets.is)

pub returns-in-Waiting : goal.returns-in-Waiting
returns-in-Waiting c = step_by c.in_ok-decoded.ensures (ap Ok c.in-Waiting.is)

pub returns-in-Stopped : goal.returns-in-Stopped
returns-in-Stopped c = step_by c.in_ok-decoded.ensures (ap Ok c.in-Stopped.is)

pub returns-in_err-decoded : goal.returns-in_err-decoded
returns-in_err-decoded c =
    let p = err_from_is_err_and c.from_residual.result c.from_residual.ensures.1 in
    rw (p.1, p.2) (step_by c.in_err-decoded.ensures refl)
