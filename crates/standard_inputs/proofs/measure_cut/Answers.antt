-- The extent of the packet that the length cuts, whose position is 4.
use mathlib.Core.Path.{ap, sym, ◌∙◌}
use Rattle.std.specs.Prelude.{Ok, Err}
use native.Mathlib.Omega.{arith}
use Rattle.heads.proofs.Heads.{length-in}
use Rattle.standard_inputs.proofs.Cuts.{cut-judged, cut_stands, cut-waits, cut-over, cut-odd}
use Rattle.standard_inputs.proofs.measure_cut.Goals as goal

pub overflow_add-n : goal.overflow_add-n
overflow_add-n c = omega (arith, (length-in _ (sym (c.in-Ok-Some.is ∙ ap Ok c.in-Ok-Some.field-0-is) ∙ c.read_length.ensures)).short)

pub slice_bounds-measure_packet-end : goal.slice_bounds-measure_packet-end
slice_bounds-measure_packet-end c = (length-in _ (sym (c.in-Ok-Some.is ∙ ap Ok c.in-Ok-Some.field-0-is) ∙ c.read_length.ensures)).fits

pub returns-in-Ok-Some : goal.returns-in-Ok-Some
returns-in-Ok-Some c = λ base msg s.
    let l = c.args.input.now in
    let cuts = sym (c.in-Ok-Some.is ∙ ap Ok c.in-Ok-Some.field-0-is) ∙ c.read_length.ensures in
    cut-judged _ base l _ cuts (c.measure_packet.ensures base msg (cut_stands msg l base _ s (length-in l cuts).fits)) c.judge.ensures

pub returns-in-Ok-None : goal.returns-in-Ok-None
returns-in-Ok-None c = λ base msg s. cut-waits _ base _ _ (sym (c.in-Ok-None.is ∙ ap Ok c.in-Ok-None.field-0-is) ∙ c.read_length.ensures)

pub returns-in-Err-Over : goal.returns-in-Err-Over
returns-in-Err-Over c = λ base msg s. cut-over _ base _ _ (sym (c.in-Err-Over.is ∙ ap Err c.in-Err-Over.field-0-is) ∙ c.read_length.ensures)

pub returns-in-Err-Odd : goal.returns-in-Err-Odd
returns-in-Err-Odd c = λ base msg s. cut-odd _ base _ _ (sym (c.in-Err-Odd.is ∙ ap Err c.in-Err-Odd.field-0-is) ∙ c.read_length.ensures)
