-- The total of one frame.
use Rattle.std.specs.Prelude.{Ok, Err}
use mathlib.Core.Path.{◌≡◌, ap, sym, ◌∙◌}
use mathlib.Core.List.{List}
use Prim.Native.Nat.{ℕ}
use Rattle.argument.specs.CodeParts.{StandsAt}
use Rattle.argument.proofs.Stands.{stands-rest}
use Rattle.measure.specs.CodeMeasure.{node_dirt}
use Rattle.framing.specs.Framing.{cut_frame}
use Rattle.standard_inputs.specs.CodeStreams.{cut_extent}
use Rattle.standard_inputs.specs.Results.{CutExtent}
use Rattle.standard_inputs.proofs.Cuts.{tcp2-total, cut-extent-in}
use Rattle.standard_inputs.proofs.measure_tcp2.Goals as goal

-- what the frame is found to be
found : (depth : ℕ) (msg : List ℕ) {r x : CutExtent}
    → ((base : ℕ) (m : List ℕ) → StandsAt m base msg → r ≡ cut_extent (node_dirt base m) (cut_frame depth base msg)) → r ≡ x
    → x ≡ cut_extent (node_dirt 0 msg) (cut_frame depth 0 msg)
found depth msg w e = sym e ∙ w 0 msg (stands-rest msg 0)

-- A tree ends in the input.
pub overflow_sub-result : goal.overflow_sub-result
overflow_sub-result c =
    let a = c.args in
    (cut-extent-in a.depth 0 a.msg.now a.msg.now (found a.depth a.msg.now c.measure_cut.ensures (c.in-Ok-Some.is ∙ ap Ok c.in-Ok-Some.field-0-is))).1

pub returns-in-Ok-None : goal.returns-in-Ok-None
returns-in-Ok-None c = let a = c.args in tcp2-total _ _ (found a.depth a.msg.now c.measure_cut.ensures (c.in-Ok-None.is ∙ ap Ok c.in-Ok-None.field-0-is))

pub returns-in-Ok-Some : goal.returns-in-Ok-Some
returns-in-Ok-Some c = let a = c.args in tcp2-total _ _ (found a.depth a.msg.now c.measure_cut.ensures (c.in-Ok-Some.is ∙ ap Ok c.in-Ok-Some.field-0-is))

pub returns-in-Err-Unreadable : goal.returns-in-Err-Unreadable
returns-in-Err-Unreadable c = let a = c.args in tcp2-total _ _ (found a.depth a.msg.now c.measure_cut.ensures (c.in-Err-Unreadable.is ∙ ap Err c.in-Err-Unreadable.field-0-is))

pub returns-in-Err-Refused : goal.returns-in-Err-Refused
returns-in-Err-Refused c = let a = c.args in tcp2-total _ _ (found a.depth a.msg.now c.measure_cut.ensures (c.in-Err-Refused.is ∙ ap Err c.in-Err-Refused.field-0-is))
