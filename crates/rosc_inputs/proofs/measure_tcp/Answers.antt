-- The total of one frame.
use mathlib.Core.Path.{◌≡◌, sym, ◌∙◌}
use mathlib.Core.List.{List}
use Prim.Native.Nat.{ℕ}
use Rattle.argument.specs.CodeParts.{StandsAt}
use Rattle.argument.proofs.Stands.{stands-rest}
use Rattle.measure.specs.CodeMeasure.{node_dirt}
use Rattle.framing.specs.Framing.{read_frame}
use Rattle.rosc_inputs.specs.CodeTotals.{frame_extent}
use Rattle.rosc_inputs.specs.Results.{FrameExtent}
use Rattle.rosc_inputs.proofs.Totals.{tcp-total, tcp-ends}
use Rattle.rosc_inputs.proofs.measure_tcp.Goals as goal

-- what the frame is found to be
found : (depth : ℕ) (msg : List ℕ) {r x : FrameExtent}
    → ((base : ℕ) (m : List ℕ) → StandsAt m base msg → r ≡ frame_extent depth (node_dirt base m) (read_frame base msg)) → r ≡ x
    → x ≡ frame_extent depth (node_dirt 0 msg) (read_frame 0 msg)
found depth msg w e = sym e ∙ w 0 msg (stands-rest msg 0)

pub measure_one-requires : goal.measure_one-requires
measure_one-requires c =
    let a = c.args in
    tcp-ends a.depth a.msg.now (found a.depth a.msg.now c.measure_frame.ensures c.in-Some.is)

pub returns-in-None : goal.returns-in-None
returns-in-None c = let a = c.args in tcp-total _ _ (found a.depth a.msg.now c.measure_frame.ensures c.in-None.is)

pub returns-in-Some : goal.returns-in-Some
returns-in-Some c =
    let a = c.args in
    c.measure_one.ensures ∙ tcp-total _ _ (found a.depth a.msg.now c.measure_frame.ensures c.in-Some.is)
