-- A turn: the frame at `at` is measured, and counted or refused.
use mathlib.Core.Path.{◌≡◌, ap, ◌∙◌}
use mathlib.Core.Bool.{Bool}
use mathlib.Core.List.{List}
use Prim.Native.Nat.{ℕ, ◌-◌, ◌<◌}
use native.Mathlib.Omega.{arith}
use borrow.Author.Rules.{rules}
use lib.ListN.{length, take, drop}
use Rattle.argument.specs.CodeParts.{StandsAt}
use Rattle.measure.specs.CodeMeasure.{node_dirt}
use Rattle.framing.specs.Framing.{read_frame}
use Rattle.rosc_inputs.specs.CodeTotals.{frame_extent}
use Rattle.rosc_inputs.specs.Results.{FrameExtent}
use Rattle.std.specs.Prelude.{Some, Ok}
use Rattle.rosc_inputs.proofs.ListTotals.{FramesCounted, Turn, empty-list, none-counted, all-counted}
use Rattle.rosc_inputs.proofs.ListTotals.{tree-passed, deep-passed, waits-here, fault-low, refused-here}
use Rattle.rosc_inputs.proofs.measure_tcp_vec.Goals as goal

abbrev turn : (limit : ℕ) (msg : List ℕ) (at count dirt : ℕ) (deep : Bool) → FramesCounted limit msg at count dirt deep → at < length msg
    → (found : FrameExtent)
    → ((base : ℕ) (m : List ℕ) → StandsAt m base (take (length msg - at) (drop at msg))
    → found ≡ frame_extent limit (node_dirt base m) (read_frame base (take (length msg - at) (drop at msg))))
    → Turn
turn limit msg at count dirt deep w h found finds =
    record {
      limit = limit;
      msg = msg;
      at = at;
      count = count;
      dirt = dirt;
      deep = deep;
      so_far = w;
      more = h;
      found = found;
      finds = finds;
    }

pub returns-then-msg-eq0 : goal.returns-then-msg-eq0
returns-then-msg-eq0 c = empty-list _ _ c.if-msg-eq0.true

pub loop-at-init : goal.loop-at-init
loop-at-init c = none-counted _ _ c.if-msg-eq0.false

pub returns : goal.returns
returns c = all-counted c.loop-at.invariant (search rules) c.counted-2.ensures

pub returns-in-None : goal.returns-in-None
returns-in-None c =
    let t = turn c.args.depth c.args.msg.now c.loop-at.at c.loop-at.count c.loop-at.dirt c.loop-at.deep c.loop-at.invariant c.loop-at-test.true
    c.measure_frame.result c.measure_frame.ensures in
    waits-here t c.in-None.is c.counted.ensures

pub overflow_add-count : goal.overflow_add-count
overflow_add-count c =
    let t = turn c.args.depth c.args.msg.now c.loop-at.at c.loop-at.count c.loop-at.dirt c.loop-at.deep c.loop-at.invariant c.loop-at-test.true
    c.measure_frame.result c.measure_frame.ensures in
    omega (arith, tree-passed t (c.in-Some-Ok-Tree.is ∙ ap Some (c.in-Some-Ok-Tree.field-0-is ∙ ap Ok c.in-Some-Ok-Tree.field-0-0-is)))

pub overflow_add-dirt : goal.overflow_add-dirt
overflow_add-dirt c =
    let t = turn c.args.depth c.args.msg.now c.loop-at.at c.loop-at.count c.loop-at.dirt c.loop-at.deep c.loop-at.invariant c.loop-at-test.true
    c.measure_frame.result c.measure_frame.ensures in
    omega (arith, tree-passed t (c.in-Some-Ok-Tree.is ∙ ap Some (c.in-Some-Ok-Tree.field-0-is ∙ ap Ok c.in-Some-Ok-Tree.field-0-0-is)))

pub overflow_add-at : goal.overflow_add-at
overflow_add-at c =
    let t = turn c.args.depth c.args.msg.now c.loop-at.at c.loop-at.count c.loop-at.dirt c.loop-at.deep c.loop-at.invariant c.loop-at-test.true
    c.measure_frame.result c.measure_frame.ensures in
    omega (arith, tree-passed t (c.in-Some-Ok-Tree.is ∙ ap Some (c.in-Some-Ok-Tree.field-0-is ∙ ap Ok c.in-Some-Ok-Tree.field-0-0-is)))

pub loop-at-smaller-in-Some-Ok-Tree : goal.loop-at-smaller-in-Some-Ok-Tree
loop-at-smaller-in-Some-Ok-Tree c =
    let t = turn c.args.depth c.args.msg.now c.loop-at.at c.loop-at.count c.loop-at.dirt c.loop-at.deep c.loop-at.invariant c.loop-at-test.true
    c.measure_frame.result c.measure_frame.ensures in
    omega (arith, tree-passed t (c.in-Some-Ok-Tree.is ∙ ap Some (c.in-Some-Ok-Tree.field-0-is ∙ ap Ok c.in-Some-Ok-Tree.field-0-0-is)))

pub loop-at-preserved-in-Some-Ok-Tree : goal.loop-at-preserved-in-Some-Ok-Tree
loop-at-preserved-in-Some-Ok-Tree c =
    let t = turn c.args.depth c.args.msg.now c.loop-at.at c.loop-at.count c.loop-at.dirt c.loop-at.deep c.loop-at.invariant c.loop-at-test.true
    c.measure_frame.result c.measure_frame.ensures in
    (tree-passed t (c.in-Some-Ok-Tree.is ∙ ap Some (c.in-Some-Ok-Tree.field-0-is ∙ ap Ok c.in-Some-Ok-Tree.field-0-0-is))).1

pub overflow_add-at-in-Some-Ok-Deep : goal.overflow_add-at-in-Some-Ok-Deep
overflow_add-at-in-Some-Ok-Deep c =
    let t = turn c.args.depth c.args.msg.now c.loop-at.at c.loop-at.count c.loop-at.dirt c.loop-at.deep c.loop-at.invariant c.loop-at-test.true
    c.measure_frame.result c.measure_frame.ensures in
    omega (arith, deep-passed t (c.in-Some-Ok-Deep.is ∙ ap Some (c.in-Some-Ok-Deep.field-0-is ∙ ap Ok c.in-Some-Ok-Deep.field-0-0-is)))

pub loop-at-smaller : goal.loop-at-smaller
loop-at-smaller c =
    let t = turn c.args.depth c.args.msg.now c.loop-at.at c.loop-at.count c.loop-at.dirt c.loop-at.deep c.loop-at.invariant c.loop-at-test.true
    c.measure_frame.result c.measure_frame.ensures in
    omega (arith, deep-passed t (c.in-Some-Ok-Deep.is ∙ ap Some (c.in-Some-Ok-Deep.field-0-is ∙ ap Ok c.in-Some-Ok-Deep.field-0-0-is)))

pub loop-at-preserved : goal.loop-at-preserved
loop-at-preserved c =
    let t = turn c.args.depth c.args.msg.now c.loop-at.at c.loop-at.count c.loop-at.dirt c.loop-at.deep c.loop-at.invariant c.loop-at-test.true
    c.measure_frame.result c.measure_frame.ensures in
    (deep-passed t (c.in-Some-Ok-Deep.is ∙ ap Some (c.in-Some-Ok-Deep.field-0-is ∙ ap Ok c.in-Some-Ok-Deep.field-0-0-is))).1

pub moved-requires : goal.moved-requires
moved-requires c =
    let t = turn c.args.depth c.args.msg.now c.loop-at.at c.loop-at.count c.loop-at.dirt c.loop-at.deep c.loop-at.invariant c.loop-at-test.true
    c.measure_frame.result c.measure_frame.ensures in
    let low = fault-low t (c.in-Some-Err.is ∙ ap Some c.in-Some-Err.field-0-is) in
    omega arith

pub returns-in-Some-Err : goal.returns-in-Some-Err
returns-in-Some-Err c =
    let t = turn c.args.depth c.args.msg.now c.loop-at.at c.loop-at.count c.loop-at.dirt c.loop-at.deep c.loop-at.invariant c.loop-at-test.true
    c.measure_frame.result c.measure_frame.ensures in
    refused-here t (c.in-Some-Err.is ∙ ap Some c.in-Some-Err.field-0-is) c.moved.ensures
