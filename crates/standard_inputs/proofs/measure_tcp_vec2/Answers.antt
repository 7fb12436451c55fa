-- A turn: the frame at `at` is measured, and counted or refused.
use Rattle.std.specs.Prelude.{Ok, Err}
use mathlib.Core.Path.{◌≡◌, ap, ◌∙◌}
use mathlib.Core.Bool.{false}
use mathlib.Core.List.{List}
use Prim.Native.Nat.{ℕ, ◌-◌, ◌<◌}
use native.Mathlib.Omega.{arith}
use borrow.Author.Rules.{rules}
use lib.ListN.{length, take, drop}
use Rattle.argument.specs.CodeParts.{StandsAt}
use Rattle.measure.specs.CodeMeasure.{node_dirt}
use Rattle.framing.specs.Framing.{cut_frame}
use Rattle.standard_inputs.specs.CodeStreams.{cut_extent}
use Rattle.standard_inputs.specs.Results.{CutExtent}
use Rattle.standard_inputs.proofs.Cuts.{FramesCounted, Turn, none-counted, all-counted, only-counted, stop-counted}
use Rattle.standard_inputs.proofs.Cuts.{tree-passed, waits-here, fault-low, unreadable-here, refused-here}
use Rattle.standard_inputs.proofs.measure_tcp_vec2.Goals as goal

abbrev turn : (limit : ℕ) (msg : List ℕ) (at count dirt : ℕ) → FramesCounted limit msg at count dirt false → at < length msg
    → (found : CutExtent)
    → ((base : ℕ) (m : List ℕ) → StandsAt m base (take (length msg - at) (drop at msg))
    → found ≡ cut_extent (node_dirt base m) (cut_frame limit base (take (length msg - at) (drop at msg))))
    → Turn
turn limit msg at count dirt w h found finds =
    record {
      limit = limit;
      msg = msg;
      at = at;
      count = count;
      dirt = dirt;
      deep = false;
      so_far = w;
      more = h;
      found = found;
      finds = finds;
    }

pub loop-at-init : goal.loop-at-init
loop-at-init c = none-counted _ _

pub returns : goal.returns
returns c = all-counted c.loop-at.invariant (search rules)

pub returns-in-Ok-None : goal.returns-in-Ok-None
returns-in-Ok-None c =
    let t = turn c.args.depth c.args.msg.now c.loop-at.at c.loop-at.count c.loop-at.dirt c.loop-at.invariant c.loop-at-test.true
    c.measure_cut.result c.measure_cut.ensures in
    waits-here t (c.in-Ok-None.is ∙ ap Ok c.in-Ok-None.field-0-is) (only-counted _ _ _)

pub overflow_add-count : goal.overflow_add-count
overflow_add-count c =
    let t = turn c.args.depth c.args.msg.now c.loop-at.at c.loop-at.count c.loop-at.dirt c.loop-at.invariant c.loop-at-test.true
    c.measure_cut.result c.measure_cut.ensures in
    omega (arith, tree-passed t (c.in-Ok-Some.is ∙ ap Ok c.in-Ok-Some.field-0-is))

pub overflow_add-dirt : goal.overflow_add-dirt
overflow_add-dirt c =
    let t = turn c.args.depth c.args.msg.now c.loop-at.at c.loop-at.count c.loop-at.dirt c.loop-at.invariant c.loop-at-test.true
    c.measure_cut.result c.measure_cut.ensures in
    omega (arith, tree-passed t (c.in-Ok-Some.is ∙ ap Ok c.in-Ok-Some.field-0-is))

pub overflow_add-at : goal.overflow_add-at
overflow_add-at c =
    let t = turn c.args.depth c.args.msg.now c.loop-at.at c.loop-at.count c.loop-at.dirt c.loop-at.invariant c.loop-at-test.true
    c.measure_cut.result c.measure_cut.ensures in
    omega (arith, tree-passed t (c.in-Ok-Some.is ∙ ap Ok c.in-Ok-Some.field-0-is))

pub loop-at-smaller : goal.loop-at-smaller
loop-at-smaller c =
    let t = turn c.args.depth c.args.msg.now c.loop-at.at c.loop-at.count c.loop-at.dirt c.loop-at.invariant c.loop-at-test.true
    c.measure_cut.result c.measure_cut.ensures in
    omega (arith, tree-passed t (c.in-Ok-Some.is ∙ ap Ok c.in-Ok-Some.field-0-is))

pub loop-at-preserved : goal.loop-at-preserved
loop-at-preserved c =
    let t = turn c.args.depth c.args.msg.now c.loop-at.at c.loop-at.count c.loop-at.dirt c.loop-at.invariant c.loop-at-test.true
    c.measure_cut.result c.measure_cut.ensures in
    (tree-passed t (c.in-Ok-Some.is ∙ ap Ok c.in-Ok-Some.field-0-is)).1

pub moved-requires : goal.moved-requires
moved-requires c =
    let t = turn c.args.depth c.args.msg.now c.loop-at.at c.loop-at.count c.loop-at.dirt c.loop-at.invariant c.loop-at-test.true
    c.measure_cut.result c.measure_cut.ensures in
    omega (arith, fault-low t (c.in-Err-Unreadable.is ∙ ap Err c.in-Err-Unreadable.field-0-is))

pub returns-in-Err-Unreadable : goal.returns-in-Err-Unreadable
returns-in-Err-Unreadable c =
    let t = turn c.args.depth c.args.msg.now c.loop-at.at c.loop-at.count c.loop-at.dirt c.loop-at.invariant c.loop-at-test.true
    c.measure_cut.result c.measure_cut.ensures in
    unreadable-here t (c.in-Err-Unreadable.is ∙ ap Err c.in-Err-Unreadable.field-0-is) c.moved.ensures (stop-counted c.stop.ensures)

pub returns-in-Err-Refused : goal.returns-in-Err-Refused
returns-in-Err-Refused c =
    let t = turn c.args.depth c.args.msg.now c.loop-at.at c.loop-at.count c.loop-at.dirt c.loop-at.invariant c.loop-at-test.true
    c.measure_cut.result c.measure_cut.ensures in
    refused-here t (c.in-Err-Refused.is ∙ ap Err c.in-Err-Refused.field-0-is) (stop-counted c.stop-in-Err-Refused.ensures)
