use Rattle.utf8.proofs.Steps.{onward, answer}
use Rattle.utf8.proofs.walk.Goals as goal

pub returns : goal.returns
returns c =
    let l = c.loop-block in
    answer l.state _ l.left.now c.args.s.now c.advance.ensures l.invariant.1

pub loop-block-preserved : goal.loop-block-preserved
loop-block-preserved c =
    let l = c.loop-block in
    let parts = c.in-Some.ensures.cases in (
      c.across-state.ensures.0,
      onward l.state _ 32 l.left.now c.in-Some.block.now c.in-Some.later.now parts.0 parts.1 c.across-state.ensures l.invariant.1,
    )
