use Rattle.cues.proofs.Passes.{step-can}
use native.Mathlib.Omega.{arith}
use Rattle.cues.proofs.index.index_step.Goals as goal

pub write_cues-requires : goal.write_cues-requires
write_cues-requires c =
    let a = c.args in
    step-can a.bytes.now a.base a.out.now c.if-bytes-gt-LONGEST.false (omega arith) (c.measure_cues-stretch.ensures a.base)
    c.if-out-stretch.false
