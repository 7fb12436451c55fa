-- `words::line::place_of` meets its contract.
use mathlib.Core.Path.{◌∙◌}
use Prim.Native.Nat.{◌-◌}
use lib.ListN.{take, drop}
use native.Mathlib.Omega.{arith}
use Rattle.words.proofs.Tables.{equal-same, place_found, place-next, place_none}
use Rattle.words.proofs.line.place_of.Goals as goal

pub returns-then-eq : goal.returns-then-eq
returns-then-eq c =
    let a = c.args in
    place_found a.names.now a.name.now c.loop-at.at c.until-end.result c.loop-at.n (omega arith) c.until-end.ensures.2
    c.loop-at.invariant.2 (c.eq.ensures ∙ equal-same (take (c.until-end.result - c.loop-at.at) (drop c.loop-at.at a.names.now)) a.name.now) c.if-eq.true

pub loop-at-preserved : goal.loop-at-preserved
loop-at-preserved c =
    let a = c.args in (
      omega (arith, c.until-end.ensures.1),
      omega (arith, c.until-end.ensures.0),
      place-next a.names.now a.name.now c.loop-at.at c.until-end.result c.loop-at.n (omega arith) c.until-end.ensures.2
          c.loop-at.invariant.2 (c.eq.ensures ∙ equal-same (take (c.until-end.result - c.loop-at.at) (drop c.loop-at.at a.names.now)) a.name.now) c.if-eq.false,
    )

pub returns : goal.returns
returns c =
    let a = c.args in
    let z = place_none a.names.now a.name.now c.loop-at.at (omega arith) in
    omega (arith, z, c.loop-at.invariant.2)
