-- Where the elements end is counted from `at`: an element that is accepted moves it on, one that fails ends them.
use mathlib.Core.Path.{refl, sym, ◌∙◌}
use lib.ListN.{length-drop}
use Prim.Native.Nat.{◌+◌}
use native.Mathlib.Omega.{arith}
use borrow.Author.Rules.{rules}
use Rattle.wire.proofs.Parts.{tail}
use Rattle.measure.proofs.Skims.{skim-on, skim-end}
use Rattle.measure.proofs.skim_elements.Goals as goal

pub loop-size-init : goal.loop-size-init
loop-size-init c = (search rules, λ base. refl)

pub overflow_add-rest : goal.overflow_add-rest
overflow_add-rest c = omega (arith, (skim-on 0 _ _ (c.in-Some.ensures 0)).0)

pub slice_bounds-rest-count : goal.slice_bounds-rest-count
slice_bounds-rest-count c = omega (arith, (skim-on 0 _ _ (c.in-Some.ensures 0)).0)

pub slice_bounds-rest-start : goal.slice_bounds-rest-start
slice_bounds-rest-start c = omega (arith, (skim-on 0 _ _ (c.in-Some.ensures 0)).0)

pub overflow_add-at : goal.overflow_add-at
overflow_add-at c = omega (arith, (skim-on 0 _ _ (c.in-Some.ensures 0)).0)

pub overflow_add-at-in-Some : goal.overflow_add-at-in-Some
overflow_add-at-in-Some c = omega (arith, (skim-on 0 _ _ (c.in-Some.ensures 0)).0)

pub loop-size-smaller : goal.loop-size-smaller
loop-size-smaller c =
    let l = c.loop-size.rest.now in
    let n = 4 + c.in-Some.size in
    rw (tail l n) (omega (arith, (skim-on 0 _ _ (c.in-Some.ensures 0)).0, length-drop n l))

pub loop-size-preserved : goal.loop-size-preserved
loop-size-preserved c =
    let l = c.loop-size.rest.now in
    let n = 4 + c.in-Some.size in (
      rw (tail l n) (omega (arith, (skim-on 0 _ _ (c.in-Some.ensures 0)).0, length-drop n l, c.loop-size.invariant.0)),
      λ base. c.loop-size.invariant.1 base ∙ (skim-on base _ _ (c.in-Some.ensures base)).1,
    )

pub returns-in-None : goal.returns-in-None
returns-in-None c base =
    skim-end base _ _ (c.in-None.ensures base) ∙ sym (c.loop-size.invariant.1 base)
