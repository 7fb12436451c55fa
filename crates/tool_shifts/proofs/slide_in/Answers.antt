-- `tool_shifts::slide_in` meets its contract: each turn of the loop is one of `SlideLoop`.
use mathlib.Core.Path.{◌≡◌, refl, subst, ◌∙◌}
use mathlib.Core.List.{[], ◌∷◌}
use Prim.Native.Nat.{◌+◌}
use native.Mathlib.Omega.{arith}
use Rattle.walks.specs.declared.Position.{Position}
use Rattle.tool_recordings.specs.CodeCame.{LowCame}
use Rattle.tool_recordings.specs.Loops.{IsOver}
use Rattle.tool_recordings.specs.declared.Came.{Came}
use Rattle.tool_recordings.specs.declared.Came.TheVariants.{On, Ended, Differs, Failed}
use Rattle.tool_recordings.proofs.Loops.{low-at-all}
use Rattle.tool_shifts.specs.Slid.{SlidBuffer, slides_on, slides_last}
use Rattle.tool_shifts.proofs.Slides.{buffer-low}
use Rattle.tool_shifts.proofs.slide_in.Goals as goal

pub loop-next-smaller : goal.loop-next-smaller
loop-next-smaller c =
    let from = c.loop-next.walk in
    let low = subst (LowCame (from.at + 1)) c.in-On.is (buffer-low c.slide_on-came.ensures.is) in
    omega (arith, low.1, low.0.near)

pub loop-next-preserved : goal.loop-next-preserved
loop-next-preserved c =
    let room = c.loop-next.invariant.0 in
    let next = subst (SlidBuffer _ _ _ _ _) c.in-On.is c.slide_on-came.ensures.is in (
      record { bytes = c.slide_on-came.auto.buf ∙ room.bytes; records = c.slide_on-came.auto.table ∙ room.records },
      (buffer-low next).0,
      λ r l. c.loop-next.invariant.2 r (record { parts = _ ∷ l.parts; loop = slides_on next l.loop }),
    )

-- a walk that does not go on
over : (r : Came) → ((next : Position) → r ≡ On next → ⊥) → IsOver r
over (On next) h = absurd (h next refl)
over (Ended last why) h = tt
over (Differs k) h = tt
over Failed h = tt

pub returns-in_default : goal.returns-in_default
returns-in_default c =
    let turned = c.slide_on-came.ensures.is in
    let came = c.slide_on-came.result in
    let over = over came c.in_default.not-On in
    (c.loop-next.invariant.2 _ (record { parts = _ ∷ []; loop = slides_last turned over }), low-at-all _ came (buffer-low turned))
