-- `tool_recordings::walk_in` meets its contract: each turn of the loop is one of `Looped`.
use mathlib.Core.Path.{◌≡◌, refl, subst, ◌∙◌}
use mathlib.Core.List.{[], ◌∷◌}
use Rattle.walks.specs.declared.Position.{Position}
use Rattle.tool_recordings.specs.Loops.{Turn, IsOver, turns_on, turns_last}
use Rattle.tool_recordings.specs.declared.Came.{Came}
use Rattle.tool_recordings.specs.declared.Came.TheVariants.{On, Ended, Differs, Failed}
use Rattle.tool_recordings.proofs.Loops.{turn_low, low-at-all}
use Rattle.tool_recordings.proofs.walk_in.Goals as goal

pub loop-next-preserved : goal.loop-next-preserved
loop-next-preserved c =
    let room = c.loop-next.invariant.0 in
    let next = subst (Turn _ _ _ _ _ _ _ _) c.in-On.is c.walk_on-came.ensures.is in (
      record {
        bytes = c.walk_on-came.auto.buf ∙ room.bytes;
        records = c.walk_on-came.auto.out ∙ room.records;
        others = c.walk_on-came.auto.given ∙ room.others;
      },
      (turn_low next).0,
      λ r l. c.loop-next.invariant.2 r (record { parts = _ ∷ l.parts; loop = turns_on next l.loop }),
    )

-- a walk that does not go on
over : (r : Came) → ((next : Position) → r ≡ On next → ⊥) → IsOver r
over (On next) h = absurd (h next refl)
over (Ended last why) h = tt
over (Differs k) h = tt
over Failed h = tt

pub returns-in_default : goal.returns-in_default
returns-in_default c =
    let turned = c.walk_on-came.ensures.is in
    let came = c.walk_on-came.result in
    let over = over came c.in_default.not-On in
    (c.loop-next.invariant.2 _ (record { parts = _ ∷ []; loop = turns_last turned over }), low-at-all _ came (turn_low turned))
