-- Each way out of one argument is a case of its record's sort; the arguments of a row are passed one after another.
use mathlib.Core.Path.{sym, ◌∙◌}
use native.Mathlib.Omega.{arith}
use Rattle.survey.proofs.Rows.{placed-is}
use Rattle.survey.proofs.Arguments.{reading, array-too-deep, array-wrong, closes-wrong, leaf-long, argument-leaf, argument-array}
use Rattle.survey.proofs.Arguments.{behind-none, behind_more, arguments-unplaced, arguments-long, arguments-all}
use Rattle.survey.proofs.+survey_argument_survey_arguments.Goals as goal

pub survey_argument-returns-then-levels-eq0-clause-surveys_arguments :
    goal.survey_argument-returns-then-levels-eq0-clause-surveys_arguments
survey_argument-returns-then-levels-eq0-clause-surveys_arguments t c =
    let r = reading c.args.source.now c.args.levels c.requires c.field_at-end.ensures c.item_at-item.ensures c.sort_of.ensures in
    array-too-deep r c.in-Opens.is c.if-levels-eq0.true

pub survey_argument-returns-then-not-own_rules-clause-surveys_arguments :
    goal.survey_argument-returns-then-not-own_rules-clause-surveys_arguments
survey_argument-returns-then-not-own_rules-clause-surveys_arguments t c =
    let r = reading c.args.source.now c.args.levels c.requires c.field_at-end.ensures c.item_at-item.ensures c.sort_of.ensures in
    array-wrong r (sym c.own_rules.ensures ∙ c.if-not-own_rules.true)

pub survey_argument-returns-else-not-own_rules-clause-surveys_arguments :
    goal.survey_argument-returns-else-not-own_rules-clause-surveys_arguments
survey_argument-returns-else-not-own_rules-clause-surveys_arguments t c =
    let r = reading c.args.source.now c.args.levels c.requires c.field_at-end.ensures c.item_at-item.ensures c.sort_of.ensures in
    argument-array r c.in-Opens.is c.if-levels-eq0.false (sym c.own_rules.ensures ∙ c.if-not-own_rules.false)
    c.survey_arguments-inner.ensures.surveys_arguments

pub survey_argument-returns-in-Closes-clause-surveys_arguments : goal.survey_argument-returns-in-Closes-clause-surveys_arguments
survey_argument-returns-in-Closes-clause-surveys_arguments t c =
    let r = reading c.args.source.now c.args.levels c.requires c.field_at-end.ensures c.item_at-item.ensures c.sort_of.ensures in
    closes-wrong r c.in-Closes.is

pub survey_argument-returns-then-end-at-clause-surveys_arguments : goal.survey_argument-returns-then-end-at-clause-surveys_arguments
survey_argument-returns-then-end-at-clause-surveys_arguments t c =
    let r = reading c.args.source.now c.args.levels c.requires c.field_at-end.ensures c.item_at-item.ensures c.sort_of.ensures in
    leaf-long r c.in-Leaf.is c.if-end-at.true

pub survey_argument-returns-else-end-at-clause-surveys_arguments : goal.survey_argument-returns-else-end-at-clause-surveys_arguments
survey_argument-returns-else-end-at-clause-surveys_arguments t c =
    let r = reading c.args.source.now c.args.levels c.requires c.field_at-end.ensures c.item_at-item.ensures c.sort_of.ensures in
    argument-leaf r c.in-Leaf.is c.if-end-at.false c.leaf_content.ensures.0

pub survey_arguments-loop-at-init : goal.survey_arguments-loop-at-init
survey_arguments-loop-at-init t c =
    behind-none _ _ _ _ _ c.requires.0

pub survey_arguments-returns-then-not-is_placed-clause-surveys_arguments :
    goal.survey_arguments-returns-then-not-is_placed-clause-surveys_arguments
survey_arguments-returns-then-not-is_placed-clause-surveys_arguments t c =
    arguments-unplaced c.loop-at.invariant c.loop-at-test.true (sym c.is_placed.ensures ∙ c.if-not-is_placed.true)

pub survey_arguments-returns-then-content-gt-LONGEST_ELEMENT-clause-surveys_arguments :
    goal.survey_arguments-returns-then-content-gt-LONGEST_ELEMENT-clause-surveys_arguments
survey_arguments-returns-then-content-gt-LONGEST_ELEMENT-clause-surveys_arguments t c =
    arguments-long c.loop-at.invariant c.survey_argument-argument.ensures.surveys_arguments c.loop-at-test.true
    c.if-content-gt-LONGEST_ELEMENT.true

pub survey_arguments-loop-at-preserved : goal.survey_arguments-loop-at-preserved
survey_arguments-loop-at-preserved t c =
    let p = placed-is _ _ _ (sym c.is_placed.ensures ∙ c.if-not-is_placed.false) in
    rw (← c.field_at-at.ensures) at
    (behind_more c.loop-at.invariant c.survey_argument-argument.ensures.surveys_arguments p
    c.survey_argument-argument.ensures.tags_bound.0 (omega arith))

pub survey_arguments-returns-clause-surveys_arguments : goal.survey_arguments-returns-clause-surveys_arguments
survey_arguments-returns-clause-surveys_arguments t c =
    arguments-all c.loop-at.invariant c.loop-at-test.false
