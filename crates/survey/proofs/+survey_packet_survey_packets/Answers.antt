-- One packet is a message, a bundle, or of a kind that is no packet's; the packets of a row are passed one after another.
use mathlib.Core.Path.{sym, ◌∙◌}
use native.Mathlib.Omega.{arith}
use Rattle.std.proofs.Common.{rules, tests}
use Rattle.survey.proofs.Rows.{placed-is}
use Rattle.survey.proofs.Packets.{not-packet, bundle-too-deep, bundle-found}
use Rattle.survey.proofs.Packets.{ahead_none, ahead_more, packets-unplaced, packets-long, packets-all}
use Rattle.survey.proofs.+survey_packet_survey_packets.Goals as goal

pub survey_packet-returns-then-levels-eq0 : goal.survey_packet-returns-then-levels-eq0
survey_packet-returns-then-levels-eq0 t c =
    (bundle-too-deep (sym c.kind_at.ensures ∙ c.in-35.is) c.requires c.if-levels-eq0.true, omega arith)

pub survey_packet-returns-else-levels-eq0 : goal.survey_packet-returns-else-levels-eq0
survey_packet-returns-else-levels-eq0 t c = (
  bundle-found (sym c.kind_at.ensures ∙ c.in-35.is) c.requires c.if-levels-eq0.false c.field_at-end.ensures c.survey_packets.ensures.0,
  omega (arith, c.survey_packets.ensures.1),
)

pub survey_packet-returns-in_default : goal.survey_packet-returns-in_default
survey_packet-returns-in_default t c = (
  not-packet c.requires c.kind_at.ensures (search (rules, tests)),
  omega arith,
)

pub survey_packets-loop-at-init : goal.survey_packets-loop-at-init
survey_packets-loop-at-init t c =
    ahead_none _ _ _ _ _ c.requires.0

pub survey_packets-returns-then-not-is_placed : goal.survey_packets-returns-then-not-is_placed
survey_packets-returns-then-not-is_placed t c =
    (packets-unplaced c.loop-at.invariant c.loop-at-test.true (sym c.is_placed.ensures ∙ c.if-not-is_placed.true), omega arith)

pub survey_packets-returns-then-total-gt-LONGEST_ELEMENT : goal.survey_packets-returns-then-total-gt-LONGEST_ELEMENT
survey_packets-returns-then-total-gt-LONGEST_ELEMENT t c = (
  packets-long c.loop-at.invariant c.survey_packet-total.ensures.0 c.loop-at-test.true c.if-total-gt-LONGEST_ELEMENT.true,
  omega arith,
)

pub survey_packets-loop-at-preserved : goal.survey_packets-loop-at-preserved
survey_packets-loop-at-preserved t c =
    let p = placed-is _ _ _ (sym c.is_placed.ensures ∙ c.if-not-is_placed.false) in
    rw (← c.field_at-at.ensures) at (ahead_more c.loop-at.invariant c.survey_packet-total.ensures.0 p (omega arith))

pub survey_packets-returns : goal.survey_packets-returns
survey_packets-returns t c =
    (packets-all c.loop-at.invariant c.loop-at-test.false, omega (arith, c.loop-at.invariant.passed.short))
