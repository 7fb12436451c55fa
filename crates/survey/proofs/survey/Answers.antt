-- The first record is the whole table's: where a test refuses the table it is none that is well formed.
use native.Mathlib.Omega.{arith}
use Rattle.survey.proofs.Packets.{no-tree, tree-surveyed}
use Rattle.survey.proofs.survey.Goals as goal
use Rattle.survey.proofs.survey.Goals.{then-count-eq0-via-then-count-eq0}
use Rattle.survey.proofs.survey.Goals.{then-count-eq0-via-else-count-eq0+then-count-gt-MOST_RECORDS}
use Rattle.survey.proofs.survey.Goals.{then-count-eq0-via-else-count-eq0+else-count-gt-MOST_RECORDS+then-capacity_of-count}
use Rattle.survey.proofs.survey.Goals.{
  then-count-eq0-via-else-count-eq0+else-count-gt-MOST_RECORDS+else-capacity_of-count+then-field_at-count,
}

pub returns-then-count-eq0 : goal.returns-then-count-eq0
returns-then-count-eq0 c =
    elim c.then-count-eq0.branch [
      | then-count-eq0-via-then-count-eq0 w ↦ no-tree (λ f. omega (arith, f.some, w.if-count-eq0.true))
      | then-count-eq0-via-else-count-eq0+then-count-gt-MOST_RECORDS w ↦
          no-tree (λ f. omega (arith, f.few, w.if-count-gt-MOST_RECORDS.true))
      | then-count-eq0-via-else-count-eq0+else-count-gt-MOST_RECORDS+then-capacity_of-count w ↦
          no-tree (λ f. omega (arith, f.fits, w.if-capacity_of-count.true, w.capacity_of.ensures))
      | then-count-eq0-via-else-count-eq0+else-count-gt-MOST_RECORDS+else-capacity_of-count+then-field_at-count w ↦
          no-tree (λ f. omega (arith, f.whole, w.if-field_at-count.true, w.field_at.ensures))
    ]

pub returns : goal.returns
returns c =
    tree-surveyed (omega (arith, c.if-count-eq0.false)) (omega (arith, c.if-count-gt-MOST_RECORDS.false))
    (omega (arith, c.if-capacity_of-count.false, c.capacity_of.ensures)) (omega (arith, c.field_at.ensures, c.if-field_at-count.false))
    c.survey_packets.ensures.0 c.survey_packets.ensures.1
