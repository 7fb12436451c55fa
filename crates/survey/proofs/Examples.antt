-- Examples that meet the hypotheses of `survey_only`: what the survey answers by its contract for the tables of
-- crates/table/proofs/Examples.antt.
use mathlib.Core.Path.{◌≡◌, refl}
use Prim.Native.Nat.{ℕ}
use native.Mathlib.Omega.{arith}
use Rattle.wire.specs.Number.{number, bytes}
use Rattle.node.specs.Forest.{depth}
use Rattle.node.specs.Records.{kind_at, field_at}
use Rattle.node.specs.Tags.{sort_of, class_of}
use Rattle.strings.specs.Atomic.{osc_string}
use Rattle.writers.specs.Osc.{write_data, write_tags, write_message, write_packet}
use Rattle.table.proofs.Examples as example
use Rattle.survey.specs.Surveys.{unsure, Surveys}
use Rattle.survey.proofs.Packets.{no-tree}
use Rattle.survey.proofs.Only.{survey_only}

-- P3 is 12 bytes long, 16 with its size
pub p3-sure : Surveys (example.table 2 2) 2 example.packet 16
unfolding number kind_at field_at depth bytes sort_of class_of osc_string write_data write_tags write_message write_packet
p3-sure =
    record {
      exact = record {
        sure = λ h. record {
          forest = example.five;
          right = record { tree = example.p3-tree; shallow = omega arith };
          sized = refl;
        };
        only = λ F w h. omega arith;
      };
      most = omega arith;
    }

-- so that is the survey's answer
p3-answer : (r : ℕ) → Surveys (example.table 2 2) 2 example.packet r → r ≡ 16
p3-answer r w = survey_only (example.table 2 2) 2 example.packet r 16 w p3-sure

-- it is not sure of a table whose last record ends after the table's end
pub wrong-end-unsure : Surveys (example.table 2 3) 2 example.packet unsure
wrong-end-unsure = no-tree example.wrong-end
