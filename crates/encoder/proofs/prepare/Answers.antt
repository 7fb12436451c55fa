-- Where the survey is sure, nothing is left to check, and where it is not, the refusal is found out.
use mathlib.Core.Path.{refl}
use native.Mathlib.Omega.{arith}
use Rattle.encoder.specs.CodePrepare.{no}
use Rattle.encoder.proofs.Answers.{survey-ready}
use Rattle.encoder.proofs.prepare.Goals as goal

pub returns-then-surveyed-le-LONGEST_ELEMENT : goal.returns-then-surveyed-le-LONGEST_ELEMENT
returns-then-surveyed-le-LONGEST_ELEMENT c = survey-ready c.survey-surveyed.ensures (omega arith)

pub returns : goal.returns
returns c = no c.after_no.result c.after_no.ensures refl
