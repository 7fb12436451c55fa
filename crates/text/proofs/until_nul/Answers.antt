use native.Mathlib.Omega.{arith}
use Rattle.text.proofs.Passing.{nul-count}
use Rattle.text.proofs.until_nul.Goals as goal

pub returns : goal.returns
returns c = omega (arith, nul-count c.args.input.now, c.count_to.ensures)
