-- Describes code, and no part of the document: what is answered to a first reading.
use Rattle.std.specs.Prelude.{cond, ℕ, leb, Err}
use Rattle.refusal.specs.declared.Refusal.TheVariants.{TooDeep, TableFull}
use Rattle.results.specs.Results.{DecodeAnswer}
use Rattle.rosc_inputs.specs.Results.{Total}
use Rattle.results.specs.Results as decoded
use Rattle.rosc_inputs.specs.Results as total

-- the answer to a first reading: 10 last
abbrev pub answered : ℕ → Total → DecodeAnswer
answered capacity (total.Trees n left dirty) = cond (leb n capacity) (decoded.Packets n left dirty) (Err TableFull)
answered capacity total.Deep = Err TooDeep
answered capacity total.Waiting = decoded.Waiting
answered capacity (Err k) = Err k
answered capacity (total.Stopped n left dirty k at) = cond (leb n capacity) (decoded.Stopped n left dirty k at) (Err TableFull)
