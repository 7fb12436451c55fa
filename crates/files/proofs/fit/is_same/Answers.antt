-- `files::fit::is_same` meets its contract, by what `==` says.
use mathlib.Core.Path.{◌∙◌}
use Rattle.words.proofs.Tables.{equal-same}
use Rattle.files.proofs.fit.is_same.Goals as goal

pub returns : goal.returns
returns c = c.eq.ensures ∙ equal-same c.args.bytes.now c.args.other.now
