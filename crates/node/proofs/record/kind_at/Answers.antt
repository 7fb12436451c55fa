use mathlib.Core.Path.{refl}
use Rattle.node.specs.Records.{kind_at}
use Rattle.node.proofs.record.kind_at.Goals as goal

pub returns : goal.returns
unfolding kind_at
returns c = refl
