use Rattle.node.specs.Records.{field_at}
use Rattle.node.proofs.record.field_at.Goals as goal

pub returns : goal.returns
unfolding field_at
returns c = c.be_u32.ensures
