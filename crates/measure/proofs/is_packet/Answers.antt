use Rattle.measure.proofs.Skims.{is-refused}
use Rattle.measure.proofs.is_packet.Goals as goal

pub returns-in-Err : goal.returns-in-Err
returns-in-Err c base = is-refused base _ _ c.in-Err.ensures
