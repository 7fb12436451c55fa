use Rattle.slides.proofs.Written.{put_written}
use Rattle.slides.proofs.put_time.Goals as goal

pub returns : goal.returns
returns c = put_written _ _ _ _ c.put_u64.ensures
