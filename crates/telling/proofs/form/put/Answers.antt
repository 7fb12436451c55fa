-- `telling::form::put` meets its contract: as many bytes are put as there is room for.
use native.Mathlib.Omega.{arith}
use Rattle.telling.proofs.Told.{put-front}
use Rattle.telling.proofs.form.put.Goals as goal

pub returns : goal.returns
returns c =
    let a = c.args in
    put-front a.out.now a.bytes.now a.at _ c.requires c.min-n.ensures (omega arith) c.copy_from_slice.ensures.after
