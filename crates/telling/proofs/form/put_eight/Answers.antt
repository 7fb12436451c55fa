-- `telling::form::put_eight` meets its contract: the digits that are put are the number's eight lowest.
use mathlib.Core.Path.{◌∙◌}
use Rattle.telling.proofs.Decimals.{told-eight}
use Rattle.telling.proofs.Told.{put_as}
use Rattle.telling.proofs.form.put_eight.Goals as goal

pub returns : goal.returns
returns c =
    let d = c.hex-n.ensures in
    put_as (d.digits ∙ told-eight c.hex-n.result _ d.len) c.put.ensures
