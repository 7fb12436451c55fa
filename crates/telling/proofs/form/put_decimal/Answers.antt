-- `telling::form::put_decimal` meets its contract: the digits that are put are the number's.
use mathlib.Core.Path.{◌∙◌}
use borrow.Author.Rules.{rules}
use Rattle.telling.proofs.Decimals.{told-decimal}
use Rattle.telling.proofs.Told.{put_as}
use Rattle.telling.proofs.form.put_decimal.Goals as goal

pub returns : goal.returns
returns c =
    let d = c.decimal-n.ensures in
    put_as (d.digits ∙ told-decimal c.decimal-n.result c.args.x (search rules) d.len) c.put.ensures
