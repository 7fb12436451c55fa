-- `telling::shown::tell_start` meets its contract, by what `look` and `start_of` answer of the record.
use mathlib.Core.Path.{sym, ap, ◌∙◌}
use Rattle.values.specs.Look.{started_at}
use Rattle.telling.specs.Shown.{started_line, after_look, start_line}
use Rattle.telling.proofs.Told.{says-as, says_none}
use Rattle.telling.proofs.shown.tell_start.Goals as goal

pub returns-in-Ok : goal.returns-in-Ok
unfolding start_line
returns-in-Ok c =
    let a = c.args in
    says-as
    (ap started_line c.start_of.ensures
    ∙ ap (after_look (started_at a.table.now a.index)) (sym c.in-Ok.is ∙ c.look.ensures))
    c.tell_started.ensures

pub returns-in-Err : goal.returns-in-Err
unfolding start_line
returns-in-Err c =
    let a = c.args in
    says-as (ap (after_look (started_at a.table.now a.index)) (sym c.in-Err.is ∙ c.look.ensures)) (says_none _)
