-- `time_lines::tell_time` meets its contract, by the date of the day.
use mathlib.Core.Path.{ap}
use mathlib.Core.List.{[]}
use Rattle.dates.specs.declared.Date.{Date}
use Rattle.telling.specs.Forms.{line}
use Rattle.telling.proofs.Told.{says-as}
use Rattle.time_lines.specs.TimeLines.{time_form, time_numbers, time_line}
use Rattle.time_lines.proofs.tell_time.Goals as goal

pub returns : goal.returns
unfolding time_line
returns c =
    let a = c.args in
    says-as (ap (λ (date : Date). line time_form (time_numbers date a.seconds a.nanos a.tag) []) c.date_of-date.ensures)
    c.fill_in.ensures
