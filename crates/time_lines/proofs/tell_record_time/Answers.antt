-- `time_lines::tell_record_time` meets its contract, by what `look` answers of the record.
use mathlib.Core.Path.{sym, ap, ◌∙◌}
use Rattle.telling.proofs.Told.{says-as, says_none}
use Rattle.time_lines.specs.TimeLines.{time_in_line, looked_time, record_time}
use Rattle.time_lines.proofs.tell_record_time.Goals as goal

pub returns-in-Ok : goal.returns-in-Ok
unfolding record_time
returns-in-Ok c =
    let rule = c.args.rule in
    says-as
    (ap (time_in_line rule) c.time_in.ensures ∙ ap (looked_time rule) (sym c.in-Ok.is ∙ c.look.ensures))
    c.tell_time_in.ensures

pub returns-in-Err : goal.returns-in-Err
unfolding record_time
returns-in-Err c =
    says-as (ap (looked_time c.args.rule) (sym c.in-Err.is ∙ c.look.ensures)) (says_none _)
