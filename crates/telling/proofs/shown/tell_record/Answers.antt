-- `telling::shown::tell_record` meets its contract, by what `look` answers of the record.
use borrow.Author.Rules.{rules}
use mathlib.Core.Path.{sym, ap, ◌∙◌}
use Rattle.node.specs.Records.{kind_at, end_at}
use Rattle.values.proofs.Looks.{no_record}
use Rattle.telling.specs.Shown.{looked_line, record_line}
use Rattle.telling.proofs.Told.{says-as}
use Rattle.telling.proofs.shown.tell_record.Goals as goal

pub returns-then-capacity_of-index : goal.returns-then-capacity_of-index
unfolding record_line
returns-then-capacity_of-index c =
    let a = c.args in
    let t = a.table.now in
    let i = a.index in
    says-as (ap (looked_line i (kind_at t i) (end_at t i)) (no_record t i (search rules))) c.tell_refused.ensures

pub returns-in-Ok : goal.returns-in-Ok
unfolding record_line
returns-in-Ok c =
    let a = c.args in
    let t = a.table.now in
    let i = a.index in
    says-as
    (rw (c.kind_at.ensures, c.field_at.ensures) (ap (looked_line i (kind_at t i) (end_at t i)) (sym c.in-Ok.is ∙ c.look.ensures)))
    c.tell.ensures

pub returns-in-Err : goal.returns-in-Err
unfolding record_line
returns-in-Err c =
    let a = c.args in
    let t = a.table.now in
    let i = a.index in
    says-as (ap (looked_line i (kind_at t i) (end_at t i)) (sym c.in-Err.is ∙ c.look.ensures)) c.tell_refused-in-Err.ensures
