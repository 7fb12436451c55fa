use Rattle.std.proofs.Common.{sym, ◌∙◌}
use Rattle.shifts.proofs.Lookable.{lookable-fits}
use Rattle.shifts.proofs.shift_table.Goals as goal

pub shift_records-requires : goal.shift_records-requires
shift_records-requires c =
    lookable-fits _ _ (sym c.is_lookable.ensures ∙ c.if-not-is_lookable.false)
