use mathlib.Core.Path.{refl, sym, ◌∙◌}
use Rattle.std.proofs.lemmas.Result.{err_from_is_err_and}
use Rattle.arguments.specs.CodeReadings.{no_dirt}
use Rattle.arguments.proofs.Counts.{measured-kept, measured-refused}
use Rattle.arguments.proofs.count_osc_args.Goals as goal

pub returns : goal.returns
returns c = λ base.
    let a = c.args in
    c.keep.ensures
    ∙ measured-kept no_dirt base a.tags.now a.input.now a.pos _ (sym c.in_ok-scanned.was ∙ c.scan_args.ensures) refl refl

pub returns-in_err-scanned : goal.returns-in_err-scanned
returns-in_err-scanned c = λ base.
    let a = c.args in
    let p = err_from_is_err_and c.from_residual.result c.from_residual.ensures.1 in
    rw (p.1, p.2) (measured-refused no_dirt base a.tags.now a.input.now a.pos (sym c.in_err-scanned.was ∙ c.scan_args.ensures))
