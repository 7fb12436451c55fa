use mathlib.Core.Path.{refl, sym, ◌∙◌}
use Rattle.std.proofs.lemmas.Result.{err_from_is_err_and}
use Rattle.argument.specs.CodeParts.{dirt_of}
use Rattle.argument.proofs.Dirt.{dirt-nil}
use Rattle.arguments.proofs.Counts.{measured-none, measured-kept, measured-refused}
use Rattle.arguments.proofs.measure_osc_args.Goals as goal

pub returns-then-tags-eq0 : goal.returns-then-tags-eq0
returns-then-tags-eq0 c = λ base msg w.
    let a = c.args in
    measured-none (dirt_of base msg) base a.tags.now a.input.now a.pos c.if-tags-eq0.true (dirt-nil base msg)

pub dirty_kept-dirt-requires : goal.dirty_kept-dirt-requires
dirty_kept-dirt-requires c = (c.requires, (c.in_ok-scanned.scanned.used, sym c.in_ok-scanned.was ∙ c.scan_args.ensures))

pub returns : goal.returns
returns c = λ base msg w.
    let a = c.args in
    c.keep.ensures
    ∙ measured-kept (dirt_of base msg) base a.tags.now a.input.now a.pos _
    (sym c.in_ok-scanned.was ∙ c.scan_args.ensures) refl
    (c.dirty_kept-dirt.ensures base msg w)

pub returns-in_err-scanned : goal.returns-in_err-scanned
returns-in_err-scanned c = λ base msg w.
    let a = c.args in
    let p = err_from_is_err_and c.from_residual.result c.from_residual.ensures.1 in
    rw (p.1, p.2)
    (measured-refused (dirt_of base msg) base a.tags.now a.input.now a.pos (sym c.in_err-scanned.was ∙ c.scan_args.ensures))
