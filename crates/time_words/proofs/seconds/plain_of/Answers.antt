-- `time_words::seconds::plain_of` meets its contract, by what stands before the dot and from there on.
use mathlib.Core.Path.{refl, sym, ◌∙◌}
use Rattle.time_words.proofs.Words.{plain_by}
use Rattle.time_words.proofs.seconds.plain_of.Goals as goal

pub returns-in_err-seconds : goal.returns-in_err-seconds
returns-in_err-seconds c =
    c.from_residual.ensures ∙ plain_by c.args.word.now c.until-dot.result c.until-dot.ensures.2
    (sym c.in_err-seconds.was ∙ c.decimal.ensures) refl

pub returns-in_err-nanos : goal.returns-in_err-nanos
returns-in_err-nanos c =
    c.from_residual-in_err-nanos.ensures ∙ plain_by c.args.word.now c.until-dot.result c.until-dot.ensures.2
    (sym c.in_ok-seconds.was ∙ c.decimal.ensures) (sym c.in_err-nanos.was ∙ c.nanos_after.ensures)

pub returns : goal.returns
returns c =
    plain_by c.args.word.now c.until-dot.result c.until-dot.ensures.2
    (sym c.in_ok-seconds.was ∙ c.decimal.ensures) (sym c.in_ok-nanos.was ∙ c.nanos_after.ensures)
