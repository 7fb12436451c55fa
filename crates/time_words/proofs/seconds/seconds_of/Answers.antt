-- `time_words::seconds::seconds_of` meets its contract, by the first byte of the word.
use mathlib.Core.Path.{sym, ap, ◌∙◌}
use borrow.Author.Rules.{rules}
use Rattle.time_words.specs.Seconds.{since_it, before_it}
use Rattle.time_words.proofs.Words.{no_word, minus, no_minus, since_none, before_none}
use Rattle.time_words.proofs.seconds.seconds_of.Goals as goal

pub returns-then-is_empty : goal.returns-then-is_empty
returns-then-is_empty c = no_word _ (search rules)

pub returns-in_err-plain_of : goal.returns-in_err-plain_of
returns-in_err-plain_of c =
    c.from_residual.ensures
    ∙ sym (before_none (sym c.plain_of.ensures ∙ c.in_err-plain_of.was))
    ∙ minus _ (search rules) c.if-word-eq45.true

pub returns-then-word-eq45 : goal.returns-then-word-eq45
returns-then-word-eq45 c =
    c.before-then-word-eq45.ensures
    ∙ ap before_it (sym c.in_ok-plain_of.was ∙ c.plain_of.ensures) ∙ minus _ (search rules) c.if-word-eq45.true

pub returns-in_err-plain_of-2 : goal.returns-in_err-plain_of-2
returns-in_err-plain_of-2 c =
    c.from_residual-in_err-plain_of-2.ensures
    ∙ sym (since_none (sym c.plain_of-2.ensures ∙ c.in_err-plain_of-2.was))
    ∙ no_minus _ (search rules) c.if-word-eq45.false

pub returns : goal.returns
returns c =
    c.since.ensures
    ∙ ap since_it (sym c.in_ok-plain_of-2.was ∙ c.plain_of-2.ensures) ∙ no_minus _ (search rules) c.if-word-eq45.false
