-- A message is read by its address, and by what the arguments that it contains are.
use mathlib.Core.Path.{sym, ◌∙◌}
use native.Mathlib.Omega.{arith}
use Rattle.survey.proofs.Packets.{address-wrong, message-found}
use Rattle.survey.proofs.survey_message.Goals as goal

pub returns-then-not-text_ok : goal.returns-then-not-text_ok
returns-then-not-text_ok c =
    (address-wrong c.requires.0 c.requires.1 c.item_at-item.ensures (sym c.text_ok.ensures ∙ c.if-not-text_ok.true), omega arith)

pub returns : goal.returns
returns c =
    let text = sym c.text_ok.ensures ∙ c.if-not-text_ok.false in (
      message-found c.requires.0 c.requires.1 c.item_at-item.ensures text c.field_at-end.ensures
          c.survey_arguments-inner.ensures.surveys_arguments c.string_length.ensures c.string_length-2.ensures,
      omega (
        arith,
        c.string_length.ensures,
        c.string_length-2.ensures,
        c.survey_arguments-inner.ensures.tags_bound,
        c.field_at-end.ensures,
        c.requires.1.on,
        c.requires.1.low,
      ),
    )
