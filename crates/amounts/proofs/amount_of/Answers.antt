-- `amounts::amount_of` meets its contract. What the word begins with decides how it is read.
use Rattle.std.proofs.Common.{ap, ◌∙◌}
use Rattle.amounts.specs.Amounts.{joined_as, opposite_of}
use Rattle.amounts.proofs.Said.{amount-hex, amount-minus, amount-plain}
use Rattle.amounts.proofs.amount_of.Goals as goal

pub returns-in-Some : goal.returns-in-Some
returns-in-Some c =
    let k = c.in-Some.ensures.cases in
    c.tag_in.ensures ∙ amount-hex c.args.word.now k.0 k.1

pub returns-in-Some-strip_prefix : goal.returns-in-Some-strip_prefix
returns-in-Some-strip_prefix c =
    let k = c.in-Some-strip_prefix.ensures.cases in
    c.opposite_of.ensures ∙ ap opposite_of (c.joined.ensures ∙ ap joined_as c.plain_of.ensures)
    ∙ amount-minus c.args.word.now c.in-None.ensures.cases k.0 k.1

pub returns-in-None-strip_prefix : goal.returns-in-None-strip_prefix
returns-in-None-strip_prefix c =
    c.joined-in-None-strip_prefix.ensures ∙ ap joined_as c.plain_of-in-None-strip_prefix.ensures
    ∙ amount-plain c.args.word.now c.in-None.ensures.cases c.in-None-strip_prefix.ensures.cases
