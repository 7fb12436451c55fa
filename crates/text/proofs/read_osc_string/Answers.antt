use Rattle.text.proofs.Texts.{plain-found}
use Rattle.text.proofs.read_osc_string.Goals as goal

pub returns : goal.returns
returns c =
    plain-found c.args.input.now c.args.pos c.count_to-plain.result _ c.count_to-plain.ensures.1
    c.taken_by-whole.ensures
    c.if-input-whole.false
    c.if-input-plain-ne0.false
