use Rattle.text.proofs.Texts.{found-again}
use Rattle.text.proofs.find_osc_string.Goals as goal

pub returns : goal.returns
returns c =
    let u = c.until_nul-length in
    found-again c.args.input.now c.args.pos u.result u.ensures.1 _ c.taken_by-taken.ensures c.requires.text_found
