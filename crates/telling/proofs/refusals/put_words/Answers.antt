-- `telling::refusals::put_words` meets its contract: the line of the refusal has room, and its words are what stands before its end.
use native.Mathlib.Omega.{arith}
use Rattle.telling.proofs.Shorts.{words-front}
use Rattle.telling.proofs.refusals.put_words.Goals as goal

pub returns : goal.returns
returns c =
    let r = c.args.refusal in
    rw c.saturating_sub.ensures (words-front r _ c.tell_refused.result (omega arith) c.tell_refused.ensures)
