-- `words::written::Answer::push` meets its contract.
use Rattle.words.proofs.Pushed.{pushed}
use borrow.Author.Rules.{rules}
use Rattle.words.proofs.written.Answer.push.Goals as goal

pub returns : goal.returns
returns c =
    let self = c.args.self.now in
    pushed self.bytes c.args.text.now self.len c.min.result 256 _ (search rules) (search rules) c.min.ensures c.copy_from_slice.ensures.after
