use borrow.Author.Rules.{rules}
use Rattle.slides.proofs.Written.{sliding-on, sliding-end}
use Rattle.slides.proofs.slide_records.Goals as goal

pub loop-i-preserved : goal.loop-i-preserved
loop-i-preserved c =
    sliding-on c.loop-i.invariant c.item_at.ensures (search rules) c.requires.1 c.slide_one.ensures

pub returns : goal.returns
returns c =
    sliding-end c.loop-i.invariant (search rules)
