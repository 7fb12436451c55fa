-- `runs::said::put_text` meets its contract: the text stands after what stood there.
use Rattle.std.proofs.Common.{refl, rules}
use Rattle.words.proofs.Pushed.{pushed}
use Rattle.runs.proofs.said.put_text.Goals as goal

pub returns : goal.returns
returns c =
    let a = c.args in
    record {
      within = search rules;
      same = search rules;
      said = pushed a.line.now a.text.now a.at c.min.result _ _ refl (search rules) c.min.ensures c.copy_from_slice.ensures.after;
    }
