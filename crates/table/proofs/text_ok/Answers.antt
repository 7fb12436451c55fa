-- Where the range lies in the source, the test of the part is the definition's.
use mathlib.Core.Path.{sym, ◌∙◌}
use Rattle.table.proofs.Walks.{text-tested}
use Rattle.table.proofs.text_ok.Goals as goal

pub returns-then-lies_in : goal.returns-then-lies_in
returns-then-lies_in c =
    let a = c.args in
    text-tested a.source.now a.offset a.count (sym c.lies_in.ensures ∙ c.if-lies_in.true) (rw c.range.ensures at c.is_utf8.ensures)
