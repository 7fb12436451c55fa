-- The first character of a text lies within it.
use Rattle.heads.proofs.Heads.{first-in}
use Rattle.heads.proofs.tags_in.Goals as goal

pub slice_bounds-result-count-2 : goal.slice_bounds-result-count-2
slice_bounds-result-count-2 c = first-in c.args.types.now c.if-types-eq0.false c.lead-skipped.ensures c.requires

pub slice_bounds-result-start-2 : goal.slice_bounds-result-start-2
slice_bounds-result-start-2 c = first-in c.args.types.now c.if-types-eq0.false c.lead-skipped.ensures c.requires
