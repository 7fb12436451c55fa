-- `slides::slide_records` meets its contract. The invariant: the records that are left make the whole of what is here.
use Rattle.slides.proofs.Written.{Sliding}
use Rattle.slides.proofs.slide_records.Given as goal

abbrev pub invariant-loop-i : goal.invariant-loop-i
invariant-loop-i l = Sliding l.by l.table l.count l.initial.frame l.i l.frame
