-- `scan::scan_args` meets its contract. The invariant: what was read, and the scan of what is left, are the scan of all.
use Rattle.scan.proofs.Turns.{Scanning}
use Rattle.scan.proofs.scan_args.Given as goal

abbrev pub invariant-loop-tag : goal.invariant-loop-tag
invariant-loop-tag l = Scanning l.tags l.input l.pos l.tag-index l.rest l.at l.waiting l.dirt
