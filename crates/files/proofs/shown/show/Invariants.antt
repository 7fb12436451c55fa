-- `files::shown::show` meets its contract. After i turns the first i bytes are written as they are shown.
use mathlib.Core.Path.{◌≡◌}
use mathlib.Core.List.{map}
use Prim.Native.Nat.{◌≤◌}
use lib.ListN.{length, take}
use Rattle.wire.specs.Wrote.{Wrote}
use Rattle.files.specs.Shown.{shown_byte}
use Rattle.files.proofs.shown.show.Given as goal

abbrev pub invariant-loop-i : goal.invariant-loop-i
invariant-loop-i l =
    (l.i ≤ length l.name) × Wrote (map shown_byte (take l.i l.name)) l.initial.out l.out × (length l.out ≡ length l.initial.out)
