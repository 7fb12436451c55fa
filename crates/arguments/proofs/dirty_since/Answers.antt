-- What is left after the last unclosed '[' keeps the same arguments, and closes all that it opens.
use mathlib.Core.Path.{◌≡◌, ap, sym, ◌∙◌}
use mathlib.Core.List.{List}
use Prim.Native.Nat.{ℕ, ◌+◌, ◌-◌}
use native.Mathlib.Omega.{arith}
use lib.ListN.{length, take, drop, length-take, length-drop}
use lib.Seq.{length-take-le}
use Rattle.wire.proofs.Parts.{tail}
use Rattle.argument.specs.CodeParts.{StandsAt, dirt_of}
use Rattle.argument.proofs.Stands.{stands_on}
use Rattle.scan.specs.CodeScans.{scan}
use Rattle.scan.specs.Results.{Used}
use Rattle.arguments.specs.Arguments.{read_args}
use Rattle.arguments.specs.CodeReadings.{kept_of}
use Rattle.arguments.proofs.Counts.{scan-accepted, scan-refused}
use Rattle.arguments.proofs.Dirt.{closed-dirt}
use Rattle.arguments.proofs.Kept.{CutAt, cut-le, cut-never, cut_at}
use Rattle.arguments.proofs.dirty_since.Goals as goal

-- the dirt of what is left is that of what is kept
rest-dirt : {base p first used u dirty : ℕ} {ts l : List ℕ} → CutAt base ts l p first used → (msg : List ℕ) → StandsAt msg (base + p) l
    → Used u dirty ≡ scan (take (length ts - first) (drop first ts)) (take (length l - used) (drop used l)) (p + used) 0
    → dirty ≡ dirt_of base msg (kept_of (read_args base ts l p))
rest-dirt {base} {p} {first} {used} {u} {dirty} {ts} {l} k msg w f =
    let there : StandsAt msg (base + (p + used)) (take (length l - used) (drop used l))
    = rw (tail l used) (stands_on base p l msg w used k.within) in
    closed-dirt base msg _ _ _ there f k.closed ∙ ap (dirt_of base msg) (sym k.kept)

pub slice_bounds-scan_args-end : goal.slice_bounds-scan_args-end
slice_bounds-scan_args-end c = sym (length-take-le _ _ (cut-le _ c.requires.cut_after.0.2))

pub slice_bounds-scan_args-count : goal.slice_bounds-scan_args-count
slice_bounds-scan_args-count c = cut-le _ c.requires.cut_after.0.2

pub slice_bounds-scan_args-start : goal.slice_bounds-scan_args-start
slice_bounds-scan_args-start c = cut-le _ c.requires.cut_after.0.2

pub slice_bounds-scan_args-count-in-Ok : goal.slice_bounds-scan_args-count-in-Ok
slice_bounds-scan_args-count-in-Ok c =
    let r = c.requires.cut_after in
    (cut_at 0 _ _ _ r.0.2 (scan-accepted 0 _ _ _ r.1.2) (sym c.in-Ok.is ∙ c.scan_args.ensures)).within

pub slice_bounds-scan_args-start-in-Ok : goal.slice_bounds-scan_args-start-in-Ok
slice_bounds-scan_args-start-in-Ok c =
    let r = c.requires.cut_after in
    (cut_at 0 _ _ _ r.0.2 (scan-accepted 0 _ _ _ r.1.2) (sym c.in-Ok.is ∙ c.scan_args.ensures)).within

pub overflow_add-pos : goal.overflow_add-pos
overflow_add-pos c =
    let r = c.requires.cut_after in
    let k = cut_at 0 _ _ _ r.0.2 (scan-accepted 0 _ _ _ r.1.2) (sym c.in-Ok.is ∙ c.scan_args.ensures) in
    omega (arith, k.within, c.requires.input_bound)

pub scan_args-requires-in-Ok : goal.scan_args-requires-in-Ok
scan_args-requires-in-Ok c =
    let r = c.requires.cut_after in
    let k = cut_at 0 _ _ _ r.0.2 (scan-accepted 0 _ _ _ r.1.2) (sym c.in-Ok.is ∙ c.scan_args.ensures) in
    let l = c.args.input.now in
    let n = c.in-Ok.lost.used in
    omega (arith, k.within, c.requires.input_bound, length-take (length l - n) (drop n l), length-drop n l)

pub returns-in-Ok-scan_args : goal.returns-in-Ok-scan_args
returns-in-Ok-scan_args c = λ base msg w.
    let r = c.requires.cut_after in
    let k = cut_at base _ _ _ r.0.2 (scan-accepted base _ _ _ r.1.2) (sym c.in-Ok.is ∙ c.scan_args.ensures) in
    rest-dirt k msg w (sym c.in-Ok-scan_args.is ∙ c.scan_args-in-Ok.ensures)

-- What was accepted is not refused: neither the rest nor the first tags.
pub returns-in-Err-scan_args : goal.returns-in-Err-scan_args
returns-in-Err-scan_args c =
    let r = c.requires.cut_after in
    let k = cut_at 0 _ _ _ r.0.2 (scan-accepted 0 _ _ _ r.1.2) (sym c.in-Ok.is ∙ c.scan_args.ensures) in
    absurd (scan-refused 0 _ _ _ (sym c.in-Err-scan_args.is ∙ c.scan_args-in-Ok.ensures) k.accepted)

pub returns-in-Err : goal.returns-in-Err
returns-in-Err c =
    let r = c.requires.cut_after in
    absurd (cut-never 0 _ _ _ r.0.2 (scan-accepted 0 _ _ _ r.1.2) (sym c.in-Err.is ∙ c.scan_args.ensures))
