-- `measure_packet`: the first text says whether a message or a bundle follows. `measure_element`: a size, and a packet in that many bytes.
-- `measure_bundle`: in a turn what is counted so far and what is left make up the whole.
use mathlib.Core.Path.{refl, ap, sym, ◌∙◌}
use Rattle.std.specs.Prelude.{Ok}
use Rattle.std.proofs.lemmas.Result.{err_from_is_err_and}
use lib.ListN.{length, drop, length-drop, length-take}
use Prim.Native.Nat.{◌+◌, ◌-◌, ◌≤◌}
use native.Mathlib.Omega.{arith}
use Rattle.wire.proofs.Parts.{tail}
use Rattle.text.proofs.Within.{found_in, found-ends}
use Rattle.heads.proofs.Heads.{part-4, size_in}
use Rattle.packet.proofs.Bundles.{bundle-short}
use Rattle.packet.proofs.FirstText.{message-start-in, message-text, bundle-text}
use Rattle.packet.proofs.Knot.{starts-refused, element-runs-out}
use Rattle.measure.proofs.Extents.{refused-is, bundle-deep, stands-in, element-by-packet, packet-by-message, packet-by-bundle, stands_after}
use Rattle.measure.proofs.Turns.{inside-start, turn_of, passed, deep-here, fails-here}
use Rattle.measure.proofs.+measure_bundle_measure_element_measure_packet.Goals as goal

pub measure_bundle-returns-then-input-lt8 : goal.measure_bundle-returns-then-input-lt8
measure_bundle-returns-then-input-lt8 t c base msg w start = refused-is _ _ _ (bundle-short base start _ _ c.if-input-lt8.true)

pub measure_bundle-returns-then-room-eq0 : goal.measure_bundle-returns-then-room-eq0
measure_bundle-returns-then-room-eq0 t c base msg w start =
    let a = c.args in
    bundle-deep base start a.input.now a.pos _ a.room c.if-input-lt8.false (omega (arith, c.if-room-eq0.true))
    (c.skim_elements.ensures base ∙ rw (tail a.input.now 8))

pub measure_bundle-loop-n-init : goal.measure_bundle-loop-n-init
measure_bundle-loop-n-init t c = inside-start _ _ _ _ c.if-input-lt8.false

pub measure_bundle-overflow_add-count : goal.measure_bundle-overflow_add-count
measure_bundle-overflow_add-count t c =
    omega (arith, passed c.requires c.if-input-lt8.false c.if-room-eq0.false c.loop-n.invariant (λ base msg w. ap Ok (sym c.in-Ok-Tree.field-0-is) ∙ c.in-Ok-Tree.ensures base msg w))

pub measure_bundle-overflow_add-sum : goal.measure_bundle-overflow_add-sum
measure_bundle-overflow_add-sum t c =
    omega (arith, passed c.requires c.if-input-lt8.false c.if-room-eq0.false c.loop-n.invariant (λ base msg w. ap Ok (sym c.in-Ok-Tree.field-0-is) ∙ c.in-Ok-Tree.ensures base msg w))

pub measure_bundle-overflow_sub-rest : goal.measure_bundle-overflow_sub-rest
measure_bundle-overflow_sub-rest t c =
    omega (arith, passed c.requires c.if-input-lt8.false c.if-room-eq0.false c.loop-n.invariant (λ base msg w. ap Ok (sym c.in-Ok-Tree.field-0-is) ∙ c.in-Ok-Tree.ensures base msg w))

pub measure_bundle-slice_bounds-rest-count-in-Ok-Tree : goal.measure_bundle-slice_bounds-rest-count-in-Ok-Tree
measure_bundle-slice_bounds-rest-count-in-Ok-Tree t c =
    omega (arith, passed c.requires c.if-input-lt8.false c.if-room-eq0.false c.loop-n.invariant (λ base msg w. ap Ok (sym c.in-Ok-Tree.field-0-is) ∙ c.in-Ok-Tree.ensures base msg w))

pub measure_bundle-slice_bounds-rest-start-in-Ok-Tree : goal.measure_bundle-slice_bounds-rest-start-in-Ok-Tree
measure_bundle-slice_bounds-rest-start-in-Ok-Tree t c =
    omega (arith, passed c.requires c.if-input-lt8.false c.if-room-eq0.false c.loop-n.invariant (λ base msg w. ap Ok (sym c.in-Ok-Tree.field-0-is) ∙ c.in-Ok-Tree.ensures base msg w))

pub measure_bundle-loop-n-smaller : goal.measure_bundle-loop-n-smaller
measure_bundle-loop-n-smaller t c =
    (passed c.requires c.if-input-lt8.false c.if-room-eq0.false c.loop-n.invariant (λ base msg w. ap Ok (sym c.in-Ok-Tree.field-0-is) ∙ c.in-Ok-Tree.ensures base msg w)).shorter

pub measure_bundle-loop-n-preserved : goal.measure_bundle-loop-n-preserved
measure_bundle-loop-n-preserved t c =
    (passed c.requires c.if-input-lt8.false c.if-room-eq0.false c.loop-n.invariant (λ base msg w. ap Ok (sym c.in-Ok-Tree.field-0-is) ∙ c.in-Ok-Tree.ensures base msg w)).inside

pub measure_bundle-returns-in-Ok-Deep : goal.measure_bundle-returns-in-Ok-Deep
measure_bundle-returns-in-Ok-Deep t c base msg w start =
    deep-here (turn_of c.requires c.if-input-lt8.false c.if-room-eq0.false c.loop-n.invariant (λ base msg w. ap Ok (sym c.in-Ok-Deep.field-0-is) ∙ c.in-Ok-Deep.ensures base msg w))
    base msg w start refl (c.skim_elements-in-Ok-Deep.ensures base)

pub measure_bundle-returns-in-Err : goal.measure_bundle-returns-in-Err
measure_bundle-returns-in-Err t c base msg w start =
    fails-here (turn_of c.requires c.if-input-lt8.false c.if-room-eq0.false c.loop-n.invariant c.in-Err.ensures)
    base msg w start refl

pub measure_element-overflow_add-size : goal.measure_element-overflow_add-size
measure_element-overflow_add-size t c = omega (arith, size_in _ c.in-Some.ensures)

pub measure_element-slice_bounds-measure_packet-end : goal.measure_element-slice_bounds-measure_packet-end
measure_element-slice_bounds-measure_packet-end t c = omega (arith, size_in _ c.in-Some.ensures)

pub measure_element-measure_packet-requires : goal.measure_element-measure_packet-requires
measure_element-measure_packet-requires t c =
    let l = c.args.input.now in
    let n = c.in-Some.size in
    let s = size_in _ c.in-Some.ensures in
    rw (part-4 l n) (
      omega (arith, s, c.decreases, length-take n (drop 4 l), length-drop 4 l),
      omega (arith, s, c.requires, length-take n (drop 4 l), length-drop 4 l),
    )

pub measure_element-returns-in-Tree : goal.measure_element-returns-in-Tree
measure_element-returns-in-Tree t c base msg w =
    let a = c.args in
    let l = a.input.now in
    let n = c.in-Some.size in
    let s = size_in _ c.in-Some.ensures in
    let long : 4 ≤ length l = omega (arith, s) in
    element-by-packet base msg _ l _ _ c.in-Some.ensures (part-4 l n)
    (ap Ok (sym c.in-Tree.is) ∙ c.in_ok-packet-in-Some.ensures base msg (stands-in base a.pos n l msg w long (part-4 l n)))

pub measure_element-returns-in-Deep : goal.measure_element-returns-in-Deep
measure_element-returns-in-Deep t c base msg w =
    let a = c.args in
    let l = a.input.now in
    let n = c.in-Some.size in
    let s = size_in _ c.in-Some.ensures in
    let long : 4 ≤ length l = omega (arith, s) in
    element-by-packet base msg _ l _ _ c.in-Some.ensures (part-4 l n)
    (ap Ok (sym c.in-Deep.is) ∙ c.in_ok-packet-in-Some.ensures base msg (stands-in base a.pos n l msg w long (part-4 l n)))

pub measure_element-returns-in_err-packet-in-Some : goal.measure_element-returns-in_err-packet-in-Some
measure_element-returns-in_err-packet-in-Some t c base msg w =
    let a = c.args in
    let l = a.input.now in
    let n = c.in-Some.size in
    let s = size_in _ c.in-Some.ensures in
    let long : 4 ≤ length l = omega (arith, s) in
    let p = err_from_is_err_and c.from_residual.result c.from_residual.ensures.1 in
    rw (p.1, p.2) (element-by-packet base msg _ l _ _ c.in-Some.ensures (part-4 l n)
    (c.in_err-packet-in-Some.ensures base msg (stands-in base a.pos n l msg w long (part-4 l n))))

pub measure_element-returns-in-None : goal.measure_element-returns-in-None
measure_element-returns-in-None t c base msg w = refused-is _ _ _ (element-runs-out base _ _ c.in-None.ensures)

pub measure_packet-slice_bounds-dirty_in-count : goal.measure_packet-slice_bounds-dirty_in-count
measure_packet-slice_bounds-dirty_in-count t c = omega (arith, message-start-in _ _ (ap Ok (sym c.in-Message.is) ∙ c.in_ok-start.ensures))

pub measure_packet-slice_bounds-dirty_in-start : goal.measure_packet-slice_bounds-dirty_in-start
measure_packet-slice_bounds-dirty_in-start t c = omega (arith, message-start-in _ _ (ap Ok (sym c.in-Message.is) ∙ c.in_ok-start.ensures))

pub measure_packet-slice_bounds-dirty_in-end : goal.measure_packet-slice_bounds-dirty_in-end
measure_packet-slice_bounds-dirty_in-end t c = omega (arith, message-start-in _ _ (ap Ok (sym c.in-Message.is) ∙ c.in_ok-start.ensures))

pub measure_packet-slice_bounds-measure_message-count : goal.measure_packet-slice_bounds-measure_message-count
measure_packet-slice_bounds-measure_message-count t c = omega (arith, message-start-in _ _ (ap Ok (sym c.in-Message.is) ∙ c.in_ok-start.ensures))

pub measure_packet-slice_bounds-measure_message-start : goal.measure_packet-slice_bounds-measure_message-start
measure_packet-slice_bounds-measure_message-start t c = omega (arith, message-start-in _ _ (ap Ok (sym c.in-Message.is) ∙ c.in_ok-start.ensures))

pub measure_packet-overflow_add-length : goal.measure_packet-overflow_add-length
measure_packet-overflow_add-length t c = omega (arith, message-start-in _ _ (ap Ok (sym c.in-Message.is) ∙ c.in_ok-start.ensures))

pub measure_packet-overflow_add-pos : goal.measure_packet-overflow_add-pos
measure_packet-overflow_add-pos t c = omega (arith, message-start-in _ _ (ap Ok (sym c.in-Message.is) ∙ c.in_ok-start.ensures), c.requires)

pub measure_packet-dirty_in-dirt-requires : goal.measure_packet-dirty_in-dirt-requires
measure_packet-dirty_in-dirt-requires t c =
    let l = c.args.input.now in
    let n = c.in-Message.length in
    let u = c.in-Message.used in
    omega (arith, found-ends l _ (message-text l _ (ap Ok (sym c.in-Message.is) ∙ c.in_ok-start.ensures)), length-take (u - (n + 1)) (drop (n + 1) l))

pub measure_packet-measure_message-requires : goal.measure_packet-measure_message-requires
measure_packet-measure_message-requires t c =
    let l = c.args.input.now in
    let u = c.in-Message.used in
    let s = message-start-in _ _ (ap Ok (sym c.in-Message.is) ∙ c.in_ok-start.ensures) in
    rw (tail l u) (
      omega (arith, s, c.requires, length-drop u l),
      omega (arith, s, c.requires, c.dirty_in-dirt.ensures.0),
    )

pub measure_packet-slice_bounds-dirty_in-count-in-Bundle : goal.measure_packet-slice_bounds-dirty_in-count-in-Bundle
measure_packet-slice_bounds-dirty_in-count-in-Bundle t c = let m = (found_in _ _ (bundle-text _ _ (ap Ok (sym c.in-Bundle.is) ∙ c.in_ok-start.ensures))) in omega
    (arith, m.0, m.1)

pub measure_packet-slice_bounds-dirty_in-start-in-Bundle : goal.measure_packet-slice_bounds-dirty_in-start-in-Bundle
measure_packet-slice_bounds-dirty_in-start-in-Bundle t c = let m = (found_in _ _ (bundle-text _ _ (ap Ok (sym c.in-Bundle.is) ∙ c.in_ok-start.ensures))) in omega
    (arith, m.0, m.1)

pub measure_packet-slice_bounds-dirty_in-end-in-Bundle : goal.measure_packet-slice_bounds-dirty_in-end-in-Bundle
measure_packet-slice_bounds-dirty_in-end-in-Bundle t c = let m = (found_in _ _ (bundle-text _ _ (ap Ok (sym c.in-Bundle.is) ∙ c.in_ok-start.ensures))) in omega
    (arith, m.0, m.1)

pub measure_packet-slice_bounds-measure_bundle-count : goal.measure_packet-slice_bounds-measure_bundle-count
measure_packet-slice_bounds-measure_bundle-count t c = let m = (found_in _ _ (bundle-text _ _ (ap Ok (sym c.in-Bundle.is) ∙ c.in_ok-start.ensures))) in omega
    (arith, m.0, m.1)

pub measure_packet-slice_bounds-measure_bundle-start : goal.measure_packet-slice_bounds-measure_bundle-start
measure_packet-slice_bounds-measure_bundle-start t c = let m = (found_in _ _ (bundle-text _ _ (ap Ok (sym c.in-Bundle.is) ∙ c.in_ok-start.ensures))) in omega
    (arith, m.0, m.1)

pub measure_packet-dirty_in-dirt-requires-in-Bundle : goal.measure_packet-dirty_in-dirt-requires-in-Bundle
measure_packet-dirty_in-dirt-requires-in-Bundle t c =
    let l = c.args.input.now in
    let u = c.in-Bundle.used in
    omega (arith, found-ends l _ (bundle-text l _ (ap Ok (sym c.in-Bundle.is) ∙ c.in_ok-start.ensures)), length-take (u - 8) (drop 8 l))

pub measure_packet-measure_bundle-requires : goal.measure_packet-measure_bundle-requires
measure_packet-measure_bundle-requires t c =
    let l = c.args.input.now in
    let u = c.in-Bundle.used in
    let m = (found_in _ _ (bundle-text _ _ (ap Ok (sym c.in-Bundle.is) ∙ c.in_ok-start.ensures))) in
    rw (tail l u) (
      omega (arith, m.0, m.1, c.decreases, length-drop u l),
      (omega (arith, m.0, m.1, c.requires, length-drop u l), omega (arith, m.0, m.1, c.requires, c.dirty_in-dirt-in-Bundle.ensures.0)),
    )

pub measure_packet-returns-in-Message : goal.measure_packet-returns-in-Message
measure_packet-returns-in-Message t c base msg w =
    let a = c.args in
    let l = a.input.now in
    let u = c.in-Message.used in
    let s = message-start-in _ _ (ap Ok (sym c.in-Message.is) ∙ c.in_ok-start.ensures) in
    packet-by-message base msg _ l _ _ w (ap Ok (sym c.in-Message.is) ∙ c.in_ok-start.ensures) (tail l u) c.dirty_in-dirt.ensures.1
    (c.measure_message.ensures base msg (stands_after base a.pos l msg w s.1 (tail l u)) _ _)

pub measure_packet-returns-in-Bundle : goal.measure_packet-returns-in-Bundle
measure_packet-returns-in-Bundle t c base msg w =
    let a = c.args in
    let l = a.input.now in
    let u = c.in-Bundle.used in
    let m = (found_in _ _ (bundle-text _ _ (ap Ok (sym c.in-Bundle.is) ∙ c.in_ok-start.ensures))) in
    packet-by-bundle base msg _ l _ _ w (ap Ok (sym c.in-Bundle.is) ∙ c.in_ok-start.ensures) (tail l u) c.dirty_in-dirt-in-Bundle.ensures.1
    (c.measure_bundle.ensures base msg (stands_after base a.pos l msg w m.1 (tail l u)) (base + a.pos))

pub measure_packet-returns-in_err-start : goal.measure_packet-returns-in_err-start
measure_packet-returns-in_err-start t c base msg w =
    let p = err_from_is_err_and c.from_residual.result c.from_residual.ensures.1 in
    rw (p.1, p.2) (refused-is _ _ _ (starts-refused base _ _ c.in_err-start.ensures))
