-- A message is accepted if its extent is a tree, a bundle if its time tag is there.
use mathlib.Core.Path.{ap, sym, ◌∙◌}
use Rattle.std.specs.Prelude.{Ok}
use lib.ListN.{length, take, drop, length-drop}
use Prim.Native.Nat.{◌+◌, ◌-◌}
use native.Mathlib.Omega.{arith}
use Rattle.wire.proofs.Parts.{tail}
use Rattle.argument.proofs.Stands.{stands-somewhere}
use Rattle.packet.proofs.FirstText.{message-start-in, bundle-start-in}
use Rattle.measure.proofs.Skims.{is_message, bundle-or-not, tree-or-not}
use Rattle.measure.proofs.is_packet_from.Goals as goal

pub slice_bounds-measure_message-count : goal.slice_bounds-measure_message-count
slice_bounds-measure_message-count c = omega (arith, message-start-in _ _ (ap Ok (sym c.in-Message.is) ∙ c.requires.started))

pub slice_bounds-measure_message-start : goal.slice_bounds-measure_message-start
slice_bounds-measure_message-start c = omega (arith, message-start-in _ _ (ap Ok (sym c.in-Message.is) ∙ c.requires.started))

pub overflow_add-pos : goal.overflow_add-pos
overflow_add-pos c = omega (arith, message-start-in _ _ (ap Ok (sym c.in-Message.is) ∙ c.requires.started))

pub measure_message-requires : goal.measure_message-requires
measure_message-requires c =
    let l = c.args.input.now in
    let u = c.in-Message.used in
    rw (tail l u) (omega (arith, message-start-in _ _ (ap Ok (sym c.in-Message.is) ∙ c.requires.started), length-drop u l))

pub overflow_sub-result : goal.overflow_sub-result
overflow_sub-result c = omega (arith, bundle-start-in _ _ (ap Ok (sym c.in-Bundle.is) ∙ c.requires.started))

pub returns-in-Message : goal.returns-in-Message
returns-in-Message c base =
    let a = c.args in
    let l = a.input.now in
    let u = c.in-Message.used in
    tree-or-not c.is_ok.result c.measure_message.result c.is_ok.ensures.value
    ∙ is_message base _ _ _ _ (ap Ok (sym c.in-Message.is) ∙ c.requires.started) (tail l u)
    (c.measure_message.ensures base _ (stands-somewhere (base + (a.pos + u)) (take (length l - u) (drop u l))) _ _)

pub returns-in-Bundle : goal.returns-in-Bundle
returns-in-Bundle c base = bundle-or-not base _ _ (ap Ok (sym c.in-Bundle.is) ∙ c.requires.started)
