-- A frame's packet is what its length cuts.
use mathlib.Core.Path.{refl, ap, sym, ◌∙◌}
use Rattle.std.specs.Prelude.{Ok}
use native.Mathlib.Omega.{arith}
use lib.ListN.{drop, length-drop, length-take}
use Prim.Native.Nat.{◌+◌, ◌-◌}
use Rattle.heads.proofs.Heads.{length-in}
use Rattle.fill.proofs.Fills.{fills-none}
use Rattle.decoder.proofs.FrameFills.{cut-room, cut-fills, cut-nothing}
use Rattle.decoder.proofs.frames.decode_cut.Goals as goal

pub overflow_add-n : goal.overflow_add-n
overflow_add-n c = omega (arith, (length-in _ (ap Ok (sym c.in-Ok-Some.field-0-is) ∙ c.in-Ok-Some.ensures)).short)

pub slice_bounds-decode_packet-end : goal.slice_bounds-decode_packet-end
slice_bounds-decode_packet-end c = omega (arith, (length-in _ (ap Ok (sym c.in-Ok-Some.field-0-is) ∙ c.in-Ok-Some.ensures)).fits)

pub decode_packet-requires-clause-input_bound : goal.decode_packet-requires-clause-input_bound
decode_packet-requires-clause-input_bound c =
    let l = c.args.input.now in
    let n = c.in-Ok-Some.n in
    omega (arith, (length-in _ (ap Ok (sym c.in-Ok-Some.field-0-is) ∙ c.in-Ok-Some.ensures)).fits, length-take (4 + n - 4) (drop 4 l), length-drop 4 l, c.requires.input_bound)

pub decode_packet-requires-clause-table_room : goal.decode_packet-requires-clause-table_room
decode_packet-requires-clause-table_room c = cut-room c.args.base _ (ap Ok (sym c.in-Ok-Some.field-0-is) ∙ c.in-Ok-Some.ensures) c.requires.table_room

pub returns-in-Ok-Some : goal.returns-in-Ok-Some
returns-in-Ok-Some c = cut-fills c.args.base _ (ap Ok (sym c.in-Ok-Some.field-0-is) ∙ c.in-Ok-Some.ensures) c.decode_packet.ensures

pub returns-in-Ok-None : goal.returns-in-Ok-None
returns-in-Ok-None c = fills-none (cut-nothing _ _ (ap Ok (sym c.in-Ok-None.field-0-is) ∙ c.in-Ok-None.ensures) refl)

pub returns-in-Err : goal.returns-in-Err
returns-in-Err c = fills-none (cut-nothing _ _ c.in-Err.ensures refl)
