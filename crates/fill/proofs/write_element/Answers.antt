-- An accepted element is all there.
use mathlib.Core.Path.{refl}
use native.Mathlib.Omega.{arith}
use Rattle.fill.proofs.Elements.{accepted-size, element-in, held-room, held-accepted, element-written}
use Rattle.fill.proofs.write_element.Goals as goal

pub be_u32-size-requires : goal.be_u32-size-requires
be_u32-size-requires c =
    let a = c.args in
    omega (
      arith,
      element-in {base = a.base} (accepted-size a.base a.input.now a.pos c.requires.packet_accepted refl)
          c.requires.input_bound,
    )

pub slice_bounds-write_held-end : goal.slice_bounds-write_held-end
slice_bounds-write_held-end c =
    let a = c.args in
    let e = element-in {base = a.base} (accepted-size a.base a.input.now a.pos c.requires.packet_accepted c.be_u32-size.ensures)
    c.requires.input_bound in
    omega (arith, e)

pub write_held-count-requires-clause-input_bound : goal.write_held-count-requires-clause-input_bound
write_held-count-requires-clause-input_bound c =
    let a = c.args in
    let e = element-in {base = a.base} (accepted-size a.base a.input.now a.pos c.requires.packet_accepted c.be_u32-size.ensures)
    c.requires.input_bound in
    omega (arith, e)

pub write_held-count-requires-clause-table_room : goal.write_held-count-requires-clause-table_room
write_held-count-requires-clause-table_room c =
    let a = c.args in
    let e = element-in {base = a.base} (accepted-size a.base a.input.now a.pos c.requires.packet_accepted c.be_u32-size.ensures)
    c.requires.input_bound in
    held-room e c.requires.table_room

pub write_held-count-requires-clause-packet_accepted : goal.write_held-count-requires-clause-packet_accepted
write_held-count-requires-clause-packet_accepted c =
    let a = c.args in
    let e = element-in {base = a.base} (accepted-size a.base a.input.now a.pos c.requires.packet_accepted c.be_u32-size.ensures)
    c.requires.input_bound in
    held-accepted e c.requires.packet_accepted

pub returns : goal.returns
returns c =
    let a = c.args in
    let e = element-in {base = a.base} (accepted-size a.base a.input.now a.pos c.requires.packet_accepted c.be_u32-size.ensures)
    c.requires.input_bound in
    element-written e c.write_held-count.ensures
