-- The comma, the tags and the NULs stand one after another, and there is room for each.
use native.Mathlib.Omega.{arith}
use lib.ListN.{length-set}
use Rattle.wire.proofs.Parts.{length-lent}
use Rattle.writers.proofs.Packets.{text-room, tags-asked, tagged-room, text-filled}
use Rattle.writers.proofs.encode_type_tags.Goals as goal

pub bounds-out-0 : goal.bounds-out-0
bounds-out-0 c = omega (arith, text-room c.args.out.now c.requires)

pub slice_bounds-encode_arg_types-count : goal.slice_bounds-encode_arg_types-count
slice_bounds-encode_arg_types-count c = simp length-set (omega (arith, text-room c.args.out.now c.requires))

pub slice_bounds-encode_arg_types-start : goal.slice_bounds-encode_arg_types-start
slice_bounds-encode_arg_types-start c = simp length-set (omega (arith, text-room c.args.out.now c.requires))

pub encode_arg_types-end-requires : goal.encode_arg_types-end-requires
encode_arg_types-end-requires c = tags-asked c.args.out.now c.requires

pub slice_bounds-write_zeros-count : goal.slice_bounds-write_zeros-count
slice_bounds-write_zeros-count c = omega (arith, tagged-room c.args.out.now c.requires c.encode_arg_types-end.ensures)

pub slice_bounds-write_zeros-start : goal.slice_bounds-write_zeros-start
slice_bounds-write_zeros-start c = omega (arith, tagged-room c.args.out.now c.requires c.encode_arg_types-end.ensures)

pub write_zeros-requires : goal.write_zeros-requires
write_zeros-requires c = rw length-lent (omega (arith, tagged-room c.args.out.now c.requires c.encode_arg_types-end.ensures))

pub returns : goal.returns
returns c = text-filled c.args.out.now c.requires c.encode_arg_types-end.ensures c.write_zeros.ensures
