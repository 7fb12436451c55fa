-- Three writers stand one after another: of the address, of the type tag text, of the data.
use native.Mathlib.Omega.{arith}
use Rattle.writers.proofs.Packets.{before-end, message, address-asked, address-fits, text-asked, data-asked, message-filled}
use Rattle.writers.proofs.encode_message.Goals as goal

pub field_at-end-requires : goal.field_at-end-requires
field_at-end-requires c = ((before-end c.requires.ready).1, omega arith)

pub item_at-requires : goal.item_at-requires
item_at-requires c = (before-end c.requires.ready).1

pub encode_leaf_data-address-requires-clause-b_in_bounds : goal.encode_leaf_data-address-requires-clause-b_in_bounds
encode_leaf_data-address-requires-clause-b_in_bounds c =
    let m = message c.requires.at_value c.requires.ready c.field_at-end.ensures c.item_at.ensures in λ _. address-asked m

pub encode_leaf_data-address-requires-clause-item_in_bounds : goal.encode_leaf_data-address-requires-clause-item_in_bounds
encode_leaf_data-address-requires-clause-item_in_bounds c =
    address-fits (message c.requires.at_value c.requires.ready c.field_at-end.ensures c.item_at.ensures)

pub overflow_add-at : goal.overflow_add-at
overflow_add-at c = omega (arith, before-end c.requires.ready)

pub encode_type_tags-requires : goal.encode_type_tags-requires
encode_type_tags-requires c =
    text-asked (message c.requires.at_value c.requires.ready c.field_at-end.ensures c.item_at.ensures) c.encode_leaf_data-address.ensures

pub overflow_add-at-2 : goal.overflow_add-at-2
overflow_add-at-2 c = omega (arith, before-end c.requires.ready)

pub encode_arg_data-requires : goal.encode_arg_data-requires
encode_arg_data-requires c =
    let m = message c.requires.at_value c.requires.ready c.field_at-end.ensures c.item_at.ensures in
    data-asked m c.encode_leaf_data-address.ensures c.encode_type_tags.ensures

pub returns : goal.returns
returns c =
    let m = message c.requires.at_value c.requires.ready c.field_at-end.ensures c.item_at.ensures in
    message-filled m c.encode_leaf_data-address.ensures c.encode_type_tags.ensures c.encode_arg_data.ensures
