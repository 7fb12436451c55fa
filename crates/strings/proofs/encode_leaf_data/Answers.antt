-- Each class of arguments has one writer, and there is room for the data of the class that the match found.
use mathlib.Core.Path.{◌≡◌, subst}
use mathlib.Core.List.{List}
use mathlib.Core.Logic.{⊎_elim}
use Prim.Native.Nat.{ℕ, ◌≤◌}
use lib.ListN.{length, length-append}
use Rattle.wire.proofs.Numbers.{length-bytes}
use Rattle.node.specs.declared.record.Item.{Item}
use Rattle.node.specs.declared.tags.Class.{Class}
use Rattle.node.specs.declared.tags.Class.TheVariants.{Four, Scalar}
use Rattle.strings.specs.Atomic.{write_argument}
use Rattle.strings.proofs.Lengths.{length-string, length-blob}
use Rattle.strings.proofs.encode_leaf_data.Goals as goal

-- the room that the contract asks for, at the class that the match found
data-fits : {class x : Class} (source out : List ℕ) (item : Item) → class ≡ x
    → length (write_argument class source item) ≤ length out → length (write_argument x source item) ≤ length out
data-fits source out item e h = subst (λ (y : Class). length (write_argument y source item) ≤ length out) e h

pub encode_number_into-requires : goal.encode_number_into-requires
encode_number_into-requires c =
    let room = c.requires.item_in_bounds in
    ⊎_elim
    (λ e. rw length-bytes at (data-fits {x = Four} c.args.source.now c.args.out.now c.args.item e room))
    (λ e. rw length-bytes at (data-fits {x = Scalar} c.args.source.now c.args.out.now c.args.item e room))
    c.in-Four.is

pub encode_pair_into-requires : goal.encode_pair_into-requires
encode_pair_into-requires c =
    simp (length-append, length-bytes) at (data-fits c.args.source.now c.args.out.now c.args.item c.in-Eight.is c.requires.item_in_bounds)

pub encode_string_into-requires : goal.encode_string_into-requires
encode_string_into-requires c =
    rw c.range.ensures
    (rw length-string at (data-fits c.args.source.now c.args.out.now c.args.item c.in-Text.is c.requires.item_in_bounds))

pub encode_blob_into-requires-clause-content_in_bounds : goal.encode_blob_into-requires-clause-content_in_bounds
encode_blob_into-requires-clause-content_in_bounds c =
    rw c.range-in-Blob.ensures
    (rw length-blob at (data-fits c.args.source.now c.args.out.now c.args.item c.in-Blob.is c.requires.item_in_bounds))
