-- How long the parts of a packet are, and that a packet is a multiple of four bytes long.
use mathlib.Core.Path.{◌≡◌, refl, ap}
use mathlib.Core.List.{List, ◌∷◌}
use Prim.Native.Nat.{ℕ, suc, ◌+◌, ◌%◌}
use native.Mathlib.Omega.{arith}
use lib.Dec.{eqb}
use lib.ListN.{length, length-append}
use Rattle.wire.proofs.Numbers.{length-bytes}
use Rattle.node.specs.Forest.{Forest, nil, node}
use Rattle.node.specs.Tags.{message_kind, sort_of}
use Rattle.node.specs.declared.record.Item.{Item}
use Rattle.node.specs.declared.tags.Sort.{Sort}
use Rattle.node.specs.declared.tags.Sort.TheVariants.{Opens, Closes, Leaf}
use Rattle.wire.specs.Part.{part}
use Rattle.wire.proofs.Choices.{by-test}
use Rattle.strings.specs.Atomic.{osc_string}
use Rattle.strings.specs.CodeStrings.{string_length}
use Rattle.writers.specs.Osc.{data_by, write_data, write_tags, write_message, write_bundle, write_element, write_elements}
use Rattle.writers.specs.Osc.{packet_with, write_packet}
use Rattle.writers.specs.CodeWriters.{bundle_head}
use Rattle.strings.proofs.Lengths.{length-string, string-even, both-even, argument-even}

-- a bundle has its head before its elements
pub length-bundle : (item : Item) (elements : List ℕ) → length (write_bundle item elements) ≡ bundle_head + length elements
unfolding write_bundle
length-bundle item elements = simp (length-append, length-bytes) (omega arith)

-- how long a message is, by its address, its tags and its data
pub length-message : (source : List ℕ) (item : Item) (inside : Forest)
    → length (write_message source item inside)
    ≡ length (osc_string (part source item.a item.b)) + string_length (1 + length (write_tags inside)) + length (write_data source inside)
unfolding write_message
length-message source item inside =
    let e : string_length (suc (length (write_tags inside))) ≡ string_length (1 + length (write_tags inside)) = ap string_length (omega arith) in
    simp (length-append, length-string (44 ∷ write_tags inside), e) (omega arith)

-- ---- multiples of four

data-by-even : (sort : Sort) (source : List ℕ) (item : Item) (within : List ℕ) → length within % 4 ≡ 0
    → length (data_by sort source item within) % 4 ≡ 0
data-by-even Opens source item within h = h
data-by-even Closes source item within h = refl
data-by-even (Leaf class) source item within h = argument-even class source item

data-even : (source : List ℕ) (inside : Forest) → length (write_data source inside) % 4 ≡ 0
unfolding write_data
data-even source nil = refl
data-even source (node item inside rest) =
    both-even (data_by (sort_of item.kind) source item (write_data source inside)) (write_data source rest)
    (data-by-even (sort_of item.kind) source item (write_data source inside) (data-even source inside)) (data-even source rest)

message-even : (source : List ℕ) (item : Item) (inside : Forest) → length (write_message source item inside) % 4 ≡ 0
unfolding write_message
message-even source item inside =
    both-even (osc_string (part source item.a item.b)) _ (string-even (part source item.a item.b))
    (both-even (osc_string (44 ∷ write_tags inside)) (write_data source inside) (string-even (44 ∷ write_tags inside))
    (data-even source inside))

bundle-even : (item : Item) (elements : List ℕ) → length elements % 4 ≡ 0 → length (write_bundle item elements) % 4 ≡ 0
bundle-even item elements h = rw length-bundle (omega arith)

-- a packet is a multiple of four bytes long if its elements are
with-even : (source : List ℕ) (item : Item) (inside : Forest) (elements : List ℕ) → length elements % 4 ≡ 0
    → length (packet_with source item inside elements) % 4 ≡ 0
with-even source item inside elements h =
    by-test (λ (bs : List ℕ). length bs % 4 ≡ 0) (eqb item.kind message_kind) (λ _. message-even source item inside)
    (λ _. bundle-even item elements h)

-- an element is a multiple of four bytes long if its packet is
pub element-even : (content : List ℕ) → length content % 4 ≡ 0 → length (write_element content) % 4 ≡ 0
element-even content h = simp (length-append, length-bytes) (omega arith)

elements-even : (source : List ℕ) (inside : Forest) → length (write_elements source inside) % 4 ≡ 0
unfolding write_elements
elements-even source nil = refl
elements-even source (node item inside rest) =
    let c = packet_with source item inside (write_elements source inside) in
    both-even (write_element c) (write_elements source rest)
    (element-even c (with-even source item inside _ (elements-even source inside))) (elements-even source rest)

-- every packet is a multiple of four bytes long
pub packet-even : (source : List ℕ) (item : Item) (inside : Forest) → length (write_packet source item inside) % 4 ≡ 0
unfolding write_packet
packet-even source item inside = with-even source item inside _ (elements-even source inside)
