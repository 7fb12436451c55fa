-- Examples, computed, that meet the hypotheses of `osc10_accepted`, `frame_accepted`, `osc10_seen`, `strict_written` and
-- `strict_frame_written`: document 01's P3 and a bundle that holds it; an array in an array; a message of OSC 1.0 itself with a blob, a
-- double, a character, a negative integer and a text; a bundle in a bundle that holds it.
use mathlib.Core.Path.{◌≡◌, refl, ap, ◌∙◌}
use mathlib.Core.List.{List, [], ◌∷◌}
use Prim.Native.Nat.{ℕ}
use native.Mathlib.Omega.{arith}
use mir.Syntax.{w32}
use mir.Val.{to_z}
use lib.IntN.{negsuc}
use lib.ListN.{take, replicate}
use Rattle.wire.specs.Number.{number, bytes}
use Rattle.wire.specs.Limits.{deepest}
use Rattle.node.specs.Tags.{bundle_kind, class_of, sort_of}
use Rattle.node.specs.Forest.{Forest, nil, node, size, depth, snoc}
use Rattle.node.specs.Records.{record_of, records_of}
use Rattle.node.specs.Rules.{own_rules}
use Rattle.node.specs.declared.record.Item.{Item}
use Rattle.values.specs.Look.{look_at}
use Rattle.values.specs.declared.value.OscType.{OscType}
use Rattle.values.specs.declared.value.OscType.TheVariants.{Int}
use Rattle.std.specs.Prelude.{Ok}
use Rattle.text.specs.Text.{read_text}
use Rattle.argument.specs.Argument.{arg_item, read_arg}
use Rattle.argument.specs.Dirt.{dirty_in}
use Rattle.arguments.specs.Arguments.{read_tags}
use Rattle.heads.specs.Heads.{message_item}
use Rattle.packet.specs.FirstText.{start_of}
use Rattle.packet.specs.Packet.{one, read_message, packet_by, packet_at, read_packet}
use Rattle.framing.specs.Framing.{udp, tcp}
use Rattle.table.specs.Formed.{range_ok, allowed}
use Rattle.table.specs.Tree.{IsTree}
use Rattle.strings.specs.Atomic.{osc_string, osc_blob}
use Rattle.writers.specs.Osc.{write_data, write_tags, write_message, write_bundle, write_elements, write_packet}
use Rattle.encoder.specs.Outcome.{formed, unframed, prefixed, tree_outcome, bytes_outcome}
use Rattle.calls.specs.Demands.{table_after}
use Rattle.osc10.specs.Words.{NoNul}
use Rattle.osc10.specs.Osc10.{end, atom, array, word, long, string, blob, char, Packet, message, bundle, none, also, ArgumentsAllowed}
use Rattle.osc10.specs.Osc10.{Allowed, AllAllowed, arguments_deep, deep, tags_of, as_word, as_long, as_string, as_blob, as_char, no_argument}
use Rattle.osc10.specs.Osc10.{one_atom, one_array, Spells, as_message, as_bundle, no_element, element}
use Rattle.osc10.specs.Strict.{ArgumentsStrict, StrictIn, Strict, StrictNode, StrictForest, StrictTree}
use Rattle.standards.specs.Seen.{argument, argument_entries, entries_of, Seen, as_i, LookAs}
use Rattle.standards.specs.Standards.{osc_frame, AcceptedAs, SeenIn, SpelledStrictly, FrameOf}
use Rattle.utf8.proofs.Grammar.{octets}
use Rattle.table.proofs.Examples.{packet as p3-bytes, small_bytes, by_tests}
use Rattle.osc10.proofs.Clean.{call_clean}
use Rattle.osc10.proofs.Placed.{at_all}
use Rattle.osc10.proofs.Strict.{strict_allowed, strict_packet, strict_tree}
use Rattle.standards.proofs.Osc10.Accepted.{osc10_accepted, frame_accepted}
use Rattle.standards.proofs.Osc10.Seen.{osc10_seen, frame_seen}
use Rattle.standards.proofs.Osc10.Written.{strict_written, strict_frame_written}

-- ---- P3, and a bundle that holds it

-- /a with the integer 5
abbrev p3 : Packet
p3 = message (0x2F ∷ 0x61 ∷ []) (atom (word 105 5) end)

p3-allowed : Allowed p3
unfolding Allowed ArgumentsAllowed NoNul
p3-allowed = (
  refl,
  record { non_null = ((λ e. omega arith), ((λ e. omega arith), tt)); valid = (octets (0x2F ∷ 0x61 ∷ [])).sound refl },
  ((refl, omega arith), tt),
)

p3-spelled : Spells p3 p3-bytes
unfolding bytes tags_of
p3-spelled =
    as_message
    (record { additional = 1; few = omega arith; spelled = refl; multiple = refl })
    (record { additional = 1; few = omega arith; spelled = refl; multiple = refl })
    (one_atom as_word no_argument)

-- P3 is accepted
pub p3-accepted : AcceptedAs udp p3 p3-bytes
unfolding deep arguments_deep
p3-accepted = osc10_accepted p3 p3-bytes p3-allowed p3-spelled (omega arith) (omega arith)

-- a bundle, to be played at once, that holds P3
abbrev held : Packet
held = bundle 0 1 (also p3 none)

-- 2362756E646C6500 00000000 00000001 0000000C, and P3
abbrev held_bytes : List ℕ
held_bytes = 35 ∷ 98 ∷ 117 ∷ 110 ∷ 100 ∷ 108 ∷ 101 ∷ 0 ∷ 0 ∷ 0 ∷ 0 ∷ 0 ∷ 0 ∷ 0 ∷ 0 ∷ 1 ∷ 0 ∷ 0 ∷ 0 ∷ 12 ∷ p3-bytes

held-allowed : Allowed held
unfolding Allowed AllAllowed
held-allowed = (omega arith, omega arith, (p3-allowed, tt))

held-spelled : Spells held held_bytes
unfolding bytes
held-spelled =
    as_bundle (record { additional = 0; few = omega arith; spelled = refl; multiple = refl }) (element refl p3-spelled no_element)

-- so is the bundle that holds it
pub held-accepted : AcceptedAs udp held held_bytes
unfolding deep arguments_deep
held-accepted = osc10_accepted held held_bytes held-allowed held-spelled (omega arith) (omega arith)

-- ---- arrays

-- /a with an array in an array that holds the integer 5
abbrev bracketed : Packet
bracketed = message (0x2F ∷ 0x61 ∷ []) (array (array (atom (word 105 5) end) end) end)

-- 2F610000 2C5B5B69 5D5D0000 00000005
abbrev bracketed-bytes : List ℕ
bracketed-bytes =
    0x2F ∷ 0x61 ∷ 0 ∷ 0 ∷ 0x2C ∷ 0x5B ∷ 0x5B ∷ 0x69 ∷ 0x5D ∷ 0x5D ∷ 0 ∷ 0 ∷ 0 ∷ 0 ∷ 0 ∷ 5 ∷ []

-- it is two levels deep
bracketed-deep : deep bracketed ≡ 2
unfolding deep arguments_deep
bracketed-deep = refl

bracketed-allowed : Allowed bracketed
unfolding Allowed ArgumentsAllowed
bracketed-allowed = (p3-allowed.0, p3-allowed.1, ((p3-allowed.2, tt), tt))

bracketed-spelled : Spells bracketed bracketed-bytes
unfolding bytes tags_of
bracketed-spelled =
    as_message
    (record { additional = 1; few = omega arith; spelled = refl; multiple = refl })
    (record { additional = 1; few = omega arith; spelled = refl; multiple = refl })
    (one_array (one_array (one_atom as_word no_argument) no_argument) no_argument)

-- it is accepted
pub bracketed-accepted : AcceptedAs udp bracketed bracketed-bytes
bracketed-accepted =
    osc10_accepted bracketed bracketed-bytes bracketed-allowed bracketed-spelled (omega arith) (omega (arith, bracketed-deep))

-- ---- a message of OSC 1.0 itself

-- /a with a blob of one byte, the double 1.5, the character x, the integer -1 and the text hi
abbrev pub mixed : Packet
mixed =
    message (0x2F ∷ 0x61 ∷ [])
    (atom (blob (0xFF ∷ []))
    (atom (long 100 0x3FF80000 0) (atom (char 0x78) (atom (word 105 0xFFFFFFFF) (atom (string (0x68 ∷ 0x69 ∷ [])) end)))))

-- 2F610000 2C626463 69730000 00000001 FF000000 3FF80000 00000000 00000078 FFFFFFFF 68690000
abbrev pub mixed-bytes : List ℕ
mixed-bytes =
    0x2F ∷ 0x61 ∷ 0 ∷ 0 ∷ 0x2C ∷ 0x62 ∷ 0x64 ∷ 0x63 ∷ 0x69 ∷ 0x73 ∷ 0 ∷ 0 ∷ 0 ∷ 0 ∷ 0 ∷ 1 ∷ 0xFF ∷ 0 ∷ 0 ∷ 0
    ∷ 0x3F ∷ 0xF8 ∷ 0 ∷ 0 ∷ 0 ∷ 0 ∷ 0 ∷ 0 ∷ 0 ∷ 0 ∷ 0 ∷ 0x78 ∷ 0xFF ∷ 0xFF ∷ 0xFF ∷ 0xFF ∷ 0x68 ∷ 0x69 ∷ 0 ∷ 0 ∷ []

-- it is of OSC 1.0 itself
pub mixed-strict : Strict mixed
unfolding StrictIn ArgumentsStrict
mixed-strict = (
  refl,
  ((omega arith, omega arith, refl), ((omega arith, omega arith, refl), tt)),
  (
    small_bytes (0xFF ∷ []) tt,
    (
      (refl, omega arith, omega arith),
      (omega arith, ((refl, omega arith), (((omega arith, omega arith), ((omega arith, omega arith), tt)), tt))),
    ),
  ),
)

-- its bytes
pub mixed-spelled : Spells mixed mixed-bytes
unfolding bytes tags_of
mixed-spelled =
    as_message
    (record { additional = 1; few = omega arith; spelled = refl; multiple = refl })
    (record { additional = 1; few = omega arith; spelled = refl; multiple = refl })
    (one_atom (as_blob (record { additional = 3; few = omega arith; spelled = refl; multiple = refl }))
    (one_atom as_long
    (one_atom as_char
    (one_atom as_word
    (one_atom (as_string (record { additional = 1; few = omega arith; spelled = refl; multiple = refl })) no_argument)))))

-- its frame is accepted by `decode_tcp`
pub mixed-accepted : AcceptedAs tcp mixed (osc_frame mixed-bytes)
unfolding deep arguments_deep bytes
mixed-accepted = frame_accepted mixed mixed-bytes (strict_allowed mixed mixed-strict) mixed-spelled (omega arith) (omega arith)

-- a table of six records shows it
pub mixed-seen : SeenIn udp mixed mixed-bytes (replicate 120 0)
unfolding deep arguments_deep entries_of argument_entries
mixed-seen =
    osc10_seen mixed mixed-bytes (strict_allowed mixed mixed-strict) mixed-spelled (omega arith) (omega arith) (replicate 120 0)
    (omega arith)

-- so does one of its frame
pub mixed-frame-seen : SeenIn tcp mixed (osc_frame mixed-bytes) (replicate 120 0)
unfolding deep arguments_deep entries_of argument_entries bytes
mixed-frame-seen =
    frame_seen mixed mixed-bytes (strict_allowed mixed mixed-strict) mixed-spelled (omega arith) (omega arith) (replicate 120 0)
    (omega arith)

-- the tree that P3 is accepted as has no dirt
p3-read : read_packet 0 p3-bytes 0 ≡ one (message_item 0 2) (node (arg_item 105 8 5 0) nil nil) 12
unfolding number snoc class_of sort_of read_text read_arg read_tags start_of read_message packet_by packet_at read_packet
p3-read = refl

p3-clean : dirty_in p3-bytes (node (message_item 0 2) (node (arg_item 105 8 5 0) nil nil) nil) ≡ 0
p3-clean = call_clean p3-bytes 0 p3 p3-spelled p3-allowed 0 refl (at_all p3-bytes) (omega arith) p3-read refl

-- the tree of a packet of OSC 1.0 itself has only what OSC 1.0 has, and the packet of such a tree is one
mixed-tree : StrictTree (osc_frame mixed-bytes) mixed-accepted.item mixed-accepted.inside
mixed-tree = strict_tree (osc_frame mixed-bytes) mixed mixed-accepted.stands mixed-strict

mixed-again : Strict mixed
mixed-again =
    strict_packet (osc_frame mixed-bytes) 0 mixed nil (strict_allowed mixed mixed-strict) mixed-accepted.stands mixed-tree

-- an i is seen as one number
i-seen : {l : List ℕ} {x : ℕ} {v : OscType} → Seen l (argument (word 105 x)) v → v ≡ Int (to_z w32 x)
i-seen as_i = refl

-- so record 4 is -1
minus_one : look_at (table_after udp deepest mixed-bytes (replicate 120 0)) 4 ≡ Ok (Int (negsuc 0))
unfolding LookAs entries_of argument_entries
minus_one = let r = mixed-seen.looks.1.1.1.1.0 in r.looked ∙ ap (λ (v : OscType). Ok v) (i-seen r.seen)

-- its tree over its own bytes
abbrev address : Item
address = message_item 0 2

abbrev arguments : Forest
arguments =
    node (arg_item 98 12 16 1) nil
    (node (arg_item 100 20 0x3FF80000 0) nil
    (node (arg_item 99 28 0x78 0) nil (node (arg_item 105 32 0xFFFFFFFF 0) nil (node (arg_item 115 36 36 2) nil nil))))

-- the records of a tree
table_of : Item → Forest → List ℕ
table_of item inside = records_of 0 (node item inside nil)

arguments-own : (time : ℕ) → StrictForest mixed-bytes time arguments
unfolding StrictNode StrictForest
arguments-own time =
    (tt, tt, (tt, tt, (omega arith, tt, (tt, tt, (((omega arith, omega arith), ((omega arith, omega arith), tt)), tt, tt)))))

message-own : (time : ℕ) → StrictForest mixed-bytes time (node address arguments nil)
unfolding StrictNode StrictForest
message-own time = ((refl, ((omega arith, omega arith, refl), ((omega arith, omega arith, refl), tt))), arguments-own 2, tt)

mixed-is : IsTree (table_of address arguments) 6 mixed-bytes address arguments
unfolding table_of size own_rules range_ok allowed sort_of class_of
mixed-is = by_tests mixed-bytes address arguments tt tt (omega arith)

-- `encode` of it, into 40 bytes, is a packet of OSC 1.0 itself
pub mixed-written : SpelledStrictly mixed-bytes address arguments
    (take 40 (tree_outcome unframed mixed-bytes (replicate 40 0) address arguments).out)
unfolding table_of depth bytes record_of records_of size osc_string osc_blob write_data write_tags write_message write_packet sort_of class_of
    tree_outcome bytes_outcome
mixed-written =
    strict_written (table_of address arguments) 6 mixed-bytes address arguments (small_bytes (table_of address arguments) tt)
    (small_bytes mixed-bytes tt) mixed-is (message-own 0) (replicate 40 0) _ (formed _ _ mixed-is refl) 40 refl

-- `encode_tcp` of it, into 44 bytes, is its frame
pub mixed-framed : FrameOf SpelledStrictly mixed-bytes address arguments
    (take 44 (tree_outcome prefixed mixed-bytes (replicate 44 0) address arguments).out)
unfolding table_of depth bytes record_of records_of size osc_string osc_blob write_data write_tags write_message write_packet sort_of class_of
    tree_outcome bytes_outcome
mixed-framed =
    strict_frame_written (table_of address arguments) 6 mixed-bytes address arguments (small_bytes (table_of address arguments) tt)
    (small_bytes mixed-bytes tt) mixed-is (record { message = refl; given = message-own 0 }) (replicate 44 0) _
    (formed _ _ mixed-is refl) 44 refl

-- ---- a bundle in a bundle that holds it

-- to be played at once, and a fraction of a second later
abbrev outer : Item
outer = record { kind = bundle_kind; a = 0; b = 1; start = 0 }

abbrev inner : Item
inner = record { kind = bundle_kind; a = 0; b = 2; start = 0 }

-- what the outer bundle contains
abbrev nested : Forest
nested = node inner (node address arguments nil) nil

nested_is : IsTree (table_of outer nested) 8 mixed-bytes outer nested
unfolding table_of size own_rules range_ok allowed sort_of class_of
nested_is = by_tests mixed-bytes outer nested tt tt (omega arith)

-- `encode` of it, into 80 bytes, is a packet of OSC 1.0 itself
pub nested-written : SpelledStrictly mixed-bytes outer nested
    (take 80 (tree_outcome unframed mixed-bytes (replicate 80 0) outer nested).out)
unfolding table_of depth bytes record_of records_of size osc_string osc_blob write_data write_tags write_message write_bundle write_elements
    write_packet sort_of class_of tree_outcome bytes_outcome StrictNode StrictForest
nested-written =
    strict_written (table_of outer nested) 8 mixed-bytes outer nested (small_bytes (table_of outer nested) tt)
    (small_bytes mixed-bytes tt) nested_is (omega arith, (omega arith, message-own 2, tt), tt) (replicate 80 0) _
    (formed _ _ nested_is refl) 80 refl
