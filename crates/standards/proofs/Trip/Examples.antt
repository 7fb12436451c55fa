-- Examples, computed, that meet the hypotheses of `round_trip`, `osc10_written` and `encode_ignores`: document 01's P3, a bundle with a
-- message that has a text and an array, and the bundle in a bundle of crates/table/proofs/Examples.antt.
use mathlib.Core.Path.{◌≡◌, refl, sym, ap}
use mathlib.Core.Bool.{true}
use mathlib.Core.List.{List, [], ◌∷◌}
use Prim.Native.Nat.{ℕ, ◌%◌, ◌≤◌}
use native.Mathlib.Omega.{arith}
use lib.ListN.{length, take, set, replicate, length-set}
use lib.Seq.{get_or-set_other}
use Rattle.edition.specs.declared.Edition.{Edition}
use Rattle.refusal.specs.Refusal.{number_of}
use Rattle.refusal.specs.declared.Refusal.TheVariants.{BadTable}
use Rattle.wire.specs.Number.{bytes}
use Rattle.node.specs.Forest.{Forest, nil, node, size, depth}
use Rattle.node.specs.Tags.{bundle_kind, among, class_of, sort_of}
use Rattle.node.specs.declared.record.Item.{Item}
use Rattle.node.specs.Rules.{own_rules}
use Rattle.node.specs.Records.{record_of, records_of, capacity}
use Rattle.argument.specs.Argument.{arg_item}
use Rattle.arguments.specs.Arguments.{array_item}
use Rattle.heads.specs.Heads.{message_item}
use Rattle.table.specs.Formed.{range_ok, allowed}
use Rattle.table.specs.Tree.{IsTree}
use Rattle.strings.specs.Atomic.{osc_string, osc_blob}
use Rattle.writers.specs.Osc.{write_data, write_tags, write_message, write_bundle, write_elements, write_packet}
use Rattle.encoder.specs.AfterNo.{AfterNo}
use Rattle.encoder.specs.AfterNo as after-no
use Rattle.encoder.specs.Outcome.{formed, unframed, framed_by, tree_outcome, bytes_outcome}
use Rattle.osc10.specs.Words.{NoNul, CleanNode, Clean}
use Rattle.osc10.specs.Osc10.{Spelled}
use Rattle.framing.specs.Framing.{udp}
use Rattle.standards.specs.Trip.{Playable, PlaysBack}
use Rattle.standards.specs.Ignored.{StartsDiffer}
use Rattle.table.proofs.Examples.{small_bytes, by_tests, nested, once, within, nested-table, nested-tree}
use Rattle.table.proofs.Examples as p3
use Rattle.encoder.proofs.NoLeads.{no_number}
use Rattle.standards.proofs.Osc10.Written.{osc10_written}
use Rattle.standards.proofs.Trip.RoundTrip.{round_trip}
use Rattle.standards.proofs.Ignored.{encode_ignores, encode_tcp_ignores}

-- ---- a round trip, with what `encode` does by its contract

plays : {t : List ℕ} {count : ℕ} {source : List ℕ} {item : Item} {inside : Forest} → Playable t count source item inside
    → (out table : List ℕ)
    → length (write_packet source item inside) ≤ length out → count ≤ capacity table
    → PlaysBack udp t count source out (tree_outcome unframed source out item inside) table
plays w out table h n = round_trip _ _ _ _ _ w out h _ (formed _ _ w.formed refl) table n

-- ---- P3

-- it can be played
pub p3-playable : Playable (p3.table 2 2) 2 p3.packet p3.message p3.five
unfolding NoNul CleanNode Clean depth bytes osc_string write_data write_tags write_message write_packet sort_of class_of
p3-playable =
    record {
      bytes = small_bytes (p3.table 2 2) tt;
      sourced = small_bytes p3.packet tt;
      formed = p3.p3-tree;
      clean = ((refl, ((λ e. omega arith), ((λ e. omega arith), tt))), (tt, tt, tt), tt);
      shallow = omega arith;
      fits = omega arith;
    }

-- an output of 12 bytes and a table of two records are enough
p3-plays : PlaysBack udp (p3.table 2 2) 2 p3.packet (replicate 12 0) (tree_outcome unframed p3.packet (replicate 12 0) p3.message p3.five)
    (replicate 40 0)
unfolding bytes osc_string write_data write_tags write_message write_packet sort_of class_of
p3-plays = plays p3-playable (replicate 12 0) (replicate 40 0) (omega arith) (omega arith)

-- ---- a bundle

-- "/a" and "é"
abbrev source : List ℕ
source = 0x2F ∷ 0x61 ∷ 0xC3 ∷ 0xA9 ∷ []

-- a message /a with the text é and an array that holds the integer 7; the encoder reads no start, so any will do
abbrev inside : Forest
inside =
    node (message_item 0 2)
    (node (arg_item 115 2 2 2) nil (node (array_item 9) (node (arg_item 105 9 7 0) nil nil) nil)) nil

-- the bundle that holds it, to be played at once
abbrev bundle : Item
bundle = record { kind = bundle_kind; a = 0; b = 1; start = 0 }

-- its records
table : List ℕ
table = records_of 0 (node bundle inside nil)

bundle-is : IsTree table 5 source bundle inside
unfolding table size own_rules range_ok allowed sort_of class_of
bundle-is = by_tests source bundle inside tt tt (omega arith)

bundle-playable : Playable table 5 source bundle inside
unfolding table NoNul CleanNode Clean depth bytes record_of records_of size osc_string write_data write_tags write_message write_bundle
    write_elements write_packet
    sort_of class_of
bundle-playable =
    record {
      bytes = small_bytes table tt;
      sourced = small_bytes source tt;
      formed = bundle-is;
      clean = (
        tt,
        (
          (refl, ((λ e. omega arith), ((λ e. omega arith), tt))),
          (((λ e. omega arith), ((λ e. omega arith), tt)), tt, (tt, (tt, tt, tt), tt)),
          tt,
        ),
        tt,
      );
      shallow = omega arith;
      fits = omega arith;
    }

bundle-plays : PlaysBack udp table 5 source (replicate 40 0) (tree_outcome unframed source (replicate 40 0) bundle inside) (replicate 100 0)
unfolding bytes osc_string write_data write_tags write_message write_bundle write_elements write_packet sort_of class_of
bundle-plays = plays bundle-playable (replicate 40 0) (replicate 100 0) (omega arith) (omega arith)

-- ---- a bundle in a bundle

nested-playable : Playable nested-table 7 nested (once 0) (within 0)
unfolding nested-table NoNul CleanNode Clean depth bytes record_of records_of size osc_string osc_blob write_data write_tags write_message
    write_bundle write_elements write_packet sort_of class_of
nested-playable =
    record {
      bytes = small_bytes nested-table tt;
      sourced = small_bytes nested tt;
      formed = nested-tree;
      clean = (
        tt,
        (
          tt,
          (
            (refl, ((λ e. omega arith), ((λ e. omega arith), tt))),
            (((λ e. omega arith), ((λ e. omega arith), tt)), tt, (tt, tt, (tt, tt, (tt, tt, tt)))),
            tt,
          ),
          tt,
        ),
        tt,
      );
      shallow = omega arith;
      fits = omega arith;
    }

nested-plays : PlaysBack udp nested-table 7 nested (replicate 76 0) (tree_outcome unframed nested (replicate 76 0) (once 0) (within 0))
    (replicate 140 0)
unfolding bytes osc_string osc_blob write_data write_tags write_message write_bundle write_elements write_packet sort_of class_of
nested-plays = plays nested-playable (replicate 76 0) (replicate 140 0) (omega arith) (omega arith)

-- ---- what is written is an OSC 1.0 packet

bundle_written : Spelled source bundle inside (take 40 (tree_outcome unframed source (replicate 40 0) bundle inside).out)
unfolding depth bytes osc_string write_data write_tags write_message write_bundle write_elements write_packet sort_of class_of tree_outcome
    bytes_outcome
bundle_written =
    osc10_written table 5 source bundle inside bundle-playable.bytes bundle-playable.sourced bundle-is bundle-playable.clean
    (replicate 40 0) _ (formed bundle inside bundle-is refl) 40 refl

-- ---- P3 with another start

-- a table of which one byte of a start is changed
changed : (t : List ℕ) (i v : ℕ) → 16 ≤ i % 20 → StartsDiffer t (set t i v)
changed t i v h =
    record { long = sym (length-set t i v); same = λ j k. sym (get_or-set_other t i j v 0 (λ e. omega (arith, ap (λ (n : ℕ). n % 20) e))) }

-- the integer begins at 9
abbrev other-five : Forest
other-five = node (arg_item 105 9 5 0) nil nil

other-tree : IsTree (set (p3.table 2 2) 39 9) 2 p3.packet p3.message other-five
unfolding bytes size class_of sort_of record_of records_of own_rules range_ok allowed
other-tree = by_tests p3.packet p3.message other-five tt tt (omega arith)

-- it is encoded as P3 is
encodes-alike : tree_outcome unframed p3.packet (replicate 12 0) p3.message p3.five
    ≡ tree_outcome unframed p3.packet (replicate 12 0) p3.message other-five
encodes-alike =
    encode_ignores (p3.table 2 2) (set (p3.table 2 2) 39 9) (changed (p3.table 2 2) 39 9 (omega arith)) 2 p3.packet (replicate 12 0) _ _
    (formed p3.message p3.five p3.p3-tree refl) (formed p3.message other-five other-tree refl)

-- so it is after its length, in both editions
encodes-alike-tcp : (edition : Edition) → tree_outcome (framed_by edition) p3.packet (replicate 16 0) p3.message p3.five
    ≡ tree_outcome (framed_by edition) p3.packet (replicate 16 0) p3.message other-five
encodes-alike-tcp edition =
    encode_tcp_ignores edition (p3.table 2 2) (set (p3.table 2 2) 39 9) (changed (p3.table 2 2) 39 9 (omega arith)) 2 p3.packet
    (replicate 16 0) _ _ (formed p3.message p3.five p3.p3-tree refl) (formed p3.message other-five other-tree refl)

-- ---- a table that is not well formed

-- after the survey's "no" it is refused with 11
wrong-end-number : among (number_of BadTable) (11 ∷ 9 ∷ 1 ∷ []) ≡ true
wrong-end-number =
    let w : AfterNo (p3.table 2 3) 2 p3.packet BadTable = after-no.malformed p3.wrong-end refl in
    no_number w
