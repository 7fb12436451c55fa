-- The round trip of demand 2: what `encode` writes for a table is a packet that OSC 1.0 allows; that packet is accepted as what it is; and
-- trees that stand for one packet are the same.
use mathlib.Core.Path.{◌≡◌, sym, ap, subst, ◌∙◌}
use mathlib.Core.List.{List}
use Prim.Native.Nat.{ℕ, ◌≤◌}
use native.Mathlib.Omega.{arith}
use lib.ListN.{length, take}
use Rattle.wire.specs.Limits.{longest, deepest}
use Rattle.node.specs.Forest.{Forest, nil, node, size, depth}
use Rattle.node.specs.Records.{capacity}
use Rattle.node.specs.declared.record.Item.{Item}
use Rattle.framing.specs.Framing.{rule_of}
use Rattle.edition.specs.declared.Framing.{Framing}
use Rattle.answering.specs.Limits.{forest_of}
use Rattle.edition.specs.declared.Framing.TheVariants.{Udp}
use Rattle.results.specs.Results.{Packets}
use Rattle.table.specs.Tree.{IsTree, FieldsFit}
use Rattle.writers.specs.Osc.{write_packet}
use Rattle.encoder.specs.Outcome.{unframed, tree_outcome}
use Rattle.calls.specs.Demands.{table_after, answer_to}
use Rattle.osc10.specs.Osc10.{Spelled}
use Rattle.standards.specs.Trip.{Same, SameTable, RoundTrip}
use Rattle.standards.specs.Trip as trip
use Rattle.standards.specs.Standards.{AcceptedAs}
use Rattle.table.proofs.Theorem.{tree-size}
use Rattle.writers.proofs.Lengths.{packet-even}
use Rattle.calls.proofs.Answered.{after-held}
use Rattle.osc10.proofs.Depth.{tree-deep}
use Rattle.osc10.proofs.Spelled.{packet-is}
use Rattle.given.proofs.Starts.Forests.{Begun}
use Rattle.given.proofs.Starts.Tables.{forest-begun}
use Rattle.standards.proofs.Osc10.Trees.{same-tree, same_size, packet-fits}
use Rattle.standards.proofs.Osc10.Accepted.{osc10_accepted}
use Rattle.standards.proofs.Trip.Tables.{spans_fit, same-table}
use Rattle.standards.proofs.Osc10.Written.{outcome-is, written_held, written_all}

-- bytes that spell the packet of a table's tree are decoded to a table that holds the same
pub record Back (framing : Framing) (t : List ℕ) (count : ℕ) (source l table : List ℕ) : Type 0 where
  pub decodes : answer_to (rule_of framing deepest) deepest l table ≡ Packets count 0 0
  pub same : SameTable source t l (table_after (rule_of framing deepest) deepest l table) count

module _ {t : List ℕ} {count : ℕ} {source : List ℕ} {item : Item} {inside : Forest} (w : IsTree t count source item inside) where
  -- the bytes of whatever stands before the packet do not matter, if they are accepted as the packet
  pub read_back : (framing : Framing) (source' l table : List ℕ) → length l ≤ longest → count ≤ capacity table
      → (S : Spelled source item inside source') → AcceptedAs (rule_of framing deepest) S.packet l
      → Back framing t count source l table
  read_back framing source' l table low room S A =
      let rule = rule_of framing deepest in
      let F = node item inside nil in
      let T = node A.item A.inside nil in
      let same : Same source l F T = same-tree S.packet S.allowed S.stands A.stands trip.Same.none in
      let n : size T ≡ count = sym (same_size same) ∙ tree-size w in
      let d : answer_to rule deepest l table ≡ Packets count 0 0 = rw n at (A.decodes (capacity table) (omega arith)) in
      let b : Begun l 0 T (length l)
      = subst (λ (x : Forest). Begun l 0 x (length l)) (ap forest_of A.read) (forest-begun l framing deepest) in
      let f : FieldsFit T = packet-fits (omega arith) S.packet S.allowed A.stands b (omega arith) in
      let s = (after-held rule deepest l table d T (ap forest_of A.read) f (omega (arith, w.few))).spans in
      record { decodes = d; same = same-table t (table_after rule deepest l table) count same w.spans s }

-- what `encode` writes for a playable table decodes to the same table, with nothing left
pub round_trip : RoundTrip
unfolding depth
round_trip t count source item inside w out room r e table enough =
    let bs = write_packet source item inside in
    let F = node item inside nil in
    let S = packet-is source w.sourced item inside w.formed.obeys w.clean
    (spans_fit t w.bytes 0 count F w.formed.spans) in
    let A = osc10_accepted S.packet bs S.allowed S.spells w.fits
    (omega (arith, w.shallow, tree-deep S.packet S.allowed S.stands)) in
    let B = read_back w.formed Udp bs bs table w.fits enough S A in
    let written = written_all unframed source out item inside w.shallow w.fits room in
    let held : take (length bs) (tree_outcome unframed source out item inside).out ≡ bs
    = written_held unframed source out item inside (length bs) written in
    rw (outcome-is unframed w.formed e)
    (record {
      n = length bs;
      written = written;
      multiple = packet-even source item inside;
      decoded = rw held B.decodes;
      same = rw held
          B.same;
    })
