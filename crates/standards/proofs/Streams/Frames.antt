-- One frame of edition 2: what OSC 1.0 allows is accepted as what it holds; what is written is such a frame; and it is read back.
use mathlib.Core.Path.{◌≡◌, refl, sym, ap, ◌∙◌}
use mathlib.Core.List.{List, [], ◌++◌, append_assoc, append-nil}
use Prim.Native.Nat.{ℕ, ◌+◌, ◌-◌, ◌%◌, ◌^◌, ◌≤◌, ◌<◌}
use native.Mathlib.Omega.{arith}
use borrow.Author.Tests.{le-leb, eq-eqb}
use lib.ListN.{length, take, drop, length-append}
use lib.Seq.{take_at, drop_at}
use Rattle.edition.specs.declared.Edition.TheVariants.{Standard}
use Rattle.wire.specs.Limits.{longest, deepest}
use Rattle.wire.specs.Number.{number}
use Rattle.wire.proofs.Numbers.{length-bytes, read-written}
use Rattle.node.specs.Forest.{Forest, nil, node, depth}
use Rattle.node.specs.declared.record.Item.{Item}
use Rattle.heads.specs.Heads.{length_of}
use Rattle.heads.specs.Results as cut
use Rattle.heads.proofs.Heads.{length-known, length-cuts}
use Rattle.packet.specs.Packet.{read_packet, one}
use Rattle.framing.specs.Framing.{trees, read, cut_frame, tcp2}
use Rattle.edition.specs.declared.Framing.TheVariants.{Tcp}
use Rattle.writers.specs.Osc.{write_element, write_packet}
use Rattle.writers.proofs.Lengths.{packet-even, element-even}
use Rattle.encoder.specs.Outcome.{framed_by, tree_outcome}
use Rattle.osc10.specs.Osc10.{Packet, Packets, osc_int32, Spells, as_message, as_bundle, ElementsSpell, no_element, element}
use Rattle.osc10.specs.Osc10.{Spelled}
use Rattle.osc10.specs.Strict.{StrictTree}
use Rattle.osc10.proofs.Arguments.{arguments-even}
use Rattle.osc10.proofs.Packets.{packet-read}
use Rattle.osc10.proofs.Clean.{call_clean}
use Rattle.osc10.proofs.Depth.{tree-deep}
use Rattle.osc10.proofs.Spelled.{packet-is}
use Rattle.standards.specs.Standards.{osc_frame, CleanTree, SpelledStrictly, FrameOf}
use Rattle.standards.specs.Streams.{CutAccepted, CutSeen, CutWritten, StrictCutWritten, CutTrip}
use Rattle.standards.proofs.Osc10.Accepted.{accept, frame_at}
use Rattle.standards.proofs.Osc10.Seen.{seen_as}
use Rattle.standards.proofs.Osc10.Written.{of-written, in_cut, clean-bytes, strict-bytes, outcome-is, written_held, written_all}
use Rattle.standards.proofs.Trip.Tables.{spans_fit}
use Rattle.standards.proofs.Trip.RoundTrip.{read_back}

-- ---- a packet has a multiple of 4 bytes

elements-even : {Ps : Packets} {es : List ℕ} → ElementsSpell Ps es → length es % 4 ≡ 0
elements-even no_element = refl
elements-even (element {content = c} {es = es} f w r) =
    let n : length (osc_int32 (length c) ++ (c ++ es)) ≡ 4 + length c + length es = simp (length-append, length-bytes) (omega arith) in
    omega (arith, elements-even r)

-- OSC 1.0: "The size of an OSC packet is always a multiple of 4"
pub spelled-even : {P : Packet} {l : List ℕ} → Spells P l → length l % 4 ≡ 0
spelled-even (as_message {a = a} {t = t} {d = d} w v r) =
    omega (arith, length-append a (t ++ d), length-append t d, w.multiple, v.multiple, arguments-even r)
spelled-even (as_bundle {seconds = x} {fractional = y} {w = w} {es = es} v r) =
    let n : length (w ++ (osc_int32 x ++ (osc_int32 y ++ es))) ≡ length w + 8 + length es = simp (length-append, length-bytes)
    (omega arith) in
    omega (arith, v.multiple, elements-even r)

-- ---- a frame before other bytes

module _ (l more : List ℕ) (low : 4 + length l ≤ longest) (even : length l % 4 ≡ 0) where
  frame_long : length (osc_frame l ++ more) ≡ 4 + length l + length more
  frame_long = simp (length-append, length-bytes)

  -- its length counts it
  frame-cuts : cut.Cuts (length l) ≡ length_of (osc_frame l ++ more)
  frame-cuts =
      let b : length l < 256 ^ 4 = omega arith in
      let is : length l ≡ number 4 (osc_frame l ++ more)
      = sym (ap (number 4) (append_assoc (osc_int32 (length l)) l more) ∙ read-written 4 (length l) (l ++ more) b) in
      length-known (osc_frame l ++ more) (omega (arith, frame_long)) is
      (length-cuts (length (osc_frame l ++ more) - 4) (omega arith) even (omega (arith, frame_long)))

  frame-bytes : take (length l) (drop 4 (osc_frame l ++ more)) ≡ l
  frame-bytes =
      ap (λ (m : List ℕ). take (length l) (drop 4 m)) (append_assoc (osc_int32 (length l)) l more)
      ∙ ap (take (length l)) (drop_at (osc_int32 (length l)) (l ++ more) 4 (length-bytes 4 (length l)))
      ∙ take_at l more (length l) refl

  -- a packet that is read whole, and is not too deep, is what the frame gives
  pub frame-given : (limit base : ℕ) {item : Item} {f : Forest} → read_packet base l 4 ≡ one item f (length l)
      → depth (node item f nil) ≤ limit → cut_frame limit base (osc_frame l ++ more) ≡ read (one item f (4 + length l))
  unfolding cut_frame
  frame-given limit base {item} {f} e d =
      rw (← frame-cuts, frame-bytes, e, eq-eqb (4 + length l) (4 + length l) refl, le-leb (depth (node item f nil)) limit d)

-- ---- what is read

cut-whole : (l : List ℕ) → 4 + length l ≤ longest → length l % 4 ≡ 0 → {item : Item} {f : Forest} → read_packet 0 l 4 ≡ one item f (length l)
    → depth (node item f nil) ≤ deepest → tcp2 deepest (osc_frame l) ≡ trees (node item f nil) 0
unfolding tcp2
cut-whole l low even {item} {f} e d =
    let n : length (osc_frame l) ≡ 4 + length l = simp (length-append, length-bytes) in
    let g : cut_frame deepest 0 (osc_frame l) ≡ read (one item f (4 + length l)) = rw append-nil at
    (frame-given l [] low even deepest 0 e d) in
    let z : length (osc_frame l) - (4 + length l) ≡ 0 = omega arith in
    rw (g, z)

-- the frame of every packet that OSC 1.0 allows, within the limits, is accepted as what it holds
pub cut_accepted : CutAccepted
unfolding depth
cut_accepted P l h w n d =
    let m : length (osc_frame l) ≡ 4 + length l = simp (length-append, length-bytes) in
    let low : length l < 256 ^ 4 = omega arith in
    let at = frame_at l low in
    let r = packet-read (osc_frame l) 0 P w h 4 refl at low in
    accept (tcp2 deepest) (osc_frame l) P r.item r.inside h n d r.stands
    (cut-whole l (omega arith) (spelled-even w) r.read (omega (arith, tree-deep P h r.stands)))
    (call_clean (osc_frame l) 0 P w h 4 refl at low r.read refl)

-- and each of its records is seen as what it is
pub cut_seen : CutSeen
cut_seen P l h w n d = seen_as (Tcp Standard) P _ h n (cut_accepted P l h w n d)

-- ---- what is written

-- what `encode_tcp` writes in edition 2 for a clean table is the frame of a packet that is allowed
pub cut_written : CutWritten
cut_written = of-written CleanTree (FrameOf Spelled) (framed_by Standard) (in_cut CleanTree Spelled clean-bytes)

-- and of one of OSC 1.0 itself where the tree has only what OSC 1.0 has
pub strict_cut_written : StrictCutWritten
strict_cut_written = of-written StrictTree (FrameOf SpelledStrictly) (framed_by Standard) (in_cut StrictTree SpelledStrictly strict-bytes)

-- ---- the round trip

-- what `encode_tcp` writes in edition 2 `decode_tcp` reads back as the same table
pub cut_trip : CutTrip
unfolding depth
cut_trip t count source item inside w fits out room r e table enough =
    let bs = write_packet source item inside in
    let F = node item inside nil in
    let S = packet-is source w.sourced item inside w.formed.obeys w.clean (spans_fit t w.bytes 0 count F w.formed.spans) in
    let A = cut_accepted S.packet bs S.allowed S.spells fits
    (omega (arith, w.shallow, tree-deep S.packet S.allowed S.stands)) in
    let B = read_back w.formed (Tcp Standard) bs (osc_frame bs) table fits enough S A in
    let written = written_all (framed_by Standard) source out item inside w.shallow fits room in
    let held : take (length (write_element bs)) (tree_outcome (framed_by Standard) source out item inside).out ≡ write_element bs
    = written_held (framed_by Standard) source out item inside (length (write_element bs)) written in
    rw (outcome-is (framed_by Standard) w.formed e)
    (record {
      n = length (write_element bs);
      written = written;
      multiple = element-even bs (packet-even source item inside);
      decoded = rw held B.decodes;
      same = rw held B.same;
    })
