-- What an encoder writes for a table, by its contract, is the bytes of the table's tree, and so a packet that OSC 1.0 allows: bare by
-- `encode`, and a message's in its frame by `encode_tcp`.
use mathlib.Core.Path.{◌≡◌, refl}
use mathlib.Core.List.{List}
use Prim.Native.Nat.{ℕ, ◌≤◌}
use native.Mathlib.Omega.{arith}
use borrow.Author.Tests.{le-leb}
use lib.Dec.{leb}
use lib.ListN.{length, take}
use lib.Seq.{take_at}
use Rattle.wire.specs.Limits.{longest, deepest}
use Rattle.node.specs.Tags.{bundle_kind}
use Rattle.node.specs.Forest.{Forest, nil, node, depth}
use Rattle.node.specs.declared.record.Item.{Item}
use Rattle.table.specs.Tree.{Obeys, IsTree, FieldsFit}
use Rattle.writers.specs.Osc.{write_packet}
use Rattle.encoder.specs.Outcome.{Outcome, Encodes, formed, unframed, framed_by, prefixed, tree_outcome, bytes_outcome}
use Rattle.edition.specs.declared.Edition.TheVariants.{Standard}
use Rattle.std.specs.Prelude.{Ok}
use Rattle.osc10.specs.Words.{Bytes}
use Rattle.osc10.specs.Strict.{StrictTree}
use Rattle.osc10.specs.Osc10.{Spelled}
use Rattle.standards.specs.Standards.{OfWritten, CleanTree, GivenMessage, SpelledStrictly, FrameOf, Osc10Written, StrictWritten}
use Rattle.standards.specs.Standards.{FrameWritten, StrictFrameWritten}
use Rattle.wire.proofs.Choices.{by-test}
use Rattle.encoder.proofs.Only.{encodes-only}
use Rattle.osc10.proofs.Spelled.{packet-is}
use Rattle.osc10.proofs.Strict.{strict-clean, strict_packet}
use Rattle.standards.proofs.Trip.Tables.{spans_fit}

-- what is answered as written stands at the front of the output
abbrev Holds : List ℕ → Outcome → Type 0
Holds bs o = (n : ℕ) → o.answer ≡ Ok n → take n o.out ≡ bs

held : (bs out : List ℕ) → Holds bs (bytes_outcome bs out)
unfolding bytes_outcome
held bs out =
    by-test (Holds bs) (leb (length bs) longest)
    (λ _. by-test (Holds bs) (leb (length bs) (length out)) (λ _ n e. let q : length bs ≡ n = cc in take_at bs _ n q)
    (λ _ n e. let z : ◌≡◌ {A = ℕ} 0 1 = cc in absurd (omega arith)))
    (λ _ n e. let z : ◌≡◌ {A = ℕ} 0 1 = cc in absurd (omega arith))

module _ (frame : ℕ → List ℕ → List ℕ) where
  -- the outcome of an encoder is that of the table's tree
  pub outcome-is : {t : List ℕ} {count : ℕ} {source out : List ℕ} {r : Outcome} {item : Item} {inside : Forest}
      → IsTree t count source item inside → Encodes frame t count source out r → r ≡ tree_outcome frame source out item inside
  outcome-is w e = encodes-only frame _ _ _ _ _ _ e (formed _ _ w refl)

  -- what is answered as written is the packet's bytes in their frame, at the front of the output
  pub written_held : (source out : List ℕ) (item : Item) (inside : Forest)
      → Holds (frame item.kind (write_packet source item inside)) (tree_outcome frame source out item inside)
  unfolding tree_outcome
  written_held source out item inside =
      let bs = frame item.kind (write_packet source item inside) in
      by-test (Holds bs) (leb (depth (node item inside nil)) deepest)
      (λ _. held bs out)
      (λ _ n e. let z : ◌≡◌ {A = ℕ} 0 1 = cc in absurd (omega arith))

-- within the limits, and with room, the packet is written in its frame
pub written_all : (frame : ℕ → List ℕ → List ℕ) (source out : List ℕ) (item : Item) (inside : Forest)
    → depth (node item inside nil) ≤ deepest
    → length (frame item.kind (write_packet source item inside)) ≤ longest
    → length (frame item.kind (write_packet source item inside)) ≤ length out
    → (tree_outcome frame source out item inside).answer ≡ Ok (length (frame item.kind (write_packet source item inside)))
unfolding tree_outcome bytes_outcome
written_all frame source out item inside d n h =
    let bs = frame item.kind (write_packet source item inside) in
    rw (le-leb (depth (node item inside nil)) deepest d, le-leb (length bs) longest n, le-leb (length bs) (length out) h)

-- ---- what the bytes are

-- what holds of the bytes of every tree that is as given
abbrev pub OfBytes : (ℕ → List ℕ → List ℕ) → (List ℕ → Item → Forest → Type 0) → (List ℕ → Item → Forest → List ℕ → Type 0) → Type 0
OfBytes frame Given Is =
    (source : List ℕ) → Bytes source → (item : Item) (inside : Forest) → Obeys source bundle_kind (node item inside nil)
    → FieldsFit (node item inside nil) → Given source item inside
    → Is source item inside (frame item.kind (write_packet source item inside))

module _ (Given : List ℕ → Item → Forest → Type 0) (Is : List ℕ → Item → Forest → List ℕ → Type 0) where
  -- holds of what is written
  pub of-written : (frame : ℕ → List ℕ → List ℕ) → OfBytes frame Given Is → OfWritten frame Given Is
  of-written frame is t count source item inside small bytes w g out r e n q =
      let q' : (tree_outcome frame source out item inside).answer ≡ Ok n = rw (outcome-is frame w e) at q in
      rw (outcome-is frame w e, written_held frame source out item inside n q')
      (is source bytes item inside w.obeys (spans_fit t small 0 count (node item inside nil) w.spans) g)

  -- and of what stands in its frame in edition 2
  pub in_cut : OfBytes unframed Given Is → OfBytes (framed_by Standard) Given (FrameOf Is)
  in_cut is source bytes item inside o f g =
      record { content = write_packet source item inside; framed = refl; is = is source bytes item inside o f g }

  -- and of what stands in a message's frame
  in_frame : OfBytes unframed Given Is → OfBytes prefixed (GivenMessage Given) (FrameOf Is)
  in_frame is source bytes item inside o f g =
      record {
        content = write_packet source item inside;
        framed = rw g.message;
        is = is source bytes item inside o f g.given;
      }

-- the bytes of a clean tree are a packet that is allowed
pub clean-bytes : OfBytes unframed CleanTree Spelled
clean-bytes source bytes item inside o f c = packet-is source bytes item inside o c f

-- those of a strict one are a packet of OSC 1.0 itself
pub strict-bytes : OfBytes unframed StrictTree SpelledStrictly
strict-bytes source bytes item inside o f s =
    let w = packet-is source bytes item inside o (strict-clean source 0 (node item inside nil) s) f in
    record { spelled = w; strict = strict_packet source 0 w.packet nil w.allowed w.stands s }

-- what `encode` writes for a clean table is a packet that is allowed, and the one that the tree is
pub osc10_written : Osc10Written
osc10_written = of-written CleanTree Spelled unframed clean-bytes

-- for a tree that has only what OSC 1.0 has, it is a packet of OSC 1.0 itself
pub strict_written : StrictWritten
strict_written = of-written StrictTree SpelledStrictly unframed strict-bytes

-- what `encode_tcp` writes for a clean table of a message is the frame of such a packet
pub frame_written : FrameWritten
frame_written = of-written (GivenMessage CleanTree) (FrameOf Spelled) prefixed (in_frame CleanTree Spelled clean-bytes)

-- and of a packet of OSC 1.0 itself where the tree has only what OSC 1.0 has
pub strict_frame_written : StrictFrameWritten
strict_frame_written =
    of-written (GivenMessage StrictTree) (FrameOf SpelledStrictly) prefixed (in_frame StrictTree SpelledStrictly strict-bytes)
