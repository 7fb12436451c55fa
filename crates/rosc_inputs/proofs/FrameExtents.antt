-- The first reading of frames: one of edition 1, and how the totals of frames add up.
use mathlib.Core.Path.{◌≡◌, refl, ap, ◌∙◌}
use mathlib.Core.Bool.{Bool, true, false, cond}
use mathlib.Core.List.{List}
use Prim.Native.Nat.{ℕ, ◌+◌, ◌-◌, ◌<◌, max}
use native.Mathlib.Nat.{zero-add, add_assoc}
use native.Mathlib.Omega.{arith}
use borrow.Author.Tests.{lt-leb}
use lib.Dec.{leb, leb-zero}
use lib.ListN.{drop}
use Rattle.refusal.specs.declared.Fault.TheVariants.{Short}
use Rattle.refusal.specs.declared.Field.TheVariants.{Head}
use Rattle.wire.proofs.Choices.{by-test, by_le, by_both}
use Rattle.node.specs.Forest.{Forest, nil, node, size, depth, level}
use Rattle.node.specs.declared.record.Item.{Item}
use Rattle.heads.specs.Heads.{prefix_of}
use Rattle.packet.specs.Packet.{read_packet}
use Rattle.heads.specs.declared.Prefix.TheVariants as prefix
use Rattle.argument.specs.Dirt.{packets_padding, dirty_in}
use Rattle.argument.proofs.Pads.{packets-join}
use Rattle.measure.specs.CodeMeasure.{extent, node_dirt}
use Rattle.measure.specs.Results.{Extent}
use Rattle.rosc_inputs.specs.Results.{Total}
use Rattle.std.specs.Prelude.{Err, None, Some}
use Rattle.rosc_inputs.specs.Results as total
use Rattle.measure.proofs.Extents.{extent-after, max-low}
use Rattle.framing.specs.Framing.{Whole, trees, waiting, refusal, stopped, frame_with, read_frame}
use Rattle.framing.specs.Framing.{before}
use Rattle.rosc_inputs.specs.CodeTotals.{frame_extent, total_of, added}

-- ---- one frame

module _ (base : ℕ) (l : List ℕ) where
  -- a frame that is ready has the extent of its packet, which stands at 4
  pub frame-ready : {r : Extent} (limit : ℕ) (dirt : Item → Forest → ℕ) (rest : List ℕ) → prefix.Ready ≡ prefix_of l → rest ≡ drop 4 l
      → r ≡ extent limit 4 dirt (read_packet base rest 4) → Some r ≡ frame_extent limit dirt (read_frame base l)
  unfolding read_frame
  frame-ready {r} limit dirt rest e s g =
      let is : r ≡ extent limit 4 dirt (read_packet base (drop 4 l) 4) = rw s at g in
      ap Some (is ∙ extent-after limit 0 4 dirt (read_packet base (drop 4 l) 4)) ∙ ap (λ x. frame_extent limit dirt (frame_with base l x)) e

  -- a frame that is not all there waits
  pub frame_waits : (limit : ℕ) (dirt : Item → Forest → ℕ) → prefix.Waiting ≡ prefix_of l
      → None ≡ frame_extent limit dirt (read_frame base l)
  unfolding read_frame
  frame_waits limit dirt e = ap (λ x. frame_extent limit dirt (frame_with base l x)) e

  -- a prefix that is not all there is refused
  pub frame-runs-out : (limit : ℕ) (dirt : Item → Forest → ℕ) → prefix.RunsOut ≡ prefix_of l
      → Some (Err (Short Head 0)) ≡ frame_extent limit dirt (read_frame base l)
  unfolding read_frame extent
  frame-runs-out limit dirt e = ap (λ x. frame_extent limit dirt (frame_with base l x)) e

-- ---- counting

-- the total of a list is that of its first tree and of what follows it
pub total-before : (limit : ℕ) (dirt : Forest → ℕ) (item : Item) (f : Forest) (d : ℕ) → ((g : Forest) → dirt (node item f g) ≡ d + dirt g)
    → (w : Whole)
    → total_of limit dirt (before item f w) ≡ cond (leb (level item.kind (depth f)) limit)
    (added (1 + size f) d false (total_of limit dirt w))
    (added 0 0 true (total_of limit dirt w))
unfolding size depth
total-before limit dirt item f d e waiting =
    by-test (λ (x : Total). total.Waiting ≡ x) (leb (level item.kind (depth f)) limit) (λ _. refl) (λ _. refl)
total-before limit dirt item f d e (refusal j) =
    by-test (λ (x : Total). Err j ≡ x) (leb (level item.kind (depth f)) limit) (λ _. refl) (λ _. refl)
total-before limit dirt item f d e (trees g left) =
    by_le (λ (x : Total). total_of limit dirt (trees (node item f g) left) ≡ x) (level item.kind (depth f)) limit
    (λ h. rw (max-low (level item.kind (depth f)) (depth g) limit h, e g)
    (by_both (λ (x y : Total). x ≡ added (1 + size f) d false y) (leb (depth g) limit) refl refl))
    (λ h. let over : limit < max (level item.kind (depth f)) (depth g) = omega arith in rw (lt-leb _ _ over)
    (by-test (λ (x : Total). total.Deep ≡ added 0 0 true x) (leb (depth g) limit) (λ _. refl) (λ _. refl)))
total-before limit dirt item f d e (stopped g left k at) =
    by_le (λ (x : Total). total_of limit dirt (stopped (node item f g) left k at) ≡ x) (level item.kind (depth f)) limit
    (λ h. rw (max-low (level item.kind (depth f)) (depth g) limit h, e g)
    (by_both (λ (x y : Total). x ≡ added (1 + size f) d false y) (leb (depth g) limit) refl refl))
    (λ h. let over : limit < max (level item.kind (depth f)) (depth g) = omega arith in rw (lt-leb _ _ over)
    (by-test (λ (x : Total). total.Deep ≡ added 0 0 true x) (leb (depth g) limit) (λ _. refl) (λ _. refl)))

-- nothing before others
pub added_none : (x : Total) → added 0 0 false x ≡ x
added_none (total.Trees n left dirty) = rw (zero-add n, zero-add dirty)
added_none total.Deep = refl
added_none total.Waiting = refl
added_none (Err k) = refl
added_none (total.Stopped n left dirty k at) = rw (zero-add n, zero-add dirty)

-- frames before frames before others
pub added_more : (c d n e : ℕ) (deep : Bool) (x : Total) → added c d deep (added n e false x) ≡ added (c + n) (d + e) deep x
added_more c d n e true (total.Trees m left dirty) = refl
added_more c d n e false (total.Trees m left dirty) = rw (add_assoc c n m, add_assoc d e dirty)
added_more c d n e true total.Deep = refl
added_more c d n e false total.Deep = refl
added_more c d n e true total.Waiting = refl
added_more c d n e false total.Waiting = refl
added_more c d n e true (Err k) = refl
added_more c d n e false (Err k) = refl
added_more c d n e true (total.Stopped m left dirty k at) = refl
added_more c d n e false (total.Stopped m left dirty k at) = rw (add_assoc c n m, add_assoc d e dirty)

-- a frame that is too deep before others
pub added-deep : (c d n e : ℕ) (deep : Bool) (x : Total) → added c d deep (added n e true x) ≡ added c d true x
added-deep c d n e true (total.Trees m left dirty) = refl
added-deep c d n e false (total.Trees m left dirty) = refl
added-deep c d n e true total.Deep = refl
added-deep c d n e false total.Deep = refl
added-deep c d n e true total.Waiting = refl
added-deep c d n e false total.Waiting = refl
added-deep c d n e true (Err k) = refl
added-deep c d n e false (Err k) = refl
added-deep c d n e true (total.Stopped m left dirty k at) = refl
added-deep c d n e false (total.Stopped m left dirty k at) = refl

-- no frame is no tree
pub no-trees : (limit : ℕ) (msg : List ℕ) (left : ℕ) → total.Trees 0 left 0 ≡ total_of limit (dirty_in msg) (trees nil left)
unfolding size depth packets_padding
no-trees limit msg left = rw (leb-zero limit)

-- a packet before others adds its own dirt, in the frame that it tells
pub dirt-before : (base : ℕ) (msg : List ℕ) (item : Item) (f g : Forest) → item.start - 4 ≡ base
    → dirty_in msg (node item f g) ≡ node_dirt base msg item f + dirty_in msg g
dirt-before base msg item f g e = rw (← e) (packets-join msg item f g)
