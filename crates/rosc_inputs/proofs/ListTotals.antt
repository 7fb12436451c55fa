-- The first reading of a list of frames of edition 1: what a frame adds, and what ends the list.
use mathlib.Core.Path.{◌≡◌, refl, ap, sym, ◌∙◌, subst}
use mathlib.Core.Bool.{Bool, true, false}
use mathlib.Core.List.{List, [], ◌∷◌}
use Prim.Native.Nat.{ℕ, ◌+◌, ◌-◌, ◌*◌, ◌≤◌}
use native.Mathlib.Nat.{zero-add}
use native.Mathlib.Omega.{arith}
use lib.Dec.{leb}
use lib.ListN.{length, drop, length-drop}
use Rattle.refusal.specs.Refusal.{fault_offset, moved_by}
use Rattle.refusal.specs.declared.Fault.{Fault}
use Rattle.refusal.specs.declared.Fault.TheVariants.{Short}
use Rattle.refusal.specs.declared.Field.TheVariants.{Head}
use Rattle.refusal.specs.declared.Refusal.TheVariants.{Unreadable}
use Rattle.wire.proofs.Choices.{by-test, by_both}
use Rattle.node.specs.Forest.{nil, node, size, depth, level}
use Rattle.heads.specs.Heads.{prefix_of}
use Rattle.packet.specs.Packet.{fault, one}
use Rattle.argument.specs.Dirt.{dirty_in}
use Rattle.argument.proofs.Pads.{dirt-few}
use Rattle.measure.specs.CodeMeasure.{extent, node_dirt}
use Rattle.measure.specs.Results.{Deep, Extent, Tree}
use Rattle.rosc_inputs.specs.Results.{FrameExtent, Total}
use Rattle.std.specs.Prelude.{Err, None, Some}
use Rattle.rosc_inputs.specs.Results as total
use Rattle.framing.specs.Framing.{Whole, Frame, wait, read, refused, read_frame, frames_at, refuses, tcp_vec}
use Rattle.framing.proofs.FrameKnot.{FrameIn, frame-in}
use Rattle.framing.proofs.FrameStarts.{frame-starts, Unrefused, frame-unrefused}
use Rattle.framing.proofs.Lists as lists
use Rattle.rosc_inputs.specs.CodeTotals.{frame_extent, total_of, added}
use Rattle.rosc_inputs.proofs.Counting as counting

-- a frame that was measured lies within its input, and its dirt is small
abbrev PacketIn : ℕ → Extent → Type 0
PacketIn m (Tree n next x) = (n + 4 ≤ next) × (next ≤ m) × (x ≤ 6 * n)
PacketIn m (Deep next) = (4 ≤ next) × (next ≤ m)
PacketIn m (Err k) = fault_offset k ≤ m

abbrev FrameExtentIn : ℕ → FrameExtent → Type 0
FrameExtentIn m None = Unit {0}
FrameExtentIn m (Some x) = PacketIn m x

frame-extent-in : (limit m base : ℕ) (msg : List ℕ) (x : Frame) → FrameIn m x → FrameExtentIn m (frame_extent limit (node_dirt base msg) x)
unfolding extent size
frame-extent-in limit m base msg wait w = tt
frame-extent-in limit m base msg (refused k) w = tt
frame-extent-in limit m base msg (read (fault k)) w = w
frame-extent-in limit m base msg (read (one item f u)) w =
    by-test (PacketIn m) (leb (level item.kind (depth f)) limit)
    (λ _. (omega arith, omega arith, omega (arith, dirt-few base msg (node item f nil)))) (λ _. omega arith)

-- ---- the loop

-- how edition 1 reads a frame, and a list
abbrev rosc_frame : ℕ → ℕ → List ℕ → Frame
rosc_frame limit base l = read_frame base l

abbrev rosc_list : ℕ → List ℕ → Whole
rosc_list limit msg = tcp_vec msg

-- what is counted so far, and a turn
abbrev pub FramesCounted : (limit : ℕ) (msg : List ℕ) (at c d : ℕ) (deep : Bool) → Type 0
FramesCounted = counting.FramesCounted rosc_frame refuses rosc_list

abbrev pub Turn : Type 0
Turn = counting.Turn rosc_frame refuses rosc_list frame_extent

-- an empty input is refused
pub empty-list : (limit : ℕ) (msg : List ℕ) → length msg ≡ 0
    → Err (Unreadable (Short Head 0)) ≡ total_of limit (dirty_in msg) (tcp_vec msg)
unfolding tcp_vec frames_at read_frame prefix_of
empty-list limit [] h = refl
empty-list limit (x ∷ msg) h = absurd (omega arith)

-- before the first frame
pub none-counted : (limit : ℕ) (msg : List ℕ) → (length msg ≡ 0 → ⊥) → FramesCounted limit msg 0 0 0 false
unfolding tcp_vec
none-counted limit msg h =
    counting.counted_start rosc_frame refuses rosc_list limit msg (sym (lists.remaining-list _ refuses 0 msg (omega arith)))

-- after the last frame
pub all-counted : {limit at c d : ℕ} {msg : List ℕ} {deep : Bool} {r : Total} → FramesCounted limit msg at c d deep → length msg ≤ at
    → r ≡ added c d deep (total.Trees 0 0 0) → r ≡ total_of limit (dirty_in msg) (tcp_vec msg)
all-counted w h e = e ∙ counting.counted-end rosc_frame refuses rosc_list w h

module _ (t : Turn) where
  -- the whole total by what the next frame is found to be
  abbrev onward_packet : Extent → Total
  onward_packet (Tree n next x) =
      added (t.count + n) (t.dirt + x) t.deep (total_of t.limit (dirty_in t.msg)
      (lists.following (rosc_frame t.limit) refuses t.at (drop t.at t.msg) next))
  onward_packet (Deep next) =
      added t.count t.dirt true (total_of t.limit (dirty_in t.msg)
      (lists.following (rosc_frame t.limit) refuses t.at (drop t.at t.msg) next))
  onward_packet (Err k) = Err (Unreadable (moved_by t.at k))

  abbrev onward : FrameExtent → Total
  onward None = added t.count t.dirt t.deep (total.Trees 0 (length (drop t.at t.msg)) 0)
  onward (Some x) = onward_packet x

  by-found : (x : Frame) → Unrefused x
      → counting.onward (rosc_frame t.limit) refuses t.limit t.at t.msg (drop t.at t.msg) t.count t.dirt t.deep x
      ≡ onward (frame_extent t.limit (node_dirt t.at t.msg) x)
  unfolding extent
  by-found wait u = refl
  by-found (refused k) u = absurd u
  by-found (read (fault k)) u = added-refused t.deep
    where
      added-refused : (b : Bool) → added t.count t.dirt b (Err (Unreadable (moved_by t.at k)))
          ≡ Err (Unreadable (moved_by t.at k))
      added-refused true = refl
      added-refused false = refl
  by-found (read (one item f u)) v =
      rw (zero-add u) (by_both (λ (x : Total) (y : Extent). x ≡ onward_packet y) (leb (level item.kind (depth f)) t.limit) refl refl)

  by_next : {x : FrameExtent} → t.found ≡ x → total_of t.limit (dirty_in t.msg) (tcp_vec t.msg) ≡ onward x
  by_next e =
      let l = drop t.at t.msg in
      counting.by_next rosc_frame refuses rosc_list t frame-in (frame-starts t.at l)
      ∙ by-found (read_frame t.at l) (frame-unrefused t.at l)
      ∙ ap onward (sym (counting.found-is rosc_frame refuses rosc_list t) ∙ e)

  found_in : {x : Extent} → t.found ≡ Some x → PacketIn (length (drop t.at t.msg)) x
  found_in e =
      let l = drop t.at t.msg in
      subst (FrameExtentIn (length l)) (sym (counting.found-is rosc_frame refuses rosc_list t) ∙ e)
      (frame-extent-in t.limit (length l) t.at t.msg (read_frame t.at l) (frame-in t.at l))

  -- a tree of n records, `used` bytes and so much dirt is passed
  abbrev pub TreePassed : (n used y : ℕ) → Type 0
  TreePassed n used y = counting.Passed rosc_frame refuses rosc_list t used (t.count + n) (t.dirt + y) t.deep

  pub tree-passed : {n used y : ℕ} → t.found ≡ Some (Tree n used y) → TreePassed n used y
  tree-passed {n} {used} {y} e =
      let v = found_in e in
      counting.passed rosc_frame refuses rosc_list t (omega arith) v.1 (omega (arith, t.so_far.few)) (omega (arith, v, t.so_far.clean))
      (by_next e)

  -- a frame that is too deep is passed
  abbrev pub DeepPassed : (used : ℕ) → Type 0
  DeepPassed used = counting.Passed rosc_frame refuses rosc_list t used t.count t.dirt true

  pub deep-passed : {used : ℕ} → t.found ≡ Some (Deep used) → DeepPassed used
  deep-passed e =
      let v = found_in e in
      counting.passed rosc_frame refuses rosc_list t v.0 v.1 (omega (arith, t.so_far.few)) (omega (arith, t.so_far.clean))
      (by_next e)

  -- at a frame that waits
  pub waits-here : {r : Total} → t.found ≡ None
      → r ≡ added t.count t.dirt t.deep (total.Trees 0 (length t.msg - t.at) 0)
      → r ≡ total_of t.limit (dirty_in t.msg) (tcp_vec t.msg)
  waits-here e g = g ∙ sym (by_next e ∙ rw (length-drop t.at t.msg))

  -- the fault of a frame begins in the input or right after it
  pub fault-low : {k : Fault} → t.found ≡ Some (Err k) → t.at + fault_offset k ≤ length t.msg
  fault-low e = omega (arith, found_in e, t.so_far.here, length-drop t.at t.msg)

  -- at a frame that is refused: its offset is added to its fault's place
  pub refused-here : {k j : Fault} → t.found ≡ Some (Err k) → j ≡ moved_by t.at k
      → Err (Unreadable j) ≡ total_of t.limit (dirty_in t.msg) (tcp_vec t.msg)
  refused-here e m = rw m (sym (by_next e))
