-- The first reading of frames of edition 2: one, and a list of them, one after another.
use mathlib.Core.Path.{◌≡◌, refl, ap, sym, ◌∙◌, subst}
use mathlib.Core.Bool.{Bool, false, cond}
use mathlib.Core.List.{List}
use Prim.Native.Nat.{ℕ, ◌+◌, ◌-◌, ◌*◌, ◌≤◌}
use native.Mathlib.Nat.{zero-add, add-zero}
use native.Mathlib.Omega.{arith}
use borrow.Author.Tests.{le-leb, leb-true}
use lib.Dec.{eqb, leb, leb-zero}
use lib.ListN.{length, take, drop, length-drop}
use Rattle.refusal.specs.Refusal.{fault_offset, moved_by}
use Rattle.refusal.specs.declared.Fault.{Fault}
use Rattle.refusal.specs.declared.Refusal.{Refusal}
use Rattle.refusal.specs.declared.Refusal.TheVariants as why
use Rattle.wire.proofs.Choices.{by-test, by-eq, by_both}
use Rattle.node.specs.Forest.{Forest, nil, node, size, depth, level}
use Rattle.node.specs.declared.record.Item.{Item}
use Rattle.heads.specs.Heads.{length_of}
use Rattle.heads.specs.Results.{Length}
use Rattle.measure.specs.Results.{Extent}
use Rattle.rosc_inputs.specs.Results.{Total}
use Rattle.standard_inputs.specs.Results.{CutExtent, Refused, Tree, Unreadable, Waiting}
use Rattle.std.specs.Prelude.{Err, Ok, Some}
use Rattle.heads.specs.Results as cut
use Rattle.rosc_inputs.specs.Results as total
use Rattle.heads.proofs.Heads.{part-4}
use Rattle.packet.specs.Packet.{Out, fault, one, after, read_packet}
use Rattle.argument.specs.CodeParts.{StandsAt}
use Rattle.argument.specs.Dirt.{packets_padding, dirty_in}
use Rattle.argument.proofs.Pads.{dirt-few}
use Rattle.argument.proofs.Stands.{stands-drop, stands-take}
use Rattle.measure.specs.CodeMeasure.{extent, node_dirt}
use Rattle.measure.proofs.Extents.{extent-after}
use Rattle.framing.specs.Framing.{stopped, Frame, wait, read, refused, wholly, cut_with, cut_frame, first, tcp2}
use Rattle.framing.specs.Framing.{stops, tcp_vec2}
use Rattle.framing.proofs.FrameKnot.{FrameIn, cut_in}
use Rattle.framing.proofs.FrameStarts.{FrameStarts, cut-starts}
use Rattle.framing.proofs.Lists as lists
use Rattle.rosc_inputs.specs.CodeTotals.{total_of, added}
use Rattle.rosc_inputs.proofs.Totals.{one-tree, one_size, one-dirt}
use Rattle.rosc_inputs.proofs.Counting as counting
use Rattle.standard_inputs.specs.CodeStreams.{cut_extent, judged}

-- ---- one frame

judged-is : (limit n : ℕ) (dirt : Item → Forest → ℕ) (o : Out)
    → judged n (extent limit 0 dirt o) ≡ cut_extent dirt (wholly limit n o)
unfolding extent
judged-is limit n dirt (fault k) = refl
judged-is limit n dirt (one item f u) =
    rw (zero-add u, one-tree item f)
    (by_both (λ (x : Extent) (y : Frame). judged n x ≡ cut_extent dirt (cond (eqb u n) y (refused why.BytesLeft)))
    (leb (level item.kind (depth f)) limit)
    (by_both (λ (x : CutExtent) (y : Frame). x ≡ cut_extent dirt y) (eqb u n) refl refl)
    (by_both (λ (x : CutExtent) (y : Frame). x ≡ cut_extent dirt y) (eqb u n) refl refl))

-- the bytes that a length cuts stand after it
pub cut_stands : (msg l : List ℕ) (base n : ℕ) → StandsAt msg base l → 4 + n ≤ length l
    → StandsAt msg (base + 4) (take (4 + n - 4) (drop 4 l))
cut_stands msg l base n w h = stands-take msg (base + 4) (drop 4 l) (stands-drop msg base l w 4 (omega arith)) (4 + n - 4)

module _ (limit base : ℕ) (l : List ℕ) (dirt : Item → Forest → ℕ) where
  -- the frame by its length
  by_length : {x : Length} → x ≡ length_of l → cut_extent dirt (cut_with limit base l x) ≡ cut_extent dirt (cut_frame limit base l)
  unfolding cut_frame
  by_length e = ap (λ (x : Length). cut_extent dirt (cut_with limit base l x)) e

  -- a frame that is all there is judged by its packet, which stands at 4
  pub cut-judged : {n : ℕ} {x : Extent} {r : CutExtent} → cut.Cuts n ≡ length_of l
      → x ≡ extent limit 4 dirt (read_packet base (take (4 + n - 4) (drop 4 l)) 4) → r ≡ judged (4 + n) x
      → r ≡ cut_extent dirt (cut_frame limit base l)
  cut-judged {n} {x} e g j =
      let bytes = take n (drop 4 l) in
      let is : x ≡ extent limit 4 dirt (read_packet base bytes 4) = rw (part-4 l n) at g in
      j ∙ ap (judged (4 + n)) (is ∙ extent-after limit 0 4 dirt (read_packet base bytes 4))
      ∙ judged-is limit (4 + n) dirt (after 4 (read_packet base bytes 4)) ∙ by_length e

  -- a frame that is not all there waits
  pub cut-waits : cut.Waiting ≡ length_of l → Waiting ≡ cut_extent dirt (cut_frame limit base l)
  cut-waits e = by_length e

  -- a length over the limit is 1
  pub cut-over : cut.Over ≡ length_of l → Refused why.TooLong ≡ cut_extent dirt (cut_frame limit base l)
  cut-over e = by_length e

  -- a length that is no multiple of 4 is 16
  pub cut-odd : cut.Odd ≡ length_of l → Refused why.OddLength ≡ cut_extent dirt (cut_frame limit base l)
  cut-odd e = by_length e

-- a frame that is given is within the depth limit
abbrev pub Shallow : ℕ → Frame → Type 0
Shallow limit wait = Unit {0}
Shallow limit (read (fault k)) = Unit {0}
Shallow limit (read (one item f u)) = level item.kind (depth f) ≤ limit
Shallow limit (refused k) = Unit {0}

whole-shallow : (limit n : ℕ) (o : Out) → Shallow limit (wholly limit n o)
whole-shallow limit n (fault k) = tt
whole-shallow limit n (one item f u) =
    by-eq (Shallow limit) u n
    (λ _. rw (one-tree item f)
    (by-test (Shallow limit) (leb (level item.kind (depth f)) limit) (λ e. leb-true _ _ e) (λ _. tt)))
    (λ _. tt)

-- every frame of edition 2 is
pub cut-shallow : (limit base : ℕ) (l : List ℕ) → Shallow limit (cut_frame limit base l)
unfolding cut_frame
cut-shallow limit base l = go (length_of l)
  where
    go : (x : Length) → Shallow limit (cut_with limit base l x)
    go (cut.Cuts n) = whole-shallow limit (4 + n) (after 4 (read_packet base (take n (drop 4 l)) 4))
    go cut.Waiting = tt
    go cut.Over = tt
    go cut.Odd = tt

-- the total of one frame of n bytes of input
abbrev pub total_of_cut : ℕ → CutExtent → Total
total_of_cut n Waiting = total.Waiting
total_of_cut n (Ok (Some frame)) = total.Trees frame.count (n - frame.next) frame.dirty
total_of_cut n (Unreadable k) = Err (why.Unreadable k)
total_of_cut n (Refused k) = Err k

total_first : (n limit base : ℕ) (msg : List ℕ) (x : Frame) → FrameStarts base x → Shallow limit x
    → total_of_cut n (cut_extent (node_dirt base msg) x) ≡ total_of limit (dirty_in msg) (first n x)
total_first n limit base msg wait s d = refl
total_first n limit base msg (refused k) s d = refl
total_first n limit base msg (read (fault k)) s d = refl
total_first n limit base msg (read (one item f u)) s d =
    rw (one-tree item f, one_size item f, one-dirt base msg item f s, le-leb _ _ d)

-- the total of one frame is that of its extent
pub tcp2-total : {r : CutExtent} (limit : ℕ) (msg : List ℕ) → r ≡ cut_extent (node_dirt 0 msg) (cut_frame limit 0 msg)
    → total_of_cut (length msg) r ≡ total_of limit (dirty_in msg) (tcp2 limit msg)
unfolding tcp2
tcp2-total limit msg e =
    ap (total_of_cut (length msg)) e
    ∙ total_first (length msg) limit 0 msg (cut_frame limit 0 msg) (cut-starts limit 0 msg) (cut-shallow limit 0 msg)

-- a frame that was measured lies within its input, and its dirt is small
abbrev pub CutExtentIn : ℕ → CutExtent → Type 0
CutExtentIn m Waiting = Unit {0}
CutExtentIn m (Ok (Some frame)) = (frame.count + 4 ≤ frame.next) × (frame.next ≤ m) × (frame.dirty ≤ 6 * frame.count)
CutExtentIn m (Unreadable k) = fault_offset k ≤ m
CutExtentIn m (Refused k) = Unit {0}

extent-in : (m base : ℕ) (msg : List ℕ) (x : Frame) → FrameIn m x → CutExtentIn m (cut_extent (node_dirt base msg) x)
unfolding size
extent-in m base msg wait w = tt
extent-in m base msg (read (fault k)) w = w
extent-in m base msg (read (one item f u)) w = (omega arith, omega arith, omega (arith, dirt-few base msg (node item f nil)))
extent-in m base msg (refused k) w = tt

-- what was measured lies in what it was read from
pub cut-extent-in : {x : CutExtent} (limit base : ℕ) (msg l : List ℕ) → x ≡ cut_extent (node_dirt base msg) (cut_frame limit base l)
    → CutExtentIn (length l) x
cut-extent-in limit base msg l e =
    subst (CutExtentIn (length l)) (sym e) (extent-in (length l) base msg (cut_frame limit base l) (cut_in limit base l))

-- ---- a list

-- what is counted so far, and a turn: no frame is too deep
abbrev pub FramesCounted : (limit : ℕ) (msg : List ℕ) (at c d : ℕ) (deep : Bool) → Type 0
FramesCounted = counting.FramesCounted cut_frame stops tcp_vec2

abbrev pub Turn : Type 0
Turn = counting.Turn cut_frame stops tcp_vec2 (λ _ dirt x. cut_extent dirt x)

no-trees-stopped : (limit : ℕ) (msg : List ℕ) (left : ℕ) (k : Refusal) (at : ℕ)
    → total.Stopped 0 left 0 k at ≡ total_of limit (dirty_in msg) (stopped nil left k at)
unfolding size depth packets_padding
no-trees-stopped limit msg left k at = rw (leb-zero limit)

-- what is counted so far, and nothing more
pub only-counted : (c d left : ℕ) → total.Trees c left d ≡ added c d false (total.Trees 0 left 0)
only-counted c d left = rw (add-zero c, add-zero d)

-- the same before a frame that is refused
pub stop-counted : {c d left at : ℕ} {k : Refusal} {r : Total} → r ≡ total.Stopped c left d k at
    → r ≡ added c d false (total.Stopped 0 left 0 k at)
stop-counted {c} {d} e = rw (add-zero c, add-zero d) e

-- before the first frame
pub none-counted : (limit : ℕ) (msg : List ℕ) → FramesCounted limit msg 0 0 0 false
none-counted limit msg = counting.counted_start cut_frame stops tcp_vec2 limit msg (lists.vec2-remaining limit msg)

-- after the last frame
pub all-counted : {limit at c d : ℕ} {msg : List ℕ} → FramesCounted limit msg at c d false → length msg ≤ at
    → total.Trees c 0 d ≡ total_of limit (dirty_in msg) (tcp_vec2 limit msg)
all-counted {limit} {at} {c} {d} w h = only-counted c d 0 ∙ counting.counted-end cut_frame stops tcp_vec2 w h

module _ (t : Turn) where
  -- the whole total by what the next frame is found to be
  abbrev onward : CutExtent → Total
  onward Waiting = added t.count t.dirt t.deep (total.Trees 0 (length (drop t.at t.msg)) 0)
  onward (Ok (Some frame)) =
      added (t.count + frame.count) (t.dirt + frame.dirty) t.deep (total_of t.limit (dirty_in t.msg)
      (lists.following (cut_frame t.limit) stops t.at (drop t.at t.msg) frame.next))
  onward (Unreadable k) =
      added t.count t.dirt t.deep
      (total.Stopped 0 (length (drop t.at t.msg)) 0 (why.Unreadable (moved_by t.at k)) t.at)
  onward (Refused k) = added t.count t.dirt t.deep (total.Stopped 0 (length (drop t.at t.msg)) 0 k t.at)

  by-found : (x : Frame) → Shallow t.limit x
      → counting.onward (cut_frame t.limit) stops t.limit t.at t.msg (drop t.at t.msg) t.count t.dirt t.deep x
      ≡ onward (cut_extent (node_dirt t.at t.msg) x)
  by-found wait h = refl
  by-found (refused k) h = ap (added t.count t.dirt t.deep) (sym (no-trees-stopped t.limit t.msg _ k t.at))
  by-found (read (fault k)) h = ap (added t.count t.dirt t.deep) (sym (no-trees-stopped t.limit t.msg _ _ t.at))
  by-found (read (one item f u)) h = rw (le-leb (level item.kind (depth f)) t.limit h)

  by_next : {x : CutExtent} → t.found ≡ x → total_of t.limit (dirty_in t.msg) (tcp_vec2 t.limit t.msg) ≡ onward x
  by_next e =
      let l = drop t.at t.msg in
      counting.by_next cut_frame stops tcp_vec2 t (cut_in t.limit) (cut-starts t.limit t.at l)
      ∙ by-found (cut_frame t.limit t.at l) (cut-shallow t.limit t.at l)
      ∙ ap onward (sym (counting.found-is cut_frame stops tcp_vec2 t) ∙ e)

  found_in : {x : CutExtent} → t.found ≡ x → CutExtentIn (length (drop t.at t.msg)) x
  found_in e = cut-extent-in t.limit t.at t.msg (drop t.at t.msg) (sym e ∙ counting.found-is cut_frame stops tcp_vec2 t)

  -- a tree of n records, `used` bytes and so much dirt is passed
  abbrev pub TreePassed : (n used y : ℕ) → Type 0
  TreePassed n used y = counting.Passed cut_frame stops tcp_vec2 t used (t.count + n) (t.dirt + y) t.deep

  pub tree-passed : {n used y : ℕ} → t.found ≡ Tree n used y → TreePassed n used y
  tree-passed {n} {used} {y} e =
      let v = found_in e in
      counting.passed cut_frame stops tcp_vec2 t (omega arith) v.1 (omega (arith, t.so_far.few)) (omega (arith, v, t.so_far.clean))
      (by_next e)

  -- at a frame that waits
  pub waits-here : {r : Total} → t.found ≡ Waiting
      → r ≡ added t.count t.dirt t.deep (total.Trees 0 (length t.msg - t.at) 0)
      → r ≡ total_of t.limit (dirty_in t.msg) (tcp_vec2 t.limit t.msg)
  waits-here e g = g ∙ sym (by_next e ∙ rw (length-drop t.at t.msg))

  -- the fault of a packet begins in the input or right after it
  pub fault-low : {k : Fault} → t.found ≡ Unreadable k → t.at + fault_offset k ≤ length t.msg
  fault-low e = omega (arith, found_in e, t.so_far.here, length-drop t.at t.msg)

  -- at a frame that is refused
  pub refused-here : {k : Refusal} {r : Total} → t.found ≡ Refused k
      → r ≡ added t.count t.dirt t.deep (total.Stopped 0 (length t.msg - t.at) 0 k t.at)
      → r ≡ total_of t.limit (dirty_in t.msg) (tcp_vec2 t.limit t.msg)
  refused-here e g = g ∙ sym (by_next e ∙ rw (length-drop t.at t.msg))

  -- at a packet that is refused: the frame's offset is added to its fault's place
  pub unreadable-here : {k j : Fault} {r : Total} → t.found ≡ Unreadable k → j ≡ moved_by t.at k
      → r ≡ added t.count t.dirt t.deep (total.Stopped 0 (length t.msg - t.at) 0 (why.Unreadable j) t.at)
      → r ≡ total_of t.limit (dirty_in t.msg) (tcp_vec2 t.limit t.msg)
  unreadable-here e m g = g ∙ rw m (sym (by_next e ∙ rw (length-drop t.at t.msg)))
