-- A list of frames is counted frame by frame, whichever edition reads it: what is counted so far and what is left make up the whole.
use mathlib.Core.Path.{◌≡◌, refl, ap, sym, ◌∙◌}
use mathlib.Core.Bool.{Bool, true, false, cond}
use mathlib.Core.List.{List}
use Prim.Native.Nat.{ℕ, ◌+◌, ◌-◌, ◌*◌, ◌<◌, ◌≤◌}
use native.Mathlib.Omega.{arith}
use lib.Dec.{leb}
use lib.ListN.{length, take, drop, length-drop}
use lib.Seq.{drop-drop}
use Rattle.refusal.specs.Refusal.{moved_by}
use Rattle.refusal.specs.declared.Refusal.{Refusal}
use Rattle.refusal.specs.declared.Refusal.TheVariants.{Unreadable}
use Rattle.wire.proofs.Choices.{by_both}
use Rattle.wire.proofs.Parts.{tail}
use Rattle.node.specs.Forest.{Forest, size, depth, level}
use Rattle.node.specs.declared.record.Item.{Item}
use Rattle.packet.specs.Packet.{fault, one}
use Rattle.argument.specs.CodeParts.{StandsAt}
use Rattle.argument.specs.Dirt.{dirty_in}
use Rattle.argument.proofs.Stands.{stands-rest}
use Rattle.measure.specs.CodeMeasure.{node_dirt}
use Rattle.framing.specs.Framing.{Whole, Frame, wait, read, refused, listed}
use Rattle.framing.proofs.FrameKnot.{FrameIn}
use Rattle.framing.proofs.FrameStarts.{FrameStarts}
use Rattle.framing.proofs.Lists as lists
use Rattle.rosc_inputs.specs.CodeTotals.{total_of, added}
use Rattle.rosc_inputs.specs.Results.{Total}
use Rattle.rosc_inputs.specs.Results as total
use Rattle.rosc_inputs.proofs.FrameExtents.{total-before, added_none, added_more, added-deep, no-trees, dirt-before}

-- ---- the next frame

module _ (frame : ℕ → List ℕ → Frame) (stop : ℕ → ℕ → Refusal → Whole) (limit base : ℕ) (msg l : List ℕ) (c d : ℕ) (deep : Bool) where
  -- the total of a list, with c records, so much dirt and perhaps a frame that was too deep before it
  abbrev with_total : Whole → Total
  with_total w = added c d deep (total_of limit (dirty_in msg) w)

  -- the same by its first frame
  abbrev pub onward : Frame → Total
  onward wait = added c d deep (total.Trees 0 (length l) 0)
  onward (refused k) = with_total (stop base (length l) k)
  onward (read (fault k)) = with_total (stop base (length l) (Unreadable (moved_by base k)))
  onward (read (one item f u)) =
      cond (leb (level item.kind (depth f)) limit)
      (added (c + (1 + size f)) (d + node_dirt base msg item f) deep
      (total_of limit (dirty_in msg) (lists.following frame stop base l u)))
      (added c d true (total_of limit (dirty_in msg) (lists.following frame stop base l u)))

  module _ (inside : (b : ℕ) (m : List ℕ) → FrameIn (length m) (frame b m)) where
    by-frame : (x : Frame) → frame base l ≡ x → FrameStarts base x → with_total (listed frame stop base l) ≡ onward x
    by-frame wait e s =
        ap with_total (lists.list-by frame stop inside base l e) ∙ ap (added c d deep) (sym (no-trees limit msg (length l)))
    by-frame (refused k) e s = ap with_total (lists.list-by frame stop inside base l e)
    by-frame (read (fault k)) e s = ap with_total (lists.list-by frame stop inside base l e)
    by-frame (read (one item f u)) e s =
        let rest = total_of limit (dirty_in msg) (lists.following frame stop base l u) in
        ap with_total (lists.list-tree frame stop inside base l e)
        ∙ ap (added c d deep) (total-before limit (dirty_in msg) item f (node_dirt base msg item f) (λ g. dirt-before base msg item f g s)
        (lists.following frame stop base l u))
        ∙ by_both (λ (x y : Total). added c d deep x ≡ y) (leb (level item.kind (depth f)) limit)
        (added_more c d (1 + size f) (node_dirt base msg item f) deep rest) (added-deep c d 0 0 deep rest)

    next_frame : 0 < length l → FrameStarts base (frame base l) → with_total (lists.remaining frame stop base l) ≡ onward (frame base l)
    next_frame some s = ap with_total (lists.remaining-list frame stop base l some) ∙ by-frame (frame base l) refl s

  no-frame : length l ≤ 0 → added c d deep (total.Trees 0 0 0) ≡ with_total (lists.remaining frame stop base l)
  no-frame none =
      ap (added c d deep) (no-trees limit msg 0 ∙ ap (total_of limit (dirty_in msg)) (sym (lists.remaining-none frame stop base l none)))

-- ---- the loop

-- how an edition reads a list: a frame by the depth limit, what a refused frame makes of the list, and the whole list
module _ (frame : ℕ → ℕ → List ℕ → Frame) (stop : ℕ → ℕ → Refusal → Whole) (whole : ℕ → List ℕ → Whole) where
  -- the frames of msg have c records and so much dirt so far, one of them is perhaps too deep, and those from `at` on are left
  pub record FramesCounted (limit : ℕ) (msg : List ℕ) (at c d : ℕ) (deep : Bool) : Type 0 where
    pub few : c ≤ at
    pub clean : d ≤ 6 * at
    pub here : at ≤ length msg
    pub total-is : total_of limit (dirty_in msg) (whole limit msg)
        ≡ added c d deep (total_of limit (dirty_in msg) (lists.remaining (frame limit) stop at (drop at msg)))

  -- before the first frame
  pub counted_start : (limit : ℕ) (msg : List ℕ) → whole limit msg ≡ lists.remaining (frame limit) stop 0 msg
      → FramesCounted limit msg 0 0 0 false
  counted_start limit msg e =
      record {
        few = omega arith;
        clean = omega arith;
        here = omega arith;
        total-is = ap (total_of limit (dirty_in msg)) e ∙ sym (added_none _);
      }

  -- after the last frame
  pub counted-end : {limit at c d : ℕ} {msg : List ℕ} {deep : Bool} → FramesCounted limit msg at c d deep → length msg ≤ at
      → added c d deep (total.Trees 0 0 0) ≡ total_of limit (dirty_in msg) (whole limit msg)
  counted-end {limit} {at} {c} {d} {msg} {deep} w h =
      no-frame (frame limit) stop limit at msg (drop at msg) c d deep (omega (arith, length-drop at msg)) ∙ sym w.total-is

  -- a turn: what is counted so far, and what the code finds the frame at `at` to be, which `told` says of what it is read as
  pub record Turn {E : Type 0} (told : ℕ → (Item → Forest → ℕ) → Frame → E) : Type 0 where
    pub limit : ℕ
    pub msg : List ℕ
    pub at : ℕ
    pub count : ℕ
    pub dirt : ℕ
    pub deep : Bool
    pub so_far : FramesCounted limit msg at count dirt deep
    pub more : at < length msg
    pub found : E
    pub finds : (base : ℕ) (m : List ℕ) → StandsAt m base (take (length msg - at) (drop at msg))
        → found ≡ told limit (node_dirt base m) (frame limit base (take (length msg - at) (drop at msg)))

  module _ {E : Type 0} {told : ℕ → (Item → Forest → ℕ) → Frame → E} (t : Turn told) where
    -- what is left, from the frame's prefix on
    abbrev pub rest : List ℕ
    rest = drop t.at t.msg

    -- the frame as it is read
    abbrev pub next : Frame
    next = frame t.limit t.at rest

    pub found-is : t.found ≡ told t.limit (node_dirt t.at t.msg) next
    found-is =
        let e = tail t.msg t.at in
        rw e at (t.finds t.at t.msg (rw e (stands-rest t.msg t.at)))

    -- the whole total by that frame
    pub by_next : ((b : ℕ) (m : List ℕ) → FrameIn (length m) (frame t.limit b m)) → FrameStarts t.at next
        → total_of t.limit (dirty_in t.msg) (whole t.limit t.msg)
        ≡ onward (frame t.limit) stop t.limit t.at t.msg rest t.count t.dirt t.deep next
    by_next inside s =
        t.so_far.total-is
        ∙ next_frame (frame t.limit) stop t.limit t.at t.msg rest t.count t.dirt t.deep inside
        (omega (arith, t.more, length-drop t.at t.msg)) s

    -- a frame of `used` bytes is passed: so much is counted after it, and the next one begins later
    abbrev pub Passed : (used c d : ℕ) (deep : Bool) → Type 0
    Passed used c d deep = (4 ≤ used) × FramesCounted t.limit t.msg (t.at + used) c d deep

    pub passed : {used c d : ℕ} {deep : Bool} → 4 ≤ used → used ≤ length rest → c ≤ t.at + used → d ≤ 6 * (t.at + used)
        → total_of t.limit (dirty_in t.msg) (whole t.limit t.msg) ≡ added c d deep
        (total_of t.limit (dirty_in t.msg) (lists.following (frame t.limit) stop t.at rest used))
        → Passed used c d deep
    passed {used} four within few clean e = (
      four,
      record {
        few = few;
        clean = clean;
        here = omega (arith, t.so_far.here, length-drop t.at t.msg);
        total-is = e ∙ rw (drop-drop used t.at t.msg);
      },
    )
