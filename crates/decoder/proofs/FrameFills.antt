-- The second reading of frames: one, and a list of them, one after another.
use mathlib.Core.Path.{◌≡◌, refl, ap, sym, ◌∙◌, subst}
use mathlib.Core.List.{List, [], ◌∷◌}
use mathlib.Core.Logic.{◌⊎◌, inl, inr}
use Prim.Native.Nat.{ℕ, ◌+◌, ◌-◌, ◌*◌, ◌<◌, ◌≤◌}
use native.Mathlib.Nat.{zero-add}
use native.Mathlib.Omega.{arith}
use lib.Dec.{leb}
use lib.ListN.{length, take, drop, length-drop}
use lib.Seq.{drop-drop}
use borrow.Rule.Slice.PartMut.{mid_of, put_mid}
use Rattle.refusal.specs.declared.Fault.TheVariants as faults
use Rattle.refusal.specs.declared.Field.TheVariants.{Head}
use Rattle.refusal.specs.declared.Refusal.{Refusal}
use Rattle.wire.proofs.Choices.{by-eq, by-test, lt-or-le}
use Rattle.wire.proofs.Parts.{length-lent}
use Rattle.node.specs.Forest.{Forest, nil, node, size, depth}
use Rattle.node.specs.declared.record.Item.{Item}
use Rattle.node.specs.Records.{record_size, most_records, stored, TableRoom}
use Rattle.packet.specs.Packet.{Out, fault, one, after, read_packet}
use Rattle.framing.specs.Framing.{Whole, trees, waiting, refusal, stopped, Frame, wait, read, refused, frame_with, read_frame, wholly}
use Rattle.framing.specs.Framing.{cut_with, cut_frame}
use Rattle.framing.specs.Framing.{first, before, frames_at, listed, refuses, stops, tcp2, tcp_vec, tcp_vec2}
use Rattle.answering.specs.Limits.{forest_of}
use Rattle.heads.specs.Heads.{prefix_of, length_of}
use Rattle.fill.specs.CodeFill.{tree_of, reread, Fills}
use Rattle.decoder.specs.CodeFrames.{frame_packet, packet_cut_by, packet_cut, Accepted}
use Rattle.heads.specs.declared.Prefix.TheVariants as prefix
use Rattle.fill.specs.Results.{Reread, Wrote}
use Rattle.fill.specs.declared.Element.{Element}
use Rattle.wire.proofs.Payloads.{some-is}
use Rattle.heads.specs.Results.{Length}
use Rattle.std.specs.Prelude.{None}
use Rattle.heads.specs.Results as cut
use Rattle.heads.proofs.Heads.{part-4}
use Rattle.fill.proofs.Fills.{room_after, fills-after}
use Rattle.framing.proofs.FrameKnot.{FrameIn, frame-in, cut_in}
use Rattle.framing.proofs.FrameStarts.{Unrefused, frame-unrefused}
use Rattle.framing.proofs.Lists as lists
use Rattle.decoder.proofs.Sizes.{vec2-accepted}
use Rattle.node.proofs.Stored.{completed, length-completed, completed-nil, lent-stored, completed-turn}

-- ---- one frame

module _ (base : ℕ) (l rest : List ℕ) (e : prefix.Ready ≡ prefix_of l) (s : rest ≡ drop 4 l) where
  ready-frame : frame_packet (read_frame base l) ≡ after 4 (read_packet base rest 4)
  unfolding read_frame
  ready-frame = ap (λ x. frame_packet (frame_with base l x)) (sym e) ∙ rw s

  -- room for a frame is room for its packet
  pub frame-room : {i : ℕ} {T : List ℕ} → TableRoom (tree_of (frame_packet (read_frame base l))) i T
      → TableRoom (tree_of (read_packet base rest 4)) i T
  frame-room w = room_after 4 (read_packet base rest 4) ready-frame w

  -- a frame is written where its packet is
  pub frame-fills : {i : ℕ} {r : Reread} {T T' : List ℕ} → Fills (read_packet base rest 4) 4 i T r T'
      → Fills (frame_packet (read_frame base l)) 0 i T r T'
  frame-fills w = fills-after 4 (read_packet base rest 4) ready-frame w

module _ (base : ℕ) (l : List ℕ) where
  -- nothing is written of a frame that waits
  pub waits-nothing : prefix.Waiting ≡ prefix_of l → frame_packet (read_frame base l) ≡ fault faults.Empty
  unfolding read_frame
  waits-nothing e = ap (λ x. frame_packet (frame_with base l x)) (sym e)

  -- nothing is written of a prefix that is not all there
  pub short-nothing : prefix.RunsOut ≡ prefix_of l → frame_packet (read_frame base l) ≡ fault (faults.Short Head 0)
  unfolding read_frame
  short-nothing e = ap (λ x. frame_packet (frame_with base l x)) (sym e)

-- ---- one frame of edition 2

module _ (base : ℕ) (l : List ℕ) {n : ℕ} (e : cut.Cuts n ≡ length_of l) where
  cut-packet : packet_cut base l ≡ after 4 (read_packet base (take (4 + n - 4) (drop 4 l)) 4)
  unfolding packet_cut
  cut-packet = ap (packet_cut_by base l) (sym e) ∙ rw (part-4 l n)

  -- room for a frame is room for its packet
  pub cut-room : {i : ℕ} {T : List ℕ} → TableRoom (tree_of (packet_cut base l)) i T
      → TableRoom (tree_of (read_packet base (take (4 + n - 4) (drop 4 l)) 4)) i T
  cut-room w = room_after 4 (read_packet base (take (4 + n - 4) (drop 4 l)) 4) cut-packet w

  -- a frame is written where its packet is
  pub cut-fills : {i : ℕ} {r : Reread} {T T' : List ℕ} → Fills (read_packet base (take (4 + n - 4) (drop 4 l)) 4) 4 i T r T'
      → Fills (packet_cut base l) 0 i T r T'
  cut-fills w = fills-after 4 (read_packet base (take (4 + n - 4) (drop 4 l)) 4) cut-packet w

-- nothing is written of a frame that is not all there, or whose length is refused
pub cut-nothing : {x : Length} (base : ℕ) (l : List ℕ) → x ≡ length_of l → packet_cut_by base l x ≡ fault faults.Empty
    → packet_cut base l ≡ fault faults.Empty
unfolding packet_cut
cut-nothing base l e h = ap (packet_cut_by base l) (sym e) ∙ h

-- the packet of a frame that is given
Given : Out → Frame → Type 0
Given o wait = Unit {0}
Given o (read (fault k)) = Unit {0}
Given o (read (one item f u)) = o ≡ one item f u
Given o (refused k) = Unit {0}

whole-given : (limit n : ℕ) (o : Out) → Given o (wholly limit n o)
unfolding Given
whole-given limit n (fault k) = tt
whole-given limit n (one item f u) =
    by-eq (Given (one item f u)) u n
    (λ _. by-test (Given (one item f u)) (leb (depth (node item f nil)) limit) (λ _. refl) (λ _. tt)) (λ _. tt)

cut-given : (limit base : ℕ) (l : List ℕ) → Given (packet_cut base l) (cut_frame limit base l)
unfolding packet_cut cut_frame Given
cut-given limit base l = by_length (length_of l)
  where
    by_length : (x : Length) → Given (packet_cut_by base l x) (cut_with limit base l x)
    by_length (cut.Cuts n) = whole-given limit (4 + n) (after 4 (read_packet base (take n (drop 4 l)) 4))
    by_length cut.Waiting = tt
    by_length cut.Over = tt
    by_length cut.Odd = tt

-- a frame that is given is its packet
pub given-packet : {item : Item} {u : ℕ} {f : Forest} (limit base : ℕ) (l : List ℕ) → cut_frame limit base l ≡ read (one item f u)
    → packet_cut base l ≡ one item f u
unfolding Given
given-packet limit base l e = subst (Given (packet_cut base l)) e (cut-given limit base l)

-- an input of one frame that is accepted is its packet
pub tcp2-tree : (limit : ℕ) (msg : List ℕ) → Accepted (tcp2 limit msg) → forest_of (tcp2 limit msg) ≡ tree_of (packet_cut 0 msg)
unfolding tcp2
tcp2-tree limit msg h = by-frame (cut_frame limit 0 msg) refl h
  where
    by-frame : (x : Frame) → cut_frame limit 0 msg ≡ x → Accepted (first (length msg) x)
        → forest_of (first (length msg) x) ≡ tree_of (packet_cut 0 msg)
    by-frame wait e i = absurd i
    by-frame (refused k) e i = absurd i
    by-frame (read (fault k)) e i = absurd i
    by-frame (read (one item f u)) e i = ap tree_of (sym (given-packet limit 0 msg e))

-- ---- a list

accepted-some : (msg : List ℕ) → Accepted (tcp_vec msg) → 0 < length msg
unfolding tcp_vec frames_at read_frame prefix_of
accepted-some [] h = absurd h
accepted-some (x ∷ msg) h = omega arith

accepted-rest : (item : Item) (f : Forest) (w : Whole) → Accepted (before item f w) → Accepted w
accepted-rest item f (trees g left) h = tt
accepted-rest item f waiting h = h
accepted-rest item f (refusal j) h = h
accepted-rest item f (stopped g left k at) h = tt

forest-before : (item : Item) (f : Forest) (w : Whole) → Accepted (before item f w) → forest_of (before item f w) ≡ node item f (forest_of w)
forest-before item f (trees g left) h = refl
forest-before item f waiting h = absurd h
forest-before item f (refusal j) h = absurd h
forest-before item f (stopped g left k at) h = refl

-- the frames of msg, whose trees are `all`, are written to T, which was T₀: c records have their place, and the frames from `at` on are
-- left, of which `rest` says what is left of a list
pub record Listing (rest : ℕ → List ℕ → Whole) (all : Forest) (msg T₀ T : List ℕ) (at c : ℕ) : Type 0 where
  pub accepted : Accepted (rest at (drop at msg))
  pub same : length T ≡ length T₀
  pub fits : record_size * (c + size (forest_of (rest at (drop at msg)))) ≤ length T
  pub low : c + size (forest_of (rest at (drop at msg))) ≤ most_records
  pub counted : c + size (forest_of (rest at (drop at msg))) ≡ size all
  pub left : completed T c c (forest_of (rest at (drop at msg))) ≡ stored 0 all T₀

-- the table that is lent after c records, and the whole table once it has come back
abbrev pub lent : List ℕ → ℕ → List ℕ
lent T c = mid_of (record_size * c) (length T - record_size * c) T

abbrev pub returned : List ℕ → ℕ → List ℕ → List ℕ
returned T c Y = put_mid (record_size * c) (length T - record_size * c) T Y

-- what is left of a list of edition 1
abbrev pub remaining : ℕ → List ℕ → Whole
remaining = lists.remaining (λ b m. read_frame b m) refuses

-- what is left of a list of edition 2
abbrev pub remaining2 : ℕ → ℕ → List ℕ → Whole
remaining2 limit = lists.remaining (λ b m. cut_frame limit b m) stops

starting : (rest : ℕ → List ℕ → Whole) (w : Whole) (msg T : List ℕ) → rest 0 msg ≡ w → Accepted w → TableRoom (forest_of w) 0 T
    → Listing rest (forest_of w) msg T T 0 0
starting rest w msg T e h r =
    record {
      accepted = rw e h;
      same = refl;
      fits = rw e (omega (arith, r.fits));
      low = rw e (omega (arith, r.low));
      counted = rw e (omega arith);
      left = rw e refl;
    }

-- before the first frame
pub listing_start : (msg T : List ℕ) → Accepted (tcp_vec msg) → TableRoom (forest_of (tcp_vec msg)) 0 T
    → Listing remaining (forest_of (tcp_vec msg)) msg T T 0 0
unfolding tcp_vec
listing_start msg T h r = starting remaining (tcp_vec msg) msg T (lists.remaining-list _ refuses 0 msg (accepted-some msg h)) h r

-- the same in edition 2, where every list is accepted
pub cuts-start : (limit : ℕ) (msg T : List ℕ) → TableRoom (forest_of (tcp_vec2 limit msg)) 0 T
    → Listing (remaining2 limit) (forest_of (tcp_vec2 limit msg)) msg T T 0 0
cuts-start limit msg T r =
    starting (remaining2 limit) (tcp_vec2 limit msg) msg T (sym (lists.vec2-remaining limit msg)) (vec2-accepted limit msg) r

-- nothing is left
pub listing-end : {rest : ℕ → List ℕ → Whole} {all : Forest} (msg T₀ T : List ℕ) (at c : ℕ) → Listing rest all msg T₀ T at c
    → forest_of (rest at (drop at msg)) ≡ nil → T ≡ stored 0 all T₀
listing-end msg T₀ T at c w e = sym (completed-nil T c c) ∙ ap (λ (f : Forest). completed T c c f) (sym e) ∙ w.left

-- after the last byte there is nothing
pub none_left : (msg : List ℕ) (at : ℕ) → length msg ≤ at → forest_of (remaining at (drop at msg)) ≡ nil
none_left msg at h = ap forest_of (lists.remaining-none _ refuses at (drop at msg) (omega (arith, length-drop at msg)))

-- a forest of no nodes
pub no-nodes : (f : Forest) → size f ≡ 0 → f ≡ nil
unfolding size
no-nodes nil e = refl
no-nodes (node item f g) e = absurd (omega arith)

module _ (frame : ℕ → List ℕ → Frame) (stop : ℕ → ℕ → Refusal → Whole) {all : Forest}
    (inside : (base : ℕ) (l : List ℕ) → FrameIn (length l) (frame base l)) (msg T₀ T : List ℕ) (at c : ℕ)
    (w : Listing (lists.remaining frame stop) all msg T₀ T at c) (some : at < length msg) where
  -- the table that is lent for the next frame
  abbrev later : List ℕ
  later = lent T c

  here : lists.remaining frame stop at (drop at msg) ≡ listed frame stop at (drop at msg)
  here = lists.remaining-list frame stop at (drop at msg) (omega (arith, length-drop at msg))

  -- by the next frame
  here-tree : {item : Item} {u : ℕ} {f : Forest} → frame at (drop at msg) ≡ read (one item f u)
      → lists.remaining frame stop at (drop at msg) ≡ before item f (lists.remaining frame stop (at + u) (drop (at + u) msg))
  here-tree {item} {u} {f} e = here ∙ lists.list-tree frame stop inside at (drop at msg) e ∙ rw (drop-drop u at msg)

  forest-tree : {item : Item} {u : ℕ} {f : Forest} → frame at (drop at msg) ≡ read (one item f u)
      → forest_of (lists.remaining frame stop at (drop at msg))
      ≡ node item f (forest_of (lists.remaining frame stop (at + u) (drop (at + u) msg)))
  forest-tree {item} {u} {f} e =
      ap forest_of (here-tree e)
      ∙ forest-before item f (lists.remaining frame stop (at + u) (drop (at + u) msg)) (subst Accepted (here-tree e) w.accepted)

  -- there is room for the next frame
  pub next_fits : TableRoom (tree_of (frame_packet (frame at (drop at msg)))) c later
  unfolding size
  next_fits = by-frame (frame at (drop at msg)) refl
    where
      none : TableRoom nil c later
      none = record { fits = omega arith; low = omega (arith, w.low) }

      by-frame : (x : Frame) → frame at (drop at msg) ≡ x → TableRoom (tree_of (frame_packet x)) c later
      by-frame wait e = none
      by-frame (refused k) e = none
      by-frame (read (fault k)) e = none
      by-frame (read (one item f u)) e =
          record {
            fits = omega (arith, w.fits, ap size (forest-tree e), length-lent T (record_size * c));
            low = omega (arith, w.low, ap size (forest-tree e));
          }

  -- a frame that was written takes its prefix, and its records fit
  pub next-in : {n next : ℕ} {x : Reread} {Y : List ℕ} → Fills (frame_packet (frame at (drop at msg))) 0 c later x Y → x ≡ Wrote n next
      → (4 ≤ next) × (at + next ≤ length msg) × (c + n ≤ most_records)
  unfolding size
  next-in {n} {next} f z = by-frame (frame at (drop at msg)) refl (inside at (drop at msg)) (sym z ∙ f.answered)
    where
      by-frame : (x : Frame) → frame at (drop at msg) ≡ x → FrameIn (length (drop at msg)) x
          → Wrote n next ≡ reread 0 (frame_packet x) → (4 ≤ next) × (at + next ≤ length msg) × (c + n ≤ most_records)
      by-frame wait e i h = let z : ◌≡◌ {A = ℕ} 0 1 = cc in absurd (omega arith)
      by-frame (refused k) e i h = let z : ◌≡◌ {A = ℕ} 0 1 = cc in absurd (omega arith)
      by-frame (read (fault k)) e i h = let z : ◌≡◌ {A = ℕ} 0 1 = cc in absurd (omega arith)
      by-frame (read (one item g u)) e i h =
          let en : n ≡ 1 + size g = ap (λ (x : Element). x.count) (some-is h) in
          let ee : next ≡ 0 + u = ap (λ (x : Element). x.next) (some-is h) in
          (omega (arith, i, ee), omega (arith, i, ee, length-drop at msg), omega (arith, en, w.low, ap size (forest-tree e)))

  listing-tree : {item : Item} {u : ℕ} {g : Forest} {x : Reread} {Y : List ℕ} → frame at (drop at msg) ≡ read (one item g u)
      → Fills (frame_packet (frame at (drop at msg))) 0 c later x Y
      → Listing (lists.remaining frame stop) all msg T₀ (returned T c Y) (at + u)
      (c + (1 + size g))
  unfolding size
  listing-tree {item} {u} {g} {x} {Y} e f =
      let N = node item g nil in
      let rest = lists.remaining frame stop (at + u) (drop (at + u) msg) in
      let put : returned T c Y ≡ completed T c c N
      = lent-stored T c c N (f.table ∙ ap (λ (y : Frame). stored c (tree_of (frame_packet y)) later) e) in
      let every : size (forest_of (lists.remaining frame stop at (drop at msg))) ≡ 1 + size g + size (forest_of rest) = ap size
      (forest-tree e) in
      let long : length (returned T c Y) ≡ length T
      = ap length put ∙ length-completed T c c N (omega (arith, w.fits)) in
      record {
        accepted = accepted-rest item g rest (subst Accepted (here-tree e) w.accepted);
        same = long ∙ w.same;
        fits = omega (arith, w.fits);
        low = omega (arith, w.low);
        counted = omega (arith, w.counted);
        left =
            completed-turn T c (1 + size g) c item g (forest_of rest) (omega (arith, w.fits)) refl put
            ∙ ap (λ (h : Forest). completed T c c h) (sym (forest-tree e)) ∙ w.left;
      }

  -- the next frame was written
  pub listing-on : {n next : ℕ} {x : Reread} {Y : List ℕ} → Fills (frame_packet (frame at (drop at msg))) 0 c later x Y
      → x ≡ Wrote n next
      → Listing (lists.remaining frame stop) all msg T₀ (returned T c Y) (at + next) (c + n)
  listing-on {n} {next} {x} {Y} f z = by-frame (frame at (drop at msg)) refl (sym z ∙ f.answered)
    where
      by-frame : (y : Frame) → frame at (drop at msg) ≡ y → Wrote n next ≡ reread 0 (frame_packet y)
          → Listing (lists.remaining frame stop) all msg T₀ (returned T c Y) (at + next) (c + n)
      by-frame wait e h = let z : ◌≡◌ {A = ℕ} 0 1 = cc in absurd (omega arith)
      by-frame (refused k) e h = let z : ◌≡◌ {A = ℕ} 0 1 = cc in absurd (omega arith)
      by-frame (read (fault k)) e h = let z : ◌≡◌ {A = ℕ} 0 1 = cc in absurd (omega arith)
      by-frame (read (one item g u)) e h =
          let en : n ≡ 1 + size g = ap (λ (x : Element). x.count) (some-is h) in
          let e0 : next ≡ 0 + u = ap (λ (x : Element). x.next) (some-is h) in
          let ee : next ≡ u = e0 ∙ zero-add u in
          rw (en, ee) (listing-tree e f)

module _ (msg T₀ T : List ℕ) (at c : ℕ) (w : Listing remaining (forest_of (tcp_vec msg)) msg T₀ T at c) (some : at < length msg) where
  -- the next frame of edition 1 waits
  pub listing-waits : {x : Reread} {Y : List ℕ}
      → Fills (frame_packet (read_frame at (drop at msg))) 0 c (lent T c) x Y → x ≡ None
      → returned T c Y ≡ stored 0 (forest_of (tcp_vec msg)) T₀
  listing-waits {x} {Y} f z = by-frame (read_frame at (drop at msg)) refl (frame-unrefused at (drop at msg)) (sym z ∙ f.answered)
    where
      here' : remaining at (drop at msg) ≡ listed (λ b m. read_frame b m) refuses at (drop at msg)
      here' = lists.remaining-list _ refuses at (drop at msg) (omega (arith, length-drop at msg))

      by-frame : (y : Frame) → read_frame at (drop at msg) ≡ y → Unrefused y → None ≡ reread 0 (frame_packet y)
          → returned T c Y ≡ stored 0 (forest_of (tcp_vec msg)) T₀
      by-frame wait e u h =
          lent-stored T c c nil (f.table
          ∙ ap (λ (y : Frame). stored c (tree_of (frame_packet y)) (lent T c)) e)
          ∙ ap (λ (y : Whole). completed T c c (forest_of y)) (sym (here' ∙ lists.list-by _ refuses frame-in at (drop at msg) e)) ∙ w.left
      by-frame (refused k) e u h = absurd u
      by-frame (read (fault k)) e u h =
          absurd (subst Accepted (here' ∙ lists.list-by _ refuses frame-in at (drop at msg) e) w.accepted)
      by-frame (read (one item g v)) e u h = let z : ◌≡◌ {A = ℕ} 0 1 = cc in absurd (omega arith)

-- ---- the next frame of edition 2

-- where records are left to be written, the next frame is all there and is given
pub record Next (limit : ℕ) (msg : List ℕ) (at : ℕ) : Type 0 where
  pub some : at < length msg
  pub same : frame_packet (cut_frame limit at (drop at msg)) ≡ packet_cut at (drop at msg)
  pub written : (p : ℕ) → None ≡ reread p (packet_cut at (drop at msg)) → ⊥

pub next-given : (limit : ℕ) (msg : List ℕ) (at : ℕ) → 0 < size (forest_of (remaining2 limit at (drop at msg))) → Next limit msg at
unfolding size
next-given limit msg at h = by-rest (lt-or-le 0 (length (drop at msg)))
  where
    by-frame : (x : Frame) → cut_frame limit at (drop at msg) ≡ x → at < length msg
        → 0 < size (forest_of (listed (λ b m. cut_frame limit b m) stops at (drop at msg))) → Next limit msg at
    by-frame wait e s i =
        absurd (omega (
          arith,
          ap (λ (y : Whole). size (forest_of y)) (lists.list-by (λ b m. cut_frame limit b m) stops (cut_in limit) at
              (drop at msg) e),
        ))
    by-frame (refused k) e s i =
        absurd (omega (
          arith,
          ap (λ (y : Whole). size (forest_of y)) (lists.list-by (λ b m. cut_frame limit b m) stops (cut_in limit) at
              (drop at msg) e),
        ))
    by-frame (read (fault k)) e s i =
        absurd (omega (
          arith,
          ap (λ (y : Whole). size (forest_of y)) (lists.list-by (λ b m. cut_frame limit b m) stops (cut_in limit) at
              (drop at msg) e),
        ))
    by-frame (read (one item f u)) e s i =
        let g = given-packet limit at (drop at msg) e in
        record {
          some = s;
          same = ap frame_packet e ∙ sym g;
          written = λ p n. let m : None ≡ reread p (one item f u) = n ∙ ap (reread p) g in
              let z : ◌≡◌ {A = ℕ} 0 1 = cc in absurd (omega arith);
        }

    by-rest : (0 < length (drop at msg)) ⊎ (length (drop at msg) ≤ 0) → Next limit msg at
    by-rest (inl some) =
        by-frame (cut_frame limit at (drop at msg)) refl (omega (arith, some, length-drop at msg))
        (subst (λ (y : Whole). 0 < size (forest_of y)) (lists.remaining-list _ stops at (drop at msg) some) h)
    by-rest (inr none) =
        absurd (omega (
          arith,
          h,
          ap (λ (y : Whole). size (forest_of y))
              (lists.remaining-none (λ b m. cut_frame limit b m) stops at (drop at msg) none),
        ))
