-- The trees of frames of edition 2 are read from those frames, so that bytes appended leave their dirty padding as it was.
use mathlib.Core.Path.{◌≡◌, refl}
use mathlib.Core.Logic.{⊎_elim}
use mathlib.Core.List.{List, ◌++◌}
use Prim.Native.Nat.{ℕ, zero, suc, ◌+◌, ◌-◌, ◌≤◌, ◌<◌}
use native.Mathlib.Omega.{arith}
use lib.ListN.{length, take, drop, length-drop}
use Rattle.wire.proofs.Choices.{lt-or-le}
use Rattle.node.specs.Forest.{Forest, nil, node}
use Rattle.node.specs.declared.record.Item.{Item}
use Rattle.argument.specs.CodeParts.{StandsAt}
use Rattle.argument.specs.Dirt.{packets_padding, dirty_in}
use Rattle.argument.proofs.Stands.{stands-rest, stands-drop, stands-take}
use Rattle.heads.specs.Heads.{length_of}
use Rattle.heads.specs.Results.{Length}
use Rattle.heads.specs.Results as cut
use Rattle.heads.proofs.Heads.{length-in}
use Rattle.packet.specs.Packet.{Out, fault, one, after, read_packet}
use Rattle.packet.proofs.Dirt.{packet-same}
use Rattle.packet.proofs.Items.{packet-start}
use Rattle.framing.specs.Framing.{Frame, wait, read, refused, cut_frame, first, after_frame, listed, stops, tcp2}
use Rattle.framing.proofs.FrameKnot.{FrameIn, cut_in}
use Rattle.framing.proofs.Lists as lists
use Rattle.rosc_inputs.proofs.FrameExtents.{dirt-before}
use Rattle.answering.specs.Limits.{forest_of}
use Rattle.decoder.specs.CodeFrames.{packet_cut_by, packet_cut}
use Rattle.decoder.proofs.Cuts.{rest_of, rest-by, rest-forest}
use Rattle.decoder.proofs.FrameFills.{given-packet}
use Rattle.calls.proofs.Longer.Dirt.{DirtStays}

-- a packet is read from the bytes of a frame at the front of l, which stands at `base`
pub record FromFrame (base : ℕ) (l : List ℕ) (item : Item) (f : Forest) : Type 0 where
  pub n : ℕ
  pub used : ℕ
  pub fits : 4 + n ≤ length l
  pub reads : read_packet base (take n (drop 4 l)) 4 ≡ one item f used

-- trees are read from frames one after another, from the front of l on, which stands at `base`
pub data Framed : ℕ → List ℕ → Forest → Type 0 where
  none : {base : ℕ} {l : List ℕ} → Framed base l nil
  also : {base : ℕ} {l : List ℕ} {item : Item} {f g : Forest} (u : ℕ) → FromFrame base l item f → u ≤ length l
      → Framed (base + u) (drop u l) g → Framed base l (node item f g)

-- a frame that is given has its packet from its bytes
from-frame : {item : Item} {f : Forest} {u : ℕ} (base : ℕ) (l : List ℕ) → packet_cut base l ≡ one item f u → FromFrame base l item f
unfolding packet_cut
from-frame {item} {f} {u} base l e = by_length (length_of l) refl e
  where
    by_out : (n : ℕ) → 4 + n ≤ length l → (o : Out) → read_packet base (take n (drop 4 l)) 4 ≡ o → after 4 o ≡ one item f u
        → FromFrame base l item f
    by_out n h (fault k) q g = let z : ◌≡◌ {A = ℕ} 0 1 = cc in absurd (omega arith)
    by_out n h (one item' f' used) q g =
        let i : item' ≡ item = cc in
        let s : f' ≡ f = cc in
        record { n = n; used = used; fits = h; reads = rw (i, s) at q }

    by_length : (x : Length) → x ≡ length_of l → packet_cut_by base l x ≡ one item f u → FromFrame base l item f
    by_length (cut.Cuts n) q g = by_out n (length-in l q).fits (read_packet base (take n (drop 4 l)) 4) refl g
    by_length cut.Waiting q g = let z : ◌≡◌ {A = ℕ} 0 1 = cc in absurd (omega arith)
    by_length cut.Over q g = let z : ◌≡◌ {A = ℕ} 0 1 = cc in absurd (omega arith)
    by_length cut.Odd q g = let z : ◌≡◌ {A = ℕ} 0 1 = cc in absurd (omega arith)

module _ (limit : ℕ) where
  module _ (base : ℕ) (l : List ℕ) (some : 0 < length l) where
    by_first : {x : Frame} → cut_frame limit base l ≡ x
        → Framed base l (forest_of (after_frame stops (λ b m. listed (λ c j. cut_frame limit c j) stops b m) base l x))
        → Framed base l (forest_of (rest_of limit base l))
    by_first e w = rw (rest-by limit base l some e) w

    framed-by : (x : Frame) → cut_frame limit base l ≡ x → FrameIn (length l) x
        → ((u : ℕ) → 5 ≤ u → u ≤ length l → Framed (base + u) (drop u l) (forest_of (rest_of limit (base + u) (drop u l))))
        → Framed base l (forest_of (rest_of limit base l))
    framed-by wait e w go = by_first e none
    framed-by (refused k) e w go = by_first e none
    framed-by (read (fault k)) e w go = by_first e none
    framed-by (read (one item f u)) e w go =
        rw (rest-forest limit base l some e)
        (also u (from-frame base l (given-packet limit base l e)) w.1 (go u (omega arith) w.1))

  framed-to : (n base : ℕ) (l : List ℕ) → length l < n → Framed base l (forest_of (rest_of limit base l))
  framed-to zero base l h = absurd (omega arith)
  framed-to (suc n) base l h =
      ⊎_elim
      (λ some. framed-by base l some (cut_frame limit base l) refl (cut_in limit base l)
      (λ u low high. framed-to n (base + u) (drop u l) (omega (arith, length-drop u l))))
      (λ no. rw (lists.remaining-none (λ b m. cut_frame limit b m) stops base l no) none)
      (lt-or-le 0 (length l))

  -- the trees of a list of edition 2 are read from its frames
  pub list-framed : (base : ℕ) (l : List ℕ) → Framed base l (forest_of (rest_of limit base l))
  list-framed base l = framed-to (suc (length l)) base l (omega arith)

-- ---- bytes appended

framed-same : {base : ℕ} {l : List ℕ} {f : Forest} (msg msg' : List ℕ) → Framed base l f → StandsAt msg base l → StandsAt msg' base l
    → dirty_in msg f ≡ dirty_in msg' f
unfolding packets_padding
framed-same msg msg' none v v' = refl
framed-same {base} {l} msg msg' (also {item = item} {f = f} {g = g} u w h r) v v' =
    let bytes = take w.n (drop 4 l) in
    let z : item.start - 4 ≡ base = omega (arith, packet-start base bytes 4 w.reads) in
    let four : 4 ≤ length l = omega (arith, w.fits) in
    let x = stands-take msg (base + 4) (drop 4 l) (stands-drop msg base l v 4 four) w.n in
    let x' = stands-take msg' (base + 4) (drop 4 l) (stands-drop msg' base l v' 4 four) w.n in
    omega (
      arith,
      dirt-before base msg item f g z,
      dirt-before base msg' item f g z,
      packet-same base bytes 4 msg msg' x x' w.reads,
      framed-same msg msg' r (stands-drop msg base l v u h) (stands-drop msg' base l v' u h),
    )

-- bytes appended change no dirt of the trees of a list of edition 2
pub dirt-longer : (limit : ℕ) → DirtStays (rest_of limit 0)
dirt-longer limit msg more = framed-same (msg ++ more) msg (list-framed limit 0 msg) (more, refl) (stands-rest msg 0)

-- nor of the tree of one frame
first-framed : (limit : ℕ) (msg : List ℕ) (x : Frame) → cut_frame limit 0 msg ≡ x → FrameIn (length msg) x
    → Framed 0 msg (forest_of (first (length msg) x))
first-framed limit msg wait e w = none
first-framed limit msg (refused k) e w = none
first-framed limit msg (read (fault k)) e w = none
first-framed limit msg (read (one item f u)) e w = also u (from-frame 0 msg (given-packet limit 0 msg e)) w.1 none

pub frame-longer : (limit : ℕ) → DirtStays (tcp2 limit)
unfolding tcp2
frame-longer limit msg more =
    framed-same (msg ++ more) msg (first-framed limit msg (cut_frame limit 0 msg) refl (cut_in limit 0 msg)) (more, refl) (stands-rest msg 0)
