-- A frame takes its prefix and no more than there is, so the number of bytes that ties the knot of frames does not matter: a list of
-- frames meets its rule, with no side condition.
use mathlib.Core.Path.{◌≡◌, refl, ap}
use mathlib.Core.Bool.{cond}
use mathlib.Core.List.{List}
use Prim.Native.Nat.{ℕ, zero, suc, ◌+◌, ◌-◌, ◌<◌, ◌≤◌}
use native.Mathlib.Omega.{arith}
use lib.Dec.{leb}
use lib.ListN.{length, take, drop, length-take, length-drop}
use Rattle.refusal.specs.Refusal.{fault_offset, offset_of}
use Rattle.refusal.specs.declared.Refusal.{Refusal}
use Rattle.refusal.specs.declared.Refusal.TheVariants.{TableFull}
use Rattle.wire.proofs.Choices.{by-test, by-eq}
use Rattle.node.specs.Forest.{nil, node, size, depth}
use Rattle.heads.specs.Heads.{prefix_of, length_of}
use Rattle.packet.specs.Packet.{Out, fault, one, after, read_packet}
use Rattle.heads.specs.declared.Prefix.{Prefix}
use Rattle.heads.specs.declared.Prefix.TheVariants as prefix
use Rattle.heads.specs.Results.{Length}
use Rattle.heads.specs.Results as cut
use Rattle.heads.proofs.Heads.{PrefixIn, prefix-within, LengthIn, length-within}
use Rattle.packet.proofs.Within.{Within, packet-in}
use Rattle.packet.proofs.Faults.{OutLow, packet-low}
use Rattle.framing.specs.Framing.{Whole, trees, Frame, wait, read, refused, frame_with, read_frame, wholly, cut_with, cut_frame, before}
use Rattle.framing.specs.Framing.{after_frame, frames_at, listed}

-- a frame of m bytes takes its prefix and a byte for each node; a fault begins in it or right after it; no frame is refused for want of
-- room
abbrev pub FrameIn : ℕ → Frame → Type 0
FrameIn m wait = Unit {0}
FrameIn m (read (fault k)) = fault_offset k ≤ m
FrameIn m (read (one item f u)) = (5 + size f ≤ u) × (u ≤ m)
FrameIn m (refused k) = k ≡ TableFull → ⊥

after-in : (m : ℕ) (o : Out) → 4 ≤ m → Within (m - 4) o → OutLow (4 + (m - 4)) o → FrameIn m (read (after 4 o))
after-in m (fault k) h w v = omega arith
after-in m (one item f u) h w v = omega arith

with_in : (base : ℕ) (l : List ℕ) (x : Prefix) → PrefixIn (length l) x → FrameIn (length l) (frame_with base l x)
with_in base l prefix.Ready w =
    after-in (length l) (read_packet base (drop 4 l) 4) w (rw length-drop at (packet-in base (drop 4 l) 4))
    (rw length-drop at (packet-low base (drop 4 l) 4))
with_in base l prefix.Waiting w = tt
with_in base l prefix.RunsOut w = omega arith

-- a frame of edition 1 lies in its input
pub frame-in : (base : ℕ) (l : List ℕ) → FrameIn (length l) (read_frame base l)
unfolding read_frame
frame-in base l = with_in base l (prefix_of l) (prefix-within l)

whole_in : (limit m n : ℕ) (o : Out) → n ≤ m → FrameIn n (read o) → FrameIn m (wholly limit n o)
whole_in limit m n (fault k) h w = omega arith
whole_in limit m n (one item f u) h w =
    by-eq (FrameIn m) u n
    (λ e. by-test (FrameIn m) (leb (depth (node item f nil)) limit) (λ _. (w.0, omega arith))
    (λ _ p. let z : ◌≡◌ {A = ℕ} 0 1 = cc in omega arith))
    (λ e p. let z : ◌≡◌ {A = ℕ} 0 1 = cc in omega arith)

-- the bytes that a length cuts
pub cut-length : (l : List ℕ) (n : ℕ) → 4 + n ≤ length l → length (take n (drop 4 l)) ≡ n
cut-length l n h = omega (arith, length-take n (drop 4 l), length-drop 4 l)

cut-with-in : (limit base : ℕ) (l : List ℕ) (x : Length) → LengthIn (length l) x → FrameIn (length l) (cut_with limit base l x)
cut-with-in limit base l (cut.Cuts n) w =
    let bytes = take n (drop 4 l) in
    let e : length bytes ≡ 4 + n - 4 = omega (arith, cut-length l n w.fits) in
    whole_in limit (length l) (4 + n) (after 4 (read_packet base bytes 4)) w.fits
    (after-in (4 + n) (read_packet base bytes 4) (omega arith) (rw e at (packet-in base bytes 4)) (rw e at (packet-low base bytes 4)))
cut-with-in limit base l cut.Waiting w = tt
cut-with-in limit base l cut.Over w = λ e. let z : ◌≡◌ {A = ℕ} 0 1 = cc in omega arith
cut-with-in limit base l cut.Odd w = λ e. let z : ◌≡◌ {A = ℕ} 0 1 = cc in omega arith

-- a frame of edition 2 lies in its input
pub cut_in : (limit base : ℕ) (l : List ℕ) → FrameIn (length l) (cut_frame limit base l)
unfolding cut_frame
cut_in limit base l = cut-with-in limit base l (length_of l) (length-within l)

-- a frame of edition 2 that is refused has its prefix, and what is its own tells no place
abbrev pub Prefixed : ℕ → Frame → Type 0
Prefixed m wait = Unit {0}
Prefixed m (read (fault k)) = 4 ≤ m
Prefixed m (read (one item f u)) = Unit {0}
Prefixed m (refused k) = (4 ≤ m) × (offset_of k ≡ 0)

whole-prefixed : (limit m n : ℕ) (o : Out) → 4 ≤ m → Prefixed m (wholly limit n o)
whole-prefixed limit m n (fault k) h = h
whole-prefixed limit m n (one item f u) h =
    by-eq (Prefixed m) u n (λ _. by-test (Prefixed m) (leb (depth (node item f nil)) limit) (λ _. tt) (λ _. (h, refl))) (λ _. (h, refl))

-- fewer bytes than a prefix has wait
pub cut-prefixed : (limit base : ℕ) (l : List ℕ) → Prefixed (length l) (cut_frame limit base l)
unfolding cut_frame
cut-prefixed limit base l = by_length (length_of l) (length-within l)
  where
    by_length : (x : Length) → LengthIn (length l) x → Prefixed (length l) (cut_with limit base l x)
    by_length (cut.Cuts n) w =
        whole-prefixed limit (length l) (4 + n) (after 4 (read_packet base (take n (drop 4 l)) 4)) (omega (arith, w.fits))
    by_length cut.Waiting w = tt
    by_length cut.Over w = (w, refl)
    by_length cut.Odd w = (w, refl)

module _ (stop : ℕ → ℕ → Refusal → Whole) where
  after_cong : (go go' : ℕ → List ℕ → Whole) (base : ℕ) (l : List ℕ) (x : Frame) → FrameIn (length l) x
      → ((q : ℕ) (m : List ℕ) → length m < length l → go q m ≡ go' q m)
      → after_frame stop go base l x ≡ after_frame stop go' base l x
  after_cong go go' base l wait w h = refl
  after_cong go go' base l (read (fault k)) w h = refl
  after_cong go go' base l (read (one item f u)) w h =
      ap (λ (x : Whole). cond (leb (length l) u) (trees (node item f nil) 0) (before item f x))
      (h (base + u) (drop u l) (omega (arith, length-drop u l)))
  after_cong go go' base l (refused k) w h = refl

  module _ (frame : ℕ → List ℕ → Frame) (inside : (base : ℕ) (l : List ℕ) → FrameIn (length l) (frame base l)) where
    frames-same : (n m base : ℕ) (l : List ℕ) → length l < n → length l < m → frames_at frame stop n base l ≡ frames_at frame stop m base l
    unfolding frames_at
    frames-same zero m base l h g = absurd (omega arith)
    frames-same (suc n) zero base l h g = absurd (omega arith)
    frames-same (suc n) (suc m) base l h g =
        after_cong _ _ base l (frame base l) (inside base l) (λ q j s. frames-same n m q j (omega arith) (omega arith))

    -- a list of frames is a frame and the list after it
    pub list-eq : (base : ℕ) (l : List ℕ)
        → listed frame stop base l ≡ after_frame stop (λ b m. listed frame stop b m) base l (frame base l)
    unfolding frames_at
    list-eq base l =
        after_cong _ _ base l (frame base l) (inside base l) (λ q m s. frames-same (length l) (suc (length m)) q m s (omega arith))
