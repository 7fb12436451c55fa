-- Every tree takes at least as many bytes as it has nodes, and what is left comes after them.
use Prim.Native.Nat.{ℕ, zero, suc, ◌+◌, ◌<◌, ◌≤◌}
use mathlib.Core.List.{List, [], ◌∷◌}
use native.Mathlib.Omega.{arith}
use lib.ListN.{length, drop, length-drop}
use Rattle.node.specs.Forest.{Forest, size, depth, level}
use Rattle.node.specs.declared.record.Item.{Item}
use Rattle.wire.proofs.Choices.{by_le, by-test}
use lib.Dec.{leb}
use Rattle.decoder.specs.CodeFrames.{Accepted}
use Rattle.packet.specs.Packet.{Out, fault, one, read_packet}
use Rattle.framing.specs.Framing.{Whole, trees, waiting, refusal, stopped, single, udp, Frame, wait, read, refused, read_frame, cut_frame}
use Rattle.framing.specs.Framing.{first}
use Rattle.framing.specs.Framing.{tcp, tcp2, before, after_frame, frames_at, refuses, stops, tcp_vec, tcp_vec2, rule_of}
use Rattle.edition.specs.declared.Framing.{Framing}
use Rattle.edition.specs.declared.Framing.TheVariants.{Udp, Tcp, TcpVec}
use Rattle.edition.specs.declared.Edition.TheVariants.{Rosc, Standard}
use Rattle.refusal.specs.declared.Refusal.{Refusal}
use Rattle.refusal.specs.declared.Refusal.TheVariants.{TableFull}
use mathlib.Core.Path.{◌≡◌}
use Rattle.answering.specs.Limits.{forest_of}
use Rattle.packet.proofs.Within.{Within, packet-in}
use Rattle.framing.proofs.FrameKnot.{FrameIn, frame-in, cut_in}
use Rattle.standard_inputs.proofs.Cuts.{Shallow, cut-shallow}

-- m bytes give no more nodes than they have, less those that are left, and are not refused for want of room
abbrev pub WholeIn : ℕ → Whole → Type 0
WholeIn m (trees f left) = size f + left ≤ m
WholeIn m waiting = Unit {0}
WholeIn m (refusal k) = k ≡ TableFull → ⊥
WholeIn m (stopped f left k at) = size f + left ≤ m

-- no more nodes than bytes
pub nodes-in : (n : ℕ) (w : Whole) → WholeIn n w → size (forest_of w) ≤ n
unfolding size
nodes-in n (trees f left) h = omega arith
nodes-in n waiting h = omega arith
nodes-in n (refusal k) h = omega arith
nodes-in n (stopped f left k at) h = omega arith

-- ---- every list of edition 2 has trees, or stops after some

before-accepted : (item : Item) (f : Forest) (x : Whole) → Accepted x → Accepted (before item f x)
before-accepted item f (trees g left) w = tt
before-accepted item f waiting w = w
before-accepted item f (refusal k) w = w
before-accepted item f (stopped g left k at) w = tt

after-accepted : (go : ℕ → List ℕ → Whole) (base : ℕ) (l : List ℕ) (x : Frame) → FrameIn (length l) x
    → ((q : ℕ) (m : List ℕ) → length m < length l → Accepted (go q m)) → Accepted (after_frame stops go base l x)
after-accepted go base l wait w h = tt
after-accepted go base l (refused k) w h = tt
after-accepted go base l (read (fault k)) w h = tt
after-accepted go base l (read (one item f used)) w h =
    by-test Accepted (leb (length l) used) (λ _. tt)
    (λ _. before-accepted item f (go (base + used) (drop used l)) (h (base + used) (drop used l) (omega (arith, length-drop used l))))

-- no list of edition 2 is refused as a whole
pub frames-accepted : (limit n base : ℕ) (l : List ℕ) → length l < n → Accepted (frames_at (λ b m. cut_frame limit b m) stops n base l)
unfolding frames_at
frames-accepted limit zero base l h = absurd (omega arith)
frames-accepted limit (suc n) base l h =
    after-accepted _ base l (cut_frame limit base l) (cut_in limit base l) (λ q m s. frames-accepted limit n q m (omega arith))

-- no list of edition 2 is refused before the limits
pub vec2-accepted : (limit : ℕ) (msg : List ℕ) → Accepted (tcp_vec2 limit msg)
unfolding tcp_vec2
vec2-accepted limit [] = tt
vec2-accepted limit (x ∷ msg) = frames-accepted limit (suc (length (x ∷ msg))) 0 (x ∷ msg) (omega arith)

-- ---- no list of edition 2 gives a tree that is deeper than the limit

before-shallow : (limit : ℕ) (item : Item) (f : Forest) (x : Whole) → level item.kind (depth f) ≤ limit → depth (forest_of x) ≤ limit
    → depth (forest_of (before item f x)) ≤ limit
unfolding depth
before-shallow limit item f (trees g left) h w = omega arith
before-shallow limit item f waiting h w = omega arith
before-shallow limit item f (refusal k) h w = omega arith
before-shallow limit item f (stopped g left k at) h w = omega arith

after-shallow : (limit : ℕ) (go : ℕ → List ℕ → Whole) (base : ℕ) (l : List ℕ) (x : Frame) → Shallow limit x
    → ((q : ℕ) (m : List ℕ) → depth (forest_of (go q m)) ≤ limit) → depth (forest_of (after_frame stops go base l x)) ≤ limit
unfolding depth
after-shallow limit go base l wait s h = omega arith
after-shallow limit go base l (refused k) s h = omega arith
after-shallow limit go base l (read (fault k)) s h = omega arith
after-shallow limit go base l (read (one item f used)) s h =
    by-test (λ (x : Whole). depth (forest_of x) ≤ limit) (leb (length l) used) (λ _. omega arith)
    (λ _. before-shallow limit item f (go (base + used) (drop used l)) s (h (base + used) (drop used l)))

frames-shallow : (limit n base : ℕ) (l : List ℕ) → depth (forest_of (frames_at (λ b m. cut_frame limit b m) stops n base l)) ≤ limit
unfolding frames_at depth
frames-shallow limit zero base l = omega arith
frames-shallow limit (suc n) base l =
    after-shallow limit (λ q m. frames_at (λ b m'. cut_frame limit b m') stops n q m) base l (cut_frame limit base l)
    (cut-shallow limit base l) (λ q m. frames-shallow limit n q m)

-- 9 is of a frame, so the trees that are given are within the limit
pub vec2-shallow : (limit : ℕ) (msg : List ℕ) → depth (forest_of (tcp_vec2 limit msg)) ≤ limit
unfolding tcp_vec2 depth
vec2-shallow limit [] = omega arith
vec2-shallow limit (x ∷ msg) = frames-shallow limit (suc (length (x ∷ msg))) 0 (x ∷ msg)

-- ---- one packet

single-in : (n : ℕ) (o : Out) → Within n o → WholeIn n (single n o)
unfolding size
single-in n (fault k) w = λ e. let z : ◌≡◌ {A = ℕ} 0 1 = cc in omega arith
single-in n (one item f used) w = omega arith

-- the nodes and the bytes left of one packet
pub udp-in : (msg : List ℕ) → WholeIn (length msg) (udp msg)
unfolding udp
udp-in msg = single-in (length msg) (read_packet 0 msg 0) (packet-in 0 msg 0)

first-in : (n : ℕ) (x : Frame) → FrameIn n x → WholeIn n (first n x)
unfolding size
first-in n wait w = tt
first-in n (refused k) w = w
first-in n (read (fault k)) w = λ e. let z : ◌≡◌ {A = ℕ} 0 1 = cc in omega arith
first-in n (read (one item f used)) w = omega arith

-- the nodes and the bytes left of one frame
pub tcp-in : (msg : List ℕ) → WholeIn (length msg) (tcp msg)
unfolding tcp
tcp-in msg = first-in (length msg) (read_frame 0 msg) (frame-in 0 msg)

-- the nodes and the bytes left of one frame of edition 2
pub tcp2-in : (limit : ℕ) (msg : List ℕ) → WholeIn (length msg) (tcp2 limit msg)
unfolding tcp2
tcp2-in limit msg = first-in (length msg) (cut_frame limit 0 msg) (cut_in limit 0 msg)

-- ---- a list of packets

before-in : (item : Item) (f : Forest) (m n : ℕ) (x : Whole) → 1 + size f + m ≤ n → WholeIn m x → WholeIn n (before item f x)
unfolding size
before-in item f m n (trees g left) h w = omega arith
before-in item f m n waiting h w = tt
before-in item f m n (refusal k) h w = w
before-in item f m n (stopped g left k at) h w = omega arith

-- however a list ends at a refused frame, it has no more than the bytes from there on
module _ (stop : ℕ → ℕ → Refusal → Whole) (ends : (base left : ℕ) (k : Refusal) → (k ≡ TableFull → ⊥)
    → WholeIn left (stop base left k)) where
  after-in : (go : ℕ → List ℕ → Whole) (base : ℕ) (l : List ℕ) (x : Frame) → ((q : ℕ) (m : List ℕ) → WholeIn (length m) (go q m))
      → FrameIn (length l) x
      → WholeIn (length l) (after_frame stop go base l x)
  unfolding size
  after-in go base l wait h w = omega arith
  after-in go base l (refused k) h w = ends base (length l) k w
  after-in go base l (read (fault k)) h w = ends base (length l) _ (λ e. let z : ◌≡◌ {A = ℕ} 0 1 = cc in omega arith)
  after-in go base l (read (one item f used)) h w =
      by_le (WholeIn (length l)) (length l) used (λ g. omega arith)
      (λ g. before-in item f (length (drop used l)) (length l) (go (base + used) (drop used l)) (omega (arith, length-drop used l))
      (h (base + used) (drop used l)))

  module _ (frame : ℕ → List ℕ → Frame) (inside : (base : ℕ) (l : List ℕ) → FrameIn (length l) (frame base l)) where
    frames-in : (n base : ℕ) (l : List ℕ) → WholeIn (length l) (frames_at frame stop n base l)
    unfolding frames_at
    frames-in zero base l = tt
    frames-in (suc n) base l = after-in _ base l (frame base l) (λ q m. frames-in n q m) (inside base l)

-- the nodes and the bytes left of a list of frames
pub vec_in : (msg : List ℕ) → WholeIn (length msg) (tcp_vec msg)
unfolding tcp_vec
vec_in msg = frames-in refuses (λ base left k n. n) _ frame-in (suc (length msg)) 0 msg

-- the nodes and the bytes left of a list of frames of edition 2
pub vec2-in : (limit : ℕ) (msg : List ℕ) → WholeIn (length msg) (tcp_vec2 limit msg)
unfolding tcp_vec2 size
vec2-in limit [] = omega arith
vec2-in limit (x ∷ msg) = frames-in stops (λ base left k n. omega arith) _ (cut_in limit) (suc (length (x ∷ msg))) 0 (x ∷ msg)

-- the nodes and the bytes left of any input
pub whole_in : (framing : Framing) (limit : ℕ) (msg : List ℕ) → WholeIn (length msg) (rule_of framing limit msg)
whole_in Udp limit msg = udp-in msg
whole_in (Tcp Rosc) limit msg = tcp-in msg
whole_in (Tcp Standard) limit msg = tcp2-in limit msg
whole_in (TcpVec Rosc) limit msg = vec_in msg
whole_in (TcpVec Standard) limit msg = vec2-in limit msg
