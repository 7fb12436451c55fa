-- A field that was short begins in the input or right after it (Ticket 2), and a frame at which a list stops lies in the input (Ticket 1).
use mathlib.Core.Path.{◌≡◌, refl, subst}
use mathlib.Core.List.{List, [], ◌∷◌}
use Prim.Native.Nat.{ℕ, zero, suc, ◌+◌, ◌≤◌}
use native.Mathlib.Omega.{arith}
use lib.ListN.{length, drop, length-drop}
use Rattle.refusal.specs.Refusal.{fault_offset, moved_by}
use Rattle.refusal.specs.declared.Fault.{Fault}
use Rattle.refusal.specs.declared.Fault.TheVariants.{Empty, Short, NotUtf8, BadStart, NotOpen, UnknownTag, NotScalar}
use Rattle.refusal.specs.declared.Refusal.{Refusal}
use Rattle.refusal.specs.declared.Refusal.TheVariants.{Unreadable}
use Rattle.node.specs.Forest.{Forest}
use Rattle.node.specs.declared.record.Item.{Item}
use Rattle.wire.proofs.Choices.{by_le}
use Rattle.packet.specs.Packet.{Out, fault, one, read_packet}
use Rattle.packet.proofs.Faults.{OutLow, packet-low}
use Rattle.framing.specs.Framing.{Whole, trees, waiting, refusal, stopped, single, udp, Frame, wait, read, refused, read_frame}
use Rattle.framing.specs.Framing.{cut_frame, first, tcp, tcp2, before, after_frame, frames_at, refuses, stops, tcp_vec, tcp_vec2}
use Rattle.edition.specs.declared.Framing.TheVariants.{Udp, Tcp, TcpVec}
use Rattle.edition.specs.declared.Edition.TheVariants.{Rosc, Standard}
use Rattle.framing.proofs.FrameKnot.{FrameIn, frame-in, cut_in, Prefixed, cut-prefixed}
use Rattle.framing.proofs.FrameStarts.{Unrefused, frame-unrefused}
use Rattle.decoder.specs.Offsets.{OffsetsLow}
pub use Rattle.decoder.specs.Offsets.{WholeLow}

-- ---- one packet

single-low : (n : ℕ) (o : Out) → OutLow n o → WholeLow n (single n o)
single-low n (fault k) w = w
single-low n (one item f used) w = tt

first-low : (n : ℕ) (x : Frame) → FrameIn n x → Unrefused x → WholeLow n (first n x)
first-low n wait w u = tt
first-low n (refused k) w u = absurd u
first-low n (read (fault k)) w u = w
first-low n (read (one item f used)) w u = tt

first-low2 : (n : ℕ) (x : Frame) → FrameIn n x → Prefixed n x → WholeLow n (first n x)
first-low2 n wait w u = tt
first-low2 n (refused k) w u = omega (arith, u.1)
first-low2 n (read (fault k)) w u = w
first-low2 n (read (one item f used)) w u = tt

-- ---- a list of packets

moved-low : (by m : ℕ) (k : Fault) → fault_offset k ≤ m → fault_offset (moved_by by k) ≤ by + m
moved-low by m Empty h = omega arith
moved-low by m (Short field at) h = omega arith
moved-low by m NotUtf8 h = omega arith
moved-low by m BadStart h = omega arith
moved-low by m NotOpen h = omega arith
moved-low by m UnknownTag h = omega arith
moved-low by m NotScalar h = omega arith

before-low : (item : Item) (f : Forest) (m : ℕ) (x : Whole) → WholeLow m x → WholeLow m (before item f x)
before-low item f m (trees g left) w = tt
before-low item f m waiting w = tt
before-low item f m (refusal k) w = w
before-low item f m (stopped g left k at) w = w

module _ (stop : ℕ → ℕ → Refusal → Whole) where
  -- what a refused frame makes of a list tells no place after it
  abbrev StopLow : ℕ → ℕ → Frame → Type 0
  StopLow base m wait = Unit {0}
  StopLow base m (read (fault k)) = WholeLow (base + m) (stop base m (Unreadable (moved_by base k)))
  StopLow base m (read (one item f used)) = used ≤ m
  StopLow base m (refused k) = WholeLow (base + m) (stop base m k)

  after-low : (go : ℕ → List ℕ → Whole) (base : ℕ) (l : List ℕ) (x : Frame) → ((q : ℕ) (m : List ℕ) → WholeLow (q + length m) (go q m))
      → StopLow base (length l) x → WholeLow (base + length l) (after_frame stop go base l x)
  after-low go base l wait h w = tt
  after-low go base l (refused k) h w = w
  after-low go base l (read (fault k)) h w = w
  after-low go base l (read (one item f used)) h w =
      by_le (WholeLow (base + length l)) (length l) used (λ _. tt)
      (λ g. before-low item f (base + length l) (go (base + used) (drop used l))
      (let same : base + used + length (drop used l) ≡ base + length l = omega (arith, length-drop used l) in
      subst (λ (m : ℕ). WholeLow m (go (base + used) (drop used l))) same (h (base + used) (drop used l))))

  frames-low : (frame : ℕ → List ℕ → Frame) → ((base : ℕ) (l : List ℕ) → StopLow base (length l) (frame base l)) → (n base : ℕ) (l : List ℕ)
      → WholeLow (base + length l) (frames_at frame stop n base l)
  unfolding frames_at
  frames-low frame low zero base l = tt
  frames-low frame low (suc n) base l = after-low _ base l (frame base l) (λ q m. frames-low frame low n q m) (low base l)

frame-low : (base m : ℕ) (x : Frame) → FrameIn m x → Unrefused x → StopLow refuses base m x
frame-low base m wait w u = tt
frame-low base m (refused k) w u = absurd u
frame-low base m (read (fault k)) w u = moved-low base m k w
frame-low base m (read (one item f used)) w u = w.1

cut_low : (base m : ℕ) (x : Frame) → FrameIn m x → Prefixed m x → StopLow stops base m x
cut_low base m wait w u = tt
cut_low base m (refused k) w u = (omega (arith, u.1), refl, u.0)
cut_low base m (read (fault k)) w u = (moved-low base m k w, refl, u)
cut_low base m (read (one item f used)) w u = w.1

-- what any input is read as tells no place after it
pub whole_low : OffsetsLow
unfolding udp tcp tcp2 tcp_vec tcp_vec2
whole_low Udp limit msg =
    let same : 0 + length msg ≡ length msg = omega arith in
    single-low (length msg) (read_packet 0 msg 0) (subst (λ (m : ℕ). OutLow m (read_packet 0 msg 0)) same (packet-low 0 msg 0))
whole_low (Tcp Rosc) limit msg = first-low (length msg) (read_frame 0 msg) (frame-in 0 msg) (frame-unrefused 0 msg)
whole_low (Tcp Standard) limit msg = first-low2 (length msg) (cut_frame limit 0 msg) (cut_in limit 0 msg) (cut-prefixed limit 0 msg)
whole_low (TcpVec Rosc) limit msg =
    let same : 0 + length msg ≡ length msg = omega arith in
    subst (λ (m : ℕ). WholeLow m (frames_at (λ b l. read_frame b l) refuses (suc (length msg)) 0 msg)) same
    (frames-low refuses (λ b l. read_frame b l) (λ b l. frame-low b (length l) (read_frame b l) (frame-in b l) (frame-unrefused b l))
    (suc (length msg)) 0 msg)
whole_low (TcpVec Standard) limit [] = tt
whole_low (TcpVec Standard) limit (x ∷ l) =
    let msg = x ∷ l in
    let same : 0 + length msg ≡ length msg = omega arith in
    subst (λ (m : ℕ). WholeLow m (frames_at (λ b l. cut_frame limit b l) stops (suc (length msg)) 0 msg)) same
    (frames-low stops (λ b l. cut_frame limit b l)
    (λ b l. cut_low b (length l) (cut_frame limit b l) (cut_in limit b l) (cut-prefixed limit b l))
    (suc (length msg)) 0 msg)
