-- The refusals of each framing: what an input is read as is refused, or stopped at a frame that is refused, only by the numbers that
-- documents 01 and 02 list for it.
use mathlib.Core.Path.{◌≡◌, refl}
use mathlib.Core.Bool.{Bool, true, false}
use mathlib.Core.List.{List, [], ◌∷◌}
use Prim.Native.Nat.{ℕ, zero, suc, ◌+◌, ◌<◌}
use native.Mathlib.Omega.{arith}
use lib.Dec.{eqb, leb}
use lib.ListN.{length, take, drop, length-drop}
use Rattle.edition.specs.declared.Edition.TheVariants.{Rosc, Standard}
use Rattle.refusal.specs.Refusal.{number_of, moved_by}
use Rattle.refusal.specs.declared.Field.TheVariants as field
use Rattle.refusal.specs.declared.Fault.{Fault}
use Rattle.refusal.specs.declared.Fault.TheVariants.{Empty, Short, NotUtf8, BadStart, NotOpen, UnknownTag, NotScalar}
use Rattle.refusal.specs.declared.Refusal.{Refusal}
use Rattle.refusal.specs.declared.Refusal.TheVariants.{Unreadable}
use Rattle.wire.proofs.Choices.{by-test, by_le}
use Rattle.node.specs.Forest.{Forest, nil, node, depth}
use Rattle.node.specs.Tags.{among}
use Rattle.node.specs.declared.record.Item.{Item}
use Rattle.heads.specs.Heads.{length_of}
use Rattle.heads.specs.Results.{Length}
use Rattle.heads.specs.Results as cut
use Rattle.packet.specs.Packet.{Out, fault, one, after, read_packet}
use Rattle.framing.specs.Framing.{Whole, trees, waiting, refusal, stopped, single, udp, Frame, wait, read, refused, read_frame, wholly}
use Rattle.framing.specs.Framing.{cut_with}
use Rattle.framing.specs.Framing.{cut_frame, first, tcp, tcp2, before, after_frame, frames_at, refuses, stops, tcp_vec, tcp_vec2, rule_of}
use Rattle.edition.specs.declared.Framing.{Framing}
use Rattle.edition.specs.declared.Framing.TheVariants.{Udp, Tcp, TcpVec}
use Rattle.framing.proofs.FrameKnot.{FrameIn, frame-in, cut_in}
use Rattle.framing.proofs.FrameStarts.{Unrefused, frame-unrefused}
use Rattle.answering.specs.Limits.{frame_order, order_of, stops_by, waits_by}

-- what an input is read as: it may wait or not, and its refusals, of the call and of a frame at which it stops, are among these
abbrev pub Among : Bool → List ℕ → List ℕ → Whole → Type 0
Among b numbers frames (trees f left) = Unit {0}
Among b numbers frames waiting = b ≡ true
Among b numbers frames (refusal k) = among (number_of k) numbers ≡ true
Among b numbers frames (stopped f left k at) = among (number_of k) frames ≡ true

-- the numbers of every fault are among these
abbrev pub Faults : List ℕ → Type 0
Faults numbers = (k : Fault) → among (number_of (Unreadable k)) numbers ≡ true

faults-among : (numbers : List ℕ) → among 2 numbers ≡ true → among 17 numbers ≡ true → among 18 numbers ≡ true → among 19 numbers ≡ true
    → among 20 numbers ≡ true → among 21 numbers ≡ true → among 4 numbers ≡ true → among 5 numbers ≡ true → among 6 numbers ≡ true
    → among 7 numbers ≡ true → among 8 numbers ≡ true → Faults numbers
faults-among numbers a2 a17 a18 a19 a20 a21 a4 a5 a6 a7 a8 Empty = a2
faults-among numbers a2 a17 a18 a19 a20 a21 a4 a5 a6 a7 a8 (Short field.Address at) = a17
faults-among numbers a2 a17 a18 a19 a20 a21 a4 a5 a6 a7 a8 (Short field.TypeText at) = a18
faults-among numbers a2 a17 a18 a19 a20 a21 a4 a5 a6 a7 a8 (Short field.Data at) = a19
faults-among numbers a2 a17 a18 a19 a20 a21 a4 a5 a6 a7 a8 (Short field.Padding at) = a20
faults-among numbers a2 a17 a18 a19 a20 a21 a4 a5 a6 a7 a8 (Short field.Head at) = a21
faults-among numbers a2 a17 a18 a19 a20 a21 a4 a5 a6 a7 a8 NotUtf8 = a4
faults-among numbers a2 a17 a18 a19 a20 a21 a4 a5 a6 a7 a8 BadStart = a5
faults-among numbers a2 a17 a18 a19 a20 a21 a4 a5 a6 a7 a8 NotOpen = a6
faults-among numbers a2 a17 a18 a19 a20 a21 a4 a5 a6 a7 a8 UnknownTag = a7
faults-among numbers a2 a17 a18 a19 a20 a21 a4 a5 a6 a7 a8 NotScalar = a8

-- they are, of every call that gives them
rosc-faults : Faults (order_of Udp)
rosc-faults = faults-among (order_of Udp) refl refl refl refl refl refl refl refl refl refl refl

pub frame-faults : Faults frame_order
frame-faults = faults-among frame_order refl refl refl refl refl refl refl refl refl refl refl

cut-faults : Faults (order_of (Tcp Standard))
cut-faults = faults-among (order_of (Tcp Standard)) refl refl refl refl refl refl refl refl refl refl refl

-- what a frame gives: its own refusals are among these
abbrev pub FrameAmong : List ℕ → Frame → Type 0
FrameAmong numbers wait = Unit {0}
FrameAmong numbers (read o) = Unit {0}
FrameAmong numbers (refused k) = among (number_of k) numbers ≡ true

-- 1, 16, 15 and 9, where they are among these
cut-among : (numbers : List ℕ) → among 1 numbers ≡ true → among 16 numbers ≡ true → among 15 numbers ≡ true → among 9 numbers ≡ true
    → (limit base : ℕ) (l : List ℕ) → FrameAmong numbers (cut_frame limit base l)
unfolding cut_frame
cut-among numbers one-is sixteen fifteen nine limit base l = by_length (length_of l)
  where
    by_out : (n : ℕ) (o : Out) → FrameAmong numbers (wholly limit n o)
    by_out n (fault k) = tt
    by_out n (one item f used) =
        by-test (FrameAmong numbers) (eqb used n)
        (λ _. by-test (FrameAmong numbers) (leb (depth (node item f nil)) limit) (λ _. tt) (λ _. nine)) (λ _. fifteen)

    by_length : (x : Length) → FrameAmong numbers (cut_with limit base l x)
    by_length (cut.Cuts n) = by_out (4 + n) (after 4 (read_packet base (take n (drop 4 l)) 4))
    by_length cut.Waiting = tt
    by_length cut.Over = one-is
    by_length cut.Odd = sixteen

-- so is a frame of a list refused, by the numbers of its order
pub frame-among : (limit base : ℕ) (l : List ℕ) → FrameAmong frame_order (cut_frame limit base l)
frame-among = cut-among frame_order refl refl refl refl

single-among : (b : Bool) (numbers frames : List ℕ) → Faults numbers → (n : ℕ) (o : Out) → Among b numbers frames (single n o)
single-among b numbers frames s n (fault k) = s k
single-among b numbers frames s n (one item f used) = tt

first-among : (numbers frames : List ℕ) → Faults numbers → (n : ℕ) (x : Frame) → FrameAmong numbers x
    → Among true numbers frames (first n x)
first-among numbers frames s n wait h = refl
first-among numbers frames s n (read o) h = single-among true numbers frames s n o
first-among numbers frames s n (refused k) h = h

before-among : (numbers frames : List ℕ) (item : Item) (f : Forest) (w : Whole) → Among false numbers frames w
    → Among false numbers frames (before item f w)
before-among numbers frames item f (trees g left) h = tt
before-among numbers frames item f waiting h = h
before-among numbers frames item f (refusal k) h = h
before-among numbers frames item f (stopped g left k at) h = h

-- a list whose frames have their refusals among `own`, which `stop` makes one of the call's or of a frame's
module _ (numbers frames own : List ℕ) (stop : ℕ → ℕ → Refusal → Whole) (faults : Faults own)
    (ends : (base left : ℕ) (k : Refusal) → among (number_of k) own ≡ true → Among false numbers frames (stop base left k)) where
  after-among : (go : ℕ → List ℕ → Whole) (base : ℕ) (l : List ℕ) (x : Frame) → FrameAmong own x → FrameIn (length l) x
      → ((q : ℕ) (m : List ℕ) → length m < length l → Among false numbers frames (go q m))
      → Among false numbers frames (after_frame stop go base l x)
  after-among go base l wait h w i = tt
  after-among go base l (refused k) h w i = ends base (length l) k h
  after-among go base l (read (fault k)) h w i = ends base (length l) (Unreadable (moved_by base k)) (faults (moved_by base k))
  after-among go base l (read (one item f used)) h w i =
      by_le (Among false numbers frames) (length l) used (λ g. tt)
      (λ g. before-among numbers frames item f (go (base + used) (drop used l))
      (i (base + used) (drop used l) (omega (arith, length-drop used l))))

  frames-among : (frame : ℕ → List ℕ → Frame) → ((base : ℕ) (l : List ℕ) → FrameAmong own (frame base l))
      → ((base : ℕ) (l : List ℕ) → FrameIn (length l) (frame base l)) → (n base : ℕ) (l : List ℕ) → length l < n
      → Among false numbers frames (frames_at frame stop n base l)
  unfolding frames_at
  frames-among frame h w zero base l s = absurd (omega arith)
  frames-among frame h w (suc n) base l s =
      after-among _ base l (frame base l) (h base l) (w base l) (λ q m g. frames-among frame h w n q m (omega arith))

rosc-among : (base : ℕ) (l : List ℕ) → FrameAmong (order_of Udp) (read_frame base l)
rosc-among base l = by-frame (read_frame base l) (frame-unrefused base l)
  where
    by-frame : (x : Frame) → Unrefused x → FrameAmong (order_of Udp) x
    by-frame wait u = tt
    by-frame (read o) u = tt
    by-frame (refused k) u = absurd u

-- what any input is read as has its refusals among those of its call
pub rule-among : (framing : Framing) (limit : ℕ) (msg : List ℕ)
    → Among (waits_by framing) (order_of framing) (stops_by framing) (rule_of framing limit msg)
unfolding udp tcp tcp2 tcp_vec tcp_vec2
rule-among Udp limit msg = single-among false (order_of Udp) [] rosc-faults (length msg) (read_packet 0 msg 0)
rule-among (Tcp Rosc) limit msg = first-among (order_of Udp) [] rosc-faults (length msg) (read_frame 0 msg) (rosc-among 0 msg)
rule-among (Tcp Standard) limit msg =
    first-among (order_of (Tcp Standard)) [] cut-faults (length msg) (cut_frame limit 0 msg)
    (cut-among (order_of (Tcp Standard)) refl refl refl refl limit 0 msg)
rule-among (TcpVec Rosc) limit msg =
    frames-among (order_of Udp) [] (order_of Udp) refuses rosc-faults (λ base left k h. h) _ rosc-among frame-in (suc (length msg)) 0 msg
    (omega arith)
rule-among (TcpVec Standard) limit [] = tt
rule-among (TcpVec Standard) limit (x ∷ msg) =
    frames-among (order_of (TcpVec Standard)) frame_order frame_order stops frame-faults (λ base left k h. h) _
    (frame-among limit) (cut_in limit)
    (suc (length (x ∷ msg))) 0 (x ∷ msg) (omega arith)
