-- The starts of a decoder's table: Ticket 10's claims of them, for every framing.
use mathlib.Core.Path.{◌≡◌, refl, subst}
use mathlib.Core.List.{List, [], ◌∷◌}
use Prim.Native.Nat.{ℕ, zero, suc, ◌+◌, ◌-◌, ◌≤◌, ◌<◌}
use native.Mathlib.Omega.{arith}
use lib.Dec.{eqb, leb}
use lib.ListN.{length, take, drop, length-drop}
use Rattle.wire.proofs.Choices.{by_le, by-test}
use Rattle.node.specs.Forest.{Forest, nil, node, depth}
use Rattle.node.specs.declared.record.Item.{Item}
use Rattle.heads.specs.Heads.{prefix_of, length_of}
use Rattle.heads.specs.Results.{Length}
use Rattle.heads.specs.Results as cut
use Rattle.packet.specs.Packet.{Out, fault, one, after, read_packet}
use Rattle.heads.specs.declared.Prefix.{Prefix}
use Rattle.heads.specs.declared.Prefix.TheVariants as prefix
use Rattle.heads.proofs.Heads.{prefix-in, length-in}
use Rattle.framing.proofs.FrameKnot.{cut-length}
use Rattle.packet.proofs.Within.{Within, after-in, packet-in}
use Rattle.packet.proofs.Items.{HasStart, packet-starts}
use Rattle.framing.specs.Framing.{Whole, trees, waiting, refusal, stopped, single, udp, Frame, wait, read, refused, frame_with, read_frame}
use Rattle.framing.specs.Framing.{wholly}
use Rattle.framing.specs.Framing.{cut_with, cut_frame, first, tcp, tcp2, before, after_frame, frames_at, refuses, stops, tcp_vec, tcp_vec2}
use Rattle.framing.specs.Framing.{rule_of}
use Rattle.answering.specs.Limits.{forest_of}
use Rattle.edition.specs.declared.Framing.{Framing}
use Rattle.edition.specs.declared.Framing.TheVariants.{Udp, Tcp, TcpVec}
use Rattle.edition.specs.declared.Edition.TheVariants.{Rosc, Standard}
use Rattle.refusal.specs.declared.Refusal.{Refusal}
use Rattle.calls.specs.Demands.{table_after}
use Rattle.osc10.proofs.Placed.{At, at_all, at_take, at_drop}
use Rattle.given.specs.Starts.{GivesStarts}
use Rattle.given.proofs.Encodable.Tables.{gives_trees}
use Rattle.given.proofs.Starts.Forests.{Packed, packed-from, packed-to, Rooted, none, also}
use Rattle.given.proofs.Starts.Forests.{rooted-to, rooted-begun, rooted-follows}
use Rattle.given.proofs.Starts.Forests.{rooted-opens, Begun, BegunAt, each-begun, begun-rise}
use Rattle.given.proofs.Starts.Packets.{OutPacked, packet-packed}

-- the trees that a call gives stand between `low` and `high`
abbrev WholePacked : List ℕ → ℕ → ℕ → Whole → Type 0
WholePacked msg low high (trees f left) = Rooted msg low f high
WholePacked msg low high waiting = Unit {0}
WholePacked msg low high (refusal k) = Unit {0}
WholePacked msg low high (stopped f left k at) = Rooted msg low f high

-- so does the forest
trees-packed : (msg : List ℕ) (n : ℕ) (w : Whole) → WholePacked msg 0 n w → Rooted msg 0 (forest_of w) n
trees-packed msg n (trees f left) v = v
trees-packed msg n waiting v = let h : 0 ≤ n = omega arith in none h
trees-packed msg n (refusal k) v = let h : 0 ≤ n = omega arith in none h
trees-packed msg n (stopped f left k at) v = v

-- a packet of a frame of its own, at `base`
abbrev OutRooted : List ℕ → ℕ → Out → Type 0
OutRooted msg base (fault k) = Unit {0}
OutRooted msg base (one item f used) = Packed msg (item.start - 4) base (node item f nil) (base + used)

-- a packet that begins p bytes after `base`, from which its frame's prefix is told, is one
out-rooted : (msg : List ℕ) (base p n : ℕ) (o : Out) → base + p - 4 ≡ base → HasStart (base + p) o → OutPacked msg (base + p) base n o
    → OutRooted msg base (after n o)
out-rooted msg base p n (fault k) e s w = tt
out-rooted msg base p n (one item f used) e s w =
    let q : base ≡ item.start - 4 = omega (arith, s) in
    let low : base ≤ base + p = omega arith in
    packed-from low (subst (λ (b : ℕ). Packed msg b (base + p) (node item f nil) (base + (n + used))) q w)

-- no byte read before it changes nothing
rooted_none : (msg : List ℕ) (o : Out) → OutRooted msg 0 (after 0 o) → OutRooted msg 0 o
rooted_none msg (fault k) w = tt
rooted_none msg (one item f used) w = let q : 0 + (0 + used) ≤ 0 + used = omega arith in packed-to q w

-- and that it takes no more bytes than there are
single-packed : (msg : List ℕ) (n : ℕ) (o : Out) → OutRooted msg 0 o → Within n o → WholePacked msg 0 n (single n o)
single-packed msg n (fault k) w v = tt
single-packed msg n (one item f used) w v =
    let q : 0 + used ≤ n = omega (arith, v) in
    let e : n ≤ n = omega arith in
    also (packed-to q w) (none e)

-- a frame at offset `base`
abbrev FramePacked : List ℕ → ℕ → ℕ → Frame → Type 0
FramePacked msg base n wait = Unit {0}
FramePacked msg base n (read o) = OutRooted msg base o × Within n o
FramePacked msg base n (refused k) = Unit {0}

whole-frame-packed : (msg : List ℕ) (limit base m n : ℕ) (o : Out) → n ≤ m → OutRooted msg base o → Within n o
    → FramePacked msg base m (wholly limit n o)
whole-frame-packed msg limit base m n (fault k) h b w = (b, w)
whole-frame-packed msg limit base m n (one item f used) h b w =
    by-test (FramePacked msg base m) (eqb used n)
    (λ _. by-test (FramePacked msg base m) (leb (depth (node item f nil)) limit) (λ _. (b, (w.0, omega (arith, w.1)))) (λ _. tt))
    (λ _. tt)

first-packed : (msg : List ℕ) (n : ℕ) (x : Frame) → FramePacked msg 0 n x → WholePacked msg 0 n (first n x)
first-packed msg n wait w = tt
first-packed msg n (read o) w = single-packed msg n o w.0 w.1
first-packed msg n (refused k) w = tt

before-packed : (msg : List ℕ) (low mid high : ℕ) (item : Item) (f : Forest) (x : Whole)
    → Packed msg (item.start - 4) low (node item f nil) mid
    → WholePacked msg mid high x → WholePacked msg low high (before item f x)
before-packed msg low mid high item f (trees g left) w v = also w v
before-packed msg low mid high item f waiting w v = tt
before-packed msg low mid high item f (refusal k) w v = tt
before-packed msg low mid high item f (stopped g left k at) w v = also w v

higher-packed : (msg : List ℕ) (low high high' : ℕ) (x : Whole) → high ≤ high' → WholePacked msg low high x → WholePacked msg low high' x
higher-packed msg low high high' (trees f left) k w = rooted-to k w
higher-packed msg low high high' waiting k w = tt
higher-packed msg low high high' (refusal j) k w = tt
higher-packed msg low high high' (stopped f left j at) k w = rooted-to k w

module _ (msg : List ℕ) where
  -- the packet of a frame whose prefix is at the front of l
  framed : (base : ℕ) (l : List ℕ) → At msg (base + 4) l → OutRooted msg base (after 4 (read_packet base l 4))
  framed base l at = out-rooted msg base 4 4 (read_packet base l 4) (omega arith) (packet-starts base l 4) (packet-packed base l 4 at)

  frame-packed : (base : ℕ) (l : List ℕ) → At msg base l → FramePacked msg base (length l) (read_frame base l)
  unfolding read_frame
  frame-packed base l at = by-prefix (prefix_of l) refl
    where
      by-prefix : (x : Prefix) → x ≡ prefix_of l → FramePacked msg base (length l) (frame_with base l x)
      by-prefix prefix.Ready e = (
        framed base (drop 4 l) (at_drop 4 (prefix-in l e) at),
        after-in 4 (length l) (read_packet base (drop 4 l) 4) (prefix-in l e) (rw length-drop at (packet-in base (drop 4 l) 4)),
      )
      by-prefix prefix.Waiting e = tt
      by-prefix prefix.RunsOut e = (tt, tt)

  cut-packed : (limit base : ℕ) (l : List ℕ) → At msg base l → FramePacked msg base (length l) (cut_frame limit base l)
  unfolding cut_frame
  cut-packed limit base l at = by_length (length_of l) refl
    where
      by_length : (x : Length) → x ≡ length_of l → FramePacked msg base (length l) (cut_with limit base l x)
      by_length (cut.Cuts n) e =
          let bytes = take n (drop 4 l) in
          let o = read_packet base bytes 4 in
          let fits = (length-in l e).fits in
          let long : length bytes ≡ 4 + n - 4 = omega (arith, cut-length l n fits) in
          whole-frame-packed msg limit base (length l) (4 + n) (after 4 o) fits
          (framed base bytes (at_take n (at_drop 4 (omega arith) at)))
          (after-in 4 (4 + n) o (omega arith) (rw long at (packet-in base bytes 4)))
      by_length cut.Waiting e = tt
      by_length cut.Over e = tt
      by_length cut.Odd e = tt

  -- however a list ends at a refused frame
  module _ (stop : ℕ → ℕ → Refusal → Whole)
      (ends : (base left : ℕ) (k : Refusal) → WholePacked msg base (base + left) (stop base left k)) where
    list-packed : (go : ℕ → List ℕ → Whole) (base : ℕ) (l : List ℕ) (x : Frame) → At msg base l
        → ((q : ℕ) (m : List ℕ) → At msg q m → WholePacked msg q (q + length m) (go q m)) → FramePacked msg base (length l) x
        → WholePacked msg base (base + length l) (after_frame stop go base l x)
    list-packed go base l wait at h w = let q : base ≤ base + length l = omega arith in none q
    list-packed go base l (refused k) at h w = ends base (length l) k
    list-packed go base l (read (fault k)) at h w = ends base (length l) _
    list-packed go base l (read (one item f used)) at h w =
        let high = base + length l in
        let fits : used ≤ length l = w.1.1 in
        let e : base + used ≤ high = omega arith in
        let k : base + used + length (drop used l) ≤ high = omega (arith, length-drop used l) in
        let later = go (base + used) (drop used l) in
        by_le (WholePacked msg base high) (length l) used
        (λ _. also w.0 (none e))
        (λ _. before-packed msg base (base + used) high item f later w.0
        (higher-packed msg (base + used) (base + used + length (drop used l)) high later k
        (h (base + used) (drop used l) (at_drop used fits at))))

    frames-packed : (frame : ℕ → List ℕ → Frame)
        → ((base : ℕ) (l : List ℕ) → At msg base l → FramePacked msg base (length l) (frame base l)) → (n base : ℕ)
        (l : List ℕ) → At msg base l → WholePacked msg base (base + length l) (frames_at frame stop n base l)
    unfolding frames_at
    frames-packed frame h zero base l at = tt
    frames-packed frame h (suc n) base l at =
        list-packed _ base l (frame base l) at (λ q m. frames-packed frame h n q m) (h base l at)

  list2-packed : (limit : ℕ) (l : List ℕ) → At msg 0 l → WholePacked msg 0 (length l) (tcp_vec2 limit l)
  unfolding tcp_vec2
  list2-packed limit [] at = let h : 0 ≤ 0 = omega arith in none h
  list2-packed limit (x ∷ l) at =
      let all = x ∷ l in
      higher-packed msg 0 (0 + length all) (length all) (frames_at (λ b m. cut_frame limit b m) stops (suc (length all)) 0 all) (omega arith)
      (frames-packed stops (λ base left k. let h : base ≤ base + left = omega arith in none h) (λ b m. cut_frame limit b m)
      (cut-packed limit) (suc (length all)) 0 all at)

  -- what any framing gives stands in the call's input
  whole-packed : (framing : Framing) (limit : ℕ) → WholePacked msg 0 (length msg) (rule_of framing limit msg)
  unfolding udp tcp tcp2 tcp_vec
  whole-packed Udp limit =
      let o = read_packet 0 msg 0 in
      single-packed msg (length msg) o
      (rooted_none msg o (out-rooted msg 0 0 0 o (omega arith) (packet-starts 0 msg 0) (packet-packed 0 msg 0 (at_all msg))))
      (packet-in 0 msg 0)
  whole-packed (Tcp Rosc) limit = first-packed msg (length msg) (read_frame 0 msg) (frame-packed 0 msg (at_all msg))
  whole-packed (Tcp Standard) limit = first-packed msg (length msg) (cut_frame limit 0 msg) (cut-packed limit 0 msg (at_all msg))
  whole-packed (TcpVec Rosc) limit =
      higher-packed msg 0 (0 + length msg) (length msg) (frames_at (λ b l. read_frame b l) refuses (suc (length msg)) 0 msg) (omega arith)
      (frames-packed refuses (λ base left k. tt) (λ b l. read_frame b l) frame-packed (suc (length msg)) 0 msg (at_all msg))
  whole-packed (TcpVec Standard) limit = list2-packed limit msg (at_all msg)

  forest-packed : (framing : Framing) (limit : ℕ) → Rooted msg 0 (forest_of (rule_of framing limit msg)) (length msg)
  forest-packed framing limit = trees-packed msg (length msg) (rule_of framing limit msg) (whole-packed framing limit)

  -- so their starts lie in it, and do not fall
  pub forest-begun : (framing : Framing) (limit : ℕ) → Begun msg 0 (forest_of (rule_of framing limit msg)) (length msg)
  forest-begun framing limit = rooted-begun (forest-packed framing limit)

-- the starts of the records that a decoder answers with, however many packets they are
pub gives_starts : (framing : Framing) → GivesStarts framing
gives_starts framing msg small limit table count dirty q =
    let rule = rule_of framing limit in
    let t = table_after rule limit msg table in
    let s = (gives_trees framing msg small limit table count dirty q).spans in
    let w = forest-packed msg framing limit in
    let b = forest-begun msg framing limit in
    let each : (i : ℕ) → i < count → BegunAt msg t 0 (length msg) i = λ i h. each-begun msg t 0 count s b i (omega arith) h in
    record {
      within = λ i h. (each i h).under;
      begins = λ i h. (each i h).begins small;
      rise = λ i j h k. begun-rise msg t 0 count s b i j (omega arith) h k;
      follows = λ i h m n. rooted-follows msg t 0 count s w i (omega arith) h m n;
      opens = λ r i p h l k m n b. rooted-opens msg t s w r i p h l k m n b;
    }
