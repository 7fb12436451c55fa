-- What is decoded can be read without testing it again, and encoded: the records of an answer are trees over the call's input, and a
-- table that was answered for one packet is well formed.
use mathlib.Core.Path.{◌≡◌, refl, ap, subst}
use mathlib.Core.List.{List, [], ◌∷◌}
use Prim.Native.Nat.{ℕ, zero, suc, ◌+◌, ◌^◌, ◌≤◌, ◌<◌}
use native.Mathlib.Omega.{arith}
use lib.Dec.{eqb, leb}
use lib.ListN.{length, take, drop}
use Rattle.edition.specs.declared.Edition.TheVariants.{Rosc, Standard}
use Rattle.wire.specs.Limits.{longest}
use Rattle.refusal.specs.declared.Refusal.{Refusal}
use Rattle.node.specs.Forest.{Forest, nil, node, depth}
use Rattle.node.specs.Tags.{bundle_kind}
use Rattle.node.specs.Records.{item_at, capacity}
use Rattle.node.specs.declared.record.Item.{Item}
use Rattle.heads.specs.Heads.{prefix_of, length_of}
use Rattle.heads.specs.Results.{Length}
use Rattle.results.specs.Results.{DecodeAnswer}
use Rattle.heads.specs.Results as cut
use Rattle.packet.specs.Packet.{Out, fault, one, after, read_packet}
use Rattle.heads.specs.declared.Prefix.{Prefix}
use Rattle.heads.specs.declared.Prefix.TheVariants as prefix
use Rattle.framing.specs.Framing.{Whole, trees, waiting, refusal, stopped, single, udp, Frame, wait, read, refused, frame_with, read_frame}
use Rattle.framing.specs.Framing.{wholly}
use Rattle.framing.specs.Framing.{cut_with, cut_frame, first, tcp, tcp2, before, after_frame, frames_at, refuses, stops, tcp_vec, tcp_vec2}
use Rattle.framing.specs.Framing.{rule_of}
use Rattle.edition.specs.declared.Framing.{Framing}
use Rattle.edition.specs.declared.Framing.TheVariants.{Udp, Tcp, TcpVec}
use Rattle.answering.specs.Limits.{decoded, forest_of}
use Rattle.calls.specs.Words.{Gives}
use Rattle.calls.specs.Demands.{table_after}
use Rattle.osc10.specs.Words.{Bytes}
use Rattle.given.specs.Encodable.{AreTrees, GivesTrees, Encodable}
use Rattle.wire.proofs.Choices.{by_le, by-test}
use Rattle.heads.proofs.Heads.{prefix-in, length-in}
use Rattle.table.proofs.Grown.{kept_of}
use Rattle.table.proofs.Theorem.{tree_formed}
use Rattle.calls.proofs.Answered.{held, given-fits, given-held, packets-give}
use Rattle.decoder.proofs.Sizes.{nodes-in, whole_in}
use Rattle.osc10.proofs.Placed.{At, at_all, at_take, at_drop}
use Rattle.given.proofs.Encodable.Arguments.{SoundIn, NodeSound, sound-nil, sound-node}
use Rattle.given.proofs.Encodable.Packets.{OutSound, after-sound, packet-sound}
use Rattle.given.proofs.Encodable.Reliable.{node-reliable}
use Rattle.decoder.proofs.Chosen.{by-decoded}

-- every tree that a call gives obeys the rules over the call's input
abbrev WholeSound : List ℕ → Whole → Type 0
WholeSound s (trees f left) = SoundIn s bundle_kind f
WholeSound s waiting = Unit {0}
WholeSound s (refusal k) = Unit {0}
WholeSound s (stopped f left k at) = SoundIn s bundle_kind f

abbrev FrameSound : List ℕ → Frame → Type 0
FrameSound s wait = Unit {0}
FrameSound s (read o) = OutSound s o
FrameSound s (refused k) = Unit {0}

-- so does the forest that it gives
forest-sound : (s : List ℕ) (w : Whole) → WholeSound s w → SoundIn s bundle_kind (forest_of w)
forest-sound s (trees f left) v = v
forest-sound s waiting v = sound-nil
forest-sound s (refusal k) v = sound-nil
forest-sound s (stopped f left k at) v = v

single-sound : (s : List ℕ) (n : ℕ) (o : Out) → OutSound s o → WholeSound s (single n o)
single-sound s n (fault k) w = tt
single-sound s n (one item f used) w = sound-node w sound-nil

first-sound : (s : List ℕ) (n : ℕ) (x : Frame) → FrameSound s x → WholeSound s (first n x)
first-sound s n wait w = tt
first-sound s n (read o) w = single-sound s n o w
first-sound s n (refused k) w = tt

before-sound : (s : List ℕ) (item : Item) (f : Forest) (x : Whole) → NodeSound s bundle_kind item f → WholeSound s x
    → WholeSound s (before item f x)
before-sound s item f (trees g left) w v = sound-node w v
before-sound s item f waiting w v = tt
before-sound s item f (refusal k) w v = tt
before-sound s item f (stopped g left k at) w v = sound-node w v

whole-out-sound : (s : List ℕ) (limit n : ℕ) (o : Out) → OutSound s o → FrameSound s (wholly limit n o)
whole-out-sound s limit n (fault k) w = w
whole-out-sound s limit n (one item f used) w =
    by-test (FrameSound s) (eqb used n)
    (λ _. by-test (FrameSound s) (leb (depth (node item f nil)) limit) (λ _. w) (λ _. tt)) (λ _. tt)

module _ (s : List ℕ) (small : Bytes s) (low : length s < 256 ^ 4) where
  udp-sound : WholeSound s (udp s)
  unfolding udp
  udp-sound = single-sound s (length s) (read_packet 0 s 0) (packet-sound small low 0 s 0 (at_all s))

  frame-sound : (base : ℕ) {l : List ℕ} → At s base l → FrameSound s (read_frame base l)
  unfolding read_frame
  frame-sound base {l} at = by-prefix (prefix_of l) refl
    where
      by-prefix : (x : Prefix) → x ≡ prefix_of l → FrameSound s (frame_with base l x)
      by-prefix prefix.Ready e =
          after-sound s 4 (read_packet base (drop 4 l) 4) (packet-sound small low base (drop 4 l) 4 (at_drop 4 (prefix-in l e) at))
      by-prefix prefix.Waiting e = tt
      by-prefix prefix.RunsOut e = tt

  tcp-sound : WholeSound s (tcp s)
  unfolding tcp
  tcp-sound = first-sound s (length s) (read_frame 0 s) (frame-sound 0 (at_all s))

  cut-sound : (limit base : ℕ) {l : List ℕ} → At s base l → FrameSound s (cut_frame limit base l)
  unfolding cut_frame
  cut-sound limit base {l} at = by_length (length_of l) refl
    where
      by_length : (x : Length) → x ≡ length_of l → FrameSound s (cut_with limit base l x)
      by_length (cut.Cuts n) e =
          let o = read_packet base (take n (drop 4 l)) 4 in
          whole-out-sound s limit (4 + n) (after 4 o)
          (after-sound s 4 o (packet-sound small low base (take n (drop 4 l)) 4
          (at_take n (at_drop 4 (omega (arith, (length-in l e).fits)) at))))
      by_length cut.Waiting e = tt
      by_length cut.Over e = tt
      by_length cut.Odd e = tt

  tcp2-sound : (limit : ℕ) → WholeSound s (tcp2 limit s)
  unfolding tcp2
  tcp2-sound limit = first-sound s (length s) (cut_frame limit 0 s) (cut-sound limit 0 (at_all s))

  -- however a list ends at a refused frame
  module _ (stop : ℕ → ℕ → Refusal → Whole) (ends : (base left : ℕ) (k : Refusal) → WholeSound s (stop base left k)) where
    list-sound : (go : ℕ → List ℕ → Whole) (base : ℕ) {l : List ℕ} (x : Frame) → At s base l
        → ((q : ℕ) (m : List ℕ) → At s q m → WholeSound s (go q m)) → FrameSound s x
        → WholeSound s (after_frame stop go base l x)
    list-sound go base wait at h w = sound-nil
    list-sound go base {l} (refused k) at h w = ends base (length l) k
    list-sound go base {l} (read (fault k)) at h w = ends base (length l) _
    list-sound go base {l} (read (one item f used)) at h w =
        by_le (WholeSound s) (length l) used (λ _. sound-node w sound-nil)
        (λ g. before-sound s item f (go (base + used) (drop used l)) w (h (base + used) (drop used l) (at_drop used (omega arith) at)))

    frames-sound : (frame : ℕ → List ℕ → Frame) → ((base : ℕ) (l : List ℕ) → At s base l → FrameSound s (frame base l))
        → (n base : ℕ) (l : List ℕ) → At s base l → WholeSound s (frames_at frame stop n base l)
    unfolding frames_at
    frames-sound frame h zero base l at = tt
    frames-sound frame h (suc n) base l at = list-sound _ base (frame base l) at (λ q m. frames-sound frame h n q m) (h base l at)

  vec-sound : WholeSound s (tcp_vec s)
  unfolding tcp_vec
  vec-sound = frames-sound refuses (λ base left k. tt) (λ b m. read_frame b m) (λ b m at. frame-sound b at) (suc (length s)) 0 s (at_all s)

  list2-sound : (limit : ℕ) (l : List ℕ) → At s 0 l → WholeSound s (tcp_vec2 limit l)
  unfolding tcp_vec2
  list2-sound limit [] at = sound-nil
  list2-sound limit (x ∷ l) at =
      frames-sound stops (λ base left k. sound-nil) (λ b m. cut_frame limit b m) (λ b m at. cut-sound limit b at) (suc (length (x ∷ l))) 0
      (x ∷ l) at

  -- what a decoder reads obeys the rules
  whole-sound : (framing : Framing) (limit : ℕ) → WholeSound s (rule_of framing limit s)
  whole-sound Udp limit = udp-sound
  whole-sound (Tcp Rosc) limit = tcp-sound
  whole-sound (Tcp Standard) limit = tcp2-sound limit
  whole-sound (TcpVec Rosc) limit = vec-sound
  whole-sound (TcpVec Standard) limit = list2-sound limit s (at_all s)

-- ---- the count is small

-- an answer with records is given to an input that is short enough
gives-short : (count dirty : ℕ) (rule : List ℕ → Whole) (capacity limit : ℕ) (msg : List ℕ)
    → Gives (decoded rule capacity limit msg) count dirty → length msg ≤ longest
gives-short count dirty rule capacity limit msg =
    by-decoded (λ (r : DecodeAnswer). Gives r count dirty → length msg ≤ longest) rule capacity limit msg
    (λ _ q. absurd q) (λ _ q. absurd q)
    (λ h k q. k)

-- ---- the table

-- the records that a decoder answers with are trees that obey the rules over the call's input, however many packets they are
pub gives_trees : (framing : Framing) → GivesTrees framing
gives_trees framing msg small limit table count dirty q =
    let rule = rule_of framing limit in
    let F = forest_of (rule msg) in
    let t = table_after rule limit msg table in
    let a = held count dirty rule (capacity table) limit msg q in
    let w = gives-short count dirty rule (capacity table) limit msg q in
    let n = nodes-in (length msg) (rule msg) (whole_in framing limit msg) in
    let s : SoundIn msg bundle_kind F = forest-sound msg (rule msg) (whole-sound msg small (omega (arith, w)) framing limit) in
    let h = given-held count dirty rule limit msg table q F refl s.fits (omega (arith, w, a.counts)) in
    record {
      spans = h.spans;
      obeys = s.obeys;
      few = omega (arith, w, a.counts);
      fits = given-fits count dirty rule limit msg table q;
      zeros = λ i l. h.zeros i (omega arith) (omega arith);
      reliable = λ i l.
          let k = kept_of t msg bundle_kind 0 count F h.spans s.obeys i (omega arith) (omega arith) in
          node-reliable msg (item_at t i) k.rules k.range;
    }

-- a table that a decoder answers for one packet is well formed over the call's input
pub encodable : (framing : Framing) → Encodable framing
encodable framing msg small limit table item inside left count dirty e q =
    let t = table_after (rule_of framing limit) limit msg table in
    let w : AreTrees t count msg (node item inside nil)
    = subst (λ (f : Forest). AreTrees t count msg f) (ap forest_of e)
    (gives_trees framing msg small limit table count dirty (packets-give q)) in
    tree_formed {item = item} {inside = inside}
    (record { spans = w.spans; obeys = w.obeys; few = w.few; fits = w.fits; zeros = w.zeros })
