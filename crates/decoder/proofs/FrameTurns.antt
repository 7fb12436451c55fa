-- A turn of the loop over frames that writes them: what is written so far, and what is written of the next frame, in both editions.
use mathlib.Core.Path.{◌≡◌, sym, ◌∙◌, subst}
use mathlib.Core.List.{List}
use Prim.Native.Nat.{ℕ, ◌+◌, ◌-◌, ◌<◌, ◌≤◌}
use native.Mathlib.Omega.{arith}
use lib.ListN.{length, take, drop}
use Rattle.refusal.specs.declared.Refusal.{Refusal}
use Rattle.wire.proofs.Parts.{tail}
use Rattle.node.specs.Forest.{size}
use Rattle.node.specs.Records.{most_records, stored, TableRoom}
use Rattle.packet.specs.Packet.{Out}
use Rattle.framing.specs.Framing.{Whole, Frame, read_frame, cut_frame, refuses, stops, tcp_vec, tcp_vec2}
use Rattle.framing.proofs.FrameKnot.{FrameIn, frame-in, cut_in}
use Rattle.framing.proofs.Lists as lists
use Rattle.answering.specs.Limits.{forest_of}
use Rattle.fill.specs.CodeFill.{tree_of, Fills}
use Rattle.fill.specs.Results.{Reread, Wrote}
use Rattle.std.specs.Prelude.{None}
use Rattle.decoder.specs.CodeFrames.{frame_packet, packet_cut}
use Rattle.decoder.proofs.FrameFills.{Listing, lent, returned, remaining, remaining2, listing-end, no-nodes, next_fits, next-in}
use Rattle.decoder.proofs.FrameFills.{listing-on, listing-waits, Next, next-given}

-- how an edition reads a list: a frame by the depth limit, what a refused frame makes of the list, and the whole list
module _ (frame : ℕ → ℕ → List ℕ → Frame) (stop : ℕ → ℕ → Refusal → Whole) (whole : ℕ → List ℕ → Whole) where
  -- the frames before `at` are written to a table that was `blank`, and `wrote` and `last` tell what is written of the frame there
  pub record Turn : Type 0 where
    pub limit : ℕ
    pub msg : List ℕ
    pub blank : List ℕ
    pub table : List ℕ
    pub at : ℕ
    pub count : ℕ
    pub so_far : Listing (lists.remaining (frame limit) stop) (forest_of (whole limit msg)) msg blank table at count
    pub more : at < length msg
    pub wrote : Reread
    pub last : List ℕ
    pub fills : Fills (frame_packet (frame limit at (drop at msg))) 0 count (lent table count) wrote last

  -- n records and `next` bytes more: the frame takes its prefix, its records fit, and the frames after it are left
  pub record Written (t : Turn) (n next : ℕ) : Type 0 where
    pub four : 4 ≤ next
    pub within : t.at + next ≤ length t.msg
    pub few : t.count + n ≤ most_records
    pub listing : Listing (lists.remaining (frame t.limit) stop) (forest_of (whole t.limit t.msg)) t.msg t.blank
        (returned t.table t.count t.last) (t.at + next) (t.count + n)

  pub frame_written : ((limit base : ℕ) (l : List ℕ) → FrameIn (length l) (frame limit base l)) → (t : Turn) {n next : ℕ}
      → t.wrote ≡ Wrote n next → Written t n next
  frame_written inside t e =
      let w = next-in (frame t.limit) stop (inside t.limit) t.msg t.blank t.table t.at t.count t.so_far t.more
      t.fills e in
      record {
        four = w.0;
        within = w.1;
        few = w.2;
        listing = listing-on (frame t.limit) stop (inside t.limit) t.msg t.blank t.table t.at t.count t.so_far
            t.more t.fills e;
      }

-- ---- edition 1

abbrev rosc_frame : ℕ → ℕ → List ℕ → Frame
rosc_frame limit base l = read_frame base l

abbrev rosc_list : ℕ → List ℕ → Whole
rosc_list limit msg = tcp_vec msg

abbrev pub RoscTurn : Type 0
RoscTurn = Turn rosc_frame refuses rosc_list

abbrev pub RoscWritten : (t : RoscTurn) (n next : ℕ) → Type 0
RoscWritten = Written rosc_frame refuses rosc_list

-- there is room for the next frame, in what is lent
pub frame-fits : {T₀ T : List ℕ} {at c : ℕ} (msg : List ℕ) → Listing remaining (forest_of (tcp_vec msg)) msg T₀ T at c → at < length msg
    → TableRoom (tree_of (frame_packet (read_frame at (take (length msg - at) (drop at msg))))) c (lent T c)
frame-fits {T₀} {T} {at} {c} msg w some = rw (tail msg at) (next_fits _ refuses frame-in msg T₀ T at c w some)

-- what is written of `&msg[at..]` is written of what is left
pub fills-tail : {p i : ℕ} {x : Reread} {T Y : List ℕ} (msg : List ℕ) (at : ℕ)
    → Fills (frame_packet (read_frame at (take (length msg - at) (drop at msg)))) p i T x Y
    → Fills (frame_packet (read_frame at (drop at msg))) p i T x Y
fills-tail msg at f = rw (tail msg at) at f

-- the turn in which what is written so far is this
abbrev pub rosc_turn : {msg T₀ T : List ℕ} {at c : ℕ} {x : Reread} {Y : List ℕ} → Listing remaining (forest_of (tcp_vec msg)) msg T₀ T at c
    → at < length msg → Fills (frame_packet (read_frame at (take (length msg - at) (drop at msg)))) 0 c (lent T c) x Y → RoscTurn
rosc_turn {msg} {T₀} {T} {at} {c} {x} {Y} w h f = record {
  limit = 0;
  msg = msg;
  blank = T₀;
  table = T;
  at = at;
  count = c;
  so_far = w;
  more = h;
  wrote = x;
  last = Y;
  fills = fills-tail msg at f;
}

module _ (t : RoscTurn) where
  -- the frame is written
  pub rosc-written : {n next : ℕ} → t.wrote ≡ Wrote n next → RoscWritten t n next
  rosc-written e = frame_written rosc_frame refuses rosc_list (λ limit. frame-in) t e

  -- the frame waits: all is written
  pub rosc-waits : t.wrote ≡ None → returned t.table t.count t.last ≡ stored 0 (forest_of (tcp_vec t.msg)) t.blank
  rosc-waits e = listing-waits t.msg t.blank t.table t.at t.count t.so_far t.more t.fills e

-- ---- edition 2

abbrev pub CutTurn : Type 0
CutTurn = Turn cut_frame stops tcp_vec2

abbrev pub CutWritten : (t : CutTurn) (n next : ℕ) → Type 0
CutWritten = Written cut_frame stops tcp_vec2

-- all that was counted is written
pub cuts-end : {at c count : ℕ} {T₀ T : List ℕ} (limit : ℕ) (msg : List ℕ)
    → Listing (remaining2 limit) (forest_of (tcp_vec2 limit msg)) msg T₀ T at c
    → size (forest_of (tcp_vec2 limit msg)) ≡ count → count ≤ c → T ≡ stored 0 (forest_of (tcp_vec2 limit msg)) T₀
cuts-end {at} {c} {count} {T₀} {T} limit msg w e h = listing-end msg T₀ T at c w (no-nodes _ (omega (arith, w.counted)))

module _ (limit : ℕ) (msg T₀ T : List ℕ) (at c : ℕ) {count : ℕ}
    (w : Listing (remaining2 limit) (forest_of (tcp_vec2 limit msg)) msg T₀ T at c) (e : size (forest_of (tcp_vec2 limit msg)) ≡ count)
    (h : c < count) where
  -- fewer records are written than were counted: the next frame is given
  next : Next limit msg at
  next = next-given limit msg at (omega (arith, w.counted))

  -- there is room for it, in what is lent
  pub cut_fits : TableRoom (tree_of (packet_cut at (take (length msg - at) (drop at msg)))) c (lent T c)
  cut_fits =
      rw (tail msg at) (subst (λ (o : Out). TableRoom (tree_of o) c (lent T c)) next.same
      (next_fits (λ b m. cut_frame limit b m) stops (cut_in limit) msg T₀ T at c w next.some))

  pub cut-some : at < length msg
  cut-some = next.some

  module _ {x : Reread} {Y : List ℕ} (f : Fills (packet_cut at (take (length msg - at) (drop at msg))) 0 c (lent T c) x Y) where
    pub cut_here : Fills (frame_packet (cut_frame limit at (drop at msg))) 0 c (lent T c) x Y
    cut_here = rw next.same (rw (tail msg at) at f)

    -- what is written of it
    abbrev pub cut-turn : CutTurn
    cut-turn =
        record {
          limit = limit;
          msg = msg;
          blank = T₀;
          table = T;
          at = at;
          count = c;
          so_far = w;
          more = cut-some;
          wrote = x;
          last = Y;
          fills = cut_here;
        }

    -- it is not nothing
    pub cut-not-nothing : x ≡ None → ⊥
    cut-not-nothing z = next.written 0 (sym z ∙ (rw (tail msg at) at f).answered)

-- the frame is written
pub cut_written : (t : CutTurn) {n next : ℕ} → t.wrote ≡ Wrote n next → CutWritten t n next
cut_written t e = frame_written cut_frame stops tcp_vec2 cut_in t e
