-- A field that was short in edition 2 is not all there within its frame, which the length cuts (Tickets 1 and 2).
use mathlib.Core.Path.{◌≡◌, refl, subst}
use mathlib.Core.List.{List, [], ◌∷◌}
use Prim.Native.Nat.{ℕ, suc, ◌+◌, ◌-◌, ◌%◌, ◌≤◌}
use native.Mathlib.Omega.{arith}
use lib.Dec.{leb}
use lib.ListN.{length, drop, length-drop}
use Rattle.refusal.specs.declared.Fault.TheVariants.{Short}
use Rattle.refusal.specs.declared.Field.{Field}
use Rattle.refusal.specs.declared.Field.TheVariants.{Padding}
use Rattle.refusal.specs.declared.Refusal.{Refusal}
use Rattle.wire.specs.Limits.{longest_framed}
use Rattle.wire.specs.Number.{number}
use Rattle.wire.proofs.Choices.{by-test, by-eq, by_le}
use Rattle.node.specs.Forest.{nil, node, size, depth}
use Rattle.node.specs.Records.{capacity}
use Rattle.argument.specs.Dirt.{dirty_in}
use Rattle.heads.specs.Heads.{length_of}
use Rattle.heads.specs.Results.{Length}
use Rattle.results.specs.Results.{Stopped}
use Rattle.std.specs.Prelude.{Err}
use Rattle.packet.specs.Packet.{Out, fault, one, after, read_packet}
use Rattle.framing.specs.Framing.{Whole, Frame, trees, waiting, refusal, stopped, wholly, cut_with, cut_frame, tcp2, stops, tcp_vec2}
use Rattle.framing.proofs.FrameKnot.{cut-length, cut_in}
use Rattle.answering.specs.Limits.{limited, decoded, forest_of}
use Rattle.decoder.proofs.Chosen.{by-decoded, by-trees, by-bounded}
use Rattle.calls.specs.Fields.{Form, prefix, address, type_text, padding, plain, string, blob, time_tag, field_of, needs, packet_fields}
use Rattle.calls.specs.Fields.{ShortIn, cut_here, cut_later, cut_packet, CutShort, CutFieldsShort, CutFrameShort}
use Rattle.calls.proofs.Fields.Judged.{Judgement, bad, Judged, out_end, packet-judged}
use Rattle.calls.proofs.Fields.Told.{FrameHas, first-has, told-has, ListHas, frames-has, own-field}

-- ---- a frame

-- the frame at the front of l is all there, and its packet ends so
pub record InCut (l : List ℕ) (x : Judgement) : Type 0 where
  pub whole : 4 + number 4 l ≤ length l
  pub fours : number 4 l % 4 ≡ 0
  pub judged : Judged (packet_fields (cut_packet l) 4) (cut_packet l) 4 x

module _ (limit base : ℕ) (l : List ℕ) where
  abbrev Cut : Length → Type 0
  Cut x = FrameHas (InCut l) (cut_with limit base l x)

  packet-cut : 4 + number 4 l ≤ length l → number 4 l % 4 ≡ 0 → (o : Out)
      → Judged (packet_fields (cut_packet l) 4) (cut_packet l) 4 (out_end o) → FrameHas (InCut l) (wholly limit (4 + number 4 l) (after 4 o))
  packet-cut h e (fault k) s = record { whole = h; fours = e; judged = s }
  packet-cut h e (one item f used) s =
      by-eq (FrameHas (InCut l)) (4 + used) (4 + number 4 l)
      (λ _. by-test (FrameHas (InCut l)) (leb (depth (node item f nil)) limit) (λ _. record { whole = h; fours = e; judged = s })
      (λ _ k g. let z : ◌≡◌ {A = ℕ} 0 1 = cc in omega arith))
      (λ _ k g. let z : ◌≡◌ {A = ℕ} 0 1 = cc in omega arith)

  -- a fault of a frame tells the field that is short in it, and one that is accepted has none
  pub cut-judged : FrameHas (InCut l) (cut_frame limit base l)
  unfolding cut_frame length_of
  cut-judged =
      by_le Cut 4 (length l)
      (λ h. by_le Cut (number 4 l) longest_framed
      (λ _. by-eq Cut (number 4 l % 4) 0
      (λ e. by_le Cut (number 4 l) (length l - 4)
      (λ g. packet-cut (omega arith) e (read_packet base (cut_packet l) 4) (packet-judged base (cut_packet l) 4))
      (λ _. tt))
      (λ _ k g. let z : ◌≡◌ {A = ℕ} 0 1 = cc in omega arith))
      (λ _ k g. let z : ◌≡◌ {A = ℕ} 0 1 = cc in omega arith))
      (λ _. tt)

-- a form that is told as padding needs what padding needs
padding-form : (form : Form) (p : ℕ) (l : List ℕ) → field_of form ≡ Padding → needs form p l ≡ needs padding p l
padding-form padding p l e = refl
padding-form prefix p l e = let z : ◌≡◌ {A = ℕ} 0 1 = cc in absurd (omega arith)
padding-form address p l e = let z : ◌≡◌ {A = ℕ} 0 1 = cc in absurd (omega arith)
padding-form type_text p l e = let z : ◌≡◌ {A = ℕ} 0 1 = cc in absurd (omega arith)
padding-form (plain n) p l e = let z : ◌≡◌ {A = ℕ} 0 1 = cc in absurd (omega arith)
padding-form string p l e = let z : ◌≡◌ {A = ℕ} 0 1 = cc in absurd (omega arith)
padding-form blob p l e = let z : ◌≡◌ {A = ℕ} 0 1 = cc in absurd (omega arith)
padding-form time_tag p l e = let z : ◌≡◌ {A = ℕ} 0 1 = cc in absurd (omega arith)

-- padding is never short where the bytes end at a multiple of 4
padding-whole : {forms : List Form} {l : List ℕ} {p : ℕ} {field : Field} {at : ℕ} → (p + length l) % 4 ≡ 0
    → ShortIn forms l p field at → field ≡ Padding → ⊥
padding-whole {l = l} fours (cut_here {form} {p = p} h) e = omega (arith, padding-form form p l e)
padding-whole {l = l} fours (cut_later {form} {p = p} h s) e =
    let n = needs form p l in
    let sum : p + n + length (drop n l) ≡ p + length l = omega (arith, length-drop n l) in
    padding-whole (rw sum fours) s e

cut_short : (l : List ℕ) (field : Field) (at : ℕ) → InCut l (bad (Short field at)) → CutShort l field at
cut_short l field at w =
    let all : length (cut_packet l) ≡ number 4 l = cut-length l (number 4 l) w.whole in
    record {
      whole = w.whole;
      short = w.judged;
      no_padding = padding-whole (omega (arith, all, w.fours)) w.judged;
    }

-- the field that `decode_tcp` tells in edition 2 is the one that is short within its frame
pub cut_fields_short : CutFieldsShort
unfolding tcp2
cut_fields_short msg limit table field at e =
    cut_short msg field at
    (told-has (InCut msg) (tcp2 limit) limit msg table
    (first-has (InCut msg) (length msg) (cut_frame limit 0 msg) (cut-judged limit 0 msg)) e)

-- ---- a list

module _ {count left dirty at : ℕ} {r : Refusal} where
  refused-unstopped : {A : Type 0} {k : Refusal} → Err k ≡ Stopped count left dirty r at → A
  refused-unstopped e = let z : ◌≡◌ {A = ℕ} 0 1 = cc in absurd (omega arith)

  limited-stopped : (capacity limit : ℕ) (msg : List ℕ) (w : Whole) → limited capacity limit msg w ≡ Stopped count left dirty r at
      → w ≡ stopped (forest_of w) left r at
  limited-stopped capacity limit msg (refusal k) e = refused-unstopped e
  limited-stopped capacity limit msg waiting e = let z : ◌≡◌ {A = ℕ} 0 1 = cc in absurd (omega arith)
  limited-stopped capacity limit msg (trees f n) e =
      by-trees (λ d. d ≡ Stopped count left dirty r at → trees f n ≡ stopped f left r at) capacity limit msg f n
      (λ h p. refused-unstopped p) (λ h p. refused-unstopped p) (λ h c p. let z : ◌≡◌ {A = ℕ} 0 1 = cc in absurd (omega arith)) e
  limited-stopped capacity limit msg (stopped f n k b) e =
      by-bounded (λ d. d ≡ Stopped count left dirty r at → stopped f n k b ≡ stopped f left r at) capacity limit f
      (Stopped (size f) n (dirty_in msg f) k b) (λ h p. refused-unstopped p) (λ h p. refused-unstopped p) (λ h c p. cc) e

  -- a list that is told to stop is read so, at the same frame and for the same reason
  pub read-stopped : (rule : List ℕ → Whole) (capacity limit : ℕ) (msg : List ℕ)
      → decoded rule capacity limit msg ≡ Stopped count left dirty r at → rule msg ≡ stopped (forest_of (rule msg)) left r at
  read-stopped rule capacity limit msg =
      by-decoded (λ d. d ≡ Stopped count left dirty r at → rule msg ≡ stopped (forest_of (rule msg)) left r at) rule capacity limit msg
      (λ h p. refused-unstopped p) (λ h p. refused-unstopped p) (λ h n. limited-stopped capacity limit msg (rule msg))

list-has : (limit : ℕ) (msg : List ℕ) → ListHas (λ b m. cut_frame limit b m) InCut 0 msg (tcp_vec2 limit msg)
unfolding tcp_vec2
list-has limit [] = tt
list-has limit (x ∷ msg) =
    frames-has (λ b m. cut_frame limit b m) InCut stops (λ base l r h. h) (cut_in limit) (cut-judged limit) (suc (length (x ∷ msg))) 0
    (x ∷ msg) (omega arith)

-- and the one that `decode_tcp_vec` tells, within the frame at which the list stops
pub cut_frame_short : CutFrameShort
cut_frame_short msg limit table count left dirty field at start e =
    let rule : ℕ → List ℕ → Frame = λ b m. cut_frame limit b m in
    let stopped = read-stopped (tcp_vec2 limit) (capacity table) limit msg e in
    own-field rule InCut CutShort cut_short msg (subst (ListHas rule InCut 0 msg) stopped (list-has limit msg) (Short field at) refl)
