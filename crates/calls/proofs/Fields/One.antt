-- Of the fields of a packet, of a frame and of a list one is short, and no second (Ticket 2).
use mathlib.Core.Path.{◌≡◌, refl, sym, subst, ◌∙◌}
use mathlib.Core.List.{List}
use Prim.Native.Nat.{ℕ, ◌+◌}
use native.Mathlib.Omega.{arith}
use lib.ListN.{drop}
use Rattle.refusal.specs.declared.Field.{Field}
use Rattle.node.specs.Forest.{Forest}
use Rattle.node.specs.declared.record.Item.{Item}
use Rattle.packet.specs.Packet.{one}
use Rattle.framing.specs.Framing.{Frame, read, read_frame, cut_frame}
use Rattle.calls.specs.Fields.{Form, frame_fields, ShortIn, cut_here, cut_later, PacketShort, FrameShort, CutShort}
use Rattle.calls.specs.Fields.{Reaches, first_frame, next_frame, OneField, OneInList}
use Rattle.calls.proofs.Fields.Judged.{Judged}
use Rattle.calls.proofs.Fields.Told.{FrameHas, frame-judged}
use Rattle.calls.proofs.Fields.Cut.{InCut, cut-judged}

-- two that are short are one
one-short : {forms : List Form} {l : List ℕ} {p : ℕ} {field field' : Field} {at at' : ℕ} → ShortIn forms l p field at
    → ShortIn forms l p field' at' → (field ≡ field') × (at ≡ at')
one-short (cut_here h) (cut_here g) = (refl, refl)
one-short (cut_here h) (cut_later g t) = absurd (omega arith)
one-short (cut_later h s) (cut_here g) = absurd (omega arith)
one-short (cut_later h s) (cut_later g t) = one-short s t

-- in a packet, a frame of edition 1 and one of edition 2
pub one_field_udp : OneField PacketShort
one_field_udp l field field' at at' s t = one-short s t

pub one_field_tcp : OneField FrameShort
one_field_tcp l field field' at at' s t = one-short s t

pub one_field_cut : OneField CutShort
one_field_cut l field field' at at' s t = one-short s.short t.short

-- ---- lists

module _ (frame : ℕ → List ℕ → Frame) (Is : List ℕ → Field → ℕ → Type 0) (single : OneField Is)
    (accepted : (base : ℕ) (l : List ℕ) (item : Item) (inside : Forest) (used : ℕ) → frame base l ≡ read (one item inside used)
    → (field : Field) (at : ℕ) → Is l field at → ⊥) where
  -- a list does not go on after a frame in which a field is short
  one_frame : {base start start' : ℕ} {l m m' : List ℕ} (field field' : Field) (at at' : ℕ) → Reaches frame base l start m
      → Reaches frame base l start' m' → Is m field at → Is m' field' at' → (field ≡ field') × (at ≡ at') × (start ≡ start')
  one_frame {l = l} field field' at at' first_frame first_frame i j =
      let w = single l field field' at at' i j in (w.0, w.1, refl)
  one_frame {base} {l = l} field field' at at' first_frame (next_frame e h r) i j = absurd (accepted base l _ _ _ e field at i)
  one_frame {base} {l = l} field field' at at' (next_frame e h r) first_frame i j = absurd (accepted base l _ _ _ e field' at' j)
  one_frame {base} {l = l} field field' at at' (next_frame {used = n} e h r) (next_frame {start = s} {used = n'} {m = m} e' h' r') i j =
      let both = sym e' ∙ e in
      let same : n' ≡ n = cc in
      one_frame field field' at at' r (subst (λ (k : ℕ). Reaches frame (base + k) (drop k l) s m) same r') i j

  one-in-list : OneInList frame Is
  one-in-list msg field field' at at' start start' s t =
      let w = one_frame field field' s.own t.own s.reached t.reached s.short t.short in
      (w.0, omega (arith, s.offset, t.offset, w.1, w.2), w.2)

-- in the list of edition 1, and in that of edition 2
pub one_field_list : OneInList (λ b m. read_frame b m) FrameShort
one_field_list =
    one-in-list (λ b m. read_frame b m) FrameShort one_field_tcp
    (λ base l item inside used e field at. subst (FrameHas (Judged (frame_fields l) l 0)) e (frame-judged base l) field at)

pub one_field_cut_list : (limit : ℕ) → OneInList (λ b m. cut_frame limit b m) CutShort
one_field_cut_list limit =
    one-in-list (λ b m. cut_frame limit b m) CutShort one_field_cut
    (λ base l item inside used e field at s. (subst (FrameHas (InCut l)) e (cut-judged limit base l)).judged field at s.short)
