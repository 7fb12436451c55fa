-- The frame at the front, from the answer of the decoder of one frame: what a slide's judge says of it, and its records.
use mathlib.Core.Path.{◌≡◌, refl, ap, sym, subst, ◌∙◌}
use mathlib.Core.Logic.{inl, inr, ⊎_elim}
use mathlib.Core.List.{List}
use Prim.Native.Nat.{ℕ, zero, suc, ◌+◌, ◌-◌, ◌<◌, ◌≤◌}
use native.Mathlib.Nat.{eq-or-lt_of_le}
use native.Mathlib.Omega.{arith}
use borrow.Author.Tests.{le-leb}
use lib.Dec.{leb}
use lib.ListN.{length, take}
use Rattle.refusal.specs.Refusal.{moved_by}
use Rattle.refusal.specs.declared.Fault.{Fault}
use Rattle.refusal.specs.declared.Fault.TheVariants.{Empty, Short, NotUtf8, BadStart, NotOpen, UnknownTag, NotScalar}
use Rattle.refusal.specs.declared.Refusal.TheVariants.{Unreadable}
use Rattle.wire.specs.Limits.{longest, deepest}
use Rattle.wire.proofs.Choices.{by-test, lt-or-le}
use Rattle.node.specs.Forest.{Forest, nil, node, size}
use Rattle.node.specs.Records.{end_at, item_at}
use Rattle.node.specs.declared.record.Item.{Item}
use Rattle.table.specs.Tree.{Spans}
use Rattle.table.proofs.Spanned.{spans-size}
use Rattle.packet.specs.Packet.{fault, one}
use Rattle.framing.specs.Framing.{Frame, wait, read, refused, cut_frame, first, tcp2}
use Rattle.framing.proofs.FrameKnot.{FrameIn, cut_in}
use Rattle.rosc_inputs.proofs.Totals.{one-tree, one_size}
use Rattle.standard_inputs.proofs.Cuts.{Shallow, cut-shallow}
use Rattle.answering.specs.Limits.{limited, decoded}
use Rattle.results.specs.Results.{DecodeAnswer}
use Rattle.std.specs.Prelude.{Err}
use Rattle.results.specs.Results as answer
use Rattle.folding.specs.Folding.{takes, waits, refuses}
use Rattle.folding.specs.Frames.{judged}
use Rattle.cues.specs.Cues.{recorded, most_in_a_cue}
use Rattle.slides.specs.Slides.{time_place, slide_one, slid_bytes, slide_adds, sliding}
use Rattle.slides.specs.CodeSlides.{slid_records, TimeFits}
use Rattle.slides.proofs.Times.{TimeAt}

-- ---- the records of a tree

-- one row of records after another
row-joined : (by : ℕ) (t : List ℕ) (n lo m : ℕ) (l : List ℕ)
    → slid_records by t lo (n + m) l ≡ slid_records by t (lo + n) m (slid_records by t lo n l)
unfolding slid_records
row-joined by t zero lo m l =
    let a : 0 + m ≡ m = omega arith in
    let b : lo + 0 ≡ lo = omega arith in
    ap (λ (k : ℕ). slid_records by t lo k l) a ∙ ap (λ (k : ℕ). slid_records by t k m l) (sym b)
row-joined by t (suc n) lo m l =
    let a : suc n + m ≡ suc (n + m) = omega arith in
    let b : lo + 1 + n ≡ lo + suc n = omega arith in
    ap (λ (k : ℕ). slid_records by t lo k l) a
    ∙ row-joined by t n (lo + 1) m (slide_one by (item_at t lo) l)
    ∙ ap (λ (k : ℕ). slid_records by t k m (slid_records by t (lo + 1) n (slide_one by (item_at t lo) l))) b

-- the records of trees, one after another, slide their time tags
pub row-slides : (by : ℕ) (t : List ℕ) (lo hi : ℕ) (f : Forest) → Spans t lo hi f → (l : List ℕ)
    → slid_records by t lo (size f) l ≡ slid_bytes by f l
unfolding Spans size slid_records slid_bytes
row-slides by t lo hi nil s l = refl
row-slides by t lo hi (node item inside rest) s l =
    let m = slide_one by (item_at t lo) l in
    let one : 1 + size inside + size rest ≡ suc (size inside + size rest) = omega arith in
    let end : lo + 1 + size inside ≡ end_at t lo = spans-size t (lo + 1) (end_at t lo) inside s.1 in
    ap (λ (k : ℕ). slid_records by t lo k l) one
    ∙ row-joined by t (size inside) (lo + 1) (size rest) m
    ∙ ap (λ (k : ℕ). slid_records by t k (size rest) (slid_records by t (lo + 1) (size inside) m)) end
    ∙ ap (slid_records by t (end_at t lo) (size rest)) (row-slides by t (lo + 1) (end_at t lo) inside s.1 m)
    ∙ row-slides by t (end_at t lo) hi rest s.2 (slid_bytes by inside m)
    ∙ ap (λ (i : Item). slid_bytes by rest (slid_bytes by inside (slide_one by i l))) s.0

-- the time tags of trees in so many bytes are those of their records
pub row_fits : (size : ℕ) (t : List ℕ) (lo hi : ℕ) (f : Forest) → Spans t lo hi f → ((q : ℕ) → TimeAt q f → q + 8 ≤ size) → (i : ℕ)
    → lo ≤ i → i < hi
    → TimeFits size (item_at t i)
unfolding Spans
row_fits size t lo hi nil s h i l k = absurd (omega (arith, s))
row_fits size t lo hi (node item inside rest) s h i l k =
    ⊎_elim
    (λ e. subst (λ (x : Item). TimeFits size x) (sym (ap (item_at t) (sym e) ∙ s.0)) (λ d. h (time_place item) (inl (d, refl))))
    (λ e. ⊎_elim
    (λ d. row_fits size t (lo + 1) (end_at t lo) inside s.1 (λ q a. h q (inr (inl a))) i (omega arith) d)
    (λ d. row_fits size t (end_at t lo) hi rest s.2 (λ q a. h q (inr (inr a))) i d k)
    (lt-or-le i (end_at t lo)))
    (eq-or-lt_of_le l)

-- ---- the answer of the decoder

-- a fault that is told from its frame's prefix on
moved_none : (k : Fault) → k ≡ moved_by 0 k
moved_none Empty = refl
moved_none (Short field at) = ap (Short field) (omega arith)
moved_none NotUtf8 = refl
moved_none BadStart = refl
moved_none NotOpen = refl
moved_none UnknownTag = refl
moved_none NotScalar = refl

-- a frame that is accepted, with its tree
pub record Accepts (by : ℕ) (l : List ℕ) (count left : ℕ) : Type 0 where
  pub item : Item
  pub inner : Forest
  pub used : ℕ
  pub reads : cut_frame deepest 0 l ≡ read (one item inner used)
  pub counted : count ≡ size (node item inner nil)
  pub kept : left ≡ length l - used
  pub some : 0 < used
  pub within : used ≤ length l
  pub judges : (base : ℕ) → (sliding by).judge base l ≡ takes used (slid_bytes by (node item inner nil) (take used l))

-- what the answer says of the frame
abbrev pub SaysOf : ℕ → List ℕ → DecodeAnswer → Type 0
SaysOf by l (answer.Packets count left dirty) = Accepts by l count left
SaysOf by l answer.Waiting = (base : ℕ) → (sliding by).judge base l ≡ waits
SaysOf by l (Err k) = (base : ℕ) → (sliding by).judge base l ≡ refuses k
SaysOf by l (answer.Stopped count left dirty k at) = ⊥

module _ (by : ℕ) (l : List ℕ) where
  limited-says : (x : Frame) → cut_frame deepest 0 l ≡ x → FrameIn (length l) x → Shallow deepest x
      → SaysOf by l (limited most_in_a_cue deepest l (first (length l) x))
  limited-says wait e w s = λ base. ap (judged recorded (slide_adds by) base l) e
  limited-says (refused k) e w s = λ base. ap (judged recorded (slide_adds by) base l) e
  limited-says (read (fault k)) e w s =
      λ base. ap (judged recorded (slide_adds by) base l) e ∙ ap (λ (j : Fault). refuses (Unreadable j)) (sym (moved_none k))
  limited-says (read (one item f u)) e w s =
      rw (one-tree item f, one_size item f, le-leb _ _ s)
      (by-test (λ (d : DecodeAnswer). SaysOf by l d) (leb (1 + size f) most_in_a_cue)
      (λ few. record {
        item = item;
        inner = f;
        used = u;
        reads = e;
        counted = sym (one_size item f);
        kept = refl;
        some = omega arith;
        within = w.1;
        judges = λ base. ap (judged recorded (slide_adds by) base l) e ∙ rw few;
      })
      (λ many. λ base. ap (judged recorded (slide_adds by) base l) e ∙ rw many))

  -- the decoder of one frame of edition 2, with a table of 3,276 records
  pub answer-says : {d : DecodeAnswer} → length l ≤ longest → d ≡ decoded (tcp2 deepest) most_in_a_cue deepest l → SaysOf by l d
  unfolding decoded tcp2
  answer-says h e =
      let given : decoded (tcp2 deepest) most_in_a_cue deepest l
      ≡ limited most_in_a_cue deepest l (first (length l) (cut_frame deepest 0 l)) = rw (decoded, le-leb (length l) longest h) in
      subst (SaysOf by l) (sym (e ∙ given))
      (limited-says (cut_frame deepest 0 l) refl (cut_in deepest 0 l) (cut-shallow deepest 0 l))
