-- A recording that is slid: as long as what was read, stopped where an index stops, back again by the opposite, the same by zero.
use mathlib.Core.Path.{◌≡◌, refl, ap, sym, subst, ◌∙◌}
use mathlib.Core.Bool.{Bool, true, false, cond}
use mathlib.Core.List.{List, [], ◌++◌, append_assoc, append-nil}
use Prim.Native.Nat.{ℕ, ◌+◌, ◌-◌, ◌<◌, ◌≤◌}
use native.Mathlib.Omega.{arith}
use lib.Dec.{leb}
use lib.ListN.{length, take, drop, length-append}
use lib.Seq.{take-add, take_all, length-take-le, drop_at}
use Rattle.clock.specs.Shift.{shifted}
use Rattle.refusal.specs.declared.Refusal.{Refusal}
use Rattle.refusal.specs.Refusal.{moved_by}
use Rattle.refusal.specs.declared.Refusal.TheVariants.{Unreadable, TableFull}
use Rattle.wire.specs.Limits.{deepest}
use Rattle.wire.proofs.Parts.{take-small, drop-small}
use Rattle.node.specs.Forest.{Forest, nil, node, size}
use Rattle.node.specs.declared.record.Item.{Item}
use Rattle.packet.specs.Packet.{fault, one}
use Rattle.framing.specs.Framing.{Frame, wait, read, refused, cut_frame}
use Rattle.results.specs.declared.End.{End}
use Rattle.results.specs.declared.End.TheVariants as end
use Rattle.folding.specs.Folding.{Verdict, takes, waits, refuses, folded, Folding, fold_of, Inside, Stays, Sound, OwnBytes}
use Rattle.folding.specs.Frames.{FrameAdds, judged, judge_of}
use Rattle.folding.proofs.Frames.{inside, alone, sound}
use Rattle.folding.proofs.Framed.{Framed, ends, lacks, fails, frame, framed, framed_is, framed-in}
use Rattle.folding.proofs.Cut.{read-is-whole}
use Rattle.folding.proofs.Settled.{GivenAlone, given-alone}
use Rattle.cues.specs.Cues.{recorded, most_in_a_cue, entry_adds, indexing, index_of}
use Rattle.cues.proofs.Folds.{indexing-sound, indexing-own}
use Rattle.cues.proofs.Kept.{kept_is_short}
use Rattle.folding.proofs.Buffers as buffers
use Rattle.slides.specs.Slides.{slid_item, slid_forest, slid_bytes, slide_adds, sliding, slide_of}
use Rattle.slides.specs.Laws.{AreBytes, SameLong, StopsAsIndex, ThereAndBack, SlideByZero, SameCues, SlideAnyBuffers, SlideKeepsRoom}
use Rattle.slides.proofs.Slid.{FrameIs, all-slid}
use Rattle.slides.proofs.Frames.{size-slid, frame-zero, frame_back, frame_slides}

-- a slide is a sound fold, so that every law of crates/folding holds of it
pub sliding-sound : (by : ℕ) → Sound (sliding by)
sliding-sound by = sound recorded (slide_adds by) [] (λ a b. a ++ b) append_assoc (λ a. refl) append-nil

-- a frame is accepted by its own bytes
pub sliding-own : (by : ℕ) → OwnBytes (sliding by)
sliding-own by = alone recorded (slide_adds by)

-- ---- a frame that is taken

-- the frame that a verdict speaks of
record Taken (l : List ℕ) (u : ℕ) : Type 0 where
  item : Item
  inner : Forest
  reads : cut_frame deepest 0 l ≡ read (one item inner u)
  few : leb (1 + size inner) most_in_a_cue ≡ true

module _ {A : Type 0} (adds : FrameAdds A) where
  -- it adds what its tree says
  taken-by : (base : ℕ) (l : List ℕ) (u : ℕ) (a : A) (x : Frame) → cut_frame deepest 0 l ≡ x → judged recorded adds base l x ≡ takes u a
      → (t : Taken l u) × (a ≡ adds base (take u l) t.item t.inner)
  taken-by base l u a wait e d = let z : ◌≡◌ {A = ℕ} 0 1 = cc in absurd (omega arith)
  taken-by base l u a (read (fault k)) e d = let z : ◌≡◌ {A = ℕ} 0 1 = cc in absurd (omega arith)
  taken-by base l u a (refused k) e d = let z : ◌≡◌ {A = ℕ} 0 1 = cc in absurd (omega arith)
  taken-by base l u a (read (one item f n)) e d = by-room (leb (1 + size f) most_in_a_cue) refl d
    where
      by-room : (b : Bool) → leb (1 + size f) most_in_a_cue ≡ b
          → cond b (takes n (adds base (take n l) item f)) (refuses TableFull) ≡ takes u a
          → (t : Taken l u) × (a ≡ adds base (take u l) t.item t.inner)
      by-room false g h = let z : ◌≡◌ {A = ℕ} 0 1 = cc in absurd (omega arith)
      by-room true g h =
          let size_is : n ≡ u = cc in
          let adds-is : adds base (take n l) item f ≡ a = cc in (
            record { item = item; inner = f; reads = e ∙ ap (λ (k : ℕ). read (one item f k)) size_is; few = g },
            sym adds-is ∙ ap (λ (k : ℕ). adds base (take k l) item f) size_is,
          )

  taken : (base : ℕ) (l : List ℕ) (u : ℕ) (a : A) → judge_of recorded adds base l ≡ takes u a
      → (t : Taken l u) × (a ≡ adds base (take u l) t.item t.inner)
  taken base l u a d = taken-by base l u a (cut_frame deepest 0 l) refl d

  -- and each such frame is taken
  takes-it : (base : ℕ) (l : List ℕ) (u : ℕ) (t : Taken l u)
      → judge_of recorded adds base l ≡ takes u (adds base (take u l) t.item t.inner)
  takes-it base l u t = rw (t.reads, t.few)

-- a frame by its own bytes
taken-alone : (l : List ℕ) (u : ℕ) (t : Taken l u) → cut_frame deepest 0 (take u l) ≡ read (one t.item t.inner u)
taken-alone l u t = (subst (GivenAlone deepest 0 l) t.reads (given-alone deepest 0 l)).1

module _ (l : List ℕ) (u : ℕ) (room : u ≤ length l) (t : Taken l u) where
  abbrev own : List ℕ
  own = take u l

  abbrev tree : Forest
  tree = node t.item t.inner nil

  own-frame : FrameIs deepest own u tree
  own-frame = record { item = t.item; inside = t.inner; tree = refl; reads = taken-alone l u t }

  slid-long : (by : ℕ) → length (slid_bytes by tree own) ≡ u
  slid-long by = (all-slid deepest by tree own u tree own-frame (λ q a. a)).1 ∙ length-take-le u l room

  slid-all : (by : ℕ) → take u (slid_bytes by tree own) ≡ slid_bytes by tree own
  slid-all by = take_all u (slid_bytes by tree own) (omega (arith, slid-long by))

  -- its own bytes, slid, are a frame too
  slid-taken : AreBytes l → (by : ℕ) → Taken (slid_bytes by tree own) u
  slid-taken small by =
      record {
        item = slid_item by t.item;
        inner = slid_forest by t.inner;
        reads = (frame_slides deepest by own t.item t.inner u (take-small u l small) (taken-alone l u t)).reads;
        few = ap (λ (n : ℕ). leb (1 + n) most_in_a_cue) (size-slid by t.inner) ∙ t.few;
      }

  -- slid back they are what they were
  back-taken : AreBytes l → (x y base : ℕ) → shifted x y ≡ 0 → judge_of recorded (slide_adds y) base (slid_bytes x tree own) ≡ takes u own
  unfolding slid_forest slid-taken
  back-taken small x y base o =
      takes-it (slide_adds y) base (slid_bytes x tree own) u (slid-taken small x)
      ∙ ap (λ (m : List ℕ). takes u (slid_bytes y (slid_forest x tree) m)) (slid-all x)
      ∙ ap (takes u) (frame_back deepest own (take-small u l small) u tree own-frame x y o)

  -- their record is the same
  cue-taken : AreBytes l → (by base : ℕ)
      → judge_of recorded entry_adds base (slid_bytes by tree own) ≡ takes u (entry_adds base own t.item t.inner)
  unfolding slid-taken
  cue-taken small by base =
      takes-it entry_adds base (slid_bytes by tree own) u (slid-taken small by)
      ∙ rw (slid-all by, slid-long by, size-slid by t.inner, length-take-le u l room)

-- what a frame adds is as long as the frame
pub taken-long : (by base : ℕ) (l : List ℕ) (u : ℕ) (a : List ℕ) → (sliding by).judge base l ≡ takes u a → length a ≡ u
taken-long by base l u a e =
    let t = taken (slide_adds by) base l u a e in
    let w = subst (Inside (length l)) e (inside recorded (slide_adds by) base l) in
    ap length t.1 ∙ slid-long l u w.1 t.0 by

-- ---- a recording

-- what was read, by its first frame
read-split : (base u at : ℕ) (l : List ℕ) → base + u ≤ at → take (at - base) l ≡ take u l ++ take (at - (base + u)) (drop u l)
read-split base u at l h =
    let same : at - base ≡ u + (at - (base + u)) = omega arith in
    ap (λ (k : ℕ). take k l) same ∙ take-add u (at - (base + u)) l

none_read : (base : ℕ) (l : List ℕ) → [] ≡ take (base - base) l
none_read base l = let none : base - base ≡ 0 = omega arith in rw none

-- a fold over a frame and what follows it
module _ {A : Type 0} (f : Folding A) (s : Sound f) where
  joined-frame : (base u at : ℕ) (own rest : List ℕ) (a sum : A) (why : End) → length own ≡ u → 0 < u → f.judge base own ≡ takes u a
      → fold_of f (base + u) rest ≡ folded sum at why → fold_of f base (own ++ rest) ≡ folded (f.add a sum) at why
  joined-frame base u at own rest a sum why long some e r =
      let judge : f.judge base (own ++ rest) ≡ takes u a
      = subst (λ (x : Verdict A). Stays x (f.judge base (own ++ rest))) e (s.stays base own rest) in
      let total : length (own ++ rest) ≡ length own + length rest = length-append own rest in
      let next : Framed f (base + u) (drop u (own ++ rest)) (folded sum at why)
      = subst (λ (m : List ℕ). Framed f (base + u) m (folded sum at why)) (sym (drop_at own rest u long))
      (subst (Framed f (base + u) rest) r (framed f s.inside (base + u) rest)) in
      framed_is f s.inside (frame (omega arith) judge (some, omega arith) next)

-- the fold of no byte
none_of : {A : Type 0} (f : Folding A) → Sound f → (base : ℕ) → fold_of f base [] ≡ folded f.unit base end.Whole
none_of f s base = framed_is f s.inside ends

module _ (by : ℕ) where
  long-framed : {base at : ℕ} {l w : List ℕ} {why : End} → Framed (sliding by) base l (folded w at why) → length w ≡ at - base
  long-framed {base} ends = omega arith
  long-framed {base} (lacks some e) = omega arith
  long-framed {base} (fails some e) = omega arith
  long-framed {base} {at} {l} (frame {u = u} {a = a} {sum = sum} some e h r) =
      let first : length a ≡ u = taken-long by base l u a e in
      omega (arith, length-append a sum, long-framed r, (framed-in r).0)

  -- ---- where it stops

  waits-alike : (base : ℕ) (l : List ℕ) (x : Frame) → judged recorded (slide_adds by) base l x ≡ waits
      → judged recorded entry_adds base l x ≡ waits
  waits-alike base l wait e = refl
  waits-alike base l (read (fault k)) e = let z : ◌≡◌ {A = ℕ} 0 1 = cc in absurd (omega arith)
  waits-alike base l (refused k) e = let z : ◌≡◌ {A = ℕ} 0 1 = cc in absurd (omega arith)
  waits-alike base l (read (one item f n)) e = absurd (by-room (leb (1 + size f) most_in_a_cue) e)
    where
      by-room : (b : Bool) → cond b (takes n (slide_adds by base (take n l) item f)) (refuses TableFull) ≡ waits → ⊥
      by-room true d = let z : ◌≡◌ {A = ℕ} 0 1 = cc in omega arith
      by-room false d = let z : ◌≡◌ {A = ℕ} 0 1 = cc in omega arith

  refuses-alike : (base : ℕ) (l : List ℕ) (x : Frame) (k : Refusal) → judged recorded (slide_adds by) base l x ≡ refuses k
      → judged recorded entry_adds base l x ≡ refuses k
  refuses-alike base l wait k e = let z : ◌≡◌ {A = ℕ} 0 1 = cc in absurd (omega arith)
  refuses-alike base l (read (fault j)) k e =
      let same : Unreadable (moved_by 0 j) ≡ k = cc in ap refuses same
  refuses-alike base l (refused j) k e = let same : j ≡ k = cc in ap refuses same
  refuses-alike base l (read (one item f n)) k e = by-room (leb (1 + size f) most_in_a_cue) e
    where
      by-room : (b : Bool) → cond b (takes n (slide_adds by base (take n l) item f)) (refuses TableFull) ≡ refuses k
          → cond b (takes n (entry_adds base (take n l) item f)) (refuses TableFull) ≡ refuses k
      by-room true d = let z : ◌≡◌ {A = ℕ} 0 1 = cc in absurd (omega arith)
      by-room false d = let same : TableFull ≡ k = cc in ap refuses same

  stops-framed : {base at : ℕ} {l w : List ℕ} {why : End} → Framed (sliding by) base l (folded w at why)
      → (i : List ℕ) × Framed indexing base l (folded i at why)
  stops-framed ends = ([], ends)
  stops-framed {base} {l = l} (lacks some e) = ([], lacks some (waits-alike base l (cut_frame deepest 0 l) e))
  stops-framed {base} {l = l} (fails {why = why} some e) = ([], fails some (refuses-alike base l (cut_frame deepest 0 l) why e))
  stops-framed {base} {l = l} (frame {u = u} {a = a} some e h r) =
      let t = taken (slide_adds by) base l u a e in
      let w = stops-framed r in
      (entry_adds base (take u l) t.0.item t.0.inner ++ w.0, frame some (takes-it entry_adds base l u t.0) h w.1)

  cues-framed : {base at : ℕ} {l w : List ℕ} {why : End} → AreBytes l → Framed (sliding by) base l (folded w at why)
      → (i : List ℕ) × Framed indexing base l (folded i at why) × (index_of base w ≡ folded i at end.Whole)
  cues-framed {base} small ends = ([], ends, none_of indexing indexing-sound base)
  cues-framed {base} {l = l} small (lacks some e) =
      ([], lacks some (waits-alike base l (cut_frame deepest 0 l) e), none_of indexing indexing-sound base)
  cues-framed {base} {l = l} small (fails {why = why} some e) =
      ([], fails some (refuses-alike base l (cut_frame deepest 0 l) why e), none_of indexing indexing-sound base)
  cues-framed {base} {at} {l} small (frame {u = u} {a = a} {sum = sum} some e h r) =
      let t = taken (slide_adds by) base l u a e in
      let w = cues-framed (drop-small u l small) r in
      let entry = entry_adds base (take u l) t.0.item t.0.inner in
      let judge : indexing.judge base a ≡ takes u entry
      = ap (λ (m : List ℕ). judge_of recorded entry_adds base m) t.1 ∙ cue-taken l u h.1 t.0 small by base in
      let long : length a ≡ u = ap length t.1 ∙ slid-long l u h.1 t.0 by in (
        entry ++ w.0,
        frame some (takes-it entry_adds base l u t.0) h w.1,
        joined-frame indexing indexing-sound base u at a sum entry w.0 end.Whole long h.0 judge w.2,
      )

module _ (x y : ℕ) (opposite : shifted x y ≡ 0) where
  back-framed : {base at : ℕ} {l w : List ℕ} {why : End} → AreBytes l → Framed (sliding x) base l (folded w at why)
      → slide_of y base w ≡ folded (take (at - base) l) at end.Whole
  back-framed {base} small ends = none_of (sliding y) (sliding-sound y) base ∙ ap (λ (m : List ℕ). folded m base end.Whole)
      (none_read base [])
  back-framed {base} {l = l} small (lacks some e) =
      none_of (sliding y) (sliding-sound y) base ∙ ap (λ (m : List ℕ). folded m base end.Whole) (none_read base l)
  back-framed {base} {l = l} small (fails some e) =
      none_of (sliding y) (sliding-sound y) base ∙ ap (λ (m : List ℕ). folded m base end.Whole) (none_read base l)
  back-framed {base} {at} {l} small (frame {u = u} {a = a} {sum = sum} some e h r) =
      let t = taken (slide_adds x) base l u a e in
      let judge : (sliding y).judge base a ≡ takes u (take u l)
      = ap (λ (m : List ℕ). judge_of recorded (slide_adds y) base m) t.1 ∙ back-taken l u h.1 t.0 small x y base opposite in
      let long : length a ≡ u = ap length t.1 ∙ slid-long l u h.1 t.0 x in
      joined-frame (sliding y) (sliding-sound y) base u at a sum (take u l) (take (at - (base + u)) (drop u l)) end.Whole long h.0 judge
      (back-framed (drop-small u l small) r)
      ∙ ap (λ (m : List ℕ). folded m at end.Whole) (sym (read-split base u at l (framed-in r).0))

zero-framed : {base at : ℕ} {l w : List ℕ} {why : End} → AreBytes l → Framed (sliding 0) base l (folded w at why) → w ≡ take (at - base) l
zero-framed {base} small ends = none_read base []
zero-framed {base} {l = l} small (lacks some e) = none_read base l
zero-framed {base} {l = l} small (fails some e) = none_read base l
zero-framed {base} {at} {l} small (frame {u = u} {a = a} {sum = sum} some e h r) =
    let t = taken (slide_adds 0) base l u a e in
    let first : a ≡ take u l = t.1 ∙ frame-zero deepest (take u l) (take-small u l small) u _ (own-frame l u h.1 t.0) in
    rw (first, zero-framed (drop-small u l small) r) (sym (read-split base u at l (framed-in r).0))

-- a slide frame by frame
frames-of : (by base : ℕ) (l w : List ℕ) (at : ℕ) (why : End) → slide_of by base l ≡ folded w at why
    → Framed (sliding by) base l (folded w at why)
frames-of by base l w at why e = subst (Framed (sliding by) base l) e (framed (sliding by) (sliding-sound by).inside base l)

pub same_long : SameLong
same_long by base l w at why e = long-framed by (frames-of by base l w at why e)

pub stops_as_index : StopsAsIndex
stops_as_index by base l w at why e =
    let i = stops-framed by (frames-of by base l w at why e) in
    (i.0, framed_is indexing indexing-sound.inside i.1)

pub there_and_back : ThereAndBack
there_and_back x y base l w at why small o e = back-framed x y o small (frames-of x base l w at why e)

pub slide_by_zero : SlideByZero
slide_by_zero base l w at why small e = zero-framed small (frames-of 0 base l w at why e)

pub same_cues : SameCues
same_cues by base l w at why small e =
    let i = cues-framed by small (frames-of by base l w at why e) in
    let whole : index_of base l ≡ folded i.0 at why = framed_is indexing indexing-sound.inside i.1 in
    i.2 ∙ sym (read-is-whole indexing indexing-sound indexing-own base l i.0 at why whole)

pub slide_any_buffers : SlideAnyBuffers
slide_any_buffers by = buffers.any_buffers (sliding by) (sliding-sound by)

pub keeps-room : SlideKeepsRoom
keeps-room by base l w at why go e =
    let i = stops_as_index by base l w at why e in
    kept_is_short base l i.0 at why go i.1
