-- A step tells the fold of its buffer, wherever that stands; so every program that repeats it slides the whole recording.
use mathlib.Core.Path.{◌≡◌, refl, ap, sym, subst, ◌∙◌}
use mathlib.Core.List.{List}
use Prim.Native.Nat.{ℕ, ◌+◌}
use native.Mathlib.Nat.{add_assoc, add-zero, sub-zero}
use native.Mathlib.Omega.{arith}
use lib.Dec.{leb}
use lib.ListN.{length, take, drop}
use lib.Seq.{take_at}
use mathlib.Core.Bool.{Bool, true, false, cond}
use Rattle.refusal.specs.declared.Refusal.TheVariants.{TooLong, OutputShort}
use Rattle.wire.specs.Limits.{longest, deepest}
use Rattle.wire.proofs.Payloads.{ok-is}
use Rattle.packet.specs.Packet.{fault, one}
use Rattle.framing.specs.Framing.{Frame, wait, read, refused, cut_frame}
use Rattle.results.specs.declared.End.{End}
use Rattle.folding.specs.Folding.{Fold, folded, sum_in}
use Rattle.folding.specs.Frames.{judged}
use Rattle.folding.specs.Walks.{TellsFold}
use Rattle.folding.proofs.Framed.{Framed, ends, lacks, fails, frame, framed, framed_is}
use Rattle.folding.proofs.Walks.{every_walk, walk_in_parts}
use Rattle.cues.specs.Cues.{recorded}
use Rattle.slides.specs.Slides.{slide_adds, sliding, slide_of}
use Rattle.slides.proofs.Files.{sliding-sound, same_long}
use Rattle.slide_steps.specs.Steps.{table_size, slide_done, slide_leaves, Slides, SlideStep, EverySlide, SlideInParts, OneSlide}
use Rattle.slide_steps.specs.Results.{Slide}
use Rattle.slide_steps.specs.declared.Slid.{Slid}
use Rattle.std.specs.Prelude.{Err}
use Rattle.slide_steps.specs.Results as slide

-- ---- a frame is judged alike wherever it stands

judged-anywhere : (by b c : ℕ) (l : List ℕ) (x : Frame) → judged recorded (slide_adds by) b l x ≡ judged recorded (slide_adds by) c l x
judged-anywhere by b c l wait = refl
judged-anywhere by b c l (read (fault k)) = refl
judged-anywhere by b c l (read (one item f u)) = refl
judged-anywhere by b c l (refused k) = refl

module _ (by k : ℕ) where
  moved-framed : {base at : ℕ} {l w : List ℕ} {why : End} → Framed (sliding by) base l (folded w at why)
      → Framed (sliding by) (k + base) l (folded w (k + at) why)
  moved-framed ends = ends
  moved-framed {base} {l = l} (lacks some e) = lacks some (judged-anywhere by (k + base) base l (cut_frame deepest 0 l) ∙ e)
  moved-framed {base} {l = l} (fails some e) = fails some (judged-anywhere by (k + base) base l (cut_frame deepest 0 l) ∙ e)
  moved-framed {base} {at} {l} (frame {u = u} {sum = sum} {why = why} some e h r) =
      frame some (judged-anywhere by (k + base) base l (cut_frame deepest 0 l) ∙ e) h
      (subst (λ (b : ℕ). Framed (sliding by) b (drop u l) (folded sum (k + at) why)) (sym (add_assoc k base u)) (moved-framed r))

  -- the slide of bytes that stand k bytes further on
  pub slide-moved : (l w : List ℕ) (at : ℕ) (why : End) → slide_of by 0 l ≡ folded w at why → slide_of by k l ≡ folded w (k + at) why
  slide-moved l w at why e =
      let f = moved-framed (subst (Framed (sliding by) 0 l) e (framed (sliding by) (sliding-sound by).inside 0 l)) in
      framed_is (sliding by) (sliding-sound by).inside
      (subst (λ (b : ℕ). Framed (sliding by) b l (folded w (k + at) why)) (add-zero k) f)

-- ---- what a step's answer says

-- a step that is done tells the slide of its buffer
done-by : (f : Fold (List ℕ)) (b c : Bool) (used : ℕ) (why : End)
    → slide.Done used why ≡ cond b (cond c (slide_done f) (Err OutputShort)) (Err TooLong)
    → f ≡ folded (sum_in f) used why
done-by f false c used why e = let z : ◌≡◌ {A = ℕ} 0 1 = cc in absurd (omega arith)
done-by f true false used why e = let z : ◌≡◌ {A = ℕ} 0 1 = cc in absurd (omega arith)
done-by (folded s at end) true true used why e =
    let a : at ≡ used = sym (ap (λ (x : Slid). x.used) (ok-is e)) in
    let b : end ≡ why = sym (ap (λ (x : Slid). x.end) (ok-is e)) in
    cc

pub step_is : {l table after table' : List ℕ} {by used : ℕ} {why : End} → Slides l by table (slide.Done used why) after table'
    → slide_of by 0 l ≡ folded (sum_in (slide_of by 0 l)) used why
step_is {l} {table} {by = by} {used} {why} w = done-by (slide_of by 0 l) (leb (length l) longest)
    (leb table_size (length table)) used why w.answers

-- its first bytes are the slid ones
pub step-front : {l table after table' : List ℕ} {by used : ℕ} {why : End} → Slides l by table (slide.Done used why) after table'
    → take used after ≡ sum_in (slide_of by 0 l)
step-front {l} {by = by} {used} {why} w =
    let s = sum_in (slide_of by 0 l) in
    let long : length s ≡ used = same_long by 0 l s used why (step_is w) ∙ sub-zero used in
    ap (take used) w.leaves ∙ take_at s (drop (length s) l) used long

pub step-tells : (by : ℕ) → TellsFold (sliding by) (SlideStep by)
step-tells by base l slid used why p =
    slide-moved by base l (sum_in (slide_of by 0 l)) used why (step_is p.3)
    ∙ ap (λ (w : List ℕ). folded w (base + used) why) (sym (step-front p.3) ∙ sym p.4)

pub every_slide : EverySlide
every_slide by = every_walk (sliding by) (sliding-sound by) (SlideStep by) (step-tells by)

pub slide_in_parts : SlideInParts
slide_in_parts by portions sums i w = walk_in_parts (sliding by) (sliding-sound by) (SlideStep by) (step-tells by) portions sums i w

pub one_slide : OneSlide
one_slide l by table r r' after after' table' table'' w v =
    let same : r ≡ r' = w.answers ∙ sym v.answers in
    (same, w.leaves ∙ ap (λ (x : Slide). slide_leaves x (sum_in (slide_of by 0 l)) l) same ∙ sym v.leaves)
