-- A turn, from what the step says of the first bytes of the buffer.
use mathlib.Core.Path.{◌≡◌, ap, sym, subst, ◌∙◌}
use mathlib.Core.Bool.{Bool, true, false, cond}
use mathlib.Core.List.{List, ◌++◌, append_assoc}
use Prim.Native.Nat.{ℕ, ◌+◌, ◌-◌, ◌≤◌}
use native.Mathlib.Nat.{sub-zero}
use native.Mathlib.Omega.{arith}
use borrow.Author.Tests.{le-leb}
use lib.Dec.{ltb}
use lib.ListN.{length, take, drop, take-append-drop}
use lib.Seq.{take_at, drop_at, length-take-le, drop-append-le}
use borrow.Rule.Slice.PartMut.{put_mid}
use Rattle.refusal.specs.declared.Refusal.{Refusal}
use Rattle.wire.specs.Limits.{longest}
use Rattle.results.specs.declared.End.{End}
use Rattle.folding.specs.Folding.{Fold, folded, sum_in}
use Rattle.folding.proofs.Framed.{Framed, framed, framed-in}
use Rattle.walks.specs.Walks.{reads_on}
use Rattle.slides.specs.Slides.{sliding, slide_of}
use Rattle.slides.proofs.Files.{sliding-sound, same_long}
use Rattle.slide_steps.specs.Steps.{table_size, slide_done, Slides}
use Rattle.slide_steps.specs.Results.{Slide}
use Rattle.std.specs.Prelude.{Err}
use Rattle.slide_steps.specs.Results as slide
use Rattle.slide_steps.proofs.Walks.{step_is, slide-moved}
use Rattle.slide_walks.specs.Turns.{Turns}
use Rattle.slide_walks.specs.declared.Turn.{Turn}
use Rattle.slide_walks.specs.declared.Turn.TheVariants.{On, Ended}

-- a step that has its room is not refused
never : (f : Fold (List ℕ)) (k : Refusal) → slide_done f ≡ Err k → ⊥
never (folded s at why) k e = let z : ◌≡◌ {A = ℕ} 0 1 = cc in omega arith

module _ (l : List ℕ) (count by : ℕ) (here : count ≤ length l) (short : length l ≤ longest) (table : List ℕ)
    (room : table_size ≤ length table) where
  -- what is lent to the step
  abbrev own : List ℕ
  own = take (count - 0) (drop 0 l)

  own_is : own ≡ take count l
  own_is = rw sub-zero

  own-long : length own ≡ count
  own-long = ap length own_is ∙ length-take-le count l here

  pub turn-never : {k : Refusal} {r : Slide} {m table' : List ℕ} {P : Type 0} → Slides own by table r m table' → r ≡ Err k → P
  turn-never {k} w e =
      absurd (never (slide_of by 0 own) k (sym (sym e ∙ w.answers
      ∙ rw (le-leb (length own) longest (omega (arith, own-long)), le-leb table_size (length table) room))))

  module _ {r : Slide} {m table' : List ℕ} {used : ℕ} {why : End} (w : Slides own by table r m table') (e : r ≡ slide.Done used why) where
    done : Slides own by table (slide.Done used why) m table'
    done = subst (λ (x : Slide). Slides own by table x m table') e w

    abbrev slid : List ℕ
    slid = sum_in (slide_of by 0 own)

    slid-long : length slid ≡ used
    slid-long = same_long by 0 own slid used why (step_is done) ∙ sub-zero used

    in-it : used ≤ count
    in-it =
        let f = subst (λ (x : Fold (List ℕ)). Framed (sliding by) 0 own x) (step_is done)
        (framed (sliding by) (sliding-sound by).inside 0 own) in
        omega (arith, (framed-in f).1, own-long)

    -- the buffer is the slid bytes, and then as it was
    buffer-is : put_mid 0 (count - 0) l m ≡ slid ++ drop used l
    buffer-is =
        let left : m ≡ slid ++ drop used own = done.leaves ∙ ap (λ (n : ℕ). slid ++ drop n own) slid-long in
        let rest : drop used own ++ drop count l ≡ drop used l
        = ap (λ (x : List ℕ). drop used x ++ drop count l) own_is
        ∙ sym (drop-append-le used (take count l) (drop count l) (omega (arith, in-it, length-take-le count l here)))
        ∙ ap (drop used) (take-append-drop count l) in
        ap (λ (n : ℕ). m ++ drop n l) (sub-zero count)
        ∙ ap (λ (x : List ℕ). x ++ drop count l) left
        ∙ append_assoc slid (drop used own) (drop count l)
        ∙ ap (λ (x : List ℕ). slid ++ x) rest

    pub turned : (t : Turn) → t ≡ cond (reads_on (ltb count longest) why) (On used) (Ended used why)
        → Turns l count by t (put_mid 0 (count - 0) l m)
    turned t d =
        let front : take used (put_mid 0 (count - 0) l m) ≡ slid = ap (take used) buffer-is ∙ take_at slid (drop used l) used slid-long in
        record {
          used = used;
          why = why;
          tells = λ base. ap (slide_of by base) (sym own_is) ∙ slide-moved by base own slid used why (step_is done)
              ∙ ap (λ (x : List ℕ). folded x (base + used) why) (sym front);
          keeps = ap (drop used) buffer-is ∙ drop_at slid (drop used l) used slid-long;
          within = in-it;
          decides = d;
        }

-- what is read on, and what is not
pub reads_more : {A : Type 0} {b t : Bool} (x y : A) → b ≡ t → b ≡ true → x ≡ cond t x y
reads_more x y e h = rw (← e, h)

pub reads-no-more : {A : Type 0} {b t : Bool} (x y : A) → b ≡ t → b ≡ false → y ≡ cond t x y
reads-no-more x y e h = rw (← e, h)
