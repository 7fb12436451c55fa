-- The frames of a buffer, one after another: what is slid so far, and the fold of what is left, are the whole.
use mathlib.Core.Path.{◌≡◌, refl, ap, sym, subst, ◌∙◌}
use mathlib.Core.List.{List, [], ◌++◌, append-nil, append_assoc}
use Prim.Native.Nat.{ℕ, ◌+◌, ◌-◌, ◌<◌, ◌≤◌}
use native.Mathlib.Omega.{arith}
use borrow.Author.Tests.{le-leb, lt-leb}
use borrow.Rule.Slice.PartMut.{mid_of, put_mid}
use lib.ListN.{length, take, drop, length-append, length-drop, drop_of_length-le}
use lib.Seq.{take_at, drop_at, drop-drop}
use Rattle.refusal.specs.declared.Refusal.{Refusal}
use Rattle.refusal.specs.declared.Refusal.TheVariants.{TooLong, OutputShort}
use Rattle.wire.specs.Limits.{longest}
use Rattle.wire.proofs.Parts.{lent, given_back}
use Rattle.results.specs.declared.End.{End}
use Rattle.results.specs.declared.End.TheVariants as end
use Rattle.folding.specs.Folding.{Verdict, takes, waits, refuses, Fold, folded, with_sum, sum_in, Inside}
use Rattle.folding.proofs.Knot.{fold-eq, fold-by}
use Rattle.folding.proofs.Cut.{sum-none, sum_twice}
use Rattle.slides.specs.Slides.{sliding, slide_of}
use Rattle.slides.proofs.Files.{sliding-sound, taken-long}
use Rattle.slide_steps.specs.Steps.{table_size, slide_done, Slides, front_of, front_leaves, FrontSlides}
use Rattle.slide_steps.specs.FrontResult.{Front}
use Rattle.slide_steps.specs.Results.{Slide}
use Rattle.std.specs.Prelude.{Err}
use Rattle.slide_steps.specs.FrontResult as front
use Rattle.slide_steps.specs.Results as slide

-- ---- what the answer on a frame says of its verdict

done-is : (v : Verdict (List ℕ)) (n : ℕ) → front.Done n ≡ front_of v → (a : List ℕ) × (v ≡ takes n a)
done-is (takes m a) n e = let same : n ≡ m = cc in (a, ap (λ (k : ℕ). takes k a) (sym same))
done-is waits n e = let z : ◌≡◌ {A = ℕ} 0 1 = cc in absurd (omega arith)
done-is (refuses k) n e = let z : ◌≡◌ {A = ℕ} 0 1 = cc in absurd (omega arith)

waits-is : (v : Verdict (List ℕ)) → front.Waiting ≡ front_of v → v ≡ waits
waits-is (takes m a) e = let z : ◌≡◌ {A = ℕ} 0 1 = cc in absurd (omega arith)
waits-is waits e = refl
waits-is (refuses k) e = let z : ◌≡◌ {A = ℕ} 0 1 = cc in absurd (omega arith)

refused-is : (v : Verdict (List ℕ)) (k : Refusal) → Err k ≡ front_of v → v ≡ refuses k
refused-is (takes m a) k e = let z : ◌≡◌ {A = ℕ} 0 1 = cc in absurd (omega arith)
refused-is waits k e = let z : ◌≡◌ {A = ℕ} 0 1 = cc in absurd (omega arith)
refused-is (refuses j) k e = let same : k ≡ j = cc in ap refuses (sym same)

-- ---- the buffer l, of which the frames before `at` are slid; it is m now

pub record Going (by : ℕ) (l : List ℕ) (at : ℕ) (m table : List ℕ) : Type 0 where
  pub here : at ≤ length l
  pub done : List ℕ
  pub long : length done ≡ at
  pub is-now : m ≡ done ++ drop at l
  pub whole : slide_of by 0 l ≡ with_sum (sliding by) done (slide_of by at (drop at l))
  pub room : length table ≡ table_size

pub going_start : (by : ℕ) (l table : List ℕ) → length table ≡ table_size → Going by l 0 l table
going_start by l table h =
    record {
      here = omega arith;
      done = [];
      long = refl;
      is-now = refl;
      whole = sym (sum-none (sliding by) (sliding-sound by) (slide_of by 0 l));
      room = h;
    }

module _ (by : ℕ) (l : List ℕ) (at : ℕ) (m table : List ℕ) (w : Going by l at m table) where
  pub now-long : length m ≡ length l
  now-long = ap length w.is-now ∙ omega (arith, length-append w.done (drop at l), length-drop at l, w.long, w.here)

  -- what is lent to the next step is what is left of the buffer as it was
  pub lent_is : mid_of at (length m - at) m ≡ drop at l
  lent_is = lent m at ∙ ap (drop at) w.is-now ∙ drop_at w.done (drop at l) at w.long

  -- where it goes no further
  module _ (short : length l ≤ longest) (why : End) (e : slide_of by at (drop at l) ≡ folded [] at why) where
    ended : slide_of by 0 l ≡ folded w.done at why
    ended = w.whole ∙ ap (with_sum (sliding by) w.done) e ∙ ap (λ (x : List ℕ). folded x at why) (append-nil w.done)

    pub ended-slides : {m' table' t : List ℕ} → m' ≡ m → length t ≡ table_size → Slides l by t (slide.Done at why) m' table'
    ended-slides {m'} {table'} {t} same room =
        record {
          answers = sym (rw (le-leb (length l) longest short, le-leb table_size (length t) (omega arith)) (ap slide_done ended));
          leaves = same ∙ w.is-now ∙ sym (ap (λ (f : Fold (List ℕ)). sum_in f ++ drop (length (sum_in f)) l) ended ∙ rw w.long);
          keeps = λ k d. let z : ◌≡◌ {A = ℕ} 0 1 = cc in absurd (omega arith);
        }

  -- after the last frame
  pub going_end : length l ≤ longest → length m ≤ at → {t table' : List ℕ} → length t ≡ table_size
      → Slides l by t (slide.Done at end.Whole) m table'
  going_end short h r =
      let none : drop at l ≡ [] = drop_of_length-le l {i = at} (omega (arith, now-long)) in
      ended-slides short end.Whole (ap (slide_of by at) none ∙ fold-eq (sliding by) (sliding-sound by).inside at []) refl r

  module _ {rest : List ℕ} (same : rest ≡ drop at l) (more : at < length m) {r : Front} {p : List ℕ} (f : FrontSlides by rest r p) where
    g : FrontSlides by (drop at l) r p
    g = subst (λ (x : List ℕ). FrontSlides by x r p) same f

    some : 0 < length (drop at l)
    some = omega (arith, length-drop at l, now-long)

    back : put_mid at (length m - at) m p ≡ w.done ++ p
    back =
        given_back m p at
        ∙ ap (λ (x : List ℕ). x ++ p) (ap (take at) w.is-now ∙ take_at w.done (drop at l) at w.long)

    abbrev v : Verdict (List ℕ)
    v = g.verdict

    by-verdict : {x : Verdict (List ℕ)} → v ≡ x → (sliding by).judge at (drop at l) ≡ x
    by-verdict e = g.judged at ∙ e

    front_long : (x : Verdict (List ℕ)) → v ≡ x → length (front_leaves x (drop at l)) ≡ length (drop at l)
    front_long (takes n a) e =
        let i = subst (Inside (length (drop at l))) (by-verdict e) ((sliding-sound by).inside at (drop at l)) in
        omega (
          arith,
          length-append a (drop n (drop at l)),
          length-drop n (drop at l),
          taken-long by at (drop at l) n a
              (by-verdict e),
          i.1,
        )
    front_long waits e = refl
    front_long (refuses k) e = refl

    -- the buffer is as long as it was
    pub going-long : length (put_mid at (length m - at) m p) ≡ length l
    going-long =
        ap length back
        ∙ omega (arith, length-append w.done p, ap length g.leaves, front_long v refl, length-drop at l, w.long, w.here)

    -- a frame that is not all there
    pub going-waits : length l ≤ longest → r ≡ front.Waiting → {t table' : List ℕ} → length t ≡ table_size
        → Slides l by t (slide.Done at end.Waiting) (put_mid at (length m - at) m p) table'
    going-waits short e h =
        let is : v ≡ waits = waits-is v (sym e ∙ g.answers) in
        let kept : p ≡ drop at l = g.leaves ∙ ap (λ (x : Verdict (List ℕ)). front_leaves x (drop at l)) is in
        ended-slides short end.Waiting (fold-by (sliding by) (sliding-sound by).inside at (drop at l) some (by-verdict is))
        (back ∙ ap (λ (x : List ℕ). w.done ++ x) kept ∙ sym w.is-now) h

    -- a frame that is refused
    pub going-refused : {k : Refusal} → length l ≤ longest → r ≡ Err k → {t table' : List ℕ} → length t ≡ table_size
        → Slides l by t (slide.Done at (end.Refused k)) (put_mid at (length m - at) m p) table'
    going-refused {k} short e h =
        let is : v ≡ refuses k = refused-is v k (sym e ∙ g.answers) in
        let kept : p ≡ drop at l = g.leaves ∙ ap (λ (x : Verdict (List ℕ)). front_leaves x (drop at l)) is in
        ended-slides short (end.Refused k) (fold-by (sliding by) (sliding-sound by).inside at (drop at l) some (by-verdict is))
        (back ∙ ap (λ (x : List ℕ). w.done ++ x) kept ∙ sym w.is-now) h

    -- a frame that is slid
    module _ {n : ℕ} (e : r ≡ front.Done n) where
      taken_is : (a : List ℕ) × (v ≡ takes n a)
      taken_is = done-is v n (sym e ∙ g.answers)

      pub going-in : (0 < n) × (at + n ≤ length m)
      going-in =
          let i = subst (Inside (length (drop at l))) (by-verdict taken_is.1) ((sliding-sound by).inside at (drop at l)) in
          (i.0, omega (arith, i.1, length-drop at l, now-long, w.here))

      pub going_on : {t : List ℕ} → length t ≡ table_size → Going by l (at + n) (put_mid at (length m - at) m p) t
      going_on h =
          let a = taken_is.0 in
          let i = going-in in
          let long : length a ≡ n = taken-long by at (drop at l) n a (by-verdict taken_is.1) in
          let rest-is : drop n (drop at l) ≡ drop (at + n) l = drop-drop n at l in
          let p-is : p ≡ a ++ drop (at + n) l
          = g.leaves ∙ ap (λ (x : Verdict (List ℕ)). front_leaves x (drop at l)) taken_is.1 ∙ ap (λ (x : List ℕ). a ++ x) rest-is in
          record {
            here = omega (arith, now-long);
            done = w.done ++ a;
            long = omega (arith, length-append w.done a, w.long);
            is-now = back ∙ ap (λ (x : List ℕ). w.done ++ x) p-is ∙ sym (append_assoc w.done a (drop (at + n) l));
            whole = w.whole
                ∙ ap (with_sum (sliding by) w.done)
                (fold-by (sliding by) (sliding-sound by).inside at (drop at l) some (by-verdict taken_is.1)
                ∙ ap (λ (x : List ℕ). with_sum (sliding by) a (slide_of by (at + n) x)) rest-is)
                ∙ sum_twice (sliding by) (sliding-sound by) w.done a (slide_of by (at + n) (drop (at + n) l));
            room = h;
          }

-- ---- the refusals of a step

pub step-long : (l : List ℕ) (by : ℕ) (table : List ℕ) → longest < length l → Slides l by table (Err TooLong) l table
step-long l by table h = record { answers = rw (lt-leb _ _ h); leaves = refl; keeps = λ k e. refl }

pub step-short : (l : List ℕ) (by : ℕ) (table : List ℕ) → length l ≤ longest → length table < table_size
    → Slides l by table (Err OutputShort) l table
step-short l by table h k = record { answers = rw (le-leb _ _ h, lt-leb _ _ k); leaves = refl; keeps = λ j e. refl }

-- a step with a table that is long enough
pub step-slides : {l after t t' table table' : List ℕ} {by : ℕ} {r : Slide} → Slides l by t r after t' → length l ≤ longest
    → length t ≡ table_size → table_size ≤ length table → Slides l by table r after table'
step-slides {l} {after} {t} {t'} {table} {table'} {by} {r} w short room h =
    let done : r ≡ slide_done (slide_of by 0 l)
    = w.answers ∙ rw (le-leb (length l) longest short, le-leb table_size (length t) (omega arith)) in
    record {
      answers = done ∙ rw (le-leb (length l) longest short, le-leb table_size (length table) h);
      leaves = w.leaves;
      keeps = λ k e. absurd (never (slide_of by 0 l) k (sym done ∙ e));
    }
  where
    never : (f : Fold (List ℕ)) (k : Refusal) → slide_done f ≡ Err k → ⊥
    never (folded s at why) k e = let z : ◌≡◌ {A = ℕ} 0 1 = cc in omega arith
