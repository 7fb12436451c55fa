-- What a step over a buffer makes of a walk: it goes on, it ends, or the recording is too long.
use mathlib.Core.Path.{◌≡◌, refl, ap, sym, subst, ◌∙◌}
use mathlib.Core.Bool.{Bool, true, false, false≢true}
use mathlib.Core.List.{List}
use Prim.Native.Nat.{ℕ, ◌+◌, ◌-◌, ◌*◌, ◌≤◌}
use native.Mathlib.Omega.{arith}
use borrow.Author.Tests.{not-true, ltb-false}
use lib.ListN.{length, take, drop}
use lib.Seq.{length-take-le}
use Rattle.refusal.specs.declared.Refusal.{Refusal}
use Rattle.wire.specs.Limits.{longest}
use Rattle.cues.specs.Cues.{entry_size, longest_recording, Indexes, MayContinue}
use Rattle.results.specs.Ends.{FieldUpTo}
use Rattle.results.specs.declared.End.{End}
use Rattle.results.specs.declared.End.TheVariants as end
use Rattle.results.specs.Results.{IndexAnswer, Written}
use Rattle.std.specs.Prelude.{Err}
use Rattle.cues.proofs.Steps.{stepped, full-moves, only-far}
use Rattle.walks.specs.Walks.{LowPosition, LowLast, is_last, reads_on, further, WalkStep}
use Rattle.walks.specs.CodeWalks.{CanWalk, RestKept}
use Rattle.walks.specs.declared.Position.{Position}
use Rattle.walks.specs.declared.Walked.TheVariants.{On, Ended, TooLong}

-- where a recording is read on, no frame was refused, and the buffer is full
pub goes_further : (count : ℕ) (why : End) → reads_on (is_last count) why ≡ true → MayContinue why × (longest ≤ count)
goes_further count end.Whole e = (tt, ltb-false count longest (not-true _ e))
goes_further count end.Waiting e = (tt, ltb-false count longest (not-true _ e))
goes_further count (end.Refused k) e = absurd (false≢true e)

-- a step that wrote stays within its numbers
pub record StepLow (from : Position) (count room n used : ℕ) : Type 0 where
  pub within : used ≤ count
  pub few : 12 * n ≤ used
  pub near : from.at + used ≤ longest_recording
  pub fits : n * entry_size ≤ room

-- a field that was short lies as far on in the recording as its bytes do
further-on : (at used n : ℕ) (why : End) → FieldUpTo used n why → at + n ≤ longest_recording → FieldUpTo (at + used) longest_recording why
further-on at used n end.Whole h low = tt
further-on at used n end.Waiting h low = tt
further-on at used n (end.Refused k) h low = omega (arith, h, low)

module _ {from : Position} {buf : List ℕ} {count : ℕ} {out : List ℕ} (can : CanWalk from buf count out) where
  there : length (take count buf) ≡ count
  there = length-take-le count buf can.there

  module _ {r : IndexAnswer} {after : List ℕ} (w : Indexes (take count buf) from.at out r after) where
    module _ {n used : ℕ} {why : End} (e : r ≡ Written n used why) where
      wrote : Indexes (take count buf) from.at out (Written n used why) after
      wrote = subst (λ (x : IndexAnswer). Indexes (take count buf) from.at out x after) e w

      -- a step that wrote has few records, for bytes that are there
      pub step-low : StepLow from count (length out) n used
      step-low =
          let s = stepped wrote in
          record {
            within = omega (arith, s.within, there);
            few = s.few;
            near = omega (arith, s.within, s.low);
            fits = omega (arith, s.room);
          }

      low-after : (kept : ℕ) → kept ≡ count - used → LowPosition (further from n used kept)
      low-after kept k =
          let s = step-low in
          record {
            few = omega (arith, s.few, can.low.few);
            near = s.near;
            short = omega (arith, can.there, can.full);
          }

      last-low : (kept : ℕ) → kept ≡ count - used → LowLast (further from n used kept) why
      last-low kept k =
          let low = low-after kept k in
          let s = stepped wrote in
          record {
            few = low.few;
            near = low.near;
            short = low.short;
            field = further-on from.at used (length (take count buf)) why s.field s.low;
          }

      module _ {kept : List ℕ} {k : ℕ} {on : Bool} (rest : RestKept used count buf kept k)
          (as_said : on ≡ reads_on (is_last count) why) where
        keeps : take (count - used) kept ≡ drop used (take count buf)
        keeps = ap (λ (j : ℕ). take j kept) (sym rest.count) ∙ rest.bytes

        -- the recording is read on
        pub walks-on : on ≡ true → WalkStep from buf count out (On (n * entry_size) (further from n used k)) kept after
        walks-on t =
            let g = goes_further count why (sym as_said ∙ t) in
            record {
              step = Written n used why;
              steps = wrote;
              gives = rw (← as_said, t, rest.count);
              keeps = keeps;
              far = λ z. let x : ◌≡◌ {A = ℕ} 0 1 = cc in absurd (omega arith);
              low = (
                low-after k rest.count,
                omega (arith, full-moves wrote g.0 (omega (arith, there, g.1))),
                step-low.fits,
              );
            }

        -- there are no more records
        pub walk_ends : on ≡ false → WalkStep from buf count out (Ended (n * entry_size) (further from n used k) why) kept after
        walk_ends t =
            record {
              step = Written n used why;
              steps = wrote;
              gives = rw (← as_said, t, rest.count);
              keeps = keeps;
              far = λ z. let x : ◌≡◌ {A = ℕ} 0 1 = cc in absurd (omega arith);
              low = (last-low k rest.count, step-low.fits);
            }

    -- the recording is too long
    pub too_long : {k : Refusal} → r ≡ Err k → WalkStep from buf count out TooLong buf after
    too_long {k} e =
        let x : Indexes (take count buf) from.at out (Err k) after
        = subst (λ (x : IndexAnswer). Indexes (take count buf) from.at out x after) e w in
        record {
          step = Err k;
          steps = x;
          gives = refl;
          keeps = tt;
          far = λ z. omega (arith, only-far x (omega (arith, there, can.full, can.there)) can.room, there);
          low = tt;
        }
