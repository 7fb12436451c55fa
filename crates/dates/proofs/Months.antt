-- The days of a month, one after another, and the months.
use mathlib.Core.Path.{◌≡◌, refl, sym, ap, ◌∙◌}
use mathlib.Core.Bool.{Bool, true, false, cond}
use Prim.Native.Nat.{ℕ, zero, suc, ◌+◌, ◌*◌, ◌-◌, ◌≤◌, ◌<◌}
use native.Mathlib.Nat.{add-suc, add-zero}
use native.Mathlib.Omega.{arith}
use borrow.Author.Tests.{lt-ltb, le-ltb, eqb-false}
use lib.Dec.{eqb}
use Rattle.dates.specs.Dates.{is_leap, has_thirty, days_in, date, month_after, day_after, date_of}
use Rattle.dates.specs.declared.Date.{Date}

-- what holds of each choice, by the test, holds of the choice
by-test : {A : Type 0} (P : A → Type 0) (b : Bool) {x y : A} → (b ≡ true → P x) → (b ≡ false → P y) → P (cond b x y)
by-test P true p q = p refl
by-test P false p q = q refl

-- the same where the test says nothing
either_way : {A : Type 0} (P : A → Type 0) (b : Bool) {x y : A} → P x → P y → P (cond b x y)
either_way P true p q = p
either_way P false p q = q

-- a month has at least 28 days
pub days-least : (y m : ℕ) → 28 ≤ days_in y m
unfolding days_in
days-least y m =
    let Least : ℕ → Type 0 = λ n. 28 ≤ n in
    either_way Least (eqb m 2) (either_way Least (is_leap y) (omega arith) (omega arith))
    (either_way Least (has_thirty m) (omega arith) (omega arith))

module _ (b y m : ℕ) (first : date_of b ≡ date y m 1) where
  -- the days of a month have its number, and count from 1
  pub in-month : (k : ℕ) → k < days_in y m → date_of (b + k) ≡ date y m (k + 1)
  unfolding date_of day_after
  in-month zero h = rw add-zero first
  in-month (suc k) h =
      let before : date_of (b + k) ≡ date y m (k + 1) = in-month k (omega arith) in
      let e : k + 1 + 1 ≡ suc k + 1 = omega arith in
      rw (add-suc, before, lt-ltb (k + 1) (days_in y m) (omega arith)) (ap (date y m) e)

  -- after its last day the next month begins
  pub next-month : date_of (b + days_in y m) ≡ month_after (date y m 1)
  unfolding date_of day_after month_after
  next-month =
      let least = days-least y m in
      let last : date_of (b + (days_in y m - 1)) ≡ date y m (days_in y m - 1 + 1) = in-month (days_in y m - 1) (omega arith) in
      let e : b + days_in y m ≡ suc (b + (days_in y m - 1)) = omega arith in
      rw (e, last, le-ltb (days_in y m - 1 + 1) (days_in y m) (omega arith)) refl

-- how far the search for a date is: the month that begins before the days that are left, of which each month takes at least 28
pub record Begun (day : ℕ) (first : Date) (left : ℕ) : Type 0 where
  pub within : left ≤ day
  pub here : date_of (day - left) ≡ first
  pub starts : first.day ≡ 1
  pub few : 28 * first.year + left ≤ 55160 + day
  pub month : first.month ≤ 12

-- it begins in January 1970
pub begins : (day : ℕ) → Begun day (date 1970 1 1) day
unfolding date_of
begins day = record {
  within = omega arith;
  here = (let e : day - day ≡ 0 = omega arith in rw e);
  starts = refl;
  few = omega arith;
  month = omega arith;
}

-- what the next month is
next-starts : (d : Date) → (month_after d).day ≡ 1
unfolding month_after
next-starts d = either_way (λ (x : Date). x.day ≡ 1) (eqb d.month 12) refl refl

next-year : (d : Date) → (month_after d).year ≤ d.year + 1
unfolding month_after
next-year d = either_way (λ (x : Date). x.year ≤ d.year + 1) (eqb d.month 12) (omega arith) (omega arith)

next-within : (d : Date) → d.month ≤ 12 → (month_after d).month ≤ 12
unfolding month_after
next-within d h =
    by-test (λ (x : Date). x.month ≤ 12) (eqb d.month 12) (λ _. omega arith)
    (λ no. omega (arith, eqb-false d.month 12 no))

-- and where a whole month is left, it goes on with the next
pub goes_further : (day : ℕ) (first : Date) (left : ℕ) → Begun day first left → days_in first.year first.month ≤ left
    → Begun day (month_after first) (left - days_in first.year first.month)
goes_further day first left b h =
    let n = days_in first.year first.month in
    let least : 28 ≤ n = days-least first.year first.month in
    let e : day - (left - n) ≡ day - left + n = omega (arith, b.within) in
    let day-one = ap (date first.year first.month) b.starts in
    let here : date_of (day - left) ≡ date first.year first.month 1 = b.here ∙ day-one in
    record {
      within = omega (arith, b.within);
      here = ap date_of e ∙ next-month (day - left) first.year first.month here ∙ sym (ap month_after day-one);
      starts = next-starts first;
      few = omega (arith, b.few, next-year first);
      month = next-within first b.month;
    }

-- the day lies in the month
pub found : (day : ℕ) (first : Date) (left : ℕ) → Begun day first left → left < days_in first.year first.month
    → date first.year first.month (left + 1) ≡ date_of day
found day first left b h =
    let e : day - left + left ≡ day = omega (arith, b.within) in
    let here : date_of (day - left) ≡ date first.year first.month 1 = b.here ∙ ap (date first.year first.month) b.starts in
    sym (in-month (day - left) first.year first.month here left h) ∙ ap date_of e
