-- Each day has one date, and each date one day.
use mathlib.Core.Path.{◌≡◌, refl, sym, ap, ◌∙◌}
use mathlib.Core.Bool.{Bool, true, false, cond}
use Prim.Native.Nat.{ℕ, zero, suc, ◌+◌, ◌-◌, ◌<◌}
use native.Mathlib.Nat.{add-zero, add_assoc}
use native.Mathlib.Numerals.{add-one}
use native.Mathlib.Omega.{arith}
use borrow.Author.Tests.{ltb-true, ltb-false, ne_eqb}
use lib.Dec.{ltb}
use Rattle.dates.specs.Dates.{is_leap, has_thirty, days_in, date, month_after, date_of}
use Rattle.dates.specs.DayNumbers.{year_days, years_before, months_before, day_of, IsDate}
use Rattle.dates.specs.declared.Date.{Date}
use Rattle.dates.proofs.Months.{days-least, in-month, next-month}

-- the months of a year make the year
twelve : (leap : Bool) → 0 + 31 + cond leap 29 28 + 31 + 30 + 31 + 30 + 31 + 31 + 30 + 31 + 30 + 31 ≡ cond leap 366 365
twelve true = refl
twelve false = refl

whole-year : (y : ℕ) → months_before y 11 + days_in y 12 ≡ year_days y
unfolding months_before days_in has_thirty
whole-year y = twelve (is_leap y)

-- where each month of a year begins
months-begin : (k m : ℕ) → m < 12 → date_of (years_before k) ≡ date (1970 + k) 1 1
    → date_of (years_before k + months_before (1970 + k) m) ≡ date (1970 + k) (suc m) 1
unfolding months_before month_after
months-begin k zero h e = rw add-zero e
months-begin k (suc m) h e =
    let b = years_before k in
    let y = 1970 + k in
    let next = next-month (b + months_before y m) y (suc m) (months-begin k m (omega arith) e) in
    let on : month_after (date y (suc m) 1) ≡ date y (suc m + 1) 1 = rw (ne_eqb (suc m) 12 (omega arith)) in
    ap date_of (sym (add_assoc b (months_before y m) (days_in y (suc m)))) ∙ next ∙ on ∙ ap (λ (n : ℕ). date y n 1) (add-one (suc m))

-- where each year begins
years-begin : (k : ℕ) → date_of (years_before k) ≡ date (1970 + k) 1 1
unfolding years_before date_of month_after
years-begin zero = refl
years-begin (suc k) =
    let b = years_before k in
    let y = 1970 + k in
    let next = next-month (b + months_before y 11) y 12 (months-begin k 11 (omega arith) (years-begin k)) in
    let e : b + year_days y ≡ b + months_before y 11 + days_in y 12 = omega (arith, whole-year y) in
    let f : 1970 + k + 1 ≡ 1970 + suc k = omega arith in
    ap date_of e ∙ next ∙ ap (λ (n : ℕ). date n 1 1) f

-- a date by its parts: years since 1970, whole months and whole days
pub by_parts : (k m j : ℕ) → m < 12 → j < days_in (1970 + k) (suc m)
    → date_of (years_before k + months_before (1970 + k) m + j) ≡ date (1970 + k) (suc m) (j + 1)
by_parts k m j h l =
    in-month (years_before k + months_before (1970 + k) m) (1970 + k) (suc m) (months-begin k m h (years-begin k)) j l

-- the date of the number of a date is that date
pub date-again : (d : Date) → IsDate d → date_of (day_of d) ≡ d
unfolding day_of
date-again d is =
    let ey : 1970 + (d.year - 1970) ≡ d.year = omega (arith, is.from) in
    let em : suc (d.month - 1) ≡ d.month = omega (arith, is.first) in
    let ed : d.day - 1 + 1 ≡ d.day = omega (arith, is.begins) in
    let in-it : d.day - 1 < days_in (1970 + (d.year - 1970)) (suc (d.month - 1)) = rw (ey, em) (omega (arith, is.begins, is.within)) in
    rw (ey, em, ed) at (by_parts (d.year - 1970) (d.month - 1) (d.day - 1) (omega (arith, is.last, is.first)) in-it)

-- a day by its parts
record Parts (n : ℕ) : Type 0 where
  years : ℕ
  months : ℕ
  days : ℕ
  twelfth : months < 12
  within : days < days_in (1970 + years) (suc months)
  make : years_before years + months_before (1970 + years) months + days ≡ n

-- by a test
by : {A : Type 0} (b : Bool) → (b ≡ true → A) → (b ≡ false → A) → A
by true p q = p refl
by false p q = q refl

-- the parts of the next day
next-parts : (n : ℕ) → Parts n → Parts (suc n)
unfolding years_before months_before
next-parts n p =
    let y = 1970 + p.years in
    let d = days_in y (suc p.months) in
    by (ltb (p.days + 1) d)
    (λ t. record {
      years = p.years;
      months = p.months;
      days = p.days + 1;
      twelfth = p.twelfth;
      within = ltb-true _ _ t;
      make = omega (arith, p.make);
    })
    (λ t. by (ltb (p.months + 1) 12)
    (λ u. record {
      years = p.years;
      months = suc p.months;
      days = 0;
      twelfth = omega (arith, ltb-true (p.months + 1) 12 u);
      within = omega (arith, days-least y (suc (suc p.months)));
      make = omega (arith, p.make, p.within, ltb-false (p.days + 1) d t);
    })
    (λ u.
    let e : p.months ≡ 11 = omega (arith, p.twelfth, ltb-false (p.months + 1) 12 u) in
    let whole : months_before y p.months + d ≡ year_days y = rw e (whole-year y) in
    record {
      years = suc p.years;
      months = 0;
      days = 0;
      twelfth = omega arith;
      within = omega (arith, days-least (1970 + suc p.years) 1);
      make = omega (arith, p.make, p.within, ltb-false (p.days + 1) d t, whole);
    }))

parts : (n : ℕ) → Parts n
unfolding years_before months_before
parts zero = record {
  years = 0;
  months = 0;
  days = 0;
  twelfth = omega arith;
  within = omega (arith, days-least 1970 1);
  make = refl;
}
parts (suc n) = next-parts n (parts n)

-- the date of a day is one that there is, and has that number
pub day-again : (n : ℕ) → IsDate (date_of n) × (day_of (date_of n) ≡ n)
unfolding day_of
day-again n =
    let p = parts n in
    let e : date_of n ≡ date (1970 + p.years) (suc p.months) (p.days + 1) =
    sym (ap date_of p.make) ∙ by_parts p.years p.months p.days p.twelfth p.within in
    let ey : 1970 + p.years - 1970 ≡ p.years = omega arith in
    let em : suc p.months - 1 ≡ p.months = omega arith in
    let ed : p.days + 1 - 1 ≡ p.days = omega arith in (
      rw e (record {
        from = omega arith;
        first = omega arith;
        last = omega (arith, p.twelfth);
        begins = omega arith;
        within = omega (arith, p.within);
      }),
      rw (e, ey, em, ed) p.make,
    )

-- so two dates of one number are one
pub one-date : (d e : Date) → IsDate d → IsDate e → day_of d ≡ day_of e → d ≡ e
one-date d e p q h = sym (date-again d p) ∙ ap date_of h ∙ date-again e q
