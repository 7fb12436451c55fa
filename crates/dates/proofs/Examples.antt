-- Days that a reader can look up.
use mathlib.Core.Path.{◌≡◌, refl}
use native.Mathlib.Omega.{arith}
use Rattle.dates.specs.Dates.{has_thirty, days_in, date, month_after, day_after, date_of}
use Rattle.dates.specs.DayNumbers.{years_before, months_before, day_of}
use Rattle.dates.proofs.Inverse.{date-again}

-- 2000 is a leap year
leap-day : day_after (date 2000 2 28) ≡ date 2000 2 29
unfolding day_after days_in
leap-day = refl

-- 2100 is none
no-leap-day : day_after (date 2100 2 28) ≡ date 2100 3 1
unfolding day_after days_in month_after
no-leap-day = refl

-- the day after 31 December
new-year : day_after (date 1999 12 31) ≡ date 2000 1 1
unfolding day_after days_in has_thirty month_after
new-year = refl

-- the day on which a time tag wraps: 2,085,978,496 seconds are 24,143 days and some hours
wrap-day : date_of 24143 ≡ date 2036 2 7
unfolding day_of years_before months_before days_in has_thirty
wrap-day =
    date-again (date 2036 2 7)
    (record { from = omega arith; first = omega arith; last = omega arith; begins = omega arith; within = omega arith })
