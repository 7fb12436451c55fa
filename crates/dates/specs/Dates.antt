-- The Gregorian calendar, as people know it: a day comes after another, and 1 January 1970 is day 0.
use Rattle.std.specs.Prelude.{Bool, true, cond, ℕ, zero, suc, ◌+◌, ◌%◌, eqb, ltb}
use Rattle.dates.specs.declared.Date.{Date}

-- every fourth year is a leap year; of the years that end a century only every fourth
abbrev pub is_leap : ℕ → Bool
is_leap year = cond (eqb (year % 100) 0) (eqb (year % 400) 0) (eqb (year % 4) 0)

-- thirty days have April, June, September and November
unfoldable pub has_thirty : ℕ → Bool
has_thirty month = cond (eqb month 4) true (cond (eqb month 6) true (cond (eqb month 9) true (eqb month 11)))

-- all other months have 31, but February has 28, and 29 in a leap year
unfoldable pub days_in : ℕ → ℕ → ℕ
days_in year month = cond (eqb month 2) (cond (is_leap year) 29 28) (cond (has_thirty month) 30 31)

-- a date by its three numbers
abbrev pub date : ℕ → ℕ → ℕ → Date
date y m d = record { year = y; month = m; day = d }

-- the first day of the next month: after December comes January of the next year
unfoldable pub month_after : Date → Date
month_after d = cond (eqb d.month 12) (date (d.year + 1) 1 1) (date d.year (d.month + 1) 1)

-- the day after another
unfoldable pub day_after : Date → Date
day_after d = cond (ltb d.day (days_in d.year d.month)) (date d.year d.month (d.day + 1)) (month_after d)

-- the date of a day
unfoldable pub date_of : ℕ → Date
date_of zero = date 1970 1 1
date_of (suc n) = day_after (date_of n)
