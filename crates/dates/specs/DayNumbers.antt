-- The number of a date, counted another way: the days of the years before it, of the months before it in its year, and before it in its
-- month. proofs/Inverse.antt shows that this and `date_of` undo each other.
use Rattle.std.specs.Prelude.{cond, ℕ, zero, suc, ◌+◌, ◌-◌, ◌≤◌}
use Rattle.dates.specs.Dates.{is_leap, days_in}
use Rattle.dates.specs.declared.Date.{Date}

-- how many days a year has
abbrev pub year_days : ℕ → ℕ
year_days year = cond (is_leap year) 366 365

-- the days of the first n years from 1970 on
unfoldable pub years_before : ℕ → ℕ
years_before zero = 0
years_before (suc n) = years_before n + year_days (1970 + n)

-- the days of the first n months of a year
unfoldable pub months_before : ℕ → ℕ → ℕ
months_before year zero = 0
months_before year (suc n) = months_before year n + days_in year (suc n)

-- the number of a date
unfoldable pub day_of : Date → ℕ
day_of d = years_before (d.year - 1970) + months_before d.year (d.month - 1) + (d.day - 1)

-- a date that there is, from 1970 on
pub record IsDate (d : Date) : Type 0 where
  pub from : 1970 ≤ d.year
  pub first : 1 ≤ d.month
  pub last : d.month ≤ 12
  pub begins : 1 ≤ d.day
  pub within : d.day ≤ days_in d.year d.month
