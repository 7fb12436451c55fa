-- What `unix_for` says, case by case.
use Rattle.std.proofs.Common.{◌≡◌, ℕ, ◌+◌, ◌-◌, ◌/◌, ◌%◌, ◌^◌, ◌<◌, ◌≤◌, ℤ, pos, ap, ◌∙◌, arith, w64, to_z, le-ltb, lt-ltb}
use native.Mathlib.Decide.{dec_lt}
use mir.Facts.{to_z_pos}
use Rattle.clock.specs.Clock.{since1900, epoch, rounded_of, seconds_of, unix_for}
use Rattle.clock.specs.declared.Rule.{Rule}
use Rattle.clock.specs.declared.Rule.TheVariants.{A, B}
use Rattle.clock.specs.declared.OutOfRange.TheVariants.{TooEarly}
use Rattle.clock.specs.declared.UnixTime.{UnixTime}
use Rattle.clock.specs.Results.{At}
use Rattle.std.specs.Prelude.{Err}

abbrev time : ℤ → ℕ → UnixTime
time seconds nanos = record { seconds = seconds; nanos = nanos }

-- times that are one answer are of one second and one nanosecond
pub same-time : {y z : ℤ} {m n : ℕ} → At y m ≡ At z n → (y ≡ z) × (m ≡ n)
same-time {y} {z} {m} {n} e =
    let same : time y m ≡ time z n = cc in
    (ap (λ (t : UnixTime). t.seconds) same, ap (λ (t : UnixTime). t.nanos) same)

-- what a seconds field stands for, case by case
pub field-wrapped : (field : ℕ) → field < 2 ^ 31 → since1900 B field ≡ field + 2 ^ 32
field-wrapped field h = rw (lt-ltb field (2 ^ 31) h)

pub field_plain : (field : ℕ) → 2 ^ 31 ≤ field → since1900 B field ≡ field
field_plain field h = rw (le-ltb field (2 ^ 31) h)

since-below-either : (field : ℕ) → field < 2 ^ 32 → Dec (field < 2 ^ 31) → since1900 B field < 2 ^ 33
since-below-either field h (yes l) = omega (arith, field-wrapped field l)
since-below-either field h (no l) = let e : 2 ^ 31 ≤ field = omega arith in omega (arith, field_plain field e)

pub since-below : (rule : Rule) (field : ℕ) → field < 2 ^ 32 → since1900 rule field < 2 ^ 33
since-below A field h = omega arith
since-below B field h = since-below-either field h (dec_lt field (2 ^ 31))

-- 28, after the carry
pub refused-before-1970 : (rule : Rule) (tag : ℕ) → seconds_of rule tag < epoch → unix_for rule tag ≡ Err TooEarly
unfolding unix_for
refused-before-1970 rule tag h = rw (lt-ltb (seconds_of rule tag) epoch h)

-- a time for every other tag
pub timed : (rule : Rule) (tag : ℕ) → epoch ≤ seconds_of rule tag
    → unix_for rule tag ≡ At (pos (seconds_of rule tag - epoch)) (rounded_of tag % 1_000_000_000)
unfolding unix_for
timed rule tag h = rw (le-ltb (seconds_of rule tag) epoch h)

-- the same in the words of the code: s is what the field stands for, n the rounded nanoseconds
module _ (rule : Rule) (tag s n : ℕ) (field : s ≡ since1900 rule (tag / 2 ^ 32)) (rounded : n ≡ rounded_of tag) (fits : tag < 2 ^ 64) where
  pub seconds-below : s + n / 1_000_000_000 < 2 ^ 34
  seconds-below = omega (arith, since-below rule (tag / 2 ^ 32) (omega arith))

  seconds-are : seconds_of rule tag ≡ s + n / 1_000_000_000
  seconds-are = omega arith

  pub code-early : s + n / 1_000_000_000 < epoch → unix_for rule tag ≡ Err TooEarly
  code-early h = refused-before-1970 rule tag (omega (arith, seconds-are))

  pub code_at : epoch ≤ s + n / 1_000_000_000
      → unix_for rule tag ≡ At (to_z w64 (s + n / 1_000_000_000 - epoch)) (n % 1_000_000_000)
  code_at h =
      timed rule tag (omega (arith, seconds-are))
      ∙ cc (seconds-are, to_z_pos w64 {n = s + n / 1_000_000_000 - epoch} (omega (arith, seconds-below)))
