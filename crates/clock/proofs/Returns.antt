-- Ticket 7, "a nanosecond value returns unchanged": for both rules, every second that is allowed, and every nanosecond value.
use Rattle.std.proofs.Common.{◌≡◌, ℕ, ◌+◌, ◌-◌, ◌/◌, ◌%◌, ◌^◌, ◌<◌, ◌≤◌, ℤ, pos, sym, ap, ◌∙◌, arith}
use native.Mathlib.Decide.{dec_lt}
use Rattle.clock.specs.Nearest.{fraction_of, nanos_of}
use Rattle.clock.specs.Clock.{since1900, last_of, epoch, tag_at, tag_for, rounded_of, seconds_of, unix_for, back_from, returned}
use Rattle.clock.specs.Promises.{TagCase, ReturnsUnchanged}
use Rattle.clock.specs.declared.Rule.{Rule}
use Rattle.clock.specs.declared.Rule.TheVariants.{A, B}
use Rattle.clock.specs.Results.{At, Tagged}
use Rattle.std.specs.Prelude.{Err, Ok}
use Rattle.clock.specs.declared.OutOfRange.{OutOfRange}
use Rattle.clock.proofs.Nearest.{nanos-return}
use Rattle.clock.proofs.Times.{field-wrapped, field_plain, timed}
use Rattle.clock.proofs.Domains.{case-of}

-- the seconds field of an allowed second stands for it
field-either : (s : ℕ) → s ≤ last_of B → Dec (s + epoch < 2 ^ 32) → since1900 B ((s + epoch) % 2 ^ 32) ≡ s + epoch
field-either s h (yes l) = omega (arith, field_plain ((s + epoch) % 2 ^ 32) (omega arith))
field-either s h (no l) = omega (arith, field-wrapped ((s + epoch) % 2 ^ 32) (omega arith))

pub field-stands : (rule : Rule) (s : ℕ) → s ≤ last_of rule → since1900 rule ((s + epoch) % 2 ^ 32) ≡ s + epoch
field-stands A s h = omega arith
field-stands B s h = field-either s h (dec_lt (s + epoch) (2 ^ 32))

module _ (rule : Rule) (s nanos : ℕ) (below : nanos < 1_000_000_000) (in_range : s ≤ last_of rule) where
  abbrev tag : ℕ
  tag = tag_at (s + epoch) (fraction_of nanos)

  -- the two halves of the tag
  pub upper : tag / 2 ^ 32 ≡ (s + epoch) % 2 ^ 32
  upper = omega arith

  pub lower : tag % 2 ^ 32 ≡ fraction_of nanos
  lower = omega arith

  rounded : rounded_of tag ≡ nanos
  rounded = ap nanos_of lower ∙ nanos-return nanos below

  seconds : seconds_of rule tag ≡ s + epoch
  seconds = omega (arith, ap (since1900 rule) upper, field-stands rule s in_range, rounded)

  time-returns : unix_for rule tag ≡ At (pos s) nanos
  time-returns =
      let s-back : seconds_of rule tag - epoch ≡ s = omega (arith, seconds) in
      let n-back : rounded_of tag % 1_000_000_000 ≡ nanos = omega (arith, rounded) in
      timed rule tag (omega (arith, seconds)) ∙ cc (s-back, n-back)

case-returns : {rule : Rule} {z : ℤ} {n : ℕ} {r : Tagged} (t : ℕ) → TagCase rule z n r → r ≡ Ok t → unix_for rule t ≡ At z n
case-returns t (TagCase.nanoseconds h) e = let never : ◌≡◌ {A = ℕ} 0 1 = cc in absurd (omega arith)
case-returns t (TagCase.late h l) e = let never : ◌≡◌ {A = ℕ} 0 1 = cc in absurd (omega arith)
case-returns t (TagCase.early h) e = let never : ◌≡◌ {A = ℕ} 0 1 = cc in absurd (omega arith)
case-returns {rule} t (TagCase.has_tag {s} {n} h l) e =
    let same : tag_at (s + epoch) (fraction_of n) ≡ t = cc in
    ap (unix_for rule) (sym same) ∙ time-returns rule s n h l

-- every time that has a tag comes back from it unchanged
pub returns_unchanged : ReturnsUnchanged
returns_unchanged rule z n t e = case-returns t (case-of rule z n) e

-- what comes back by way of a tag
pub returned-tag : (rule : Rule) (z : ℤ) (n t : ℕ) → tag_for rule z n ≡ Ok t → unix_for rule t ≡ returned rule z n
returned-tag rule z n t e = returns_unchanged rule z n t e ∙ sym (ap (back_from z n) e)

pub returned-refused : (rule : Rule) (z : ℤ) (n : ℕ) (r : OutOfRange) → tag_for rule z n ≡ Err r → Err r ≡ returned rule z n
returned-refused rule z n r e = sym (ap (back_from z n) e)
