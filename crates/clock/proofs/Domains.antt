-- The domains of the refusals are exactly the ticket's: each input has one of the cases, and no two cases hold of one input.
use Rattle.std.proofs.Common.{◌≡◌, ℕ, ◌+◌, ◌-◌, ◌*◌, ◌/◌, ◌%◌, ◌^◌, ◌<◌, ◌≤◌, ℤ, pos, negsuc, nat_abs, sym, ap, ◌∙◌, subst, arith}
use native.Mathlib.Decide.{dec_lt}
use Rattle.clock.specs.Nearest.{nanos_of}
use Rattle.clock.specs.Clock.{last_of, epoch, since1900, tag_for, rounded_of, seconds_of, unix_for}
use Rattle.clock.specs.Promises.{TagCase, nanoseconds, late, early, has_tag, TagDomains, first_tag, Before1970, UnixDomains}
use Rattle.clock.specs.Promises.{NeverLate, TimesNormal}
use Rattle.clock.specs.declared.Rule.{Rule}
use Rattle.clock.specs.declared.Rule.TheVariants.{A, B}
use Rattle.clock.specs.declared.OutOfRange.{OutOfRange}
use Rattle.clock.specs.declared.OutOfRange.TheVariants.{TooEarly}
use Rattle.clock.specs.Results.{Tagged, Unix}
use Rattle.std.specs.Prelude.{Err}
use Rattle.clock.specs.Results as Unix
use Rattle.clock.proofs.Nearest.{carry-high, carry-only}
use Rattle.clock.proofs.Tags.{refused-nanoseconds, refused-late, refused-early, tagged}
use Rattle.clock.proofs.Times.{field-wrapped, field_plain, refused-before-1970, same-time, timed}

case-seconds : (rule : Rule) (s n : ℕ) → n < 1_000_000_000 → Dec (last_of rule < s) → TagCase rule (pos s) n (tag_for rule (pos s) n)
case-seconds rule s n h (yes l) = rw (refused-late rule s n h l) (late {n = n} (omega arith) l)
case-seconds rule s n h (no l) = let e : s ≤ last_of rule = omega arith in rw (tagged rule s n h e) (has_tag h e)

case-below : (rule : Rule) (z : ℤ) (n : ℕ) → n < 1_000_000_000 → TagCase rule z n (tag_for rule z n)
case-below rule (pos s) n h = case-seconds rule s n h (dec_lt (last_of rule) s)
case-below rule (negsuc s) n h = rw (refused-early rule s n h) (early h)

case-either : (rule : Rule) (z : ℤ) (n : ℕ) → Dec (n < 1_000_000_000) → TagCase rule z n (tag_for rule z n)
case-either rule z n (yes h) = case-below rule z n h
case-either rule z n (no h) =
    let e : 1_000_000_000 ≤ n = omega arith in
    rw (refused-nanoseconds rule z n e) (nanoseconds e)

-- the answer of `tag_for` is that of the case
pub case-of : (rule : Rule) (z : ℤ) (n : ℕ) → TagCase rule z n (tag_for rule z n)
case-of rule z n = case-either rule z n (dec_lt n 1_000_000_000)

-- and an answer of a case is that of `tag_for`
pub case-answers : {rule : Rule} {z : ℤ} {n : ℕ} {r : Tagged} → TagCase rule z n r → tag_for rule z n ≡ r
case-answers {rule} (nanoseconds {z} {n} h) = refused-nanoseconds rule z n h
case-answers {rule} (late {s} {n} h l) = refused-late rule s n (omega arith) l
case-answers {rule} (early {s} {n} h) = refused-early rule s n h
case-answers {rule} (has_tag {s} {n} h l) = tagged rule s n h l

-- so the domains are those of the cases
pub tag_domains : TagDomains
tag_domains rule z n r = (λ c. case-answers c, λ e. subst (TagCase rule z n) e (case-of rule z n))

-- what `unix_of` is asked, and what it answers: 28 after the carry, and no other refusal
pub data TimeCase (rule : Rule) (tag : ℕ) : Unix → Type 0 where
  before-1970 : seconds_of rule tag < epoch → TimeCase rule tag (Err TooEarly)
  since-1970 : {s : ℕ} → s + epoch ≡ seconds_of rule tag → TimeCase rule tag (Unix.At (pos s) (rounded_of tag % 1_000_000_000))

time-either : (rule : Rule) (tag : ℕ) → Dec (seconds_of rule tag < epoch) → TimeCase rule tag (unix_for rule tag)
time-either rule tag (yes l) = rw (refused-before-1970 rule tag l) (before-1970 l)
time-either rule tag (no l) =
    let e : epoch ≤ seconds_of rule tag = omega arith in
    rw (timed rule tag e) (since-1970 {s = seconds_of rule tag - epoch} (omega arith))

pub time-of : (rule : Rule) (tag : ℕ) → TimeCase rule tag (unix_for rule tag)
time-of rule tag = time-either rule tag (dec_lt (seconds_of rule tag) epoch)

-- "a tag on its way to Unix time is never refused by 27", nor by 26
only-28 : {rule : Rule} {tag : ℕ} {r : Unix} (reason : OutOfRange) → TimeCase rule tag r → r ≡ Err reason → reason ≡ TooEarly
only-28 reason (before-1970 h) e = cc
only-28 reason (since-1970 q) e = let never : ◌≡◌ {A = ℕ} 0 1 = cc in absurd (omega arith)

pub never-27 : NeverLate
never-27 rule tag reason e = only-28 reason (time-of rule tag) e

-- a time is of 1970 or later, and has fewer than 10^9 nanoseconds
case-normal : {rule : Rule} {tag : ℕ} {r : Unix} (z : ℤ) (n : ℕ) → TimeCase rule tag r → r ≡ Unix.At z n
    → (z ≡ pos (nat_abs z)) × (n < 1_000_000_000)
case-normal z n (before-1970 h) e = let never : ◌≡◌ {A = ℕ} 0 1 = cc in absurd (omega arith)
case-normal {rule} {tag} z n (since-1970 {s} q) e =
    let same = same-time e in
    (sym same.0 ∙ ap (λ (x : ℤ). pos (nat_abs x)) same.0, omega (arith, same.1))

pub times_normal : TimesNormal
times_normal rule tag z n e = case-normal z n (time-of rule tag) e

-- ---- the tags that 28 refuses

-- a field and a fraction, with the carry, come before 1970 exactly if the tag comes before the first that reaches it
abbrev EarlySum : ℕ → ℕ → Type 0
EarlySum field f =
    (field * 2 ^ 32 + f < first_tag → field + nanos_of f / 1_000_000_000 < epoch)
    × (field + nanos_of f / 1_000_000_000 < epoch → field * 2 ^ 32 + f < first_tag)

early-sum : (field f : ℕ) → f < 2 ^ 32 → Dec (f < 2 ^ 32 - 2) → EarlySum field f
early-sum field f h (yes l) =
    let none : nanos_of f / 1_000_000_000 ≡ 0 = omega (arith, carry-only f l) in
    (λ q. omega (arith, none, q), λ q. omega (arith, none, q))
early-sum field f h (no l) =
    let one : nanos_of f / 1_000_000_000 ≡ 1 = omega (arith, carry-high f h (omega arith)) in
    (λ q. omega (arith, one, q), λ q. omega (arith, one, q))

early-of : (tag : ℕ) → EarlySum (tag / 2 ^ 32) (tag % 2 ^ 32)
early-of tag = early-sum (tag / 2 ^ 32) (tag % 2 ^ 32) (omega arith) (dec_lt (tag % 2 ^ 32) (2 ^ 32 - 2))

early-seconds : (rule : Rule) (tag : ℕ) → Before1970 rule tag → seconds_of rule tag < epoch
early-seconds A tag b = (early-of tag).0 (omega (arith, b))
early-seconds B tag b = omega (arith, field_plain (tag / 2 ^ 32) (omega (arith, b.0)), (early-of tag).0 (omega (arith, b.1)))

early-tag-b : (tag : ℕ) → seconds_of B tag < epoch → Dec (tag / 2 ^ 32 < 2 ^ 31) → Before1970 B tag
early-tag-b tag h (yes l) = absurd (omega (arith, field-wrapped (tag / 2 ^ 32) l, h))
early-tag-b tag h (no l) =
    let plain : since1900 B (tag / 2 ^ 32) ≡ tag / 2 ^ 32 = field_plain (tag / 2 ^ 32) (omega arith) in
    (omega arith, omega (arith, (early-of tag).1 (omega (arith, plain, h))))

early-tag : (rule : Rule) (tag : ℕ) → seconds_of rule tag < epoch → Before1970 rule tag
early-tag A tag h = omega (arith, (early-of tag).1 h)
early-tag B tag h = early-tag-b tag h (dec_lt (tag / 2 ^ 32) (2 ^ 31))

refused-is : {rule : Rule} {tag : ℕ} {r : Unix} → TimeCase rule tag r → r ≡ Err TooEarly → seconds_of rule tag < epoch
refused-is (before-1970 h) e = h
refused-is (since-1970 q) e = let never : ◌≡◌ {A = ℕ} 0 1 = cc in absurd (omega arith)

pub unix_domains : UnixDomains
unix_domains rule tag = (
  (λ b. refused-before-1970 rule tag (early-seconds rule tag b)),
  (λ e. early-tag rule tag (refused-is (time-of rule tag) e)),
)
