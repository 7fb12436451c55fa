-- From a tag to its time: when it carries. And from there back to a tag: how far that lies from the first.
use Rattle.std.proofs.Common.{◌≡◌, ℕ, suc, ◌+◌, ◌-◌, ◌*◌, ◌/◌, ◌%◌, ◌^◌, ◌<◌, ◌≤◌, ℤ, pos, nat_abs, refl, ap, ◌∙◌, subst, arith, le-ltb, lt-ltb}
use native.Mathlib.Decide.{dec_lt}
use Rattle.clock.specs.Nearest.{fraction_of, nanos_of}
use Rattle.clock.specs.Clock.{last_of, since1900, epoch, tag_at, tag_for, rounded_of, seconds_of, unix_for}
use Rattle.clock.specs.Shift.{shifted, signed_of, difference_of}
use Rattle.clock.specs.Promises.{last_tag, Again, moved_little, past_the_last, MovedLittle, TwoReached, Carries, Stays, CarriesPast}
use Rattle.clock.specs.declared.Rule.{Rule}
use Rattle.clock.specs.declared.Rule.TheVariants.{A, B}
use Rattle.clock.specs.Results.{At, Unix}
use Rattle.clock.proofs.Nearest.{carry-high, carry-only}
use Rattle.clock.proofs.Tags.{refused-late, tagged}
use Rattle.clock.proofs.Times.{field-wrapped, field_plain, same-time, timed}
use Rattle.clock.proofs.Domains.{TimeCase, time-of}

-- the two highest fractions carry, also past the rule's last second
pub carries : Carries
carries rule tag h l =
    let full : rounded_of tag ≡ 1_000_000_000 = carry-high (tag % 2 ^ 32) (omega arith) h in
    let one : seconds_of rule tag ≡ since1900 rule (tag / 2 ^ 32) + 1 = omega (arith, full) in
    let none : rounded_of tag % 1_000_000_000 ≡ 0 = omega (arith, full) in
    timed rule tag (omega (arith, one)) ∙ cc (one, none)

-- no other fraction carries
pub stays : Stays
stays rule tag h l =
    let part : rounded_of tag < 1_000_000_000 = carry-only (tag % 2 ^ 32) h in
    let same : seconds_of rule tag ≡ since1900 rule (tag / 2 ^ 32) = omega (arith, part) in
    let all : rounded_of tag % 1_000_000_000 ≡ rounded_of tag = omega (arith, part) in
    (timed rule tag (omega (arith, same)) ∙ cc (same, all), part)

-- the rule's last tag is the second after its last
pub carries_past : CarriesPast
unfolding unix_for
carries_past A = refl
carries_past B = refl

-- the lowest 32 bits of what a field stands for are the field
field-rest-either : (field : ℕ) → field < 2 ^ 32 → Dec (field < 2 ^ 31) → since1900 B field % 2 ^ 32 ≡ field
field-rest-either field h (yes l) = omega (arith, field-wrapped field l)
field-rest-either field h (no l) = omega (arith, field_plain field (omega arith))

field-rest : (rule : Rule) (field : ℕ) → field < 2 ^ 32 → since1900 rule field % 2 ^ 32 ≡ field
field-rest A field h = omega arith
field-rest B field h = field-rest-either field h (dec_lt field (2 ^ 31))

-- the tag of seconds S and of the nanoseconds that a fraction f was rounded to, the carry with them
abbrev again : ℕ → ℕ → ℕ
again S f = tag_at (S + nanos_of f / 1_000_000_000) (fraction_of (nanos_of f % 1_000_000_000))

-- a fraction that was rounded to nanoseconds and back
fraction-near : (f : ℕ) → (fraction_of (nanos_of f) ≤ f + 2) × (f ≤ fraction_of (nanos_of f) + 2)
fraction-near f = omega arith

-- u lies at most 2 from t, or t at most 2 below the wrap and u at it
around : (t u : ℕ) → t < 2 ^ 64 → u ≤ t + 2 → t ≤ u + 2 → shifted (u + 2) (2 ^ 64 - t) ≤ 4
around t u h l m = omega arith

at-wrap : (t : ℕ) → t < 2 ^ 64 → 2 ^ 64 ≤ t + 2 → shifted (0 + 2) (2 ^ 64 - t) ≤ 4
at-wrap t h l = omega arith

near-carried : (S field f u : ℕ) → S % 2 ^ 32 ≡ field → f < 2 ^ 32 → 2 ^ 32 - 2 ≤ f → u ≡ (S + 1) % 2 ^ 32 * 2 ^ 32
    → Dec (field + 1 < 2 ^ 32)
    → shifted (u + 2) (2 ^ 64 - (field * 2 ^ 32 + f)) ≤ 4
near-carried S field f u e h l q (yes m) =
    let up : (S + 1) % 2 ^ 32 ≡ field + 1 = omega arith in
    around (field * 2 ^ 32 + f) u (omega arith) (omega (arith, up)) (omega (arith, up))
near-carried S field f u e h l q (no m) =
    let up : (S + 1) % 2 ^ 32 ≡ 0 = omega arith in
    let none : u ≡ 0 = omega (arith, up) in
    rw none (at-wrap (field * 2 ^ 32 + f) (omega arith) (omega arith))

near-either : (S field f : ℕ) → S % 2 ^ 32 ≡ field → f < 2 ^ 32 → Dec (f < 2 ^ 32 - 2)
    → shifted (again S f + 2) (2 ^ 64 - (field * 2 ^ 32 + f)) ≤ 4
near-either S field f e h (yes l) =
    let part : nanos_of f % 1_000_000_000 ≡ nanos_of f = omega (arith, carry-only f l) in
    let none : S + nanos_of f / 1_000_000_000 ≡ S = omega (arith, carry-only f l) in
    let seconds : (S + nanos_of f / 1_000_000_000) % 2 ^ 32 ≡ field = ap (λ (k : ℕ). k % 2 ^ 32) none ∙ e in
    let rest : again S f ≡ field * 2 ^ 32 + fraction_of (nanos_of f) = omega (arith, seconds, ap fraction_of part) in
    rw rest
    (around (field * 2 ^ 32 + f) (field * 2 ^ 32 + fraction_of (nanos_of f)) (omega arith) (omega (arith, fraction-near f))
    (omega (arith, fraction-near f)))
near-either S field f e h (no l) =
    let full : nanos_of f ≡ 1_000_000_000 = carry-high f h (omega arith) in
    let one : S + nanos_of f / 1_000_000_000 ≡ S + 1 = omega (arith, full) in
    let none : fraction_of (nanos_of f % 1_000_000_000) ≡ 0 = omega (arith, full) in
    near-carried S field f (again S f) e h (omega arith) (omega (arith, none, ap (λ (k : ℕ). k % 2 ^ 32) one)) (dec_lt (field + 1) (2 ^ 32))

-- what lies at most 2 from a tag, on either side and around the wrap, differs from it by at most 2
abbrev Difference : ℕ → Type 0
Difference d = nat_abs (signed_of d) ≤ 2

difference_low : (d : ℕ) → d < 2 ^ 63 → d ≤ 2 → Difference d
difference_low d h l = rw (lt-ltb d (2 ^ 63) h) l

difference-high : (d : ℕ) → 2 ^ 63 ≤ d → d < 2 ^ 64 → 2 ^ 64 ≤ d + 2 → Difference d
difference-high d h k l =
    let e : 2 ^ 64 - d ≡ suc (2 ^ 64 - suc d) = omega arith in
    rw (le-ltb d (2 ^ 63) h, e) (omega arith)

difference-either : (d : ℕ) → d < 2 ^ 64 → (d + 2) % 2 ^ 64 ≤ 4 → Dec (d < 2 ^ 63) → Difference d
difference-either d k l (yes h) = difference_low d h (omega arith)
difference-either d k l (no h) = difference-high d (omega arith) k (omega arith)

near-differs : (t u : ℕ) → shifted (u + 2) (2 ^ 64 - t) ≤ 4 → nat_abs (difference_of u t) ≤ 2
near-differs t u l =
    let d = (u + (2 ^ 64 - t)) % 2 ^ 64 in
    difference-either d (omega arith) (omega arith) (dec_lt d (2 ^ 63))

-- a time past the rule's last second is that of one of its two last tags
past-b : (field f : ℕ) → field < 2 ^ 32 → f < 2 ^ 32 → 2 ^ 32 - 2 ≤ f → last_of B + epoch < since1900 B field + 1 → Dec (field < 2 ^ 31)
    → (last_tag B ≤ field * 2 ^ 32 + f + 1) × (field * 2 ^ 32 + f ≤ last_tag B)
past-b field f h k l m (yes w) =
    let last : field ≡ 2_147_483_647 = omega (arith, field-wrapped field w) in
    (omega (arith, last), omega (arith, last))
past-b field f h k l m (no w) = absurd (omega (arith, field_plain field (omega arith)))

past : (rule : Rule) (field f : ℕ) → field < 2 ^ 32 → f < 2 ^ 32 → 2 ^ 32 - 2 ≤ f → last_of rule + epoch < since1900 rule field + 1
    → (last_tag rule ≤ field * 2 ^ 32 + f + 1) × (field * 2 ^ 32 + f ≤ last_tag rule)
past A field f h k l m = (omega arith, omega arith)
past B field f h k l m = past-b field f h k l m (dec_lt field (2 ^ 31))

-- no field stands for a second past it
since-last-b : (field : ℕ) → field < 2 ^ 32 → Dec (field < 2 ^ 31) → since1900 B field ≤ last_of B + epoch
since-last-b field h (yes l) = omega (arith, field-wrapped field l)
since-last-b field h (no l) = omega (arith, field_plain field (omega arith))

kept_since_last : (rule : Rule) (field : ℕ) → field < 2 ^ 32 → since1900 rule field ≤ last_of rule + epoch
kept_since_last A field h = omega arith
kept_since_last B field h = since-last-b field h (dec_lt field (2 ^ 31))

past-either : (rule : Rule) (tag : ℕ) → tag < 2 ^ 64 → last_of rule + epoch < seconds_of rule tag → Dec (tag % 2 ^ 32 < 2 ^ 32 - 2)
    → (last_tag rule ≤ tag + 1) × (tag ≤ last_tag rule)
past-either rule tag fits m (yes l) =
    let none : rounded_of tag / 1_000_000_000 ≡ 0 = omega (arith, carry-only (tag % 2 ^ 32) l) in
    absurd (omega (arith, none, kept_since_last rule (tag / 2 ^ 32) (omega arith)))
past-either rule tag fits m (no l) =
    let one : rounded_of tag / 1_000_000_000 ≡ 1 = omega (arith, carry-high (tag % 2 ^ 32) (omega arith) (omega arith)) in
    let p = past rule (tag / 2 ^ 32) (tag % 2 ^ 32) (omega arith) (omega arith) (omega arith) (omega (arith, one)) in
    (omega (arith, p.0), omega (arith, p.1))

-- the time of a tag, turned into a tag again
again-either : (rule : Rule) (tag s : ℕ) → tag < 2 ^ 64 → s + epoch ≡ seconds_of rule tag → Dec (last_of rule < s)
    → Again rule tag (tag_for rule (pos s) (rounded_of tag % 1_000_000_000))
again-either rule tag s fits q (yes l) =
    let p = past-either rule tag fits (omega (arith, q, l)) (dec_lt (tag % 2 ^ 32) (2 ^ 32 - 2)) in
    rw (refused-late rule s (rounded_of tag % 1_000_000_000) (omega arith) l) (past_the_last p.0 p.1)
again-either rule tag s fits q (no l) =
    let S = since1900 rule (tag / 2 ^ 32) in
    let f = tag % 2 ^ 32 in
    let u = tag_at (s + epoch) (fraction_of (nanos_of f % 1_000_000_000)) in
    let us : again S f ≡ u = cc (q) in
    let whole : tag / 2 ^ 32 * 2 ^ 32 + f ≡ tag = omega arith in
    let near = near-either S (tag / 2 ^ 32) f (field-rest rule (tag / 2 ^ 32) (omega arith)) (omega arith) (dec_lt f (2 ^ 32 - 2)) in
    rw (tagged rule s (rounded_of tag % 1_000_000_000) (omega arith) (omega arith))
    (moved_little u
    (subst (λ (t : ℕ). nat_abs (difference_of u t) ≤ 2) whole
    (subst (λ (v : ℕ). nat_abs (difference_of v (tag / 2 ^ 32 * 2 ^ 32 + f)) ≤ 2) us (near-differs _ (again S f) near))))

case-again : {rule : Rule} {tag : ℕ} {r : Unix} (z : ℤ) (n : ℕ) → tag < 2 ^ 64 → TimeCase rule tag r → r ≡ At z n
    → Again rule tag (tag_for rule z n)
case-again z n fits (TimeCase.before-1970 h) e = let never : ◌≡◌ {A = ℕ} 0 1 = cc in absurd (omega arith)
case-again {rule} {tag} z n fits (TimeCase.since-1970 {s} q) e =
    let same = same-time e in
    rw (← same.0, ← same.1) (again-either rule tag s fits q (dec_lt (last_of rule) s))

-- it lies at most 2 fractions from the tag, on either side and around the wrap, or is past the last second
pub moved-at-most-two : MovedLittle
moved-at-most-two rule tag z n fits e = case-again z n fits (time-of rule tag) e

-- and 2 are reached
pub two_reached : (rule : Rule) → TwoReached rule
unfolding tag_for unix_for
two_reached A = record { from_6 = refl; to_4 = refl; from_28 = refl; to_30 = refl }
two_reached B = record { from_6 = refl; to_4 = refl; from_28 = refl; to_30 = refl }
