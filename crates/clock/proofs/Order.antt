-- Order is kept within an era: first for what tags stand for, the fractions since 1900, and then for the tags themselves.
use Rattle.std.proofs.Common.{◌≡◌, ℕ, ◌+◌, ◌*◌, ◌/◌, ◌%◌, ◌^◌, ◌<◌, ◌≤◌, ℤ, pos, sym, refl, ap, ◌∙◌, arith, le-ltb, lt-ltb}
use native.Mathlib.Decide.{dec_lt}
use Rattle.clock.specs.Nearest.{fraction_of, nanos_of}
use Rattle.clock.specs.Clock.{since1900, epoch, tag_at, rounded_of, seconds_of}
use Rattle.clock.specs.Promises.{TagCase, era_of, OrderKept, LaterHigher}
use Rattle.clock.specs.declared.Rule.{Rule}
use Rattle.clock.specs.declared.Rule.TheVariants.{A, B}
use Rattle.clock.specs.Results.{At, Tagged, Unix}
use Rattle.std.specs.Prelude.{Ok}
use Rattle.clock.proofs.Times.{field-wrapped, field_plain, same-time}
use Rattle.clock.proofs.Domains.{case-of, TimeCase, time-of}
use Rattle.clock.proofs.Returns.{field-stands, upper, lower}

-- the fractions from 1900 to a tag
abbrev fractions_of : Rule → ℕ → ℕ
fractions_of rule tag = since1900 rule (tag / 2 ^ 32) * 2 ^ 32 + tag % 2 ^ 32

-- the nanoseconds from 1900 to the time of a tag
abbrev nanos_since : Rule → ℕ → ℕ
nanos_since rule tag = seconds_of rule tag * 1_000_000_000 + rounded_of tag % 1_000_000_000

halves-kept : (s t f g : ℕ) → f < 2 ^ 32 → g < 2 ^ 32 → s * 2 ^ 32 + f ≤ t * 2 ^ 32 + g → Dec (s < t)
    → s * 1_000_000_000 + nanos_of f ≤ t * 1_000_000_000 + nanos_of g
halves-kept s t f g h k l (yes m) = omega arith
halves-kept s t f g h k l (no m) = omega arith

-- a tag that is not later has a time that is not later
fractions-kept : (rule : Rule) (t u : ℕ) → fractions_of rule t ≤ fractions_of rule u → nanos_since rule t ≤ nanos_since rule u
fractions-kept rule t u l =
    let s = since1900 rule (t / 2 ^ 32) in
    let v = since1900 rule (u / 2 ^ 32) in
    omega (arith, halves-kept s v (t % 2 ^ 32) (u % 2 ^ 32) (omega arith) (omega arith) l (dec_lt s v))

-- and a later time has a later tag
later-tag : (s t n m : ℕ) → n < 1_000_000_000 → m < 1_000_000_000 → s * 1_000_000_000 + n < t * 1_000_000_000 + m
    → s * 2 ^ 32 + fraction_of n < t * 2 ^ 32 + fraction_of m
later-tag s t n m h k l = later (dec_lt s t)
  where
    later : Dec (s < t) → s * 2 ^ 32 + fraction_of n < t * 2 ^ 32 + fraction_of m
    later (yes q) = omega arith
    later (no q) = let e : s ≡ t = omega arith in omega arith

-- ---- within an era

era-low : (t : ℕ) → t < 2 ^ 63 → era_of B t ≡ 1
era-low t h = rw (lt-ltb t (2 ^ 63) h)

era-high : (t : ℕ) → 2 ^ 63 ≤ t → era_of B t ≡ 0
era-high t h = rw (le-ltb t (2 ^ 63) h)

-- within an era the tags have the order of what they stand for
abbrev SameOrder : Rule → ℕ → ℕ → Type 0
SameOrder rule t u = (t ≤ u → fractions_of rule t ≤ fractions_of rule u) × (fractions_of rule t < fractions_of rule u → t < u)

order-b : (t u : ℕ) → era_of B t ≡ era_of B u → Dec (t < 2 ^ 63) → Dec (u < 2 ^ 63) → SameOrder B t u
order-b t u e (yes h) (yes k) =
    let a = field-wrapped (t / 2 ^ 32) (omega arith) in
    let b = field-wrapped (u / 2 ^ 32) (omega arith) in
    (λ l. omega (arith, a, b, l), λ l. omega (arith, a, b, l))
order-b t u e (yes h) (no k) = absurd (omega (arith, e, era-low t h, era-high u (omega arith)))
order-b t u e (no h) (yes k) = absurd (omega (arith, e, era-high t (omega arith), era-low u k))
order-b t u e (no h) (no k) =
    let a = field_plain (t / 2 ^ 32) (omega arith) in
    let b = field_plain (u / 2 ^ 32) (omega arith) in
    (λ l. omega (arith, a, b, l), λ l. omega (arith, a, b, l))

same-order : (rule : Rule) (t u : ℕ) → era_of rule t ≡ era_of rule u → SameOrder rule t u
same-order A t u e = (λ l. omega (arith, l), λ l. omega (arith, l))
same-order B t u e = order-b t u e (dec_lt t (2 ^ 63)) (dec_lt u (2 ^ 63))

-- the time of a tag, in nanoseconds since 1900
time-nanos : {rule : Rule} {t : ℕ} {r : Unix} (s n : ℕ) → TimeCase rule t r → r ≡ At (pos s) n
    → nanos_since rule t ≡ (s + epoch) * 1_000_000_000 + n
time-nanos s n (TimeCase.before-1970 h) e = let never : ◌≡◌ {A = ℕ} 0 1 = cc in absurd (omega arith)
time-nanos {rule} {t} s n (TimeCase.since-1970 {s = v} q) e =
    let same = same-time e in
    let seconds : v ≡ s = cc (same.0) in
    omega (arith, seconds, same.1, q)

pub order_kept : OrderKept
order_kept rule t u s n s' n' era l e f =
    omega (
      arith,
      fractions-kept rule t u ((same-order rule t u era).0 l),
      time-nanos s n (time-of rule t) e,
      time-nanos s' n' (time-of rule u) f,
    )

-- the tag of a time, in fractions since 1900
tag-fractions : {rule : Rule} {z : ℤ} {n : ℕ} {r : Tagged} (s t : ℕ) → TagCase rule z n r → z ≡ pos s → r ≡ Ok t
    → (n < 1_000_000_000) × (fractions_of rule t ≡ (s + epoch) * 2 ^ 32 + fraction_of n)
tag-fractions s t (TagCase.nanoseconds h) q e = let never : ◌≡◌ {A = ℕ} 0 1 = cc in absurd (omega arith)
tag-fractions s t (TagCase.late h l) q e = let never : ◌≡◌ {A = ℕ} 0 1 = cc in absurd (omega arith)
tag-fractions s t (TagCase.early h) q e = let never : ◌≡◌ {A = ℕ} 0 1 = cc in absurd (omega arith)
tag-fractions {rule} s t (TagCase.has_tag {s = v} {n = n} h l) q e =
    let same : v ≡ s = cc in
    let ts : tag_at (v + epoch) (fraction_of n) ≡ t = cc in
    let stands = ap (since1900 rule) (upper rule v n h l) ∙ field-stands rule v l in
    (h, ap (fractions_of rule) (sym ts) ∙ omega (arith, stands, lower rule v n h l, same))

pub later_higher : LaterHigher
later_higher rule t u s n s' n' era l e f =
    let a = tag-fractions s t (case-of rule (pos s) n) refl e in
    let b = tag-fractions s' u (case-of rule (pos s') n') refl f in
    let later = later-tag (s + epoch) (s' + epoch) n n' a.0 b.0 (omega (arith, l)) in
    (same-order rule t u era).1 (omega (arith, a.1, b.1, later))
