-- What `tag_for` says, case by case: the domains of its refusals, and the tag.
use Rattle.std.proofs.Common.{◌≡◌, ℕ, ◌+◌, ◌/◌, ◌%◌, ◌^◌, ◌<◌, ◌≤◌, cond, leb, ℤ, pos, negsuc, ◌+ℤ◌, nat_abs, ap, ◌∙◌, arith, le-ltb, lt-ltb, le-leb}
use lib.IntN.{+ℤ_idr}
use lib.Signed.{lt_z}
use borrow.Author.Tests.{lt-leb}
use Rattle.clock.specs.Nearest.{fraction_of}
use Rattle.clock.specs.Clock.{last_of, epoch, carried, tag_at, tag_for}
use Rattle.clock.specs.declared.Rule.{Rule}
use Rattle.clock.specs.declared.OutOfRange.TheVariants.{Nanoseconds, TooLate, TooEarly}
use Rattle.clock.specs.Results.{Tagged}
use Rattle.std.specs.Prelude.{Err, Ok}

-- a carry on the way to a tag never happens
pub carried_same : (seconds : ℤ) (nanos : ℕ) → nanos < 1_000_000_000 → carried seconds nanos ≡ seconds
carried_same seconds nanos h =
    let e : fraction_of nanos / 2 ^ 32 ≡ 0 = omega arith in
    ap (λ (n : ℕ). seconds +ℤ pos n) e ∙ +ℤ_idr seconds

-- the answer once the nanoseconds are known to be below 10^9, without the carry
below : Rule → ℤ → ℤ → ℕ → Tagged
below rule seconds after fraction =
    cond (lt_z (pos (last_of rule)) seconds) (Err TooLate)
    (cond (lt_z after (pos 0)) (Err TooEarly) (Ok (tag_at (nat_abs after + epoch) fraction)))

tag_below : (rule : Rule) (seconds : ℤ) (nanos : ℕ) → nanos < 1_000_000_000
    → tag_for rule seconds nanos ≡ below rule seconds seconds (fraction_of nanos)
unfolding tag_for below
tag_below rule seconds nanos h =
    let e : fraction_of nanos % 2 ^ 32 ≡ fraction_of nanos = omega arith in
    let small : leb 1_000_000_000 nanos ≡ _ = lt-leb 1_000_000_000 nanos h in
    ap (λ (b : _). cond b (Err Nanoseconds) (below rule seconds (carried seconds nanos) (fraction_of nanos % 2 ^ 32))) small
    ∙ ap (λ (z : ℤ). below rule seconds z (fraction_of nanos % 2 ^ 32)) (carried_same seconds nanos h)
    ∙ ap (λ (f : ℕ). below rule seconds seconds f) e

-- 26, whatever else holds
pub refused-nanoseconds : (rule : Rule) (seconds : ℤ) (nanos : ℕ) → 1_000_000_000 ≤ nanos → tag_for rule seconds nanos ≡ Err Nanoseconds
unfolding tag_for
refused-nanoseconds rule seconds nanos h = rw (le-leb 1_000_000_000 nanos h)

-- 27, by seconds alone
pub refused-late : (rule : Rule) (s nanos : ℕ) → nanos < 1_000_000_000 → last_of rule < s → tag_for rule (pos s) nanos ≡ Err TooLate
unfolding below
refused-late rule s nanos h l = tag_below rule (pos s) nanos h ∙ rw (lt-ltb (last_of rule) s l)

-- 28
pub refused-early : (rule : Rule) (s nanos : ℕ) → nanos < 1_000_000_000 → tag_for rule (negsuc s) nanos ≡ Err TooEarly
unfolding below
refused-early rule s nanos h = tag_below rule (negsuc s) nanos h

-- a tag for every other time
pub tagged : (rule : Rule) (s nanos : ℕ) → nanos < 1_000_000_000 → s ≤ last_of rule
    → tag_for rule (pos s) nanos ≡ Ok (tag_at (s + epoch) (fraction_of nanos))
unfolding below
tagged rule s nanos h l = tag_below rule (pos s) nanos h ∙ rw (le-ltb (last_of rule) s l, le-ltb s 0 (omega arith))
