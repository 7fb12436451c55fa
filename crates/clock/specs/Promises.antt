-- What document 02, Ticket 7, promises of the conversions: a type to each sentence.
use Rattle.std.specs.Prelude.{◌≡◌, ℕ, ◌+◌, ◌-◌, ◌*◌, ◌/◌, ◌%◌, ◌^◌, ◌<◌, ◌≤◌, cond, ℤ, pos, negsuc, nat_lt, unsigned_abs, Err, Ok}
use Rattle.clock.specs.Nearest.{fraction_of, nanos_of}
use Rattle.clock.specs.Clock.{last_of, epoch, since1900, tag_at, tag_for, unix_for}
use Rattle.clock.specs.Shift.{difference_of}
use Rattle.clock.specs.declared.Rule.{Rule}
use Rattle.clock.specs.declared.Rule.TheVariants.{A, B}
use Rattle.clock.specs.declared.OutOfRange.{OutOfRange}
use Rattle.clock.specs.declared.OutOfRange.TheVariants.{Nanoseconds, TooLate, TooEarly}
use Rattle.clock.specs.Results.{Tagged, Unix}
use Rattle.clock.specs.Results as Unix

-- ---- there and back

-- "a nanosecond value returns unchanged": every time that has a tag, by its rule
abbrev pub ReturnsUnchanged : Type 0
ReturnsUnchanged = (rule : Rule) (z : ℤ) (n tag : ℕ) → tag_for rule z n ≡ Ok tag → unix_for rule tag ≡ Unix.At z n

-- the last tag of a rule: its last second, and the highest fraction
abbrev pub last_tag : Rule → ℕ
last_tag rule = tag_at (last_of rule + epoch) (2 ^ 32 - 1)

-- what the time of a tag gives on the way back: a tag that is moved by 2 fractions at most, around the wrap; of the rule's two last tags,
-- whose time was carried past the last second, 27
pub data Again (rule : Rule) (tag : ℕ) : Tagged → Type 0 where
  moved_little : (u : ℕ) → unsigned_abs (difference_of u tag) ≤ 2 → Again rule tag (Ok u)
  past_the_last : last_tag rule ≤ tag + 1 → tag ≤ last_tag rule → Again rule tag (Err TooLate)

-- so does every tag that has a time
abbrev pub MovedLittle : Type 0
MovedLittle = (rule : Rule) (tag : ℕ) (z : ℤ) (n : ℕ) → tag < 2 ^ 64 → unix_for rule tag ≡ Unix.At z n → Again rule tag (tag_for rule z n)

-- 2 fractions are reached on both sides: 6 of them become 1 nanosecond and 4, and 28 become 7 nanoseconds and 30
pub record TwoReached (rule : Rule) : Type 0 where
  pub from_6 : unix_for rule (tag_at epoch 6) ≡ Unix.At (pos 0) 1
  pub to_4 : tag_for rule (pos 0) 1 ≡ Ok (tag_at epoch 4)
  pub from_28 : unix_for rule (tag_at epoch 28) ≡ Unix.At (pos 0) 7
  pub to_30 : tag_for rule (pos 0) 7 ≡ Ok (tag_at epoch 30)

-- ---- the carry

-- "A fraction that rounds to a full second carries": on the way to a tag none does, and the highest is 2^32 - 4
abbrev pub NoCarry : Type 0
NoCarry = (nanos : ℕ) → nanos < 1_000_000_000 → fraction_of nanos ≤ 2 ^ 32 - 4

-- on the way to Unix time the two highest do, "also past the last second named below"
abbrev pub Carries : Type 0
Carries =
    (rule : Rule) (tag : ℕ) → 2 ^ 32 - 2 ≤ tag % 2 ^ 32 → epoch ≤ since1900 rule (tag / 2 ^ 32) + 1
    → unix_for rule tag ≡ Unix.At (pos (since1900 rule (tag / 2 ^ 32) + 1 - epoch)) 0

-- and no other does
abbrev pub Stays : Type 0
Stays =
    (rule : Rule) (tag : ℕ) → tag % 2 ^ 32 < 2 ^ 32 - 2 → epoch ≤ since1900 rule (tag / 2 ^ 32)
    → (unix_for rule tag ≡ Unix.At (pos (since1900 rule (tag / 2 ^ 32) - epoch)) (nanos_of (tag % 2 ^ 32)))
    × (nanos_of (tag % 2 ^ 32) < 1_000_000_000)

-- past the last second: the rule's last tag is the second after it
abbrev pub CarriesPast : Type 0
CarriesPast = (rule : Rule) → unix_for rule (last_tag rule) ≡ Unix.At (pos (last_of rule + 1)) 0

-- ---- the refusals

-- what `tag_of` is asked and answers: "26 nanoseconds of 10^9 or more, 27 later than the rule allows, 28 before 1970 after any carry; in
-- that order"; no carry happens here
pub data TagCase (rule : Rule) : ℤ → ℕ → Tagged → Type 0 where
  nanoseconds : {z : ℤ} {n : ℕ} → 1_000_000_000 ≤ n → TagCase rule z n (Err Nanoseconds)
  late : {s n : ℕ} → n < 1_000_000_000 → last_of rule < s → TagCase rule (pos s) n (Err TooLate)
  early : {s n : ℕ} → n < 1_000_000_000 → TagCase rule (negsuc s) n (Err TooEarly)
  has_tag : {s n : ℕ} → n < 1_000_000_000 → s ≤ last_of rule → TagCase rule (pos s) n (Ok (tag_at (s + epoch) (fraction_of n)))

-- its domains are exactly these
abbrev pub TagDomains : Type 0
TagDomains =
    (rule : Rule) (z : ℤ) (n : ℕ) (r : Tagged) → (TagCase rule z n r → tag_for rule z n ≡ r) × (tag_for rule z n ≡ r → TagCase rule z n r)

-- the first tag that reaches 1970, by its carry
abbrev pub first_tag : ℕ
first_tag = 2_208_988_799 * 2 ^ 32 + (2 ^ 32 - 2)

-- the tags before 1970: by rule B those with their top bit clear are after 2036
abbrev pub Before1970 : Rule → ℕ → Type 0
Before1970 A tag = tag < first_tag
Before1970 B tag = (2 ^ 63 ≤ tag) × (tag < first_tag)

-- "28 before 1970 after any carry": `unix_of` refuses exactly these
abbrev pub UnixDomains : Type 0
UnixDomains =
    (rule : Rule) (tag : ℕ)
    → (Before1970 rule tag → unix_for rule tag ≡ Err TooEarly) × (unix_for rule tag ≡ Err TooEarly → Before1970 rule tag)

-- "a tag on its way to Unix time is never refused by 27", nor by 26
abbrev pub NeverLate : Type 0
NeverLate = (rule : Rule) (tag : ℕ) (reason : OutOfRange) → unix_for rule tag ≡ Err reason → reason ≡ TooEarly

-- a time that is answered is of 1970 or later, and its nanoseconds are below 10^9
abbrev pub TimesNormal : Type 0
TimesNormal =
    (rule : Rule) (tag : ℕ) (z : ℤ) (n : ℕ) → unix_for rule tag ≡ Unix.At z n → (z ≡ pos (unsigned_abs z)) × (n < 1_000_000_000)

-- ---- the two rules

-- where rule A gives a tag, rule B gives the same
abbrev pub TagsAgree : Type 0
TagsAgree = (z : ℤ) (n tag : ℕ) → tag_for A z n ≡ Ok tag → tag_for B z n ≡ Ok tag

-- and where it gives a time, too
abbrev pub TimesAgree : Type 0
TimesAgree = (tag : ℕ) (z : ℤ) (n : ℕ) → tag < 2 ^ 64 → unix_for A tag ≡ Unix.At z n → unix_for B tag ≡ Unix.At z n

-- ---- order

-- the era of a tag: by rule B one with its top bit clear is after the wrap of 2036
abbrev pub era_of : Rule → ℕ → ℕ
era_of A tag = 0
era_of B tag = cond (nat_lt tag (2 ^ 63)) 1 0

-- within an era a tag that is not lower has a time that is not earlier
abbrev pub OrderKept : Type 0
OrderKept =
    (rule : Rule) (t u s n s' n' : ℕ) → era_of rule t ≡ era_of rule u → t ≤ u → unix_for rule t ≡ Unix.At (pos s) n
    → unix_for rule u ≡ Unix.At (pos s') n' → s * 1_000_000_000 + n ≤ s' * 1_000_000_000 + n'

-- and back: within an era a later time has a higher tag
abbrev pub LaterHigher : Type 0
LaterHigher =
    (rule : Rule) (t u s n s' n' : ℕ) → era_of rule t ≡ era_of rule u → s * 1_000_000_000 + n < s' * 1_000_000_000 + n'
    → tag_for rule (pos s) n ≡ Ok t → tag_for rule (pos s') n' ≡ Ok u → t < u
