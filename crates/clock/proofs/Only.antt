-- A refusal's number says which refusal it is, and no second outcome satisfies a contract of this crate.
use Rattle.std.proofs.Common.{◌≡◌, ℕ, cond, eqb, ℤ, sym, refl, ap, ◌∙◌}
use Rattle.clock.specs.Clock.{clock_number, tag_for, unix_for}
use Rattle.clock.specs.declared.Rule.{Rule}
use Rattle.clock.specs.declared.OutOfRange.{OutOfRange}
use Rattle.clock.specs.declared.OutOfRange.TheVariants.{Nanoseconds, TooLate, TooEarly}
use Rattle.clock.specs.Results.{Tagged, Unix}

-- the refusal of a number
which : ℕ → OutOfRange
which n = cond (eqb n 26) Nanoseconds (cond (eqb n 27) TooLate TooEarly)

which-is : (r : OutOfRange) → which (clock_number r) ≡ r
unfolding which
which-is Nanoseconds = refl
which-is TooLate = refl
which-is TooEarly = refl

pub number_tells : (r s : OutOfRange) → clock_number r ≡ clock_number s → r ≡ s
number_tells r s e = sym (which-is r) ∙ ap which e ∙ which-is s

-- no second answer satisfies the contract of `tag_of`, or of `unix_of`
pub tag-of-only : (rule : Rule) (z : ℤ) (nanos : ℕ) (r s : Tagged) → r ≡ tag_for rule z nanos → s ≡ tag_for rule z nanos → r ≡ s
tag-of-only rule z nanos r s p q = p ∙ sym q

pub unix-of-only : (rule : Rule) (tag : ℕ) (r s : Unix) → r ≡ unix_for rule tag → s ≡ unix_for rule tag → r ≡ s
unix-of-only rule tag r s p q = p ∙ sym q
