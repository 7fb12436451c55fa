-- Demand 1 of `tag_of` and `unix_of`: their refusals are listed. A shift or a difference is a result.
use mathlib.Core.Path.{refl}
use Prim.Native.Nat.{ℕ}
use lib.IntN.{ℤ, pos, negsuc}
use Rattle.clock.specs.Clock.{tag_for, unix_for}
use Rattle.clock.specs.Promises.{TagCase}
use Rattle.clock.specs.declared.Rule.{Rule}
use Rattle.clock.specs.declared.Rule.TheVariants.{A, B}
use Rattle.clock.specs.declared.OutOfRange.TheVariants.{TooEarly}
use Rattle.clock.specs.Results.{Tagged, Unix}
use Rattle.std.specs.Prelude.{Err}
use Rattle.clock.specs.Results as unix
use Rattle.clock.proofs.Domains.{case-of, TimeCase, time-of}
use Rattle.contract.specs.Contract.{Lists}
use Rattle.calls.specs.Calls.{Meets, tag_of, unix_of, contract_of}

module _ (rule : Rule) (z : ℤ) (n : ℕ) where
  by-case : {y : ℤ} {m : ℕ} {r : Tagged} → TagCase rule y m r → Lists (contract_of (tag_of rule z n)) r
  by-case (TagCase.nanoseconds h) = refl
  by-case (TagCase.late h l) = refl
  by-case (TagCase.early h) = refl
  by-case (TagCase.has_tag h l) = tt

  pub tag-listed : Lists (contract_of (tag_of rule z n)) (tag_for rule z n)
  tag-listed = by-case (case-of rule z n)

module _ (rule : Rule) (tag : ℕ) where
  by-time : {r : Unix} → TimeCase rule tag r → Lists (contract_of (unix_of rule tag)) r
  by-time (TimeCase.before-1970 h) = refl
  by-time (TimeCase.since-1970 q) = tt

  pub unix-listed : Lists (contract_of (unix_of rule tag)) (unix_for rule tag)
  unix-listed = by-time (time-of rule tag)

-- examples: the second before 1970 has no tag, and the tag (0, 1) is by rule B the first second after the wrap
second-before : Meets (tag_of A (negsuc 0) 0) (Err TooEarly) tt
unfolding tag_for
second-before = refl

after-the-wrap : Meets (unix_of B 1) (unix.At (pos 2_085_978_496) 0) tt
unfolding unix_for
after-the-wrap = refl
