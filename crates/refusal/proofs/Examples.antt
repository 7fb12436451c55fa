-- Examples that meet the hypotheses of `number_tells` and `number_alone`: an address that was short at 4, and document 01's 8.
use mathlib.Core.Path.{◌≡◌, refl}
use native.Mathlib.Omega.{arith}
use Rattle.refusal.specs.Refusal.{number_of, offset_of}
use Rattle.refusal.specs.declared.Field.TheVariants.{Address}
use Rattle.refusal.specs.declared.Fault.TheVariants.{Short, NotScalar}
use Rattle.refusal.specs.declared.Refusal.{Refusal}
use Rattle.refusal.specs.declared.Refusal.TheVariants.{Unreadable}
use Rattle.refusal.proofs.Only.{number_tells, number_alone}

-- 17 at 4 is of no other refusal
seventeen : (r : Refusal) → number_of r ≡ 17 → offset_of r ≡ 4 → r ≡ Unreadable (Short Address 4)
seventeen r e o = number_tells r (Unreadable (Short Address 4)) e o

-- the number is 8, and of no other refusal
eight : (number_of (Unreadable NotScalar) ≡ 8) × ((r : Refusal) → number_of r ≡ 8 → r ≡ Unreadable NotScalar)
eight = (refl, λ r e. number_alone r (Unreadable NotScalar) e (omega arith))
