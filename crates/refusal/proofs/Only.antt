-- A refusal's number and offset say which refusal it is, and no second number satisfies the contract of `number_of`.
use mathlib.Core.Path.{◌≡◌, refl, sym, ap, subst, ◌∙◌}
use mathlib.Core.Bool.{cond}
use Prim.Native.Nat.{ℕ, ◌≤◌}
use native.Mathlib.Omega.{arith}
use lib.Dec.{eqb}
use Rattle.refusal.specs.Refusal.{number_of, offset_of}
use Rattle.refusal.specs.declared.Field.{Field}
use Rattle.refusal.specs.declared.Field.TheVariants.{Address, TypeText, Data, Padding, Head}
use Rattle.refusal.specs.declared.Fault.TheVariants.{Empty, Short, NotUtf8, BadStart, NotOpen, UnknownTag, NotScalar}
use Rattle.refusal.specs.declared.Refusal.{Refusal}
use Rattle.refusal.specs.declared.Refusal.TheVariants.{TooLong, Unreadable, TooDeep, TableFull, BadTable, OutputShort, DepthLimit}
use Rattle.refusal.specs.declared.Refusal.TheVariants.{PadOverflow, BytesLeft, OddLength}

-- the field of a number
field : ℕ → Field
field n =
    cond (eqb n 17) Address
    (cond (eqb n 18) TypeText
    (cond (eqb n 19) Data
    (cond (eqb n 20) Padding Head)))

-- the refusal of a number and an offset
pub which : ℕ → ℕ → Refusal
which n at =
    cond (eqb n 1) TooLong
    (cond (eqb n 2) (Unreadable Empty)
    (cond (eqb n 4) (Unreadable NotUtf8)
    (cond (eqb n 5) (Unreadable BadStart)
    (cond (eqb n 6) (Unreadable NotOpen)
    (cond (eqb n 7) (Unreadable UnknownTag)
    (cond (eqb n 8) (Unreadable NotScalar)
    (cond (eqb n 9) TooDeep
    (cond (eqb n 10) TableFull
    (cond (eqb n 11) BadTable
    (cond (eqb n 12) OutputShort
    (cond (eqb n 13) DepthLimit
    (cond (eqb n 14) PadOverflow
    (cond (eqb n 15) BytesLeft
    (cond (eqb n 16) OddLength (Unreadable (Short (field n) at))))))))))))))))

-- it is the one that has them
pub which-is : (r : Refusal) → which (number_of r) (offset_of r) ≡ r
unfolding which field
which-is TooLong = refl
which-is (Unreadable Empty) = refl
which-is (Unreadable (Short Address at)) = refl
which-is (Unreadable (Short TypeText at)) = refl
which-is (Unreadable (Short Data at)) = refl
which-is (Unreadable (Short Padding at)) = refl
which-is (Unreadable (Short Head at)) = refl
which-is (Unreadable NotUtf8) = refl
which-is (Unreadable BadStart) = refl
which-is (Unreadable NotOpen) = refl
which-is (Unreadable UnknownTag) = refl
which-is (Unreadable NotScalar) = refl
which-is TooDeep = refl
which-is TableFull = refl
which-is BadTable = refl
which-is OutputShort = refl
which-is DepthLimit = refl
which-is PadOverflow = refl
which-is BytesLeft = refl
which-is OddLength = refl

-- two refusals with one number and one offset are one
pub number_tells : (r s : Refusal) → number_of r ≡ number_of s → offset_of r ≡ offset_of s → r ≡ s
number_tells r s e o = sym (which-is r) ∙ ap (λ (n : ℕ). which n (offset_of r)) e ∙ ap (which (number_of s)) o ∙ which-is s

-- a refusal with a number up to 16 has no offset
pub no-offset : (r : Refusal) → number_of r ≤ 16 → offset_of r ≡ 0
no-offset TooLong h = refl
no-offset (Unreadable Empty) h = refl
no-offset (Unreadable (Short Address at)) h = absurd (omega arith)
no-offset (Unreadable (Short TypeText at)) h = absurd (omega arith)
no-offset (Unreadable (Short Data at)) h = absurd (omega arith)
no-offset (Unreadable (Short Padding at)) h = absurd (omega arith)
no-offset (Unreadable (Short Head at)) h = absurd (omega arith)
no-offset (Unreadable NotUtf8) h = refl
no-offset (Unreadable BadStart) h = refl
no-offset (Unreadable NotOpen) h = refl
no-offset (Unreadable UnknownTag) h = refl
no-offset (Unreadable NotScalar) h = refl
no-offset TooDeep h = refl
no-offset TableFull h = refl
no-offset BadTable h = refl
no-offset OutputShort h = refl
no-offset DepthLimit h = refl
no-offset PadOverflow h = refl
no-offset BytesLeft h = refl
no-offset OddLength h = refl

-- every refusal but 17 to 21 gives only its number
pub number_alone : (r s : Refusal) → number_of r ≡ number_of s → number_of r ≤ 16 → r ≡ s
number_alone r s e h = number_tells r s e (no-offset r h ∙ sym (no-offset s (subst (λ (n : ℕ). n ≤ 16) e h)))

-- no second number satisfies the contract of `number_of`
pub number-of-only : (refusal : Refusal) (r s : ℕ) → r ≡ number_of refusal → s ≡ number_of refusal → r ≡ s
number-of-only refusal r s p q = p ∙ sym q
