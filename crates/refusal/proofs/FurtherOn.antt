-- A refusal that is moved keeps its number, and its field's offset is moved by as much, so that the refusal is read back.
use mathlib.Core.Path.{◌≡◌, refl, ap, ◌∙◌}
use Prim.Native.Nat.{ℕ, ◌+◌, ◌-◌, ◌≤◌}
use native.Mathlib.Omega.{arith}
use Rattle.refusal.specs.Refusal.{number_of, offset_of, fault_number, fault_offset, moved_by, moved_refusal}
use Rattle.refusal.specs.declared.Fault.{Fault}
use Rattle.refusal.specs.declared.Fault.TheVariants.{Empty, Short, NotUtf8, BadStart, NotOpen, UnknownTag, NotScalar}
use Rattle.refusal.specs.declared.Refusal.{Refusal}
use Rattle.refusal.specs.declared.Refusal.TheVariants.{TooLong, Unreadable, TooDeep, TableFull, BadTable, OutputShort, DepthLimit}
use Rattle.refusal.specs.declared.Refusal.TheVariants.{PadOverflow, BytesLeft, OddLength}
use Rattle.refusal.proofs.Only.{which, which-is}

fault-number : (by : ℕ) (k : Fault) → fault_number (moved_by by k) ≡ fault_number k
fault-number by Empty = refl
fault-number by (Short field at) = refl
fault-number by NotUtf8 = refl
fault-number by BadStart = refl
fault-number by NotOpen = refl
fault-number by UnknownTag = refl
fault-number by NotScalar = refl

-- its number is the same
pub moved-number : (by : ℕ) (r : Refusal) → number_of (moved_refusal by r) ≡ number_of r
moved-number by TooLong = refl
moved-number by (Unreadable k) = fault-number by k
moved-number by TooDeep = refl
moved-number by TableFull = refl
moved-number by BadTable = refl
moved-number by OutputShort = refl
moved-number by DepthLimit = refl
moved-number by PadOverflow = refl
moved-number by BytesLeft = refl
moved-number by OddLength = refl

fault-place : (by : ℕ) (k : Fault) → 17 ≤ fault_number k → fault_offset (moved_by by k) ≡ by + fault_offset k
fault-place by Empty h = absurd (omega arith)
fault-place by (Short field at) h = refl
fault-place by NotUtf8 h = absurd (omega arith)
fault-place by BadStart h = absurd (omega arith)
fault-place by NotOpen h = absurd (omega arith)
fault-place by UnknownTag h = absurd (omega arith)
fault-place by NotScalar h = absurd (omega arith)

-- 17 to 21 have an offset, and it is moved
pub moved-place : (by : ℕ) (r : Refusal) → 17 ≤ number_of r → offset_of (moved_refusal by r) ≡ by + offset_of r
moved-place by TooLong h = absurd (omega arith)
moved-place by (Unreadable k) h = fault-place by k h
moved-place by TooDeep h = absurd (omega arith)
moved-place by TableFull h = absurd (omega arith)
moved-place by BadTable h = absurd (omega arith)
moved-place by OutputShort h = absurd (omega arith)
moved-place by DepthLimit h = absurd (omega arith)
moved-place by PadOverflow h = absurd (omega arith)
moved-place by BytesLeft h = absurd (omega arith)
moved-place by OddLength h = absurd (omega arith)

fault-back : (by : ℕ) (k : Fault) → fault_offset (moved_by by k) - by ≡ fault_offset k
fault-back by Empty = omega arith
fault-back by (Short field at) = omega arith
fault-back by NotUtf8 = omega arith
fault-back by BadStart = omega arith
fault-back by NotOpen = omega arith
fault-back by UnknownTag = omega arith
fault-back by NotScalar = omega arith

-- the field stands as far before its offset as it was moved; a refusal without an offset has 0 before and after
pub moved_back : (by : ℕ) (r : Refusal) → offset_of (moved_refusal by r) - by ≡ offset_of r
moved_back by TooLong = omega arith
moved_back by (Unreadable k) = fault-back by k
moved_back by TooDeep = omega arith
moved_back by TableFull = omega arith
moved_back by BadTable = omega arith
moved_back by OutputShort = omega arith
moved_back by DepthLimit = omega arith
moved_back by PadOverflow = omega arith
moved_back by BytesLeft = omega arith
moved_back by OddLength = omega arith

-- its number and the moved offset say which refusal it is
pub which-moved : (by : ℕ) (r : Refusal) → which (number_of r) (offset_of (moved_refusal by r) - by) ≡ r
which-moved by r = ap (which (number_of r)) (moved_back by r) ∙ which-is r
