-- The answer of a record: of the answers that a function may give, each is read back from its own.
use mathlib.Core.Path.{◌≡◌, refl, sym, ap, ◌∙◌}
use mathlib.Core.Bool.{Bool, true, false, cond, ◌&&◌}
use Prim.Native.Nat.{ℕ, ◌-◌, ◌≤◌}
use native.Mathlib.Omega.{arith}
use borrow.Author.Tests.{ne_eqb}
use lib.Dec.{eqb}
use Rattle.refusal.specs.Refusal.{number_of}
use Rattle.refusal.specs.declared.Refusal.{Refusal}
use Rattle.refusal.proofs.Only.{which, which-is, no-offset}
use Rattle.refusal.proofs.FurtherOn.{which-moved}
use Rattle.results.specs.Results.{DecodeAnswer, IndexAnswer, PortionAnswer}
use Rattle.std.specs.Prelude.{Err, Ok}
use Rattle.results.specs.Results as answers
use Rattle.results.specs.declared.End.{End}
use Rattle.results.specs.declared.End.TheVariants as end
use Rattle.told.specs.declared.Told.{Told}
use Rattle.told.specs.Answers.{decoded_told, portion_told, ended_told, indexed_told}
use Rattle.told.proofs.Unpacked.{number_in}

-- no refusal has the number 0
numbered : (r : Refusal) → eqb (number_of r) 0 ≡ false
numbered r = ne_eqb (number_of r) 0 (λ e. omega (arith, (number_in r).0))

-- a refusal without an offset is read back from its number alone
which-alone : (r : Refusal) → number_of r ≤ 16 → which (number_of r) 0 ≡ r
which-alone r h = ap (which (number_of r)) (sym (no-offset r h)) ∙ which-is r

-- ---- a decoder

-- the answer of a record, of a decoder that may wait or not
abbrev pub decoded_back : Bool → Told → DecodeAnswer
decoded_back waits t =
    cond (eqb t.number 0)
    (cond (waits && eqb t.count 0) answers.Waiting (answers.Packets t.count t.low t.dirty))
    (cond (eqb t.low 0) (Err (which t.number t.field))
    (answers.Stopped t.count t.low t.dirty (which t.number t.field) t.frame))

-- the answers that it tells: packets of at least one record where it may wait; Waiting where it may; a list that stops with bytes left
abbrev pub Telling : Bool → DecodeAnswer → Type 0
Telling waits (answers.Packets count left dirty) = waits ≡ true → 1 ≤ count
Telling waits answers.Waiting = waits ≡ true
Telling waits (Err r) = Unit {0}
Telling waits (answers.Stopped count left dirty r frame) = 1 ≤ left

packets-back : (waits : Bool) (count left dirty : ℕ) → (waits ≡ true → 1 ≤ count)
    → cond (waits && eqb count 0) answers.Waiting (answers.Packets count left dirty) ≡ answers.Packets count left dirty
packets-back false count left dirty h = refl
packets-back true count left dirty h = rw (ne_eqb count 0 (λ e. omega (arith, h refl)))

-- each is read back
pub decoded-reads : (waits : Bool) (n : ℕ) (a : DecodeAnswer) → Telling waits a → decoded_back waits (decoded_told n a) ≡ a
decoded-reads waits n (answers.Packets count left dirty) h = packets-back waits count left dirty h
decoded-reads waits n answers.Waiting h = rw h
decoded-reads waits n (Err r) h = rw (numbered r, which-is r)
decoded-reads waits n (answers.Stopped count left dirty r frame) h =
    let some : eqb left 0 ≡ false = ne_eqb left 0 (λ e. omega arith) in
    rw (numbered r, some, which-is r)

-- ---- a step over a stream

-- the answer of a record
abbrev pub portion_back : Told → PortionAnswer
portion_back t =
    cond (eqb t.number 0)
    (cond (eqb t.frame 0) (answers.Read t.count t.low t.dirty)
    (answers.Ended t.count t.low t.dirty (which t.frame t.field)))
    (Err (which t.number 0))

-- the answers that it tells: a refusal of the call has no offset
abbrev pub StepTelling : PortionAnswer → Type 0
StepTelling (answers.Read count used dirty) = Unit {0}
StepTelling (answers.Ended count used dirty r) = Unit {0}
StepTelling (Err r) = number_of r ≤ 16

-- each is read back
pub portion-reads : (a : PortionAnswer) → StepTelling a → portion_back (portion_told a) ≡ a
portion-reads (answers.Read count used dirty) h = refl
portion-reads (answers.Ended count used dirty r) h = rw (numbered r, which-is r)
portion-reads (Err r) h = rw (numbered r, which-alone r h)

-- ---- a step that writes an index

-- the answer of a record: a field's offset is counted from the call's first byte, and in the refusal from the frame's prefix
abbrev pub indexed_back : Told → IndexAnswer
indexed_back t =
    cond (eqb t.number 0)
    (answers.Written t.count t.low
    (cond (eqb t.frame 0) (cond (eqb t.dirty 0) end.Whole end.Waiting) (end.Refused (which t.frame (t.field - t.low)))))
    (Err (which t.number 0))

-- the answers that it tells: a refusal of the call has no offset
abbrev pub IndexTelling : IndexAnswer → Type 0
IndexTelling (Ok indexed) = Unit {0}
IndexTelling (Err r) = number_of r ≤ 16

-- each is read back
ended-reads : (records used : ℕ) (why : End) → indexed_back (ended_told records used why) ≡ answers.Written records used why
ended-reads records used end.Whole = refl
ended-reads records used end.Waiting = refl
ended-reads records used (end.Refused r) = rw (numbered r, which-moved used r)

pub indexed-reads : (a : IndexAnswer) → IndexTelling a → indexed_back (indexed_told a) ≡ a
indexed-reads (Ok indexed) h = ended-reads indexed.records indexed.used indexed.end
indexed-reads (Err r) h = rw (numbered r, which-alone r h)
