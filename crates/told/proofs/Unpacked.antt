-- What is told is read back from its bits, once for all functions.
use mathlib.Core.Path.{◌≡◌, sym, ap, ap₂, subst, ◌∙◌}
use mathlib.Core.List.{List}
use Prim.Native.Nat.{ℕ, ◌≤◌, ◌<◌}
use native.Mathlib.Omega.{arith}
use Rattle.refusal.specs.Refusal.{field_number, number_of, offset_of, fault_number}
use Rattle.refusal.specs.declared.Field.{Field}
use Rattle.refusal.specs.declared.Field.TheVariants.{Address, TypeText, Data, Padding, Head}
use Rattle.refusal.specs.declared.Fault.{Fault}
use Rattle.refusal.specs.declared.Fault.TheVariants.{Empty, Short, NotUtf8, BadStart, NotOpen, UnknownTag, NotScalar}
use Rattle.refusal.specs.declared.Refusal.{Refusal}
use Rattle.refusal.specs.declared.Refusal.TheVariants.{TooLong, Unreadable, TooDeep, TableFull, BadTable, OutputShort, DepthLimit}
use Rattle.refusal.specs.declared.Refusal.TheVariants.{PadOverflow, BytesLeft, OddLength}
use Rattle.told.specs.declared.Told.{Told}
use Rattle.told.specs.Told.{Bounded, answer_of, more_of, unpack, Unpacks, KindsApart, Tells}
use Rattle.told.specs.Told.{refusal_in, count_in, low_in, offset_in, frame_in}
use Rattle.told.specs.Answers.{told_answer, told_refusal, told_number}

-- records of the same parts are the same
same-told : {t u : Told} → t.number ≡ u.number → t.count ≡ u.count → t.low ≡ u.low → t.dirty ≡ u.dirty → t.field ≡ u.field
    → t.frame ≡ u.frame → t ≡ u
same-told a b c d e f = λ i. record { number = a i; count = b i; low = c i; dirty = d i; field = e i; frame = f i }

-- every part is read back
pub read_back : Unpacks
read_back t h = same-told (omega arith) (omega arith) (omega arith) (omega arith) (omega arith) (omega arith)

-- two records are not told by the same bits
pub told-once : (t u : Told) → Bounded t → Bounded u → answer_of t ≡ answer_of u → more_of t ≡ more_of u → t ≡ u
told-once t u h k e m = sym (read_back t h) ∙ ap₂ unpack e m ∙ read_back u k

-- so kinds of records are told apart
pub kinds_apart : KindsApart
kinds_apart P Q n t u h k e m p q = n u (subst P (told-once t u h k e m) p) q

-- the parts of both numbers
pub record Parted (told more : ℕ) (t : Told) : Type 0 where
  pub number : refusal_in told ≡ t.number
  pub count : count_in told ≡ t.count
  pub low : low_in told ≡ t.low
  pub dirty : low_in more ≡ t.dirty
  pub field : offset_in more ≡ t.field
  pub frame : frame_in more ≡ t.frame

pub parted : {told more : ℕ} {t : Told} → unpack told more ≡ t → Parted told more t
parted e =
    record {
      number = ap (λ (u : Told). u.number) e;
      count = ap (λ (u : Told). u.count) e;
      low = ap (λ (u : Told). u.low) e;
      dirty = ap (λ (u : Told). u.dirty) e;
      field = ap (λ (u : Told). u.field) e;
      frame = ap (λ (u : Told). u.frame) e;
    }

-- those of a packed record are its own
pub packed : (t : Told) → Bounded t → Parted (answer_of t) (more_of t) t
packed t h = parted (read_back t h)

-- ---- bounds

field_in : (field : Field) → (1 ≤ field_number field) × (field_number field ≤ 21)
field_in Address = (omega arith, omega arith)
field_in TypeText = (omega arith, omega arith)
field_in Data = (omega arith, omega arith)
field_in Padding = (omega arith, omega arith)
field_in Head = (omega arith, omega arith)

fault-in : (k : Fault) → (1 ≤ fault_number k) × (fault_number k ≤ 21)
fault-in Empty = (omega arith, omega arith)
fault-in (Short field at) = field_in field
fault-in NotUtf8 = (omega arith, omega arith)
fault-in BadStart = (omega arith, omega arith)
fault-in NotOpen = (omega arith, omega arith)
fault-in UnknownTag = (omega arith, omega arith)
fault-in NotScalar = (omega arith, omega arith)

-- the numbers of refusals are 1 to 21, so that they have their bits, and none is the 0 that `osc_refusal` gives where there is an answer
pub number_in : (r : Refusal) → (1 ≤ number_of r) × (number_of r ≤ 21)
number_in TooLong = (omega arith, omega arith)
number_in (Unreadable k) = fault-in k
number_in TooDeep = (omega arith, omega arith)
number_in TableFull = (omega arith, omega arith)
number_in BadTable = (omega arith, omega arith)
number_in OutputShort = (omega arith, omega arith)
number_in DepthLimit = (omega arith, omega arith)
number_in PadOverflow = (omega arith, omega arith)
number_in BytesLeft = (omega arith, omega arith)
number_in OddLength = (omega arith, omega arith)

-- a record of six parts that have their bits
pub bounded : {t : Told} → (t.number < 0x100) × (t.count < 0x100_0000) × (t.low < 0x1_0000_0000) × (t.dirty < 0x1_0000_0000)
    × (t.field < 0x1_0000) × (t.frame < 0x1_0000) → Bounded t
bounded h = record { number = h.0; count = h.1; low = h.2; dirty = h.3; field = h.4; frame = h.5 }

-- an answer's record has its bits
pub answer-bounded : (count low dirty : ℕ) → count < 0x100_0000 → low < 0x1_0000_0000 → dirty < 0x1_0000_0000
    → Bounded (told_answer count low dirty)
answer-bounded count low dirty h k l = bounded (omega arith, h, k, l, omega arith, omega arith)

-- so has a refusal's
pub refusal-bounded : (r : Refusal) → offset_of r < 0x1_0000 → Bounded (told_refusal r)
refusal-bounded r h = let n = number_in r in bounded (omega arith, omega arith, omega arith, omega arith, h, omega arith)

pub number-bounded : (r : Refusal) → Bounded (told_number r)
number-bounded r = let n = number_in r in bounded (omega arith, omega arith, omega arith, omega arith, omega arith, omega arith)

-- ---- a call

-- what a call tells is the record of its answer, where that has its bits
pub tells-record : {A : Type 0} {told_of : A → Told} {Meets : A → List ℕ → Type 0} {told more : ℕ} {after : List ℕ}
    → (t : Tells told_of Meets told more after) → Bounded (told_of t.answer) → unpack told more ≡ told_of t.answer
tells-record t h = ap₂ unpack t.number t.beside ∙ read_back _ h

-- one outcome of the call gives one number, one `more` and one buffer
pub tells-only : {A : Type 0} {told_of : A → Told} {Meets : A → List ℕ → Type 0} {told told' more more' : ℕ} {after after' : List ℕ}
    → ((a b : A) (l l' : List ℕ) → Meets a l → Meets b l' → (a ≡ b) × (l ≡ l'))
    → Tells told_of Meets told more after → Tells told_of Meets told' more' after' → (told ≡ told') × (more ≡ more') × (after ≡ after')
tells-only {told_of = told_of} one t u =
    let e = one _ _ _ _ t.meets u.meets in (
      t.number ∙ ap (λ a. answer_of (told_of a)) e.0 ∙ sym u.number,
      t.beside ∙ ap (λ a. more_of (told_of a)) e.0 ∙ sym u.beside,
      e.1,
    )

-- a call tells its answer's record by both of its numbers
pub tells-by : {A : Type 0} {told_of : A → Told} {Meets : A → List ℕ → Type 0} {told more : ℕ} {after : List ℕ} {t : Told} (a : A)
    → Meets a after → t ≡ told_of a → (told ≡ answer_of t) × (more ≡ more_of t) → Tells told_of Meets told more after
tells-by a m e h = record { answer = a; meets = m; number = h.0 ∙ ap answer_of e; beside = h.1 ∙ ap more_of e }
