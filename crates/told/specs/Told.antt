-- What is told at the C boundary: one record, packed into the 64 bits of an answer and the 64 bits of `more`, and read back from both, as
-- include/osc.h does it.
use Rattle.std.specs.Prelude.{◌≡◌, List, ℕ, ◌+◌, ◌*◌, ◌/◌, ◌%◌, ◌<◌}
use Rattle.told.specs.declared.Told.{Told}

-- each part has its bits
pub record Bounded (t : Told) : Type 0 where
  pub number : t.number < 0x100
  pub count : t.count < 0x100_0000
  pub low : t.low < 0x1_0000_0000
  pub dirty : t.dirty < 0x1_0000_0000
  pub field : t.field < 0x1_0000
  pub frame : t.frame < 0x1_0000

-- the 64 bits of the answer: the number in bits 56 to 63, the count in bits 32 to 55, the low number in bits 0 to 31
abbrev pub answer_of : Told → ℕ
answer_of t = t.number * 0x100_0000_0000_0000 + (t.count * 0x1_0000_0000 + t.low)

-- the 64 bits of `more`: dirty padding in bits 0 to 31, a field's offset in bits 32 to 47, the frame's part in bits 48 to 63
abbrev pub more_of : Told → ℕ
more_of t = t.dirty + t.field * 0x1_0000_0000 + t.frame * 0x1_0000_0000_0000

-- ---- what include/osc.h takes a number apart into

-- `osc_refusal`: bits 56 to 63
abbrev pub refusal_in : ℕ → ℕ
refusal_in x = x / 0x100_0000_0000_0000

-- `osc_count`: bits 32 to 55
abbrev pub count_in : ℕ → ℕ
count_in x = x / 0x1_0000_0000 % 0x100_0000

-- `osc_left`, `osc_used`, `osc_written`, `osc_began`, and of `more` `osc_dirty`: bits 0 to 31
abbrev pub low_in : ℕ → ℕ
low_in x = x % 0x1_0000_0000

-- `osc_field`, of `more`: bits 32 to 47
abbrev pub offset_in : ℕ → ℕ
offset_in more = more / 0x1_0000_0000 % 0x1_0000

-- `osc_frame`, and of a step `osc_ended`, of `more`: bits 48 to 63
abbrev pub frame_in : ℕ → ℕ
frame_in more = more / 0x1_0000_0000_0000

-- the record that both numbers are taken apart into
abbrev pub unpack : ℕ → ℕ → Told
unpack told more =
    record {
      number = refusal_in told;
      count = count_in told;
      low = low_in told;
      dirty = low_in more;
      field = offset_in more;
      frame = frame_in more;
    }

-- every part is read back
abbrev pub Unpacks : Type 0
Unpacks = (t : Told) → Bounded t → unpack (answer_of t) (more_of t) ≡ t

-- kinds of records that no record is two of are told apart by the bits: refusals, stops and answers, however a function tells them
abbrev pub KindsApart : Type 1
KindsApart =
    (P Q : Told → Type 0) → ((t : Told) → P t → Q t → ⊥) → (t u : Told) → Bounded t → Bounded u → answer_of t ≡ answer_of u
    → more_of t ≡ more_of u → P t → Q u → ⊥

-- a call with an answer that leaves a buffer by its contract: both numbers are those of that answer's record
pub record Tells {A : Type 0} (told_of : A → Told) (Meets : A → List ℕ → Type 0) (told more : ℕ) (after : List ℕ) : Type 0 where
  pub answer : A
  pub meets : Meets answer after
  pub number : told ≡ answer_of (told_of answer)
  pub beside : more ≡ more_of (told_of answer)
