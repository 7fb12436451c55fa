-- What a function of the C boundary is held to, as one value; and demand 1 of one such value.
use Rattle.std.specs.Prelude.{◌≡◌, true, List, [], ℕ, ◌*◌, ◌≤◌, ◌<◌}
use Rattle.node.specs.Tags.{among}
use Rattle.told.specs.declared.Told.{Told}
use Rattle.told.specs.Told.{answer_of, offset_in, Tells}

-- a function with what it is handed
pub record CContract : Type 1 where
  -- the bytes that it is lent by `&mut`, before the call; [] where it is lent none
  pub lent : List ℕ
  -- its contract: the number that is told, what is told beside it in `more`, and the lent bytes afterwards; without `more` 0 is told there
  pub Meets : ℕ → ℕ → List ℕ → Type 0
  -- the refusals that documents 01 and 02 have for it, in the order in which they are given
  pub refusals : List ℕ
  -- how the refusal with number n is told
  pub refused : ℕ → ℕ
  -- how an answer is told, and what is told beside it
  pub Answered : ℕ → Type 0
  pub Extra : ℕ → Type 0
  -- how it is told that a list or a step stops
  pub Stopped : ℕ → ℕ → Type 0

-- ---- makers

-- a refusal's number in bits 56 to 63, and nothing below
abbrev pub in_high_bits : ℕ → ℕ
in_high_bits n = n * 0x100_0000_0000_0000

-- an answer below bit 56
abbrev pub below56 : ℕ → Type 0
below56 told = told < 0x100_0000_0000_0000

-- nothing stands beside an answer
abbrev pub nothing : ℕ → Type 0
nothing more = more ≡ 0

-- it does not stop
abbrev pub never : ℕ → ℕ → Type 0
never told more = ⊥

-- one that writes nothing: it tells these numbers
abbrev pub numbers : (value beside : ℕ) → List ℕ → (ℕ → ℕ) → (ℕ → Type 0) → (ℕ → Type 0) → (ℕ → ℕ → Type 0) → CContract
numbers value beside refusals refused Answered Extra Stopped =
    record {
      lent = [];
      Meets = λ told more after. (told ≡ value) × (more ≡ beside) × (after ≡ []);
      refusals = refusals;
      refused = refused;
      Answered = Answered;
      Extra = Extra;
      Stopped = Stopped;
    }

-- one that writes nothing and has no `more`: it tells this record, of an answer below so much
abbrev pub tells : Told → List ℕ → ℕ → CContract
tells value refusals most = numbers (answer_of value) 0 refusals in_high_bits (λ told. told < most) nothing never

-- one that is lent a buffer: it tells the record of an answer that its contract has
abbrev pub lends : {A : Type 0} → (A → Told) → (A → List ℕ → Type 0) → List ℕ → List ℕ → (ℕ → Type 0) → (ℕ → Type 0)
    → (ℕ → ℕ → Type 0) → CContract
lends told_of Meets lent refusals Answered Extra Stopped =
    record {
      lent = lent;
      Meets = Tells told_of Meets;
      refusals = refusals;
      refused = in_high_bits;
      Answered = Answered;
      Extra = Extra;
      Stopped = Stopped;
    }

-- ---- demand 1

-- 17 to 21 alone have an offset (Ticket 2)
abbrev pub HasOffset : ℕ → Type 0
HasOffset n = (17 ≤ n) × (n ≤ 21)

-- what is told beside the refusal with number n: an offset in bits 32 to 47, and nothing where it has none
abbrev pub Beside : ℕ → ℕ → Type 0
Beside n more = (more ≡ offset_in more * 0x1_0000_0000) × ((HasOffset n → ⊥) → more ≡ 0)

-- how a call ends: an answer is told, and what stands beside it; or a refusal that the documents list for the call, and every lent byte is
-- as before; or it stops, as a list or a step at a refused frame, or a check at an index that differs
pub data CEnds (c : CContract) (told more : ℕ) (after : List ℕ) : Type 0 where
  told_an_answer : c.Answered told → c.Extra more → CEnds c told more after
  told_a_refusal : (n : ℕ) → among n c.refusals ≡ true → told ≡ c.refused n → Beside n more → after ≡ c.lent → CEnds c told more after
  told_a_stop : c.Stopped told more → CEnds c told more after

-- demand 1 of one function: its contract settles the number, what is told beside it and every lent byte; it ends so; and answers,
-- refusals and stops are told apart
pub record CDemand (c : CContract) : Type 0 where
  pub settled : (told told' more more' : ℕ) (after after' : List ℕ) → c.Meets told more after → c.Meets told' more' after'
      → (told ≡ told') × (more ≡ more') × (after ≡ after')
  pub ends : (told more : ℕ) (after : List ℕ) → c.Meets told more after → CEnds c told more after
  pub no_answer : (n : ℕ) → among n c.refusals ≡ true → c.Answered (c.refused n) → ⊥
  pub no_stop : (told more : ℕ) → c.Stopped told more → c.Answered told → c.Extra more → ⊥
  pub no_refusal : (told more n : ℕ) → c.Stopped told more → among n c.refusals ≡ true → told ≡ c.refused n → ⊥
