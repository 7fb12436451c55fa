-- The contract of a public call as one value, and the order's demand 1 of such a value.
use Rattle.std.specs.Prelude.{◌≡◌, Bool, true, false, List, [], ℕ}
use Rattle.refusal.specs.Refusal.{number_of}
use Rattle.results.specs.Differs.{index_differs}
use Rattle.node.specs.Tags.{among}
use Rattle.clock.specs.Clock.{clock_number}
use Rattle.contract.specs.Endings.{Ending, result, waits, refuses, stops, differs, outside}

-- a public call, with what it is handed: what it answers, is lent and promises, and the refusals that are listed for it
pub record Contract : Type 1 where
  -- the type of its answer
  pub Answer : Type 0
  -- the type of what it is lent by `&mut`, and that before the call; what is lent by `&` cannot change
  pub Lent : Type 0
  pub lent : Lent
  -- what it promises: an answer, and what was lent, after the call
  pub Meets : Answer → Lent → Type 0
  -- how an answer ends it
  pub ending : Answer → Ending
  -- the refusals that documents 01 and 02 have for it, by their numbers
  pub numbers : List ℕ
  -- whether it may answer Waiting
  pub may_wait : Bool
  -- the refusals of a frame at which it may stop
  pub may_stop : List ℕ

-- ---- the contracts of calls

-- of a call that is lent nothing to write: it answers this
abbrev pub answers : (A : Type 0) → A → (A → Ending) → List ℕ → Contract
answers A value ending numbers =
    record {
      Answer = A;
      Lent = Unit {0};
      lent = tt;
      Meets = λ r after. r ≡ value;
      ending = ending;
      numbers = numbers;
      may_wait = false;
      may_stop = [];
    }

-- of a call that writes into these lent bytes, and may wait or stop at a refused frame
abbrev pub reads : (A : Type 0) → List ℕ → (A → List ℕ → Type 0) → (A → Ending) → List ℕ → Bool → List ℕ → Contract
reads A out Meets ending numbers wait stop =
    record {
      Answer = A;
      Lent = List ℕ;
      lent = out;
      Meets = Meets;
      ending = ending;
      numbers = numbers;
      may_wait = wait;
      may_stop = stop;
    }

-- of any other call that writes into these lent bytes
abbrev pub writes : (A : Type 0) → List ℕ → (A → List ℕ → Type 0) → (A → Ending) → List ℕ → Contract
writes A out Meets ending numbers = reads A out Meets ending numbers false []

-- ---- demand 1

-- an ending that is listed for a call: a result; Waiting where it may wait; one of its numbers, also 25 to 28; or a frame's where it may
-- stop
abbrev pub Listed : Contract → Ending → Type 0
Listed c result = Unit {0}
Listed c waits = c.may_wait ≡ true
Listed c (refuses r) = among (number_of r) c.numbers ≡ true
Listed c (stops r) = among (number_of r) c.may_stop ≡ true
Listed c (differs first) = among index_differs c.numbers ≡ true
Listed c (outside r) = among (clock_number r) c.numbers ≡ true

-- an ending without a result: Waiting, or a refusal, also 25 to 28
abbrev pub Fruitless : Ending → Type 0
Fruitless result = ⊥
Fruitless waits = Unit {0}
Fruitless (refuses r) = Unit {0}
Fruitless (stops r) = ⊥
Fruitless (differs first) = Unit {0}
Fruitless (outside r) = Unit {0}

-- the documents list this answer for the call
abbrev pub Lists : (c : Contract) → c.Answer → Type 0
Lists c r = Listed c (c.ending r)

-- what was lent is as before, unless the call gave packets or bytes
abbrev pub Keeps : (c : Contract) → c.Answer → c.Lent → Type 0
Keeps c r after = Fruitless (c.ending r) → after ≡ c.lent

-- a contract settles the answer and every lent byte: no second ending meets it
abbrev pub Settled : Contract → Type 0
Settled c = (r r' : c.Answer) (l l' : c.Lent) → c.Meets r l → c.Meets r' l' → (r ≡ r') × (l ≡ l')

-- and it can be met: no call is without an ending (said by two negations, since whether a table is well formed is decided by code)
abbrev pub Met : Contract → Type 0
Met c = ((r : c.Answer) (l : c.Lent) → c.Meets r l → ⊥) → ⊥

-- "each call ends in an answer from document 01 or one of its numbered refusals"
abbrev pub AnswersListed : Contract → Type 0
AnswersListed c = (r : c.Answer) (l : c.Lent) → c.Meets r l → Lists c r

-- "a refusal changes no byte of any lent buffer"; nor does Waiting
abbrev pub NothingChanged : Contract → Type 0
NothingChanged c = (r : c.Answer) (l : c.Lent) → c.Meets r l → Keeps c r l

-- demand 1 of a call
pub record Demand1 (c : Contract) : Type 0 where
  pub settled : Settled c
  pub met : Met c
  pub listed : AnswersListed c
  pub unchanged : NothingChanged c
