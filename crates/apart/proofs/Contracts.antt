-- Demand 1 of a function that its maker gives: what is left to show of each kind.
use mathlib.Core.Path.{◌≡◌, refl, ap, sym, ◌∙◌}
use mathlib.Core.Bool.{true, false, false≢true}
use mathlib.Core.List.{List, []}
use Prim.Native.Nat.{ℕ, zero, suc, ◌*◌, ◌≤◌, ◌<◌}
use native.Mathlib.Omega.{arith}
use Rattle.refusal.specs.Refusal.{number_of}
use Rattle.refusal.specs.declared.Refusal.{Refusal}
use Rattle.wire.specs.Limits.{longest}
use Rattle.node.specs.Tags.{among}
use Rattle.encoder.specs.Outcome.{Outcome}
use Rattle.results.specs.Results.{Encoded}
use Rattle.std.specs.Prelude.{Err, Ok}
use Rattle.told.specs.declared.Told.{Told}
use Rattle.told.specs.Told.{answer_of, more_of}
use Rattle.told.specs.Answers.{told_number, encoded_told}
use Rattle.told.proofs.Unpacked.{tells-only}
use Rattle.apart.specs.CContracts.{CContract, in_high_bits, below56, nothing, never, numbers, tells, lends, Beside}
use Rattle.apart.specs.CContracts.{CEnds, told_an_answer, told_a_refusal, CDemand}
use Rattle.apart.specs.Boundary.{Leaves, encodes_to}
use Rattle.apart.proofs.Ended.{Ended}

-- what is told and bytes that are left, by what they are
pub ends_as : {c : CContract} {told told' more more' : ℕ} {after after' : List ℕ} → told ≡ told' → more ≡ more' → after ≡ after'
    → CEnds c told' more' after' → CEnds c told more after
ends_as p m q e = rw (p, m, q) e

-- nothing is told beside a refusal
pub alone : (n : ℕ) → Beside n 0
alone n = (refl, λ _. refl)

-- a refusal of its number alone stands in the high bits
pub in-high-bits : (r : Refusal) → answer_of (told_number r) ≡ in_high_bits (number_of r)
in-high-bits r = omega arith

-- where 0 is not listed, a number that is listed is 1 at least
pub some_number : (listed : List ℕ) → among 0 listed ≡ false → (n : ℕ) → among n listed ≡ true → 1 ≤ n
some_number listed z zero e = absurd (false≢true (sym z ∙ e))
some_number listed z (suc n) e = omega arith

-- ---- functions that write nothing

-- two numbers and no bytes are settled
pub numbers-settled : {value beside : ℕ} (told told' more more' : ℕ) (after after' : List ℕ)
    → (told ≡ value) × (more ≡ beside) × (after ≡ []) → (told' ≡ value) × (more' ≡ beside) × (after' ≡ [])
    → (told ≡ told') × (more ≡ more') × (after ≡ after')
numbers-settled told told' more more' after after' t u = (t.0 ∙ sym u.0, t.1 ∙ sym u.1, t.2 ∙ sym u.2)

-- a record is an answer below so much, or one of these refusals
pub data Plain (refusals : List ℕ) (most : ℕ) (t : Told) : Type 0 where
  answers : answer_of t < most → Plain refusals most t
  refuses : (r : Refusal) → among (number_of r) refusals ≡ true → t ≡ told_number r → Plain refusals most t

-- of a function that tells such a record nothing else is left to show
pub tells-demand : (value : Told) (refusals : List ℕ) (most : ℕ) → most ≤ 0x100_0000_0000_0000 → among 0 refusals ≡ false
    → Plain refusals most value → CDemand (tells value refusals most)
tells-demand value refusals most high z p =
    record {
      settled = numbers-settled;
      ends = λ told more after t. ends_as t.0 t.1 t.2 (by-plain p);
      no_answer = λ n e a. omega (arith, some_number refusals z n e, a, high);
      no_stop = λ told more s a b. s;
      no_refusal = λ told more n s e q. s;
    }
  where
    by-plain : Plain refusals most value → CEnds (tells value refusals most) (answer_of value) 0 []
    by-plain (answers h) = told_an_answer h refl
    by-plain (refuses r a e) = told_a_refusal (number_of r) a (ap answer_of e ∙ in-high-bits r) (alone (number_of r)) refl

-- ---- functions that are lent a buffer

module _ {A : Type 0} (told_of : A → Told) (Meets : A → List ℕ → Type 0) (lent refusals : List ℕ) (Answered Extra : ℕ → Type 0)
    (Stopped : ℕ → ℕ → Type 0) where
  pub writes-demand : ((a b : A) (l l' : List ℕ) → Meets a l → Meets b l' → (a ≡ b) × (l ≡ l'))
      → ((a : A) (l : List ℕ) → Meets a l
      → CEnds (lends told_of Meets lent refusals Answered Extra Stopped) (answer_of (told_of a)) (more_of (told_of a)) l)
      → ((told : ℕ) → Answered told → below56 told) → among 0 refusals ≡ false
      → ((told more : ℕ) → Stopped told more → Answered told → Extra more → ⊥)
      → ((told more n : ℕ) → Stopped told more → 1 ≤ n → told ≡ in_high_bits n → ⊥)
      → CDemand (lends told_of Meets lent refusals Answered Extra Stopped)
  writes-demand one ends low z no_stop no_refusal =
      record {
        settled = λ told told' more more' after after' t u. tells-only one t u;
        ends = λ told more after t. ends_as t.number t.beside refl (ends t.answer after t.meets);
        no_answer = λ n e a. omega (arith, some_number refusals z n e, low (in_high_bits n) a);
        no_stop = no_stop;
        no_refusal = λ told more n s e q. no_refusal told more n s (some_number refusals z n e) q;
      }

-- of an encoder it is left to show that its contract has one outcome, which ends as listed
pub encodes-demand : (Outcomes : Outcome → Type 0) (out refusals : List ℕ) → ((o p : Outcome) → Outcomes o → Outcomes p → o ≡ p)
    → ((o : Outcome) → Outcomes o → Ended refusals out o.answer o.out) → among 0 refusals ≡ false
    → CDemand (encodes_to Outcomes out refusals)
encodes-demand Outcomes out refusals one ended z =
    writes-demand encoded_told (Leaves Outcomes) out refusals (λ told. told ≤ longest) nothing never
    (λ a b l l' m n. let e = one _ _ m n in (ap (λ (o : Outcome). o.answer) e, ap (λ (o : Outcome). o.out) e))
    (λ a l m. by_answer a l (ended _ m)) (λ told h. omega arith) z (λ told more s a b. s) (λ told more n s h q. s)
  where
    by_answer : (a : Encoded) (l : List ℕ) → Ended refusals out a l
        → CEnds (encodes_to Outcomes out refusals) (answer_of (encoded_told a)) (more_of (encoded_told a)) l
    by_answer (Ok n) l h = told_an_answer (omega arith) refl
    by_answer (Err r) l h = told_a_refusal (number_of r) h.0 (in-high-bits r) (alone (number_of r)) h.1
