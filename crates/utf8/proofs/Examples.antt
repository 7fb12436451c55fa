-- Examples, computed, that meet the hypotheses of the two halves of `octets`: characters of each length, and a surrogate; and those of
-- `is_utf8_only`, of the tables' rules and of `run_passes`.
use mathlib.Core.Path.{◌≡◌, refl}
use mathlib.Core.Bool.{true, false≢true}
use mathlib.Core.List.{List, [], ◌∷◌}
use Prim.Native.Nat.{ℕ, ◌/◌}
use native.Mathlib.Omega.{arith}
use lib.Dec.{ltb, ltb→lt}
use lib.ListN.{get_or}
use Rattle.utf8.specs.Utf8.{Octets}
use Rattle.utf8.specs.Derive.{step, utf8}
use Rattle.utf8.specs.Automaton.{wants, classes, next_of}
use Rattle.utf8.proofs.Decided.{yes}
use Rattle.utf8.proofs.Grammar.{octets}
use Rattle.utf8.proofs.Only.{is_utf8_only}
use Rattle.utf8.proofs.Plain.{run_passes}
use Rattle.utf8.proofs.Rules.{class_rule, step_rule}
use Rattle.utf8.proofs.Table.{at}

-- 'a', é, the euro sign and a musical symbol: 61 C3A9 E282AC F09D849E
abbrev four : List ℕ
four = 0x61 ∷ 0xC3 ∷ 0xA9 ∷ 0xE2 ∷ 0x82 ∷ 0xAC ∷ 0xF0 ∷ 0x9D ∷ 0x84 ∷ 0x9E ∷ []

-- they are accepted, so they are in the grammar
in-grammar : Octets four
in-grammar = (octets four).sound refl

-- and no other answer meets the contract
one_answer : utf8 four ≡ true
one_answer = is_utf8_only four (utf8 four) true (octets four) (yes in-grammar)

-- a surrogate, ED A0 80, is not accepted, so it is not in the grammar
surrogate : Octets (0xED ∷ 0xA0 ∷ 0x80 ∷ []) → ⊥
surrogate o = false≢true ((octets (0xED ∷ 0xA0 ∷ 0x80 ∷ [])).complete o)

-- C3 has the class 5
class-of-c3 : get_or classes 0xC3 0 ≡ 5
class-of-c3 = (class_rule.1 0xC3 (omega arith)).1

-- the table leads from the state 1, kept as 14, on A9 to the state that waits for a new character
after-a-tail : wants (next_of 14 0xA9 / 14) ≡ step (wants 1) 0xA9
after-a-tail = (step_rule.1 14 0xA9 (refl, omega arith) (omega arith)).1

abbrev letters : List ℕ
letters = 0x61 ∷ 0x62 ∷ []

-- two letters before é change nothing
letters-first : utf8 (0x61 ∷ 0x62 ∷ 0xC3 ∷ 0xA9 ∷ []) ≡ utf8 (0xC3 ∷ 0xA9 ∷ [])
letters-first =
    run_passes letters (0xC3 ∷ 0xA9 ∷ []) λ i h. ltb→lt (get_or letters i 0) 128 (at (λ (j : ℕ). ltb (get_or letters j 0) 128) 2 tt i h)
