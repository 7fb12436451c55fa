-- The automaton on octets: a turn of the loop, a block, and the end.
use mathlib.Core.Path.{◌≡◌, refl, sym, ap, subst, ◌∙◌}
use mathlib.Core.Bool.{Bool}
use mathlib.Core.List.{List, [], ◌++◌, append-nil}
use Prim.Native.Nat.{ℕ, suc, ◌+◌, ◌/◌, ◌<◌}
use native.Mathlib.Numerals.{add-one}
use native.Mathlib.Omega.{arith}
use lib.Dec.{eqb}
use lib.ListN.{length, take, drop, get_or, take-append-drop}
use lib.Seq.{drop-cons}
use Rattle.utf8.specs.Utf8.{Range, Octets, Decides}
use Rattle.utf8.specs.Derive.{run, step, utf8}
use Rattle.utf8.specs.CodeHighest.{highest_of}
use Rattle.utf8.specs.Automaton.{wants, classes, nexts, StateRow}
use Rattle.utf8.specs.CodeStates.{Reads}
use Rattle.utf8.proofs.Grammar.{octets}
use Rattle.utf8.proofs.Plain.{ascii_run}
use Rattle.utf8.proofs.Rules.{class_rule, step_rule, end-rule}

module _ (class next : List ℕ) (is-class : class ≡ classes) (is-next : next ≡ nexts) where
  -- the state that the two tables give after the state n, on the octet x
  abbrev after : ℕ → ℕ → ℕ
  after n x = get_or next (n + get_or class x 0) 0

  -- an entry stands in the table
  pub entry-within : (n x : ℕ) → StateRow n → x < 256 → n + get_or class x 0 < 126
  entry-within n x hn h =
      let k : get_or class x 0 < 14 = rw is-class (class_rule.1 x h).0 in
      omega arith

  -- the two tables do the grammar's step
  step-by-tables : (n x : ℕ) → StateRow n → x < 256 → StateRow (after n x) × (wants (after n x / 14) ≡ step (wants (n / 14)) x)
  step-by-tables n x hn hx = rw (is-class, is-next) (step_rule.1 n x hn hx)

  -- an entry is a state
  pub entry-small : (n x : ℕ) → StateRow n → x < 256 → after n x < 126
  entry-small n x hn hx = (step-by-tables n x hn hx).0.1

  -- a turn: the next state answers on what is left after an octet as this one does on what is left before it
  pub turn : (n : ℕ) (s : List ℕ) (i : ℕ) → StateRow n → get_or s i 0 < 256 → i < length s
      → StateRow (after n (get_or s i 0))
      × ((rest : List ℕ) → run (wants (after n (get_or s i 0) / 14)) (drop (i + 1) s ++ rest) ≡ run (wants (n / 14)) (drop i s ++ rest))
  turn n s i hn hx h =
      let (row, same) = step-by-tables n (get_or s i 0) hn hx in (
        row,
        λ rest. rw (drop-cons s i 0, add-one) (ap (λ (rows : List (List Range)). run rows (drop (suc i) s ++ rest)) same),
      )

-- the first octets were read: the state answers on what follows them
pub onward : (n r m : ℕ) (s block later : List ℕ) → block ≡ take m s → later ≡ drop m s → Reads n block r → {b : Bool}
    → run (wants (n / 14)) s ≡ b → run (wants (r / 14)) later ≡ b
onward n r m s block later e f h same =
    let all : block ++ later ≡ s = rw (e, f) (take-append-drop m s) in
    h.1 later ∙ ap (run (wants (n / 14))) all ∙ same

-- octets below 0x80, where no character is open, are passed over
pub passed_over : (n : ℕ) (s : List ℕ) → n ≡ 0 → highest_of 0 s < 0x80 → Reads n s 0
passed_over n s e h = ((refl, omega arith), λ rest. rw e (sym (ascii_run 0 s h rest)))

-- the end: where all is read, the state 0 is the answer
pub answer : (n r : ℕ) (t s : List ℕ) → Reads n t r → run (wants (n / 14)) t ≡ utf8 s → Decides (eqb r 0) (Octets s)
answer n r t s h same =
    let g : run (wants (r / 14)) [] ≡ run (wants (n / 14)) t = rw append-nil at (h.1 []) in
    let f : eqb r 0 ≡ utf8 s = sym (end-rule r h.0) ∙ g ∙ same in
    subst (λ (b : Bool). Decides b (Octets s)) (sym f) (octets s)
