-- The first records of a table, of which `look` gives values.
use Rattle.std.proofs.Common.{◌≡◌, ℕ, zero, suc, ◌+◌, ◌*◌, ◌<◌, ◌≤◌, Bool, true, false, ◌&&◌, ltb, List, length}
use Rattle.std.proofs.Common.{sym, refl, ap, ⊎_elim, eq-or-lt_of_le, add-one, arith, ltb-true}
use mathlib.Core.Bool.{false≢true}
use Rattle.std.proofs.Common.{MatchBool, get_or, subst}
use Rattle.std.specs.List.{range_with_len, AllWithin, HoldsAt}
use Rattle.std.proofs.lemmas.List.FromFn.{length-range_with_len, get_or-range_with_len}
use Rattle.wire.proofs.Choices.{by-test}
use Rattle.node.specs.Records.{record_size, capacity}
use Rattle.values.specs.Look.{look_at}
use Rattle.values.specs.Results.{Looked}
use Rattle.shifts.specs.Shifts.{is_value, lookable}

-- a record of which there is a value exists
value_there : (t : List ℕ) (i : ℕ) → is_value (look_at t i) ≡ true → i < capacity t
unfolding look_at
value_there t i =
    by-test (λ (x : Looked). is_value x ≡ true → i < capacity t) (ltb i (capacity t))
    (λ h. λ _. ltb-true i (capacity t) h)
    (λ _. λ e. absurd (false≢true e))

both_first : (x y : Bool) → (x && y) ≡ true → x ≡ true
both_first true y e = refl
both_first false y e = e

both-second : (x y : Bool) → (x && y) ≡ true → y ≡ true
both-second true y e = e
both-second false y e = absurd (false≢true e)

not-both : (x : Bool) {y : Bool} → y ≡ false → (x && y) ≡ false
not-both true e = e
not-both false e = refl

-- one record more
pub lookable-more : (t : List ℕ) (i : ℕ) → lookable t i ≡ true → is_value (look_at t i) ≡ true → lookable t (i + 1) ≡ true
unfolding lookable
lookable-more t i h e = rw (add-one, h) e

-- a record without a value, and every number of records after it
pub not-lookable : (t : List ℕ) (i n : ℕ) → is_value (look_at t i) ≡ false → i < n → lookable t n ≡ false
unfolding lookable
not-lookable t i zero e h = absurd (omega arith)
not-lookable t i (suc n) e h =
    ⊎_elim
    (λ q. not-both (lookable t n) (rw q at e))
    (λ l. ap (λ (b : Bool). b && is_value (look_at t n)) (not-lookable t i n e l))
    (eq-or-lt_of_le {n = i} {m = n} (omega arith))

-- each of the first n records has a value
pub lookable-each : (t : List ℕ) (n i : ℕ) → lookable t n ≡ true → i < n → is_value (look_at t i) ≡ true
unfolding lookable
lookable-each t zero i e h = absurd (omega arith)
lookable-each t (suc n) i e h =
    ⊎_elim
    (λ q. rw q (both-second (lookable t n) _ e))
    (λ l. lookable-each t n i (both_first (lookable t n) _ e) l)
    (eq-or-lt_of_le {n = i} {m = n} (omega arith))

-- where each of the first n records has a value, the table is lookable so far
each-lookable : (t : List ℕ) (n : ℕ) → ((i : ℕ) → i < n → is_value (look_at t i) ≡ true) → lookable t n ≡ true
unfolding lookable
each-lookable t zero h = refl
each-lookable t (suc n) h = rw (each-lookable t n (λ i g. h i (omega arith))) (h n (omega arith))

-- number i of the numbers from 0 on is i
number-is : (n i : ℕ) → i < n → get_or (range_with_len 0 n) i 0 ≡ i
number-is n i g = omega (arith, get_or-range_with_len 0 n i 0 g)

-- what `all` answers over the numbers below n: whether each of these records has a value
pub all_lookable : (t : List ℕ) (n : ℕ) (r : Bool)
    → MatchBool r (AllWithin (λ i. is_value (look_at t i) ≡ true) (range_with_len 0 n) 0 (length (range_with_len 0 n)))
    ((k : ℕ) × (k < length (range_with_len 0 n)) × HoldsAt (λ i. is_value (look_at t i) ≡ false) (range_with_len 0 n) k)
    → r ≡ lookable t n
all_lookable t n true h =
    sym (each-lookable t n (λ i g.
    subst (λ (k : ℕ). is_value (look_at t k) ≡ true) (number-is n i g) (h i 0 (omega arith) (omega (arith, length-range_with_len 0 n)))))
all_lookable t n false h =
    let within : h.0 < n = omega (arith, h.1, length-range_with_len 0 n) in
    sym (not-lookable t h.0 n (subst (λ (k : ℕ). is_value (look_at t k) ≡ false) (number-is n h.0 within) (h.2 0)) within)

-- all of them are in the table
pub lookable-fits : (t : List ℕ) (n : ℕ) → lookable t n ≡ true → record_size * n ≤ length t
lookable-fits t zero e = omega arith
lookable-fits t (suc n) e = omega (arith, value_there t n (lookable-each t (suc n) n e (omega arith)))
