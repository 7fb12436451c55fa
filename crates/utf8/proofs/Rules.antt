-- The rules of the two tables, each proved by one test that antt computes over the whole table.
use mathlib.Core.Path.{◌≡◌, refl}
use mathlib.Core.Bool.{Bool, ◌&&◌}
use Prim.Native.Nat.{ℕ, ◌*◌, ◌/◌, ◌%◌, ◌<◌}
use native.Mathlib.Omega.{arith}
use lib.Dec.{eqb, ltb, eqb→eq, ltb→lt}
use lib.ListN.{get_or}
use mir.Facts.{and_yes}
use Rattle.utf8.specs.Derive.{step, whole}
use Rattle.utf8.specs.Automaton.{wants, byte_class, classes, StateRow, next_of, ClassRule, StepRule}
use Rattle.utf8.proofs.Same.{same, same→eq, same_rows, same-rows→eq}
use Rattle.utf8.proofs.Table.{below, at}

right-class : ℕ → Bool
right-class x = ltb (get_or classes x 0) 14 && eqb (get_or classes x 0) (byte_class x)

-- the table of classes has the class of each octet, one of 14
pub class_rule : ClassRule
unfolding right-class
class_rule = (
  refl,
  λ x h.
      let k : ℕ = get_or classes x 0 in
      let (small, same) = and_yes (ltb k 14) (eqb k (byte_class x)) (at right-class 256 tt x h) in
      (ltb→lt k 14 small, eqb→eq k (byte_class x) same),
)

is_row : ℕ → Bool
is_row n = eqb (n % 14) 0 && ltb n 126

right-step : ℕ → ℕ → Bool
right-step x q = is_row (next_of (14 * q) x) && same_rows (wants (next_of (14 * q) x / 14)) (step (wants q) x)

right-steps : ℕ → Bool
right-steps x = below (right-step x) 9

-- the table of states has, in each state and on each octet, the state that waits for what the grammar's step leaves
by_number : (q x : ℕ) → q < 9 → x < 256 → StateRow (next_of (14 * q) x) × (wants (next_of (14 * q) x / 14) ≡ step (wants q) x)
unfolding is_row right-step right-steps
by_number q x hq hx =
    let n : ℕ = next_of (14 * q) x in
    let (row, same) = and_yes (is_row n) (same_rows (wants (n / 14)) (step (wants q) x))
    (at (right-step x) 9 (at right-steps 256 tt x hx) q hq) in
    let (even, small) = and_yes (eqb (n % 14) 0) (ltb n 126) row in
    ((eqb→eq (n % 14) 0 even, ltb→lt n 126 small), same-rows→eq (wants (n / 14)) (step (wants q) x) same)

-- the same by the state as the code keeps it
pub step_rule : StepRule
step_rule = (
  refl,
  λ n x h hx.
      let e : 14 * (n / 14) ≡ n = omega arith in
      rw e at (by_number (n / 14) x (omega arith) hx),
)

right_end : ℕ → Bool
right_end q = same (whole (wants q)) (eqb (14 * q) 0)

-- a character is whole in the state 0 alone
pub end-rule : (n : ℕ) → StateRow n → whole (wants (n / 14)) ≡ eqb n 0
unfolding right_end
end-rule n h =
    let e : 14 * (n / 14) ≡ n = omega arith in
    rw e at (same→eq (whole (wants (n / 14))) (eqb (14 * (n / 14)) 0) (at right_end 9 tt (n / 14) (omega arith)))
