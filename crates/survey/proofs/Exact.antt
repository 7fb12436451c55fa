-- Readings that are exact: where one is not sure, and where the reading of a part makes that of a whole.
use mathlib.Core.Path.{◌≡◌, refl, ap, ◌∙◌}
use Prim.Native.Nat.{ℕ, ◌+◌, ◌≤◌, ◌<◌}
use native.Mathlib.Omega.{arith}
use Rattle.node.specs.Forest.{Forest}
use Rattle.writers.specs.Osc.{longest_element}
use Rattle.survey.specs.Surveys.{Exactly}

-- where no right forest is short enough, an answer over the limit is exact
pub no_length : {Right : Forest → Type 0} {length_of : Forest → ℕ} {r : ℕ} → longest_element < r
    → ((F : Forest) → Right F → length_of F ≤ longest_element → ⊥) → Exactly Right length_of r
no_length o n = record { sure = λ h. absurd (omega arith); only = λ F x h. absurd (n F x h) }

-- what is Q is w of something that is P, and of nothing else
pub record Carries (P Q : Forest → Type 0) (w : Forest → Forest) : Type 0 where
  pub there : (G : Forest) → P G → Q (w G)
  pub back : (F : Forest) → Q F → (G : Forest) × (F ≡ w G) × P G

-- a part that is the whole
pub carries-none : {P : Forest → Type 0} → Carries P P (λ G. G)
carries-none = record { there = λ G x. x; back = λ F x. (F, refl, x) }

-- a part of a part
pub carries-both : {P Q R : Forest → Type 0} {w v : Forest → Forest} → Carries P Q w → Carries Q R v → Carries P R (λ G. v (w G))
carries-both {P} {Q} {R} {w} {v} c d =
    record {
      there = λ G x. d.there (w G) (c.there G x);
      back = λ F x. let y = d.back F x in let z = c.back y.0 y.2 in (z.0, y.1 ∙ ap v z.1, z.2);
    }

module _ {P Q : Forest → Type 0} {w : Forest → Forest} (c : Carries P Q w) (one : (F G : Forest) → P F → P G → F ≡ G)
    {length_of whole_of : Forest → ℕ} {n : ℕ} (e : Exactly P length_of n) (extra : ℕ) {r : ℕ} (re : r ≡ extra + n)
    (grows : (G : Forest) → P G → length_of G ≤ whole_of (w G))
    (adds : n ≤ longest_element → (G : Forest) → P G → whole_of (w G) ≡ extra + length_of G) where
  -- the reading of a part and the bytes around it are the reading of the whole
  pub exact-around : Exactly Q whole_of r
  exact-around =
      record {
        sure = λ h. let l : n ≤ longest_element = omega (arith, re, h) in let x = e.sure l in record {
          forest = w x.forest;
          right = c.there x.forest x.right;
          sized = omega (arith, adds l x.forest x.right, x.sized, re);
        };
        only = λ F q h.
            let y = c.back F q in
            let s : whole_of F ≡ whole_of (w y.0) = ap whole_of y.1 in
            let l : n ≤ longest_element = e.only y.0 y.2 (omega (arith, grows y.0 y.2, s, h)) in
            let x = e.sure l in
            let u : length_of y.0 ≡ n = ap length_of (one y.0 x.forest y.2 x.right) ∙ x.sized in
            omega (arith, adds l y.0 y.2, s, u, re, h);
      }
