-- A turn of a loop over the nodes of a row: what the iterator gave is the first record that is left.
use mathlib.Core.Path.{◌≡◌, refl, sym, ◌∙◌, subst}
use mathlib.Core.List.{List}
use Prim.Native.Nat.{ℕ, ◌+◌, ◌≤◌, ◌<◌}
use native.Mathlib.Omega.{arith}
use Rattle.std.proofs.Common.{Some}
use mathlib.Core.Logic.{◌⊎◌, inl, inr, ⊎_elim}
use Rattle.wire.proofs.Choices.{lt-or-le}
use Rattle.node.specs.Forest.{Forest, nil, node}
use Rattle.table.specs.Tree.{Spans}
use Rattle.table.proofs.Spanned.{cut}
use Rattle.node.specs.Records.{end_at}
use Rattle.writers.specs.Siblings.{Advances, NextOf}
use Rattle.writers.specs.CodeWriters.{OutputRoom}
use Rattle.writers.proofs.Rows.{Going}

-- the loop stands at the record that was given, and the iterator behind it
pub record Given (P : Forest → Type 0) (g f : Forest → List ℕ) (t : List ℕ) (lo hi : ℕ) (o₀ o : List ℕ) (k n end : ℕ)
    (t' : List ℕ) (at' hi' : ℕ) : Type 0 where
  pub going : Going P g f t lo hi o₀ o k n
  pub within : k < hi
  pub end-is : end ≡ end_at t k
  pub same : t' ≡ t
  pub still : hi' ≡ hi
  pub behind : at' ≡ end

pub given : {P : Forest → Type 0} {g f : Forest → List ℕ} {t s : List ℕ} {lo hi h : ℕ} {o₀ o : List ℕ} {at k n end : ℕ}
    {t' : List ℕ} {at' hi' : ℕ} → s ≡ t → h ≡ hi → Going P g f t lo hi o₀ o at n → NextOf s at h (Some (k, end)) t' at' hi'
    → Given P g f t lo hi o₀ o k n end t' at' hi'
given {P} {g} {f} {t} {s} {lo} {hi} {h} {o₀} {o} {at} {k} {n} {end} e q w x =
    let below : at < hi = omega (arith, x.0, q) in
    let is : end ≡ end_at t at = x.2 ∙ subst (λ (u : List ℕ). end_at u at ≡ end_at t at) (sym e) refl in
    record {
      going = rw x.1 w;
      within = omega (arith, below, x.1);
      end-is = rw x.1 is;
      same = x.3 ∙ e;
      still = x.4 ∙ q;
      behind = x.5;
    }

-- the records of a forest each end after themselves
ends-after : (t : List ℕ) (lo hi : ℕ) (F : Forest) → Spans t lo hi F → (i : ℕ) → lo ≤ i → i < hi → i < end_at t i
unfolding Spans
ends-after t lo hi nil s i l h = absurd (omega (arith, s))
ends-after t lo hi (node item inside rest) s i l h =
    let c = cut t lo hi (node item inside rest) (omega arith) s in
    ⊎_elim
    (λ a. ⊎_elim (λ b. ends-after t (lo + 1) (end_at t lo) inside s.1 i a b) (λ b. ends-after t (end_at t lo) hi rest s.2 i b h)
    (lt-or-le i (end_at t lo)))
    (λ e. rw (← e) c.on)
    (eq-or-more lo i l)
  where
    eq-or-more : (a b : ℕ) → a ≤ b → (a + 1 ≤ b) ⊎ (a ≡ b)
    eq-or-more a b l = ⊎_elim (λ m. inl (omega arith)) (λ m. inr (omega arith)) (lt-or-le a b)

-- so an iterator may go over a row of which there is output room
pub row-advances : {P : Forest → Type 0} {f : Forest → List ℕ} {t : List ℕ} {lo hi n : ℕ} → OutputRoom P f t lo hi n → Advances t lo hi
row-advances {t = t} {lo = lo} {hi = hi} r = (r.table, ends-after t lo hi r.forest r.spans)
