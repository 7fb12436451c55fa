-- Two ways to write a slice in steps: a gap that is left and filled afterwards, as the size of a bundle element, and a slice that is
-- written on.
use mathlib.Core.Path.{◌≡◌, sym, ap, ◌∙◌}
use mathlib.Core.List.{List, ◌++◌, append_assoc}
use Prim.Native.Nat.{ℕ, ◌+◌, ◌-◌, ◌≤◌}
use native.Mathlib.Omega.{arith}
use lib.ListN.{length, take, drop, length-append, take-append-drop}
use lib.Seq.{drop-drop}
use borrow.Rule.Slice.PartMut.{mid_of, put_mid}
use Rattle.wire.specs.Wrote.{Wrote, Filled}
use Rattle.wire.proofs.Parts.{length_part}
use Rattle.wire.proofs.Writers.{wrote-length, drop-wrote, wrote_at, wrote_on, wrote-over, filled-lent}

-- g bytes are passed over: they stand there as they were
gap-left : {bs o₀ o : List ℕ} {k : ℕ} (g : ℕ) → Filled bs o₀ o k → k + g ≤ length o₀ → Filled (bs ++ take g (drop k o₀)) o₀ o (k + g)
gap-left {bs} {o₀} {o} {k} g f h =
    let a : o ≡ bs ++ drop k o₀ = f.wrote.left ∙ rw (← f.count) in
    let d : drop k o₀ ≡ take g (drop k o₀) ++ drop (k + g) o₀ = sym (take-append-drop g (drop k o₀)) ∙ rw drop-drop in
    let n : length (bs ++ take g (drop k o₀)) ≡ k + g = simp (length-append, length_part o₀ k g h) (omega (arith, f.count)) in
    record {
      count = sym n;
      wrote = record { room = rw n h; left = a ∙ ap (λ (x : List ℕ). bs ++ x) d ∙ rw (n, append_assoc) };
    }

-- hs, which stand after bs, are written over by as many bytes
written_over : (bs hs cs : List ℕ) {o₀ o ds p : List ℕ} (k : ℕ) → Wrote ((bs ++ hs) ++ cs) o₀ o → length bs ≡ k → length ds ≡ length hs
    → Wrote ds (mid_of k (length o - k) o) p → Wrote (bs ++ (ds ++ cs)) o₀ (put_mid k (length o - k) o p)
written_over bs hs cs {o₀} {o} {ds} k w e l v =
    let u : Wrote (bs ++ (hs ++ cs)) o₀ o = rw append_assoc at w in
    let h : k ≤ length o = omega (arith, u.room, length-append bs (hs ++ cs), wrote-length _ _ _ u) in
    wrote-over bs hs cs ds k u e (sym l) (wrote_at o k h v)

-- bs stand there; cs are written behind a gap of the length of ds, and then ds into it
pub gap-filled : {bs o₀ o cs p ds q : List ℕ} {k g n : ℕ} → Filled bs o₀ o k → k + g ≤ length o₀ → length ds ≡ g
    → Filled cs (mid_of (k + g) (length o - (k + g)) o) p n
    → Wrote ds (mid_of k (length (put_mid (k + g) (length o - (k + g)) o p) - k) (put_mid (k + g) (length o - (k + g)) o p)) q
    → Filled (bs ++ (ds ++ cs)) o₀
    (put_mid k (length (put_mid (k + g) (length o - (k + g)) o p) - k) (put_mid (k + g) (length o - (k + g)) o p) q) (k + g + n)
gap-filled {bs} {o₀} {o} {cs} {p} {ds} {q} {k} {g} {n} f h l c v =
    let b = filled-lent (gap-left g f h) c in
    record {
      count = simp length-append (omega (arith, f.count, c.count, l));
      wrote = written_over bs (take g (drop k o₀)) cs k b.wrote (sym f.count) (l ∙ sym (length_part o₀ k g h)) v;
    }

-- ---- a slice that was written once, and is written on

-- what stands there stands there
pub written-again : {bs o₀ o : List ℕ} {k : ℕ} → Filled bs o₀ o k → Filled bs o o k
written-again {bs} {o₀} {o} {k} f =
    record {
      count = f.count;
      wrote = record {
        room = rw (wrote-length bs o₀ o f.wrote) f.wrote.room;
        left = f.wrote.left ∙ ap (λ (x : List ℕ). bs ++ x) (sym (drop-wrote bs o₀ o f.wrote));
      };
    }

-- and what is written after it leaves the later bytes as they were before both
pub written_from : {bs o₀ o₁ o : List ℕ} {k n : ℕ} (cs : List ℕ) → Filled bs o₀ o₁ k → Filled (bs ++ cs) o₁ o n → Filled (bs ++ cs) o₀ o n
written_from cs f g = record { count = g.count; wrote = wrote_on cs f.wrote g.wrote }
