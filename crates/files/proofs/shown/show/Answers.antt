-- `files::shown::show` meets its contract: each turn shows one byte more.
use mathlib.Core.Path.{◌≡◌, refl, ap, sym, ◌∙◌}
use mathlib.Core.List.{List, [], ◌∷◌, ◌++◌, map}
use Prim.Native.Nat.{ℕ, zero, suc, ◌<◌}
use native.Mathlib.Omega.{arith}
use native.Mathlib.Numerals.{add-one}
use lib.ListN.{length, take, get_or, length-set}
use lib.Seq.{length-take-le, take_all}
use borrow.Author.Rules.{rules}
use Rattle.wire.proofs.Writers.{wrote-set}
use Rattle.files.specs.Shown.{shown_byte}
use Rattle.files.proofs.shown.show.Goals as goal

-- the bytes that are shown of one more
one_more : (f : ℕ → ℕ) (l : List ℕ) (i : ℕ) → i < length l → map f (take (suc i) l) ≡ map f (take i l) ++ (f (get_or l i 0) ∷ [])
one_more f [] i h = absurd (omega arith)
one_more f (x ∷ l) zero h = refl
one_more f (x ∷ l) (suc i) h = ap (λ (m : List ℕ). f x ∷ m) (one_more f l i (omega arith))

-- as many are shown as there are
as_many : (f : ℕ → ℕ) (l : List ℕ) → length (map f l) ≡ length l
as_many f [] = refl
as_many f (x ∷ l) = ap suc (as_many f l)

pub loop-i-preserved : goal.loop-i-preserved
loop-i-preserved c =
    let name = c.args.name.now in
    let i = c.loop-i.i in
    let low : i < length name = search rules in (
      omega arith,
      rw (add-one, one_more shown_byte name i low, ← c.shown_byte.ensures)
          (wrote-set _ _ _ c.loop-i.invariant.1 i _ (as_many shown_byte (take i name) ∙ length-take-le i name (omega arith)) (search rules)),
      simp length-set c.loop-i.invariant.2,
    )

pub returns : goal.returns
returns c =
    let name = c.args.name.now in
    let all : c.loop-i.i ≡ length name = omega (arith, c.loop-i.invariant.0, c.loop-i-test.false) in
    record {
      count = sym (as_many shown_byte name);
      wrote = rw (take_all c.loop-i.i name (omega (arith, all))) at c.loop-i.invariant.1;
    }
