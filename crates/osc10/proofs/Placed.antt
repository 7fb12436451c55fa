-- Parts of an input that stand at a position: their parts, and the ranges that they are.
use mathlib.Core.Path.{◌≡◌, refl, sym, ap, ◌∙◌}
use mathlib.Core.List.{List, [], ◌++◌, append_assoc, append-nil}
use Prim.Native.Nat.{ℕ, ◌+◌, ◌≤◌}
use native.Mathlib.Omega.{arith}
use lib.ListN.{length, take, drop, length-append, take-append-drop}
use lib.Seq.{take_at, drop_at, drop-drop, length-take-le}
use Rattle.wire.proofs.Parts.{length_part, take-small, drop-small}
use Rattle.osc10.specs.Words.{Bytes}
use Rattle.osc10.specs.Osc10.{RangeHolds}

-- l stands at offset q of s
pub record At (s : List ℕ) (q : ℕ) (l : List ℕ) : Type 0 where
  pub more : List ℕ
  pub is : drop q s ≡ l ++ more
  pub within : q + length l ≤ length s

-- an input stands at its own beginning
pub at_all : (s : List ℕ) → At s 0 s
at_all s = record { more = []; is = sym (append-nil s); within = omega arith }

module _ {s : List ℕ} {q : ℕ} where
  -- the first of two parts stands where both do
  pub at_front : (x y : List ℕ) → At s q (x ++ y) → At s q x
  at_front x y h =
      record { more = y ++ h.more; is = h.is ∙ append_assoc x y h.more; within = omega (arith, h.within, length-append x y) }

  -- the second stands after the first
  pub at_back : (x y : List ℕ) → At s q (x ++ y) → At s (q + length x) y
  at_back x y h =
      record {
        more = h.more;
        is = sym (drop-drop (length x) q s) ∙ ap (drop (length x)) (h.is ∙ append_assoc x y h.more)
            ∙ drop_at x (y ++ h.more) (length x) refl;
        within = omega (arith, h.within, length-append x y);
      }

  -- the first n bytes of a part stand where it does
  pub at_take : {l : List ℕ} (n : ℕ) → At s q l → At s q (take n l)
  at_take {l} n h = at_front (take n l) (drop n l) (rw take-append-drop h)

  -- the bytes after them stand n bytes further on
  pub at_drop : {l : List ℕ} (n : ℕ) → n ≤ length l → At s q l → At s (q + n) (drop n l)
  at_drop {l} n k h =
      let e : length (take n l) ≡ n = length-take-le n l k in
      rw e at (at_back (take n l) (drop n l) (rw take-append-drop h))

  -- what stands at an offset is a range there
  pub range_at : {l : List ℕ} → At s q l → RangeHolds s q (length l) l
  range_at {l} h = record { lies = h.within; holds = ap (take (length l)) h.is ∙ take_at l h.more (length l) refl }

-- a range is as long as what it holds
pub range_length : {s : List ℕ} {a b : ℕ} {content : List ℕ} → RangeHolds s a b content → b ≡ length content
range_length {s} {a} {b} r = sym (length_part s a b r.lies) ∙ ap length r.holds

-- the second of two parts, by its position and the base of offsets
pub at_next : {s : List ℕ} (base p : ℕ) (x y : List ℕ) → At s (base + p) (x ++ y) → At s (base + (p + length x)) y
at_next base p x y h =
    let e : base + p + length x ≡ base + (p + length x) = omega arith in
    rw e at (at_back x y h)

-- the bytes after the first n, by position and base
pub at_on : {s l : List ℕ} (base p n : ℕ) → n ≤ length l → At s (base + p) l → At s (base + (p + n)) (drop n l)
at_on base p n k h =
    let e : base + p + n ≡ base + (p + n) = omega arith in
    rw e at (at_drop n k h)

-- what stands in bytes is bytes
pub at-bytes : {s : List ℕ} {q : ℕ} {l : List ℕ} → Bytes s → At s q l → Bytes l
at-bytes {s} {q} {l} h at = rw (range_at at).holds at (take-small (length l) (drop q s) (drop-small q s h))
