-- A line that is put together piece by piece, in a slice that may be too short for it.
use mathlib.Core.Path.{◌≡◌, refl, sym, ap, ◌∙◌}
use mathlib.Core.List.{List, [], ◌∷◌, ◌++◌, append_assoc, append-nil}
use Prim.Native.Nat.{ℕ, zero, suc, ◌+◌, ◌-◌, ◌≤◌, ◌<◌, min}
use native.Mathlib.Nat.{add-zero}
use native.Mathlib.Numerals.{add-one}
use native.Mathlib.Omega.{arith}
use lib.ListN.{length, get_or, take, drop, length-append, length-drop}
use Rattle.std.proofs.Math.Nat.{min_comm}
use Rattle.std.proofs.lemmas.List.{take_min}
use Rattle.std.proofs.lemmas.Slice.{take-put_mid}
use borrow.Rule.Slice.PartMut.{put_mid}
use lib.Seq.{take_all, length-take-le, take-append-add, drop-cons, drop-drop, get_or-drop, drop-length}
use Rattle.telling.specs.Forms.{piece_of, taken_by, filled_in, Says}
use Rattle.telling.specs.CodePut.{PutAfter}

-- ---- one piece

-- as many of the bytes as there is room for
pub put-front : (o₀ bs : List ℕ) {p : List ℕ} (at k : ℕ) {n : ℕ} → at ≤ length o₀ → n ≡ min (length bs) (length o₀ - at) → k ≡ n
    → p ≡ take n bs → PutAfter bs at o₀ (put_mid at k o₀ p) (at + n)
put-front o₀ bs {p} at k {n} h m e q =
    let l : length p ≡ n = ap length q ∙ length-take-le n bs (omega arith) in
    let t : take n bs ≡ take (length o₀ - at) bs = rw (m, min_comm (length bs) (length o₀ - at)) (take_min (length o₀ - at) bs) in
    let f : length (take at o₀) ≡ at = length-take-le at o₀ h in
    let s : take (length o₀) (take at o₀ ++ bs) ≡ take at o₀ ++ take (length o₀ - at) bs
    = ap (λ (j : ℕ). take j (take at o₀ ++ bs)) (omega arith) ∙ take-append-add (take at o₀) bs (length o₀ - at) in
    record {
      room = simp (length-append, length-drop, l, f) (omega arith);
      within = omega arith;
      left = take-put_mid at k o₀ p (at + n) (omega arith) h ∙ ap (λ (l : List ℕ). take at o₀ ++ l) (q ∙ t) ∙ sym s;
    }

-- what is put, by another name
pub put_as : {bs cs o₀ o : List ℕ} {at r : ℕ} → bs ≡ cs → PutAfter bs at o₀ o r → PutAfter cs at o₀ o r
put_as e w = rw e at w

-- ---- piece after piece

-- what a slice has no room for does not count
front : (n : ℕ) (xs ys : List ℕ) → take n (take n xs ++ ys) ≡ take n (xs ++ ys)
front zero xs ys = refl
front (suc n) [] ys = refl
front (suc n) (x ∷ xs) ys = ap (λ (l : List ℕ). x ∷ l) (front n xs ys)

-- a piece is put, and the rest is to come
piece-more : {bs o₁ o : List ℕ} {at r : ℕ} (rest : List ℕ) → PutAfter bs at o₁ o r
    → take (length o₁) (take r o ++ rest) ≡ take (length o₁) (take at o₁ ++ (bs ++ rest))
piece-more {bs} {o₁} {o} {at} {r} rest w = rw (w.left, front (length o₁) (take at o₁ ++ bs) rest, append_assoc (take at o₁) bs rest)

-- the byte at i, and then the rest
mark-more : (text numbers form : List ℕ) (k i : ℕ) → i < length form
    → filled_in text (drop k numbers) (drop i form)
    ≡ piece_of text (get_or numbers k 0) (get_or form i 0) ++ filled_in text (drop (k + taken_by (get_or form i 0)) numbers) (drop (i + 1) form)
unfolding filled_in
mark-more text numbers form k i h =
    rw (add-one, drop-cons form i 0 h, drop-drop, get_or-drop, add-zero)

-- the byte at i is told: what stands there, and what the rest of the form gives, still make the whole
pub mark-told : {o₁ o : List ℕ} {at r x t : ℕ} (text numbers form : List ℕ) (k i : ℕ) → i < length form → x ≡ get_or numbers k 0
    → t ≡ taken_by (get_or form i 0) → PutAfter (piece_of text x (get_or form i 0)) at o₁ o r
    → take (length o₁) (take at o₁ ++ filled_in text (drop k numbers) (drop i form)) ≡ take (length o₁) (filled_in text numbers form)
    → take (length o) (take r o ++ filled_in text (drop (k + t) numbers) (drop (i + 1) form)) ≡ take (length o) (filled_in text numbers form)
mark-told {o₁} {o} {at} {r} {x} {t} text numbers form k i h ex et w v =
    rw (w.room, et, piece-more _ w, ex, ← mark-more text numbers form k i h) v

-- the whole form is filled in
pub all_told : (text numbers form out : List ℕ) (at k i : ℕ) → i ≡ length form → at ≤ length out
    → take (length out) (take at out ++ filled_in text (drop k numbers) (drop i form)) ≡ take (length out) (filled_in text numbers form)
    → Says (filled_in text numbers form) out at
unfolding filled_in
all_told text numbers form out at k i e h w =
    record {
      counts = (h, sym (length-take-le at out h));
      says = sym (take_all (length out) (take at out) (rw (length-take-le at out h) h)) ∙ (rw (e, drop-length, append-nil) at w);
    }

-- no line
pub says_none : (out : List ℕ) → Says [] out 0
says_none out = record
    { counts = (omega arith, sym (length-take-le 0 out (omega arith))); says = sym (take_all (length out) [] (omega arith)) }

-- a line by another name
pub says-as : {bs cs out : List ℕ} {r : ℕ} → bs ≡ cs → Says bs out r → Says cs out r
says-as e w = rw e at w
