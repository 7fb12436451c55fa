-- Bytes that are copied by numbers: what was read is written.
use mathlib.Core.Path.{◌≡◌, sym, ap, subst, ◌∙◌}
use mathlib.Core.List.{List, ◌++◌}
use Prim.Native.Nat.{ℕ, ◌+◌, ◌-◌, ◌<◌, ◌≤◌}
use native.Mathlib.Omega.{arith}
use lib.ListN.{length, get_or, take, drop, length-drop, take-append-drop}
use lib.Seq.{length-take-le, take-append-le, take-take, take-add, take_all}
use borrow.Rule.Slice.PartMut.{mid_of, put_mid}
use Rattle.wire.specs.Number.{number, bytes}
use Rattle.wire.specs.Wrote.{Wrote}
use Rattle.wire.proofs.Numbers.{bytes_read}
use Rattle.wire.proofs.Writers.{wrote-length, wrote-lent, wrote_at, wrote_on}

-- of s the first i bytes were written, and from place k on all are written, some of them again
wrote-again : {s o₀ o p : List ℕ} (i k : ℕ) → Wrote (take i s) o₀ o → k ≤ i → i ≤ length s → Wrote (drop k s) (mid_of k (length o - k) o) p
    → Wrote s o₀ (put_mid k (length o - k) o p)
wrote-again {s} {o₀} {o} {p} i k w l h v =
    let P = put_mid k (length o - k) o p in
    let e : length (take i s) ≡ i = length-take-le i s h in
    let m : k ≤ length o = omega (arith, wrote-length (take i s) o₀ o w, w.room, e) in
    let front : take k o ≡ take k s
    = ap (take k) w.left ∙ take-append-le k (take i s) (drop (length (take i s)) o₀) (omega (arith, e)) ∙ take-take k i s l in
    let again : Wrote s o P
    = subst (λ (l : List ℕ). Wrote l o P) (ap (λ (l : List ℕ). l ++ drop k s) front ∙ take-append-drop k s) (wrote_at o k m v) in
    let whole : take i s ++ drop i s ≡ s = take-append-drop i s in
    subst (λ (l : List ℕ). Wrote l o₀ P) whole (wrote_on (drop i s) w (subst (λ (l : List ℕ). Wrote l o P) (sym whole) again))

module _ (s : List ℕ) (small : (j : ℕ) → get_or s j 0 < 256) (n : ℕ) {x : ℕ} where
  -- a number that was read is written as the bytes that it was read from
  pub copied : {o p : List ℕ} (k : ℕ) → k + n ≤ length s → x ≡ number n (drop k s) → Wrote (bytes n x) o p → Wrote (take n (drop k s)) o p
  copied k h e w = rw (e, bytes_read s small n k h) at w

  -- the first i bytes of s were written, and then the next n
  pub copied_more : {o₀ o p : List ℕ} (i : ℕ) → i + n ≤ length s → Wrote (take i s) o₀ o → x ≡ number n (drop i s)
      → Wrote (bytes n x) (mid_of i (length o - i) o) p → Wrote (take (i + n) s) o₀ (put_mid i (length o - i) o p)
  copied_more i h w e v = rw take-add (wrote-lent i w (length-take-le i s (omega arith)) (copied i h e v))

  -- the first i bytes of s were written, and then the last n
  pub copied-last : {o₀ o p : List ℕ} (i k : ℕ) → k + n ≡ length s → k ≤ i → i ≤ length s → Wrote (take i s) o₀ o → x ≡ number n (drop k s)
      → Wrote (bytes n x) (mid_of k (length o - k) o) p → Wrote s o₀ (put_mid k (length o - k) o p)
  copied-last i k q l h w e v =
      wrote-again i k w l h (rw (take_all n (drop k s) (omega (arith, length-drop k s))) at (copied k (omega arith) e v))
