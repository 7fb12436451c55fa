-- The text is written over some of the last four NULs, and those that it leaves are its padding.
use mathlib.Core.Path.{◌≡◌, refl, ap, ◌∙◌}
use mathlib.Core.List.{List, ◌++◌}
use Prim.Native.Nat.{ℕ, zero, suc, ◌+◌, ◌-◌, ◌%◌, ◌≤◌, ◌<◌}
use native.Mathlib.Omega.{arith}
use lib.ListN.{length, take, drop, replicate, length-append, length-replicate}
use lib.Seq.{drop-append-add, length-take-le}
use borrow.Rule.Slice.PartMut.{mid_of, put_mid}
use Rattle.wire.specs.Number.{bytes}
use Rattle.wire.specs.Wrote.{Wrote, Filled}
use Rattle.wire.proofs.Numbers.{length-bytes}
use Rattle.wire.proofs.Writers.{wrote_at, wrote-under}
use Rattle.strings.specs.Atomic.{osc_string}
use Rattle.strings.proofs.encode_string_into.Goals as goal

zeros-left : (r : ℕ) → r < 4 → drop r (bytes 4 0) ≡ replicate (4 - r) 0
unfolding bytes
zeros-left zero h = refl
zeros-left (suc zero) h = refl
zeros-left (suc (suc zero)) h = refl
zeros-left (suc (suc (suc zero))) h = refl
zeros-left (suc (suc (suc (suc r)))) h = absurd (omega arith)

text-over : {text o p q : List ℕ} (k : ℕ) → k ≡ length text - length text % 4 → k + 4 ≤ length o
    → Wrote (bytes 4 0) (mid_of k (length o - k) o) p → Wrote text (put_mid k (length o - k) o p) q → Filled (osc_string text) o q (k + 4)
unfolding osc_string
text-over {text} {o} k e h w v =
    let r = length text % 4 in
    let front : length (take k o) ≡ k = length-take-le k o (omega arith) in
    let n : length text ≡ length (take k o) + r = omega (arith, front, e) in
    let left : drop (length text) (take k o ++ bytes 4 0) ≡ replicate (4 - r) 0
    = ap (λ (m : ℕ). drop m (take k o ++ bytes 4 0)) n ∙ drop-append-add (take k o) (bytes 4 0) r ∙ zeros-left r (omega arith) in
    let short : length text ≤ length (take k o ++ bytes 4 0) = simp (length-append, length-bytes) (omega (arith, front, n)) in
    record {
      count = simp (length-append, length-replicate) (omega (arith, e));
      wrote = rw left at (wrote-under (wrote_at o k (omega arith) w) v short);
    }

pub returns : goal.returns
returns c =
    text-over _ refl (omega arith) c.put_u32.ensures c.copy.ensures
