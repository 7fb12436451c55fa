-- The sum of a slice's bytes, one by one.
use Rattle.std.proofs.Common.{◌≡◌, ℕ, ◌+◌, ◌*◌, ◌%◌, ◌<◌, ◌≤◌, List, length, get_or, drop, add-one, drop_of_length-le, drop-cons}
use Rattle.runs.specs.Sum.{sum_of}

-- the next byte
pub sum-next : (l : List ℕ) (i s : ℕ) → i < length l → sum_of (drop (i + 1) l) ((s * 257 + get_or l i 0) % 4294967291) ≡ sum_of (drop i l) s
unfolding sum_of
sum-next l i s h = rw (add-one, drop-cons l i 0)

-- no byte is left
pub sum-end : (l : List ℕ) (i s : ℕ) → length l ≤ i → sum_of (drop i l) s ≡ s
unfolding sum_of
sum-end l i s h = rw (drop_of_length-le l h)
