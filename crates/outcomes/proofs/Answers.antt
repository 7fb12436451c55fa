-- What a decoder's answer says of the records that are kept.
use mathlib.Core.Path.{◌≡◌, refl, sym, ap, ◌∙◌}
use mathlib.Core.List.{List, ◌++◌, append_assoc}
use Prim.Native.Nat.{ℕ, ◌-◌, ◌*◌, ◌≤◌}
use native.Mathlib.Omega.{arith}
use native.Mathlib.Nat.{mul-div_cancel, le-div_iff_mul-le}
use lib.ListN.{length, take, drop, length-append}
use lib.Seq.{take_at, length-take-le}
use borrow.Rule.Slice.PartMut.{mid_of}
use Rattle.io.specs.Counts.{IsPrefixLen}
use Rattle.node.specs.Forest.{Forest, size}
use Rattle.node.specs.Records.{record_size, most_records, records_of, capacity, stored}
use Rattle.node.proofs.Recorded.{length-records}
use Rattle.framing.specs.Framing.{Whole, trees, waiting, refusal, stopped}
use Rattle.answering.specs.Limits.{bounded, limited, decoded, forest_of, tabled}
use Rattle.results.specs.Results.{DecodeAnswer}
use Rattle.std.specs.Prelude.{Err}
use Rattle.results.specs.Results as answer
use Rattle.decoder.proofs.Chosen.{by-decoded, by-bounded}
use Rattle.telling.specs.Replies.{decoded_line}
use Rattle.outcomes.specs.Kept.{roots_of, kept_trees, kept_count}
use Rattle.outcomes.specs.CodeRoots.{StandAt}

-- the records that are kept are as many as are counted, and no more than there is room for
pub record Fits (capacity : ℕ) (f : Forest) (d : DecodeAnswer) : Type 0 where
  pub counts : size (kept_trees d f) ≡ kept_count d
  pub few : kept_count d ≤ capacity

-- where the trees are too many or too deep, nothing is kept
bounded-fits : (capacity limit : ℕ) (f : Forest) (given : DecodeAnswer) → (size f ≤ capacity → Fits capacity f given)
    → Fits capacity f (bounded capacity limit f given)
unfolding size
bounded-fits capacity limit f given g =
    by-bounded (Fits capacity f) capacity limit f given (λ _. record { counts = refl; few = omega arith })
    (λ _. record { counts = refl; few = omega arith })
    (λ _ h. g h)

limited-fits : (capacity limit : ℕ) (msg : List ℕ) (w : Whole) → Fits capacity (forest_of w) (limited capacity limit msg w)
unfolding size
limited-fits capacity limit msg (trees f left) =
    bounded-fits capacity limit f _ (λ h. record { counts = refl; few = h })
limited-fits capacity limit msg waiting = record { counts = refl; few = omega arith }
limited-fits capacity limit msg (refusal k) = record { counts = refl; few = omega arith }
limited-fits capacity limit msg (stopped f left k at) =
    bounded-fits capacity limit f _ (λ h. record { counts = refl; few = h })

-- so it is of every answer
decoded-fits : (rule : List ℕ → Whole) (capacity limit : ℕ) (msg : List ℕ)
    → Fits capacity (forest_of (rule msg)) (decoded rule capacity limit msg)
unfolding size
decoded-fits rule capacity limit msg =
    by-decoded (Fits capacity (forest_of (rule msg))) rule capacity limit msg (λ _. record { counts = refl; few = omega arith })
    (λ _. record { counts = refl; few = omega arith })
    (λ _ _. limited-fits capacity limit msg (rule msg))

-- a table begins with the records that are kept
pub record Leaves (d : DecodeAnswer) (f : Forest) (t : List ℕ) : Type 0 where
  pub more : List ℕ
  pub is : t ≡ records_of 0 (kept_trees d f) ++ more

tabled-leaves : (d : DecodeAnswer) (f : Forest) (t : List ℕ) → Leaves d f (tabled d f t)
unfolding stored records_of
tabled-leaves (answer.Packets count left dirty) f t = record { more = drop (record_size * size f) t; is = refl }
tabled-leaves answer.Waiting f t = record { more = t; is = refl }
tabled-leaves (Err r) f t = record { more = t; is = refl }
tabled-leaves (answer.Stopped count left dirty r at) f t = record { more = drop (record_size * size f) t; is = refl }

-- so does the one that a decoder leaves, whatever stands after the part that it was lent
pub leaves : {p : List ℕ} (d : DecodeAnswer) (f : Forest) (t rest : List ℕ) → p ≡ tabled d f t → Leaves d f (p ++ rest)
leaves {p} d f t rest e =
    let l = tabled-leaves d f t in
    record {
      more = l.more ++ rest;
      is = ap (λ (x : List ℕ). x ++ rest) (e ∙ l.is) ∙ append_assoc (records_of 0 (kept_trees d f)) l.more rest;
    }

-- the room that is lent is for as many records as are asked for
room-lent : (t : List ℕ) (records : ℕ) → records * record_size ≤ length t → capacity (mid_of 0 (records * record_size - 0) t) ≡ records
room-lent t records h =
    let z : records * record_size - 0 ≡ records * record_size = omega arith in
    let l : length (take (records * record_size) t) ≡ records * record_size = length-take-le (records * record_size) t h in
    rw (z, l) (mul-div_cancel records (omega arith))

module _ {d : DecodeAnswer} (rule : List ℕ → Whole) (limit : ℕ) (msg t : List ℕ) (records : ℕ) (h : records * record_size ≤ length t)
    (e : d ≡ decoded rule (capacity (mid_of 0 (records * record_size - 0) t)) limit msg) where
  -- so the answer is the one for so many records
  pub answered : d ≡ decoded rule records limit msg
  answered = e ∙ ap (λ (n : ℕ). decoded rule n limit msg) (room-lent t records h)

  -- which fits
  pub answer-fits : Fits records (forest_of (rule msg)) d
  answer-fits = rw answered (decoded-fits rule records limit msg)

module _ {capacity' count : ℕ} {d : DecodeAnswer} {f : Forest} {t : List ℕ} (l : Leaves d f t) (x : Fits capacity' f d)
    (e : count ≡ kept_count d) where
  same_size : size (kept_trees d f) ≡ count
  same_size = x.counts ∙ sym e

  bytes-in : count * record_size ≤ length t
  bytes-in =
      let rs = records_of 0 (kept_trees d f) in
      omega (arith, ap length l.is, length-append rs l.more, length-records 0 (kept_trees d f), same_size)

  -- the records that are kept lie in the table
  pub records-in : count ≤ capacity t
  records-in = (le-div_iff_mul-le {k = record_size} (omega arith)).1 bytes-in

  -- as the trees that they are
  pub stand : capacity' ≤ most_records → StandAt t 0 count (kept_trees d f)
  stand h = record { more = l.more; records = l.is; ends = omega (arith, same_size); few = omega (arith, x.few) }

  -- the bytes that are kept are those records
  pub bytes-kept : take (count * record_size) t ≡ records_of 0 (kept_trees d f)
  bytes-kept =
      ap (take (count * record_size)) l.is
      ∙ take_at (records_of 0 (kept_trees d f)) l.more (count * record_size) (omega (arith, length-records 0 (kept_trees d f), same_size))

  -- and they lie in the table
  pub bytes_counted : IsPrefixLen (count * record_size) t
  bytes_counted = (bytes-in, sym (length-take-le (count * record_size) t bytes-in))

-- the number of packets is told of packets alone
pub packets-told : (d : DecodeAnswer) (f : Forest) (bytes : ℕ) → decoded_line (roots_of (kept_trees d f)) bytes d ≡ decoded_line (roots_of f) bytes d
packets-told (answer.Packets count left dirty) f bytes = refl
packets-told answer.Waiting f bytes = refl
packets-told (Err r) f bytes = refl
packets-told (answer.Stopped count left dirty r at) f bytes = refl
