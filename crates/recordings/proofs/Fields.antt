-- The numbers of an index's records, read back.
use mathlib.Core.Path.{◌≡◌, ap, sym, ◌∙◌}
use mathlib.Core.List.{List, ◌++◌, append_assoc}
use Prim.Native.Nat.{ℕ, suc, ◌+◌, ◌-◌, ◌*◌, ◌/◌, ◌^◌, ◌<◌}
use native.Mathlib.Omega.{arith}
use lib.ListN.{length, drop, length-append}
use lib.Seq.{drop_at, drop-append-add}
use Rattle.wire.specs.Number.{number, bytes}
use Rattle.wire.proofs.Numbers.{length-bytes, read-written}
use Rattle.cues.specs.Cues.{entry_size, entry_of, cue_offset, cue_size, cue_records}
use Rattle.cues.proofs.Indexes.{length-entry}

module _ (base u c : ℕ) (w : List ℕ) where
  abbrev all : List ℕ
  all = entry_of base u c ++ w

  -- one record more
  pub entries-more : length all / entry_size ≡ suc (length w / entry_size)
  entries-more = omega (arith, length-append (entry_of base u c) w, length-entry base u c)

  in_parts : all ≡ bytes 8 base ++ (bytes 4 (u - 4) ++ (bytes 4 c ++ w))
  in_parts =
      append_assoc (bytes 8 base) (bytes 4 (u - 4) ++ bytes 4 c) w
      ∙ ap (λ (l : List ℕ). bytes 8 base ++ l) (append_assoc (bytes 4 (u - 4)) (bytes 4 c) w)

  -- the first record's numbers are those that were written
  pub first-offset : base < 256 ^ 8 → cue_offset all 0 ≡ base
  first-offset h = ap (number 8) in_parts ∙ read-written 8 base (bytes 4 (u - 4) ++ (bytes 4 c ++ w)) h

  pub first-size : u - 4 < 256 ^ 4 → cue_size all 0 ≡ u - 4
  first-size h =
      ap (λ (l : List ℕ). number 4 (drop 8 l)) in_parts
      ∙ ap (number 4) (drop_at (bytes 8 base) (bytes 4 (u - 4) ++ (bytes 4 c ++ w)) 8 (length-bytes 8 base))
      ∙ read-written 4 (u - 4) (bytes 4 c ++ w) h

  pub first-records : c < 256 ^ 4 → cue_records all 0 ≡ c
  first-records h =
      let front = bytes 8 base ++ bytes 4 (u - 4) in
      let long : length front ≡ 12
      = omega (arith, length-append (bytes 8 base) (bytes 4 (u - 4)), length-bytes 8 base, length-bytes 4 (u - 4)) in
      ap (λ (l : List ℕ). number 4 (drop 12 l)) (in_parts ∙ sym (append_assoc (bytes 8 base) (bytes 4 (u - 4)) (bytes 4 c ++ w)))
      ∙ ap (number 4) (drop_at front (bytes 4 c ++ w) 12 long) ∙ read-written 4 c w h

  -- the numbers of the records after it are those of the index after it
  later : (n m : ℕ) → m ≡ entry_size + n → drop m all ≡ drop n w
  later n m e =
      let at : m ≡ length (entry_of base u c) + n = omega (arith, length-entry base u c) in
      ap (λ (k : ℕ). drop k all) at ∙ drop-append-add (entry_of base u c) w n

  pub later-offset : (k : ℕ) → cue_offset all (suc k) ≡ cue_offset w k
  later-offset k = ap (number 8) (later (entry_size * k) (entry_size * suc k) (omega arith))

  pub later-size : (k : ℕ) → cue_size all (suc k) ≡ cue_size w k
  later-size k = ap (number 4) (later (entry_size * k + 8) (entry_size * suc k + 8) (omega arith))

  pub later-records : (k : ℕ) → cue_records all (suc k) ≡ cue_records w k
  later-records k = ap (number 4) (later (entry_size * k + 12) (entry_size * suc k + 12) (omega arith))
