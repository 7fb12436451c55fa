-- The turns of the loop that shifts a table: what stands before the record is done, and what is left is shifted by what is left to do.
use Rattle.std.proofs.Common.{◌≡◌, ℕ, zero, suc, ◌+◌, ◌-◌, ◌*◌, ◌<◌, ◌≤◌, List, ◌++◌, length, get_or, take, drop, sym, refl, ap, ◌∙◌, append_assoc, arith, length-append, length-drop, take-append-drop, length-take-le, take_at, drop_at}
use borrow.Rule.Slice.PartMut.{mid_of, put_mid}
use Rattle.wire.specs.Wrote.{Wrote}
use Rattle.wire.proofs.Choices.{by-test}
use Rattle.wire.proofs.Parts.{lent, given_back}
use Rattle.wire.proofs.Writers.{same_length}
use Rattle.node.specs.Records.{record_size}
use Rattle.shifts.specs.Shifts.{is_timed, shifted_record, own_tag, shifted_table, time_tags}
use Rattle.shifts.proofs.Records.{length-shifted}

-- the first i records of the table t₀ are shifted, and so many tags were moved
pub record Shifting (by count : ℕ) (t₀ : List ℕ) (moved i : ℕ) (t : List ℕ) : Type 0 where
  pub within : i ≤ count
  pub same : length t ≡ length t₀
  pub whole : take (record_size * i) t ++ shifted_table by (count - i) (drop (record_size * i) t) ≡ shifted_table by count t₀
  pub tags : moved + length (time_tags (count - i) (drop (record_size * i) t)) ≡ length (time_tags count t₀)

pub shifting-start : (by count : ℕ) (t₀ : List ℕ) → Shifting by count t₀ 0 0 t₀
shifting-start by count t₀ =
    let z : count - 0 ≡ count = omega arith in
    record { within = omega arith; same = refl; whole = rw z; tags = rw z (omega arith) }

-- there are no more tags than records
few-own : (r : List ℕ) → length (own_tag r) ≤ 1
few-own r = by-test (λ (l : List ℕ). length l ≤ 1) (is_timed (get_or r 0 0)) (λ _. omega arith) (λ _. omega arith)

pub few-tags : (n : ℕ) (t : List ℕ) → length (time_tags n t) ≤ n
unfolding time_tags
few-tags zero t = omega arith
few-tags (suc n) t =
    omega (
      arith,
      length-append (own_tag (take record_size t)) (time_tags n (drop record_size t)),
      few-own (take record_size t),
      few-tags n (drop record_size t),
    )

module _ (by count : ℕ) (t₀ : List ℕ) {moved i : ℕ} {t : List ℕ} (s : Shifting by count t₀ moved i t) where
  -- nothing is left to do
  pub shifting-end : count ≤ i → (moved ≡ length (time_tags count t₀)) × (t ≡ shifted_table by count t₀)
  unfolding shifted_table time_tags
  shifting-end h =
      let z : count - i ≡ 0 = omega arith in
      (omega (arith, rw z at s.tags), sym (take-append-drop (record_size * i) t) ∙ rw z at s.whole)

  module _ (h : i < count) (fits : record_size * count ≤ length t₀) where
    left : count - i ≡ suc (count - (i + 1))
    left = omega arith

    module _ {n : ℕ} {p : List ℕ} (e : n ≡ length (own_tag (take record_size (mid_of (record_size * i) (length t - record_size * i) t))))
        (w : Wrote (shifted_record by (take record_size (mid_of (record_size * i) (length t - record_size * i) t)))
        (mid_of (record_size * i) (length t - record_size * i) t) p) where
      -- the record that was lent, and the bytes after it
      abbrev here : List ℕ
      here = take record_size (drop (record_size * i) t)

      abbrev later : List ℕ
      later = drop record_size (drop (record_size * i) t)

      abbrev after : List ℕ
      after = put_mid (record_size * i) (length t - record_size * i) t p

      here-length : length here ≡ record_size
      here-length = length-take-le record_size (drop (record_size * i) t) (omega (arith, length-drop (record_size * i) t, s.same))

      front_length : length (take (record_size * i) t) ≡ record_size * i
      front_length = length-take-le (record_size * i) t (omega (arith, s.same))

      parts : after ≡ take (record_size * i) t ++ (shifted_record by here ++ later)
      parts =
          let v : Wrote (shifted_record by here) (drop (record_size * i) t) p = rw lent at w in
          given_back t p (record_size * i)
          ∙ ap (λ (x : List ℕ). take (record_size * i) t ++ x)
          (v.left ∙ ap (λ (k : ℕ). shifted_record by here ++ drop k (drop (record_size * i) t)) (length-shifted by here here-length))

      done-length : length (take (record_size * i) t ++ shifted_record by here) ≡ record_size * (i + 1)
      done-length = simp length-append (omega (arith, front_length, length-shifted by here here-length))

      joined : after ≡ (take (record_size * i) t ++ shifted_record by here) ++ later
      joined = parts ∙ sym (append_assoc (take (record_size * i) t) (shifted_record by here) later)

      done : take (record_size * (i + 1)) after ≡ take (record_size * i) t ++ shifted_record by here
      done =
          ap (take (record_size * (i + 1))) joined
          ∙ take_at (take (record_size * i) t ++ shifted_record by here) later (record_size * (i + 1)) done-length

      rest : drop (record_size * (i + 1)) after ≡ later
      rest =
          ap (drop (record_size * (i + 1))) joined
          ∙ drop_at (take (record_size * i) t ++ shifted_record by here) later (record_size * (i + 1)) done-length

      -- one record more
      pub shifting-more : Shifting by count t₀ (moved + n) (i + 1) after
      unfolding shifted_table time_tags
      shifting-more =
          let m : n ≡ length (own_tag here) = rw lent at e in
          let x = rw left at s.whole in
          let y = rw left at s.tags in
          record {
            within = omega arith;
            same = same_length t (record_size * i) w ∙ s.same;
            whole = rw (done, rest, append_assoc) x;
            tags = rw rest (omega (arith, m, y, length-append (own_tag here) (time_tags (count - (i + 1)) later)));
          }

      -- their number does not wrap
      pub shifting-low : moved + n ≤ count
      shifting-low = omega (arith, shifting-more.tags, few-tags count t₀)
