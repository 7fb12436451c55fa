-- One record, shifted: of a # or a t the eight bytes of its tag change, and nothing else.
use Rattle.std.proofs.Common.{◌≡◌, ℕ, ◌+◌, ◌-◌, ◌≤◌, Bool, true, false, cond, List, [], ◌∷◌, ◌++◌, length, get_or, take, drop, sym, refl, ap, ◌∙◌, append_assoc, arith, length-append, length-drop, take-append-drop, length-take, length-take-le, get_or-take, take-take}
use lib.Seq.{take-append-le, drop-append-le}
use borrow.Rule.Slice.PartMut.{mid_of, put_mid}
use Rattle.wire.specs.Number.{number, bytes}
use Rattle.wire.specs.Wrote.{Wrote}
use Rattle.wire.proofs.Numbers.{length-bytes}
use Rattle.wire.proofs.Writers.{wrote_at}
use Rattle.node.specs.Records.{record_size}
use Rattle.clock.specs.Shift.{shifted}
use Rattle.shifts.specs.Shifts.{is_timed, time_tag, shifted_record, own_tag}

-- a record of a # or a t, and one of another kind
pub shifted-timed : (by : ℕ) (r : List ℕ) → is_timed (get_or r 0 0) ≡ true
    → shifted_record by r ≡ take 8 r ++ (bytes 8 (shifted (time_tag r) by) ++ drop 16 r)
shifted-timed by r e = ap (λ (b : Bool). cond b (take 8 r ++ (bytes 8 (shifted (time_tag r) by) ++ drop 16 r)) r) e

pub shifted-other : (by : ℕ) (r : List ℕ) → is_timed (get_or r 0 0) ≡ false → shifted_record by r ≡ r
shifted-other by r e = ap (λ (b : Bool). cond b (take 8 r ++ (bytes 8 (shifted (time_tag r) by) ++ drop 16 r)) r) e

pub tag-timed : (r : List ℕ) → is_timed (get_or r 0 0) ≡ true → own_tag r ≡ time_tag r ∷ []
tag-timed r e = ap (λ (b : Bool). cond b (time_tag r ∷ []) []) e

pub tag-other : (r : List ℕ) → is_timed (get_or r 0 0) ≡ false → own_tag r ≡ []
tag-other r e = ap (λ (b : Bool). cond b (time_tag r ∷ []) []) e

-- a number that stands in the first part of a list
pub number-inside : (n k : ℕ) (a b : List ℕ) → k + n ≤ length a → number n (drop k (a ++ b)) ≡ number n (drop k a)
unfolding number
number-inside n k a b h =
    let l : n ≤ length (drop k a) = omega (arith, length-drop k a) in
    let m : k ≤ length a = omega arith in
    rw (drop-append-le k a b m, take-append-le n (drop k a) b l)

-- the same of a record at the front of a table
pub number-front : (n k : ℕ) (t : List ℕ) → k + n ≤ record_size → record_size ≤ length t
    → number n (drop k (take record_size t)) ≡ number n (drop k t)
number-front n k t h l =
    let e : length (take record_size t) ≡ record_size = length-take-le record_size t l in
    sym (number-inside n k (take record_size t) (drop record_size t) (omega arith))
    ∙ ap (λ (x : List ℕ). number n (drop k x)) (take-append-drop record_size t)

-- a shifted record is as long as before
pub length-shifted : (by : ℕ) (r : List ℕ) → length r ≡ record_size → length (shifted_record by r) ≡ record_size
length-shifted by r e = go (is_timed (get_or r 0 0)) refl
  where
    go : (b : Bool) → is_timed (get_or r 0 0) ≡ b → length (shifted_record by r) ≡ record_size
    go true q = rw (shifted-timed by r q) (simp (length-append, length-take, length-bytes, length-drop) (omega arith))
    go false q = rw (shifted-other by r q) e

-- ---- what the code leaves

regroup : (a b c d : List ℕ) → (a ++ b) ++ (c ++ d) ≡ (a ++ (b ++ c)) ++ d
regroup a b c d = simp append_assoc

module _ (by : ℕ) (t : List ℕ) (h : record_size ≤ length t) where
  kind-front : get_or (take record_size t) 0 0 ≡ get_or t 0 0
  kind-front = get_or-take record_size t 0 0 (omega arith)

  front_length : length (take record_size t) ≡ record_size
  front_length = length-take-le record_size t h

  -- a record without a tag stays as it is
  pub record-kept : {b : Bool} → b ≡ is_timed (get_or t 0 0) → b ≡ false
      → (0 ≡ length (own_tag (take record_size t))) × Wrote (shifted_record by (take record_size t)) t t
  record-kept e f =
      let q : is_timed (get_or (take record_size t) 0 0) ≡ false = ap is_timed kind-front ∙ sym e ∙ f in
      let w : Wrote (take record_size t) t t
      = record { room = omega (arith, front_length); left = rw front_length (sym (take-append-drop record_size t)) } in
      (rw (tag-other (take record_size t) q), rw (shifted-other by (take record_size t) q) w)

  -- a tag is written over
  pub record-moved : {b : Bool} {tag read : ℕ} {p : List ℕ} → b ≡ is_timed (get_or t 0 0) → b ≡ true → read ≡ number 8 (drop 8 t)
      → tag ≡ shifted read by → Wrote (bytes 8 tag) (mid_of 8 (length t - 8) t) p
      → (1 ≡ length (own_tag (take record_size t)))
      × Wrote (shifted_record by (take record_size t)) t (put_mid 8 (length t - 8) t p)
  record-moved {b} {tag} {read} {p} e f er et w =
      let r = take record_size t in
      let q : is_timed (get_or r 0 0) ≡ true = ap is_timed kind-front ∙ sym e ∙ f in
      let v : Wrote (take 8 t ++ bytes 8 tag) t (put_mid 8 (length t - 8) t p) = wrote_at t 8 (omega arith) w in
      let n : tag ≡ shifted (time_tag r) by = et ∙ ap (λ (x : ℕ). shifted x by) (er ∙ sym (number-front 8 8 t (omega arith) h)) in
      let a : take 8 r ≡ take 8 t = take-take 8 record_size t (omega arith) in
      let d : drop 16 t ≡ drop 16 r ++ drop record_size t
      = ap (drop 16) (sym (take-append-drop record_size t)) ∙ drop-append-le 16 r (drop record_size t) (omega (arith, front_length)) in
      let k : length (take 8 t ++ bytes 8 tag) ≡ 16 = simp (length-append, length-bytes, length-take) (omega arith) in
      let l : length (shifted_record by r) ≡ record_size = length-shifted by r front_length in
      let is : shifted_record by r ≡ take 8 t ++ (bytes 8 tag ++ drop 16 r)
      = shifted-timed by r q ∙ ap (λ (x : List ℕ). x ++ (bytes 8 (shifted (time_tag r) by) ++ drop 16 r)) a
      ∙ ap (λ (m : ℕ). take 8 t ++ (bytes 8 m ++ drop 16 r)) (sym n) in (
        rw (tag-timed r q),
        record {
          room = omega arith;
          left =
              v.left ∙ ap (λ (m : ℕ). (take 8 t ++ bytes 8 tag) ++ drop m t) k
              ∙ ap (λ (x : List ℕ). (take 8 t ++ bytes 8 tag) ++ x) d
              ∙ regroup (take 8 t) (bytes 8 tag) (drop 16 r) (drop record_size t)
              ∙ ap (λ (x : List ℕ). x ++ drop record_size t) (sym is)
              ∙ ap (λ (m : ℕ). shifted_record by r ++ drop m t) (sym l);
        },
      )
