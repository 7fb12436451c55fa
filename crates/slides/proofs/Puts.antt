-- Bytes with eight of them replaced: how long they are, their parts, the number that is read there, and what stood there put back.
use mathlib.Core.Path.{◌≡◌, ap, sym, ◌∙◌}
use mathlib.Core.List.{List, [], ◌∷◌, ◌++◌, append_assoc}
use Prim.Native.Nat.{ℕ, zero, suc, ◌+◌, ◌-◌, ◌/◌, ◌%◌, ◌^◌, ◌<◌, ◌≤◌}
use native.Mathlib.Nat.{zero-add, suc-add}
use native.Mathlib.Omega.{arith}
use lib.ListN.{length, take, drop, length-append, length-drop}
use lib.Seq.{drop-append-le, take-append-le, take_at, drop_at, take-take, drop-drop, take-add, length-take-le, take-nil}
use Rattle.wire.specs.Number.{number, bytes}
use Rattle.wire.proofs.Numbers.{length-bytes, eight-bytes, read-written}
use Rattle.slides.specs.Slides.{put_time}

-- what is left of the first u + k bytes after u of them
pub drop-take : (u k : ℕ) (l : List ℕ) → drop u (take (u + k) l) ≡ take k (drop u l)
drop-take zero k l = rw zero-add
drop-take (suc u) k [] = rw (take-nil (suc u + k)) (sym (take-nil k))
drop-take (suc u) k (x ∷ l) = rw suc-add (drop-take u k l)

module _ (i v : ℕ) (l : List ℕ) (fits : i + 8 ≤ length l) where
  front_long : length (take i l) ≡ i
  front_long = length-take-le i l (omega arith)

  pub put-length : length (put_time i v l) ≡ length l
  unfolding put_time
  put-length =
      omega (
        arith,
        length-append (take i l) (bytes 8 v ++ drop (i + 8) l),
        length-append (bytes 8 v) (drop (i + 8) l),
        length-bytes 8 v,
        length-drop (i + 8) l,
        front_long,
      )

  head-long : length (take i l ++ bytes 8 v) ≡ i + 8
  head-long = omega (arith, length-append (take i l) (bytes 8 v), length-bytes 8 v, front_long)

  put-joined : put_time i v l ≡ (take i l ++ bytes 8 v) ++ drop (i + 8) l
  unfolding put_time
  put-joined = sym (append_assoc (take i l) (bytes 8 v) (drop (i + 8) l))

  -- the bytes before them
  pub put-take-before : (u : ℕ) → u ≤ i → take u (put_time i v l) ≡ take u l
  unfolding put_time
  put-take-before u h =
      take-append-le u (take i l) (bytes 8 v ++ drop (i + 8) l) (omega (arith, front_long)) ∙ take-take u i l h

  -- the bytes from a place before them on
  pub put-drop-before : (u : ℕ) → u ≤ i → drop u (put_time i v l) ≡ put_time (i - u) v (drop u l)
  unfolding put_time
  put-drop-before u h =
      let sum : u + (i - u) ≡ i = omega arith in
      let end : u + (i - u + 8) ≡ i + 8 = omega arith in
      let front : drop u (take i l) ≡ take (i - u) (drop u l)
      = ap (λ (k : ℕ). drop u (take k l)) (sym sum) ∙ drop-take u (i - u) l in
      let back : drop (i - u + 8) (drop u l) ≡ drop (i + 8) l = drop-drop (i - u + 8) u l ∙ ap (λ (k : ℕ). drop k l) end in
      drop-append-le u (take i l) (bytes 8 v ++ drop (i + 8) l) (omega (arith, front_long)) ∙ rw (front, back)

  -- the bytes from a place after them on
  pub put-drop-after : (u : ℕ) → i + 8 ≤ u → drop u (put_time i v l) ≡ drop u l
  put-drop-after u h =
      let sum : i + 8 + (u - (i + 8)) ≡ u = omega arith in
      let split : (m : List ℕ) → drop u m ≡ drop (u - (i + 8)) (drop (i + 8) m)
      = λ m. ap (λ (k : ℕ). drop k m) (sym sum) ∙ sym (drop-drop (u - (i + 8)) (i + 8) m) in
      split (put_time i v l)
      ∙ ap (λ (m : List ℕ). drop (u - (i + 8)) m)
      (ap (drop (i + 8)) put-joined ∙ drop_at (take i l ++ bytes 8 v) (drop (i + 8) l) (i + 8) head-long)
      ∙ sym (split l)

  -- the bytes up to a place after them
  pub put-take-after : (u : ℕ) → i + 8 ≤ u → take u (put_time i v l) ≡ put_time i v (take u l)
  unfolding put_time
  put-take-after u h =
      let k = u - (i + 8) in
      let sum : i + 8 + k ≡ u = omega arith in
      let front : take i (take u l) ≡ take i l = take-take i u l (omega arith) in
      let back : drop (i + 8) (take u l) ≡ take k (drop (i + 8) l)
      = ap (λ (n : ℕ). drop (i + 8) (take n l)) (sym sum) ∙ drop-take (i + 8) k l in
      ap (λ (n : ℕ). take n (put_time i v l)) (sym sum)
      ∙ take-add (i + 8) k (put_time i v l)
      ∙ ap (λ (m : List ℕ). take (i + 8) m ++ take k (drop (i + 8) m)) put-joined
      ∙ rw (
        take_at (take i l ++ bytes 8 v) (drop (i + 8) l) (i + 8) head-long,
        drop_at (take i l ++ bytes 8 v) (drop (i + 8) l) (i + 8) head-long,
        front,
        back,
      )
      (append_assoc (take i l) (bytes 8 v) (take k (drop (i + 8) l)))

-- ---- what is read there

module _ (v : ℕ) (l : List ℕ) (low : v < 2 ^ 64) where
  put-halves : put_time 0 v l ≡ bytes 4 (v / 2 ^ 32) ++ (bytes 4 (v % 2 ^ 32) ++ drop 8 l)
  unfolding put_time
  put-halves =
      ap (λ (m : List ℕ). m ++ drop 8 l) (sym (eight-bytes v)) ∙ append_assoc (bytes 4 (v / 2 ^ 32)) (bytes 4 (v % 2 ^ 32)) (drop 8 l)

  pub put-high : number 4 (put_time 0 v l) ≡ v / 2 ^ 32
  put-high = rw put-halves (read-written 4 (v / 2 ^ 32) (bytes 4 (v % 2 ^ 32) ++ drop 8 l) (omega arith))

  pub put_low : number 4 (drop 4 (put_time 0 v l)) ≡ v % 2 ^ 32
  put_low =
      ap (λ (m : List ℕ). number 4 (drop 4 m)) put-halves
      ∙ ap (number 4) (drop_at (bytes 4 (v / 2 ^ 32)) (bytes 4 (v % 2 ^ 32) ++ drop 8 l) 4 (length-bytes 4 (v / 2 ^ 32)))
      ∙ read-written 4 (v % 2 ^ 32) (drop 8 l) (omega arith)
