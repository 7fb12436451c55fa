-- Writers that fill the front of a slice, one after another: each is lent the later part, or a part that was written before.
use mathlib.Core.Path.{◌≡◌, refl, sym, ap, ◌∙◌}
use mathlib.Core.List.{List, [], ◌∷◌, ◌++◌, append_assoc}
use Prim.Native.Nat.{ℕ, suc, ◌+◌, ◌-◌, ◌<◌, ◌≤◌}
use native.Mathlib.Omega.{arith}
use lib.ListN.{length, get_or, take, drop, set, length-append, length-drop, take-append-drop}
use lib.Seq.{drop-cons, set_at, take_at, drop_at, drop-drop, length-take-le, drop-append-le}
use borrow.Rule.Slice.PartMut.{mid_of, put_mid, same_len_mid}
use Rattle.wire.specs.Wrote.{Wrote, Filled}
use Rattle.wire.proofs.Parts.{lent, given_back}

-- nothing was written
pub wrote_none : (o : List ℕ) → Wrote [] o o
wrote_none o = record { room = omega arith; left = refl }

-- by the number of bytes written
pub wrote-bytes : {bs o₀ o : List ℕ} (n : ℕ) → length bs ≡ n → n ≤ length o₀ → o ≡ bs ++ drop n o₀ → Wrote bs o₀ o
wrote-bytes n e h l = record { room = rw e h; left = rw e l }

-- no second slice is left by the same bytes
pub wrote_one : {bs o₀ o p : List ℕ} → Wrote bs o₀ o → Wrote bs o₀ p → o ≡ p
wrote_one v w = v.left ∙ sym w.left

module _ (bs o₀ o : List ℕ) (w : Wrote bs o₀ o) where
  -- a writer leaves the length of the slice
  pub wrote-length : length o ≡ length o₀
  wrote-length = ap length w.left ∙ simp (length-append, length-drop) (omega (arith, w.room))

  take-wrote : take (length bs) o ≡ bs
  take-wrote = ap (take (length bs)) w.left ∙ take_at bs _ _ refl

  -- and every byte after those that it wrote
  pub drop-wrote : drop (length bs) o ≡ drop (length bs) o₀
  drop-wrote = ap (drop (length bs)) w.left ∙ drop_at bs _ _ refl

  -- one byte more
  pub wrote-set : (k x : ℕ) → length bs ≡ k → k < length o₀ → Wrote (bs ++ (x ∷ [])) o₀ (set o k x)
  wrote-set k x e h =
      let eo : o ≡ bs ++ (get_or o₀ k 0 ∷ drop (suc k) o₀) = w.left ∙ rw (e, drop-cons o₀ k 0 h) in
      let e1 : suc k ≡ k + 1 = omega arith in
      record {
        room = simp length-append (omega arith);
        left =
            ap (λ (l : List ℕ). set l k x) eo
            ∙ set_at bs (get_or o₀ k 0) (drop (suc k) o₀) x k e
            ∙ simp (append_assoc, length-append, e) (ap (λ (n : ℕ). bs ++ (x ∷ drop n o₀)) e1);
      }

  -- the later part came back with cs over its first bytes
  wrote-part : (k : ℕ) (cs p : List ℕ) → length bs ≡ k → Wrote cs (drop k o) p → Wrote (bs ++ cs) o₀ (take k o ++ p)
  wrote-part k cs p e v =
      let ek : drop k o ≡ drop k o₀ = rw (← e) drop-wrote in
      let r : length cs ≤ length o₀ - k = rw (ek, length-drop) at v.room in
      record {
        room = simp length-append (omega (arith, w.room));
        left = rw (v.left, ek, ← e, take-wrote, drop-drop, append_assoc, length-append);
      }

-- four bytes, one after another
pub four-written : (o : List ℕ) (a b c d : ℕ) → 4 ≤ length o
    → Wrote (a ∷ b ∷ c ∷ d ∷ []) o (set (set (set (set o 0 a) 1 b) 2 c) 3 d)
four-written o a b c d h =
    wrote-set (a ∷ b ∷ c ∷ []) o _
    (wrote-set (a ∷ b ∷ []) o _
    (wrote-set (a ∷ []) o _
    (wrote-set [] o o (wrote_none o) 0 a refl (omega arith))
    1 b refl (omega arith))
    2 c refl (omega arith))
    3 d refl (omega arith)

-- what stands in front, then what a writer wrote that was lent the later part, `&mut out[k..]`
pub wrote-lent : {bs o₀ o cs p : List ℕ} (k : ℕ) → Wrote bs o₀ o → length bs ≡ k → Wrote cs (mid_of k (length o - k) o) p
    → Wrote (bs ++ cs) o₀ (put_mid k (length o - k) o p)
wrote-lent {bs} {o₀} {o} {cs} {p} k w e v = rw given_back (wrote-part bs o₀ o w k cs p e (rw lent at v))

-- a slice whose later part came back from a writer is as long as before
pub same_length : {cs p : List ℕ} (o : List ℕ) (k : ℕ) → Wrote cs (mid_of k (length o - k) o) p
    → length (put_mid k (length o - k) o p) ≡ length o
same_length {cs} {p} o k v = same_len_mid k (length o - k) o p (wrote-length cs (mid_of k (length o - k) o) p v)

-- ---- writing over a part of what was written

-- nothing before place k changes by a writer that is lent the part from k on
pub wrote_at : {cs p : List ℕ} (o : List ℕ) (k : ℕ) → k ≤ length o → Wrote cs (mid_of k (length o - k) o) p
    → Wrote (take k o ++ cs) o (put_mid k (length o - k) o p)
wrote_at o k h w =
    let e : length (take k o) ≡ k = length-take-le k o h in
    let none : Wrote (take k o) o o = record { room = omega arith; left = rw (e, take-append-drop) } in
    wrote-lent k none e w

-- what is written on after bs leaves the later bytes as they were before both
pub wrote_on : {bs o₀ o p : List ℕ} (cs : List ℕ) → Wrote bs o₀ o → Wrote (bs ++ cs) o p → Wrote (bs ++ cs) o₀ p
wrote_on {bs} {o₀} {o} cs w v =
    let later : drop (length bs + length cs) o ≡ drop (length bs + length cs) o₀
    = sym (drop-drop (length cs) (length bs) o) ∙ ap (drop (length cs)) (drop-wrote bs o₀ o w) ∙ drop-drop (length cs) (length bs) o₀ in
    record { room = rw (wrote-length bs o₀ o w) at v.room; left = v.left ∙ rw (length-append, later) }

-- the same of a writer that leaves what stands before place k
pub wrote-next : {bs o₀ o p : List ℕ} (cs : List ℕ) (k : ℕ) → Wrote bs o₀ o → length bs ≡ k → Wrote (take k o ++ cs) o p
    → Wrote (bs ++ cs) o₀ p
wrote-next {bs} {o₀} {o} cs k w e v = wrote_on cs w (rw (← e, take-wrote bs o₀ o w) at v)

-- of what was written the part `was` is written over
pub wrote-over : {o₀ o p : List ℕ} (hs was bs cs : List ℕ) (k : ℕ) → Wrote (hs ++ (was ++ bs)) o₀ o → length hs ≡ k → length was ≡ length cs
    → Wrote (take k o ++ cs) o p → Wrote (hs ++ (cs ++ bs)) o₀ p
wrote-over {o₀} {o} {p} hs was bs cs k w e s v =
    let D = drop (length (hs ++ (was ++ bs))) o₀ in
    let same : length (hs ++ (was ++ bs)) ≡ length (hs ++ (cs ++ bs)) = simp (length-append, s) in
    let eo : o ≡ hs ++ (was ++ (bs ++ D)) = w.left ∙ simp append_assoc in
    let front : take k o ≡ hs = ap (take k) eo ∙ take_at hs (was ++ (bs ++ D)) k e in
    let n : length (hs ++ cs) ≡ k + length cs = simp length-append (omega arith) in
    let later : drop (k + length cs) o ≡ bs ++ D =
    sym (drop-drop (length cs) k o) ∙ ap (λ (l : List ℕ). drop (length cs) (drop k l)) eo
    ∙ ap (drop (length cs)) (drop_at hs (was ++ (bs ++ D)) k e)
    ∙ drop_at was (bs ++ D) (length cs) s in
    let v' : Wrote (hs ++ cs) o p = rw front at v in
    record {
      room = rw (← same) w.room;
      left = v'.left ∙ rw (n, later, ← same) (simp append_assoc);
    }

-- bytes that are written over the front of what was written leave the rest of it
pub wrote-under : {ws bs o₀ o p : List ℕ} → Wrote ws o₀ o → Wrote bs o p → length bs ≤ length ws → Wrote (bs ++ drop (length bs) ws) o₀ p
wrote-under {ws} {bs} {o₀} {o} {p} w v h =
    let D = drop (length ws) o₀ in
    let n : length (bs ++ drop (length bs) ws) ≡ length ws = simp (length-append, length-drop) (omega arith) in
    let later : drop (length bs) o ≡ drop (length bs) ws ++ D = ap (drop (length bs)) w.left ∙ drop-append-le (length bs) ws D h in
    record {
      room = rw n w.room;
      left = v.left ∙ rw (n, later) (sym (append_assoc bs (drop (length bs) ws) D));
    }

-- ---- the same laws for writers that answer a count

-- a writer that answers a count leaves the length of the slice
pub filled-length : {bs o₀ o : List ℕ} {k : ℕ} → Filled bs o₀ o k → length o ≡ length o₀
filled-length f = wrote-length _ _ _ f.wrote

-- the count is at most the length
pub filled-le : {bs o₀ o : List ℕ} {k : ℕ} → Filled bs o₀ o k → k ≤ length o₀
filled-le f = omega (arith, f.count, f.wrote.room)

-- one byte more
pub filled-set : {bs o₀ o : List ℕ} {k : ℕ} (x : ℕ) → Filled bs o₀ o k → k < length o₀ → Filled (bs ++ (x ∷ [])) o₀ (set o k x) (k + 1)
filled-set {bs} {o₀} {o} {k} x f h =
    record { count = simp length-append (omega (arith, f.count)); wrote = wrote-set bs o₀ o f.wrote k x (sym f.count) h }

-- what stands in front, then what a writer wrote that was lent the later part
pub filled-lent : {bs o₀ o cs p : List ℕ} {k w : ℕ} → Filled bs o₀ o k → Filled cs (mid_of k (length o - k) o) p w
    → Filled (bs ++ cs) o₀ (put_mid k (length o - k) o p) (k + w)
filled-lent {bs} {o₀} {o} {cs} {p} {k} {w} f g =
    record { count = simp length-append (omega (arith, f.count, g.count)); wrote = wrote-lent k f.wrote (sym f.count) g.wrote }
