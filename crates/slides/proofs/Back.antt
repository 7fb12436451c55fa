-- The bytes of a frame that is slid: only those of its time tags change, and what stood there can be put back.
use mathlib.Core.Path.{◌≡◌, refl, ap, sym, ◌∙◌}
use mathlib.Core.Bool.{Bool, true, false, cond}
use mathlib.Core.Logic.{◌⊎◌, inl, inr, ⊎_elim}
use mathlib.Core.List.{List}
use Prim.Native.Nat.{ℕ, ◌+◌, ◌-◌, ◌<◌, ◌≤◌}
use native.Mathlib.Omega.{arith}
use lib.ListN.{length, get_or, take, drop}
use lib.Seq.{get_or-take, get_or-drop, take_at, ext_get_or}
use Rattle.clock.specs.Shift.{shifted}
use Rattle.wire.specs.Number.{bytes}
use Rattle.wire.proofs.Choices.{lt-or-le}
use Rattle.wire.proofs.Numbers.{length-bytes}
use Rattle.node.specs.Forest.{Forest, nil, node}
use Rattle.node.specs.declared.record.Item.{Item}
use Rattle.slides.specs.Slides.{has_time, time_tag_of, time_place, put_time, slide_one, slid_bytes, InTime}
use Rattle.slides.proofs.Puts.{put-length, put-take-before, put-drop-before, put-drop-after}
use Rattle.slides.proofs.Times.{TimeAt}

-- ---- one time tag

-- a byte of eight
part_at : (x : List ℕ) (q i : ℕ) → q ≤ i → i < q + 8 → get_or (take 8 (drop q x)) (i - q) 0 ≡ get_or x i 0
part_at x q i h k =
    let sum : q + (i - q) ≡ i = omega arith in
    get_or-take 8 (drop q x) (i - q) 0 (omega arith) ∙ get_or-drop q x (i - q) 0 ∙ ap (λ (j : ℕ). get_or x j 0) sum

module _ (q v : ℕ) (m : List ℕ) (fits : q + 8 ≤ length m) where
  -- a byte before it, and one after it
  before_same : (i : ℕ) → i < q → get_or (put_time q v m) i 0 ≡ get_or m i 0
  before_same i h =
      sym (get_or-take q (put_time q v m) i 0 h)
      ∙ ap (λ (x : List ℕ). get_or x i 0) (put-take-before q v m fits q (omega arith))
      ∙ get_or-take q m i 0 h

  after_same : (i : ℕ) → q + 8 ≤ i → get_or (put_time q v m) i 0 ≡ get_or m i 0
  after_same i h =
      let sum : q + 8 + (i - (q + 8)) ≡ i = omega arith in
      ap (λ (j : ℕ). get_or (put_time q v m) j 0) (sym sum)
      ∙ sym (get_or-drop (q + 8) (put_time q v m) (i - (q + 8)) 0)
      ∙ ap (λ (x : List ℕ). get_or x (i - (q + 8)) 0) (put-drop-after q v m fits (q + 8) (omega arith))
      ∙ get_or-drop (q + 8) m (i - (q + 8)) 0
      ∙ ap (λ (j : ℕ). get_or m j 0) sum

  -- its own bytes
  own-part : take 8 (drop q (put_time q v m)) ≡ bytes 8 v
  unfolding put_time
  own-part =
      let none : q - q ≡ 0 = omega arith in
      ap (take 8) (put-drop-before q v m fits q (omega arith) ∙ ap (λ (k : ℕ). put_time k v (drop q m)) none)
      ∙ take_at (bytes 8 v) (drop 8 (drop q m)) 8 (length-bytes 8 v)

  -- a byte lies in it, or is the same
  in-or-same : (i : ℕ) → ((q ≤ i) × (i < q + 8)) ⊎ (get_or (put_time q v m) i 0 ≡ get_or m i 0)
  in-or-same i =
      ⊎_elim (λ h. inr (before_same i h))
      (λ h. ⊎_elim (λ k. inl (h, k)) (λ k. inr (after_same i k)) (lt-or-le i (q + 8)))
      (lt-or-le i q)

-- ---- all of them

-- the time tags of these trees lie in n bytes
abbrev pub FitsIn : ℕ → Forest → Type 0
FitsIn n g = (q : ℕ) → TimeAt q g → q + 8 ≤ n

module _ (by : ℕ) where
  pub one-long : (item : Item) (m : List ℕ) → (has_time item.kind ≡ true → time_place item + 8 ≤ length m)
      → length (slide_one by item m) ≡ length m
  one-long item m h = by_kind (has_time item.kind) refl
    where
      by_kind : (b : Bool) → has_time item.kind ≡ b
          → length (cond b (put_time (time_place item) (shifted (time_tag_of item) by) m) m) ≡ length m
      by_kind true e = put-length (time_place item) (shifted (time_tag_of item) by) m (h e)
      by_kind false e = refl

  one_same : (item : Item) (m : List ℕ) → (has_time item.kind ≡ true → time_place item + 8 ≤ length m) → (i : ℕ)
      → ((has_time item.kind ≡ true) × (time_place item ≤ i) × (i < time_place item + 8)) ⊎ (get_or (slide_one by item m) i 0 ≡ get_or m i 0)
  one_same item m h i = by_kind (has_time item.kind) refl
    where
      by_kind : (b : Bool) → has_time item.kind ≡ b
          → ((has_time item.kind ≡ true) × (time_place item ≤ i) × (i < time_place item + 8))
          ⊎ (get_or (cond b (put_time (time_place item) (shifted (time_tag_of item) by) m) m) i 0 ≡ get_or m i 0)
      by_kind true e =
          ⊎_elim (λ k. inl (e, k.0, k.1)) (λ k. inr k) (in-or-same (time_place item) (shifted (time_tag_of item) by) m (h e) i)
      by_kind false e = inr refl

  pub all-long : (g : Forest) (m : List ℕ) → FitsIn (length m) g → length (slid_bytes by g m) ≡ length m
  unfolding slid_bytes
  all-long nil m h = refl
  all-long (node item inside rest) m h =
      let a = one-long item m (λ e. h (time_place item) (inl (e, refl))) in
      let b = all-long inside (slide_one by item m) (λ q c. rw a (h q (inr (inl c)))) in
      all-long rest (slid_bytes by inside (slide_one by item m)) (λ q c. rw (b, a) (h q (inr (inr c)))) ∙ b ∙ a

  -- a byte of no time tag stays
  pub only-times : (g : Forest) (m : List ℕ) → FitsIn (length m) g → (i : ℕ) → InTime i g ⊎ (get_or (slid_bytes by g m) i 0 ≡ get_or m i 0)
  unfolding slid_bytes
  only-times nil m h i = inr refl
  only-times (node item inside rest) m h i =
      let fits : has_time item.kind ≡ true → time_place item + 8 ≤ length m = λ e. h (time_place item) (inl (e, refl)) in
      let a = one-long item m fits in
      let m' = slide_one by item m in
      let fits' : FitsIn (length m') inside = λ q c. rw a (h q (inr (inl c))) in
      let b = all-long inside m' fits' in
      ⊎_elim (λ c. inl (inr (inr c)))
      (λ z. ⊎_elim (λ c. inl (inr (inl c)))
      (λ y. ⊎_elim (λ c. inl (inl c)) (λ x. inr (z ∙ y ∙ x)) (one_same item m fits i))
      (only-times inside m' fits' i))
      (only-times rest (slid_bytes by inside m') (λ q c. rw (b, a) (h q (inr (inr c)))) i)

-- ---- what stood there

module _ (by : ℕ) (l : List ℕ) where
  -- what is written at each time tag of these trees is what stands there in l
  abbrev pub Restores : Forest → Type 0
  Restores nil = Unit {0}
  Restores (node item inside rest) =
      (has_time item.kind ≡ true
      → bytes 8 (shifted (time_tag_of item) by) ≡ take 8 (drop (time_place item) l)) × Restores inside × Restores rest

  one-back : (item : Item) → (has_time item.kind ≡ true → bytes 8 (shifted (time_tag_of item) by) ≡ take 8 (drop (time_place item) l))
      → (m : List ℕ) → (has_time item.kind ≡ true → time_place item + 8 ≤ length m) → (i : ℕ)
      → (has_time item.kind ≡ true) × (time_place item ≤ i) × (i < time_place item + 8) → get_or (slide_one by item m) i 0 ≡ get_or l i 0
  one-back item w m fits i h =
      let q = time_place item in
      let v = shifted (time_tag_of item) by in
      let set : slide_one by item m ≡ put_time q v m = rw h.0 in
      ap (λ (x : List ℕ). get_or x i 0) set
      ∙ sym (part_at (put_time q v m) q i h.1 h.2)
      ∙ ap (λ (x : List ℕ). get_or x (i - q) 0) (own-part q v m (fits h.0) ∙ w h.0)
      ∙ part_at l q i h.1 h.2

  -- a byte that was the same before, or lies in one of them, is the same after
  all_back : (g : Forest) → Restores g → (m : List ℕ) → FitsIn (length m) g → (i : ℕ)
      → InTime i g ⊎ (get_or m i 0 ≡ get_or l i 0) → get_or (slid_bytes by g m) i 0 ≡ get_or l i 0
  unfolding slid_bytes
  all_back nil w m h i (inl c) = absurd c
  all_back nil w m h i (inr e) = e
  all_back (node item inside rest) w m h i c =
      let fits : has_time item.kind ≡ true → time_place item + 8 ≤ length m = λ e. h (time_place item) (inl (e, refl)) in
      let a = one-long by item m fits in
      let m' = slide_one by item m in
      let fits' : FitsIn (length m') inside = λ q d. rw a (h q (inr (inl d))) in
      let b = all-long by inside m' fits' in
      let fits'' : FitsIn (length (slid_bytes by inside m')) rest = λ q d. rw (b, a) (h q (inr (inr d))) in
      let after : (get_or m' i 0 ≡ get_or l i 0) → get_or (slid_bytes by rest (slid_bytes by inside m')) i 0 ≡ get_or l i 0
      = λ e. all_back rest w.2 (slid_bytes by inside m') fits'' i (inr (all_back inside w.1 m' fits' i (inr e))) in
      ⊎_elim
      (⊎_elim (λ d. after (one-back item w.0 m fits i d))
      (⊎_elim
      (λ d. all_back rest w.2 (slid_bytes by inside m') fits'' i (inr (all_back inside w.1 m' fits' i (inl d))))
      (λ d. all_back rest w.2 (slid_bytes by inside m') fits'' i (inl d))))
      (λ e. after (⊎_elim (λ d. one-back item w.0 m fits i d) (λ z. z ∙ e) (one_same by item m fits i)))
      c

  -- so bytes that differ in them alone are those that stood there
  pub put_back : (g : Forest) → Restores g → FitsIn (length l) g → (m : List ℕ) → length m ≡ length l
      → ((i : ℕ) → InTime i g ⊎ (get_or m i 0 ≡ get_or l i 0)) → slid_bytes by g m ≡ l
  put_back g w h m long c =
      let fits : FitsIn (length m) g = λ q a. rw long (h q a) in
      ext_get_or 0 (slid_bytes by g m) l (all-long by g m fits ∙ long) (λ i _. all_back g w m fits i (c i))
