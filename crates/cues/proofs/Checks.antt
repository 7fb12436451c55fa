-- A check of an index, record by record: what it says, and that a check in parts says the same.
use mathlib.Core.Path.{◌≡◌, refl, sym, subst, ap, ap₂, ◌∙◌}
use mathlib.Core.Bool.{Bool, true, false, false≢true}
use mathlib.Core.List.{List, [], ◌∷◌, ◌++◌, append_cancel_left}
use mathlib.Core.Logic.{⊎_elim}
use Prim.Native.Nat.{ℕ, zero, suc, ◌+◌, ◌*◌, ◌-◌, ◌%◌, ◌<◌, ◌≤◌, max}
use native.Mathlib.Omega.{arith}
use borrow.Author.Tests.{eqb-true, eqb-false, eq-eqb, ne_eqb}
use lib.Dec.{eqb}
use lib.ListN.{length, take, drop, length-append, length-drop, take-append-drop}
use lib.Seq.{take-add, take_all, take-take, take-append-le, drop-append-le, drop-drop}
use Rattle.wire.specs.Same.{same_bytes}
use Rattle.cues.specs.Cues.{entry_size}
use Rattle.cues.specs.Checks.{compared_at, compared, InRecords, FitsExactly, FirstAt}
use Rattle.cues.specs.Checks.{DiffersFirst, numbered_from, followed_by, CheckInParts}
use Rattle.results.specs.Results.{Checked, Differs}
use Rattle.std.specs.Prelude.{Ok, Err}
use Rattle.wire.proofs.Choices.{lt-or-le}
use Rattle.wire.proofs.Same.{same-one, is_same}

-- ---- one record

-- two indexes with no byte are one
none-same : (f g : List ℕ) → length f + length g ≡ 0 → f ≡ g
none-same [] [] e = refl
none-same [] (y ∷ g) e = absurd (omega arith)
none-same (x ∷ f) g e = absurd (omega arith)

-- two whose first records differ have a byte
some_byte : (f g : List ℕ) → (take entry_size f ≡ take entry_size g → ⊥) → 0 < length f + length g
some_byte [] [] d = absurd (d refl)
some_byte [] (y ∷ g) d = omega arith
some_byte (x ∷ f) g d = omega arith

-- two words that are one are found the same
one_same : {a b : List ℕ} → a ≡ b → same_bytes a b ≡ true
one_same {a} {b} e = sym (is_same true a b (λ t. e, λ t. refl))

-- two that are not are found different
two-differ : (a b : List ℕ) → (a ≡ b → ⊥) → same_bytes a b ≡ false
two-differ a b h = sym (is_same false a b (λ t. absurd (false≢true t), λ t. absurd (h t)))

-- where no record may be compared, so many fit
none_more : (k : ℕ) (f g : List ℕ) → compared_at zero k f g ≡ Ok k
unfolding compared_at
none_more k f g = refl

-- where no byte is left, so many records fit
pub ends : (n k : ℕ) (f g : List ℕ) → length f + length g ≡ 0 → compared_at n k f g ≡ Ok k
unfolding compared_at
ends zero k f g e = none_more k f g
ends (suc n) k f g e = rw (eq-eqb (length f + length g) 0 e)

-- a record that is the same is passed
pub passes : (n k : ℕ) (f g : List ℕ) → 0 < length f + length g → take entry_size f ≡ take entry_size g
    → compared_at (suc n) k f g ≡ compared_at n (k + 1) (drop entry_size f) (drop entry_size g)
unfolding compared_at
passes n k f g h e = rw (ne_eqb (length f + length g) 0 (λ z. omega arith), one_same e)

-- one that differs is told
pub stops : (n k : ℕ) (f g : List ℕ) → (take entry_size f ≡ take entry_size g → ⊥) → compared_at (suc n) k f g ≡ Differs k
unfolding compared_at
stops n k f g h =
    rw (ne_eqb (length f + length g) 0 (λ z. omega (arith, some_byte f g h)), two-differ (take entry_size f) (take entry_size g) h)

-- no byte is left, or the first record is the same, or it differs
by_front : {P : Type 0} (f g : List ℕ) → (length f + length g ≡ 0 → P)
    → (0 < length f + length g → take entry_size f ≡ take entry_size g → P) → ((take entry_size f ≡ take entry_size g → ⊥) → P) → P
by_front {P} f g none same differs = go (eqb (length f + length g) 0) refl (same_bytes (take entry_size f) (take entry_size g)) refl
  where
    go : (t : Bool) → eqb (length f + length g) 0 ≡ t → (s : Bool) → same_bytes (take entry_size f) (take entry_size g) ≡ s → P
    go true e s d = none (eqb-true _ _ e)
    go false e true d = same (omega (arith, eqb-false (length f + length g) 0 e)) (same-one _ _ d)
    go false e false d = differs (λ z. false≢true (sym d ∙ one_same z))

-- ---- all records

-- the number that bounds the records does not count, where it is no less than the bytes
any-bound : (n m k : ℕ) (f g : List ℕ) → length f + length g ≤ n → length f + length g ≤ m → compared_at n k f g ≡ compared_at m k f g
any-bound zero m k f g h i = ends zero k f g (omega arith) ∙ sym (ends m k f g (omega arith))
any-bound (suc n) zero k f g h i = ends (suc n) k f g (omega arith) ∙ sym (ends zero k f g (omega arith))
any-bound (suc n) (suc m) k f g h i =
    by_front f g (λ z. ends (suc n) k f g z ∙ sym (ends (suc m) k f g z))
    (λ p e. passes n k f g p e
    ∙ any-bound n m (k + 1) (drop entry_size f) (drop entry_size g)
    (omega (arith, length-drop entry_size f, length-drop entry_size g)) (omega (arith, length-drop entry_size f, length-drop entry_size g))
    ∙ sym (passes m k f g p e))
    (λ d. stops n k f g d ∙ sym (stops m k f g d))

-- an answer after m records and n more
pub numbered-twice : (m n : ℕ) (r : Checked) → numbered_from m (numbered_from n r) ≡ numbered_from (m + n) r
numbered-twice m n (Ok k) = ap Ok (omega arith)
numbered-twice m n (Err differs) = ap Differs (omega arith)

-- the number of the first record is added
counted-from : (n k : ℕ) (f g : List ℕ) → compared_at n k f g ≡ numbered_from k (compared_at n 0 f g)
counted-from zero k f g = none_more k f g ∙ ap Ok (omega arith) ∙ sym (ap (numbered_from k) (none_more 0 f g))
counted-from (suc n) k f g =
    by_front f g (λ z. ends (suc n) k f g z ∙ ap Ok (omega arith) ∙ sym (ap (numbered_from k) (ends (suc n) 0 f g z)))
    (λ p e. passes n k f g p e ∙ counted-from n (k + 1) _ _
    ∙ sym (numbered-twice k 1 (compared_at n 0 (drop entry_size f) (drop entry_size g)))
    ∙ sym (ap (numbered_from k) (passes n 0 f g p e ∙ counted-from n 1 _ _)))
    (λ d. stops n k f g d ∙ ap Differs (omega arith) ∙ sym (ap (numbered_from k) (stops n 0 f g d)))

-- where a byte is there, a record may be compared
one_more : (f g : List ℕ) → 0 < length f + length g → compared f g ≡ compared_at (suc (length f + length g - 1)) 0 f g
one_more f g h = ap (λ (n : ℕ). compared_at n 0 f g) (omega arith)

-- a first record that is the same, and what follows it
pub compared-more : (f g : List ℕ) → 0 < length f + length g → take entry_size f ≡ take entry_size g
    → compared f g ≡ numbered_from 1 (compared (drop entry_size f) (drop entry_size g))
compared-more f g h e =
    one_more f g h ∙ passes (length f + length g - 1) 0 f g h e ∙ counted-from (length f + length g - 1) 1 _ _
    ∙ ap (numbered_from 1)
    (any-bound (length f + length g - 1) (length (drop entry_size f) + length (drop entry_size g)) 0 (drop entry_size f) (drop entry_size g)
    (omega (arith, length-drop entry_size f, length-drop entry_size g)) (omega arith))

-- a first record that differs
pub compared-stops : (f g : List ℕ) → (take entry_size f ≡ take entry_size g → ⊥) → compared f g ≡ Differs 0
compared-stops f g d = one_more f g (some_byte f g d) ∙ stops (length f + length g - 1) 0 f g d

-- ---- the walk over both

-- the answer is that of what is left after k records
abbrev pub Compares : List ℕ → List ℕ → ℕ → Type 0
Compares f g k = compared f g ≡ compared_at (length f + length g - k) k (drop (entry_size * k) f) (drop (entry_size * k) g)

-- at the start that is all
pub none_passed : (f g : List ℕ) → Compares f g 0
none_passed f g = ap (λ (n : ℕ). compared_at n 0 f g) (omega arith)

module _ (f g : List ℕ) (k : ℕ) (e : Compares f g k) where
  -- one record may be compared where a byte is left
  next : entry_size * k < max (length f) (length g)
      → compared f g ≡ compared_at (suc (length f + length g - (k + 1))) k (drop (entry_size * k) f) (drop (entry_size * k) g)
  next h = e ∙ ap (λ (n : ℕ). compared_at n k (drop (entry_size * k) f) (drop (entry_size * k) g)) (omega arith)

  -- the record after k that are the same differs
  pub differs_at : entry_size * k < max (length f) (length g)
      → (take entry_size (drop (entry_size * k) f) ≡ take entry_size (drop (entry_size * k) g) → ⊥) → Differs k ≡ compared f g
  differs_at h d = sym (next h ∙ stops (length f + length g - (k + 1)) k _ _ d)

  -- it is the same
  pub passed-at : entry_size * k < max (length f) (length g)
      → take entry_size (drop (entry_size * k) f) ≡ take entry_size (drop (entry_size * k) g) → Compares f g (k + 1)
  passed-at h s =
      next h
      ∙ passes (length f + length g - (k + 1)) k (drop (entry_size * k) f) (drop (entry_size * k) g)
      (omega (arith, length-drop (entry_size * k) f, length-drop (entry_size * k) g)) s
      ∙ rw (drop-drop entry_size (entry_size * k) f, drop-drop entry_size (entry_size * k) g, num)
    where
      num : entry_size * k + entry_size ≡ entry_size * (k + 1)
      num = omega arith

  -- no byte is left
  pub all_fit : max (length f) (length g) ≤ entry_size * k → Ok k ≡ compared f g
  all_fit h = sym (e ∙ ends _ k _ _ (omega (arith, length-drop (entry_size * k) f, length-drop (entry_size * k) g)))

-- ---- what a check says

-- what an answer says of two indexes
abbrev Says : List ℕ → List ℕ → Checked → Type 0
Says f g (Ok n) = (f ≡ g) × InRecords (length f) n
Says f g (Err differs) = FirstAt f g differs.at

-- so much and a record more is one record, and then so much of what follows
front-and : (j : ℕ) (l : List ℕ) → take (entry_size * (1 + j)) l ≡ take entry_size l ++ take (entry_size * j) (drop entry_size l)
front-and j l = let e : entry_size * (1 + j) ≡ entry_size + entry_size * j = omega arith in rw e (take-add entry_size (entry_size * j) l)

-- what an answer says of what follows a record that is the same, it says of both indexes one record later
says-numbered : (f g : List ℕ) (r : Checked) → 0 < length f + length g → take entry_size f ≡ take entry_size g
    → Says (drop entry_size f) (drop entry_size g) r → Says f g (numbered_from 1 r)
says-numbered f g (Ok n) h e s =
    let one : f ≡ g
    = sym (take-append-drop entry_size f)
    ∙ ap (λ (x : List ℕ). x ++ drop entry_size f) e
    ∙ ap (λ (x : List ℕ). take entry_size g ++ x) s.0
    ∙ take-append-drop entry_size g in
    (one, (omega (arith, length-drop entry_size f), omega (arith, length-drop entry_size f, ap length one)))
says-numbered f g (Err differs) h e s =
    record {
      before = front-and differs.at f ∙ ap₂ ◌++◌ e s.before ∙ sym (front-and differs.at g);
      there =
          λ z.
          let n : 1 + differs.at + 1 ≡ 1 + (differs.at + 1) = omega arith in
          s.there
          (append_cancel_left (take entry_size g) _ _
          (ap (λ (x : List ℕ). x ++ take (entry_size * (differs.at + 1)) (drop entry_size f)) (sym e)
          ∙ sym (front-and (differs.at + 1) f)
          ∙ (rw n at z)
          ∙ front-and (differs.at + 1) g));
    }

-- of two with no byte
none-says : (f g : List ℕ) → length f + length g ≡ 0 → Says f g (compared f g)
none-says f g z = subst (Says f g) (sym (ends (length f + length g) 0 f g z)) (none-same f g z, (omega arith, omega arith))

-- every answer says so
says : (n : ℕ) (f g : List ℕ) → length f + length g ≤ n → Says f g (compared f g)
says zero f g h = none-says f g (omega arith)
says (suc n) f g h =
    by_front f g (none-says f g)
    (λ p e. subst (Says f g) (sym (compared-more f g p e))
    (says-numbered f g (compared (drop entry_size f) (drop entry_size g)) p e
    (says n (drop entry_size f) (drop entry_size g) (omega (arith, length-drop entry_size f, length-drop entry_size g)))))
    (λ d. subst (Says f g) (sym (compared-stops f g d)) (record { before = refl; there = d }))

-- the same of an answer that is known
answer-says : (f g : List ℕ) {r : Checked} → compared f g ≡ r → Says f g r
answer-says f g e = subst (Says f g) e (says (length f + length g) f g (omega arith))

-- a check accepts an index exactly where it is the one written afresh, and tells its records
pub fits_exactly : (fresh given : List ℕ) → FitsExactly fresh given
fits_exactly f g =
    record {
      accepts = λ e. accepted e (compared f g) refl;
      only = λ n e. (answer-says f g e).0;
      counts = λ n e. (answer-says f g e).1;
    }
  where
    accepted : f ≡ g → (r : Checked) → compared f g ≡ r → (n : ℕ) × r ≡ Ok n
    accepted e (Ok n) h = (n, refl)
    accepted e (Err differs) h = absurd ((answer-says f g h).there (ap (take (entry_size * (differs.at + 1))) e))

-- one that it does not accept is told by the first record that differs, is missing or is extra
pub differs_first : (fresh given : List ℕ) → DiffersFirst fresh given
differs_first f g k e = answer-says f g e

-- the number that it tells is of a record of one of both, or the next after the last
pub differs-in : (fresh given : List ℕ) (k : ℕ) → compared fresh given ≡ Differs k → entry_size * k < max (length fresh) (length given)
differs-in f g k e =
    ⊎_elim (λ h. h)
    (λ h. let w = answer-says f g e in
    absurd (w.there
    (take_all (entry_size * (k + 1)) f (omega arith)
    ∙ sym (take_all (entry_size * k) f (omega arith))
    ∙ w.before
    ∙ take_all (entry_size * k) g (omega arith)
    ∙ sym (take_all (entry_size * (k + 1)) g (omega arith)))))
    (lt-or-le (entry_size * k) (max (length f) (length g)))

-- there is one first record that differs
module _ (f g : List ℕ) where
  -- what is the same up to a record is the same up to every one before it
  same-before : (j k : ℕ) → j ≤ k → take (entry_size * k) f ≡ take (entry_size * k) g → take (entry_size * j) f ≡ take (entry_size * j) g
  same-before j k h e =
      sym (take-take (entry_size * j) (entry_size * k) f (omega arith)) ∙ ap (take (entry_size * j)) e
      ∙ take-take (entry_size * j) (entry_size * k) g (omega arith)

  -- so a check tells it
  pub first-told : (k : ℕ) → FirstAt f g k → compared f g ≡ Differs k
  first-told k w = by_answer (compared f g) refl
    where
      earlier : (i j : ℕ) → FirstAt f g i → FirstAt f g j → i < j → ⊥
      earlier i j v u h = v.there (same-before (i + 1) j (omega arith) u.before)

      by_answer : (r : Checked) → compared f g ≡ r → r ≡ Differs k
      by_answer (Ok n) e = absurd (w.there (ap (take (entry_size * (k + 1))) (answer-says f g e).0))
      by_answer (Err differs) e =
          ⊎_elim (λ h. absurd (earlier differs.at k (answer-says f g e) w h))
          (λ h. ⊎_elim (λ i. absurd (earlier k differs.at w (answer-says f g e) i)) (λ i. ap Differs (omega arith)) (lt-or-le k differs.at))
          (lt-or-le differs.at k)

-- ---- a check in parts

-- an index that ends within the first part differs there, whatever comes after that part
pub ends-within : (f more g : List ℕ) → length f % entry_size ≡ 0 → length g < length f
    → (rest : Checked) → compared (f ++ more) g ≡ followed_by (compared f g) rest
ends-within f more g whole short rest = by_answer (compared f g) refl
  where
    by_answer : (r : Checked) → compared f g ≡ r → compared (f ++ more) g ≡ followed_by r rest
    by_answer (Ok n) e = absurd (omega (arith, ap length (answer-says f g e).0))
    by_answer (Err differs) e =
        let w = answer-says f g e in
        let here : entry_size * (differs.at + 1) ≤ length f = omega (arith, differs-in f g differs.at e) in
        first-told (f ++ more) g differs.at
        (record {
          before = take-append-le (entry_size * differs.at) f more (omega arith) ∙ w.before;
          there = λ z. w.there (sym (take-append-le (entry_size * (differs.at + 1)) f more here) ∙ z);
        })

-- nothing before
pub numbered-none : (r : Checked) → numbered_from 0 r ≡ r
numbered-none (Ok k) = ap Ok (omega arith)
numbered-none (Err differs) = ap Differs (omega arith)

-- one record more before both parts
numbered-followed : (a r : Checked) → numbered_from 1 (followed_by a r) ≡ followed_by (numbered_from 1 a) r
numbered-followed (Ok n) r = numbered-twice 1 n r
numbered-followed (Err differs) r = refl

-- where the first parts are whole records of one number, an answer for all is theirs, and then that of what follows
pub check_in_parts : CheckInParts
check_in_parts zero [] f₂ [] g₂ a b =
    sym (ap (λ (x : Checked). followed_by x (compared f₂ g₂)) (ends 0 0 [] [] refl) ∙ numbered-none (compared f₂ g₂))
check_in_parts zero [] f₂ (y ∷ g) g₂ a b = absurd (omega arith)
check_in_parts zero (x ∷ f) f₂ g g₂ a b = absurd (omega arith)
check_in_parts (suc n) f f₂ g g₂ a b =
    by_front f g (λ z. absurd (omega arith))
    (λ p e. compared-more (f ++ f₂) (g ++ g₂) (omega (arith, length-append f f₂)) (fronts.0 ∙ e ∙ sym fronts.1)
    ∙ ap (numbered_from 1)
    (rests ∙ check_in_parts n (drop entry_size f) f₂ (drop entry_size g) g₂ (omega (arith, length-drop entry_size f))
    (omega (arith, length-drop entry_size g)))
    ∙ numbered-followed (compared (drop entry_size f) (drop entry_size g)) (compared f₂ g₂)
    ∙ sym (ap (λ (x : Checked). followed_by x (compared f₂ g₂)) (compared-more f g p e)))
    (λ d. compared-stops (f ++ f₂) (g ++ g₂) (λ z. d (sym fronts.0 ∙ z ∙ fronts.1))
    ∙ sym (ap (λ (x : Checked). followed_by x (compared f₂ g₂)) (compared-stops f g d)))
  where
    fronts : (take entry_size (f ++ f₂) ≡ take entry_size f) × (take entry_size (g ++ g₂) ≡ take entry_size g)
    fronts = (take-append-le entry_size f f₂ (omega arith), take-append-le entry_size g g₂ (omega arith))

    rests : compared (drop entry_size (f ++ f₂)) (drop entry_size (g ++ g₂)) ≡ compared (drop entry_size f ++ f₂) (drop entry_size g ++ g₂)
    rests = ap₂ compared (drop-append-le entry_size f f₂ (omega arith)) (drop-append-le entry_size g g₂ (omega arith))
