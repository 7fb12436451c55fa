-- Octets below 0x80: they are characters by themselves, whatever follows; and what the greatest octet of a part says of the whole.
use mathlib.Core.Path.{◌≡◌, refl, sym, ap, subst, ◌∙◌}
use mathlib.Core.Bool.{Bool, true, false, cond}
use mathlib.Core.List.{List, [], ◌∷◌, ◌++◌, append-nil}
use Prim.Native.Nat.{ℕ, zero, suc, ◌+◌, ◌-◌, ◌*◌, ◌<◌, ◌≤◌, min, max}
use native.Mathlib.Omega.{arith}
use lib.Dec.{ltb}
use borrow.Author.Tests.{ltb-true, ltb-false}
use lib.ListN.{length, take, drop, get_or, length-take, length-drop, take-append-drop}
use lib.Seq.{drop-drop, get_or-take, get_or-drop, take_all, take-length}
use Rattle.std.specs.List.{fold}
use Rattle.utf8.specs.Utf8.{Range, Octets, Decides}
use Rattle.utf8.specs.Derive.{step, run, utf8}
use Rattle.utf8.specs.Automaton.{RunPasses}
use Rattle.utf8.specs.CodeHighest.{highest_of, PlainBefore}
use Rattle.utf8.proofs.Grammar.{octets, same_answer}
use Rattle.utf8.proofs.Same.{same_rows, same-rows→eq}
use Rattle.utf8.proofs.Table.{at}

-- the greater of two numbers is what the test chooses
greater : (top x : ℕ) (t : Bool) → ltb top x ≡ t → max top x ≡ cond t x top
greater top x true e = omega (arith, ltb-true top x e)
greater top x false e = omega (arith, ltb-false top x e)

-- the greatest, one octet after another
pub folded : (top : ℕ) (s : List ℕ) → fold max top s ≡ highest_of top s
folded top [] = refl
folded top (x ∷ s) = rw (greater top x (ltb top x) refl) (folded (cond (ltb top x) x top) s)

-- where the greatest is below n, each is
below_top : (n top x : ℕ) (t : Bool) → ltb top x ≡ t → cond t x top < n → (top < n) × (x < n)
below_top n top x true e h = (omega (arith, ltb-true top x e), h)
below_top n top x false e h = (h, omega (arith, ltb-false top x e))

-- where the greatest octet is below n, the one so far is
top_below : (n top : ℕ) (s : List ℕ) → highest_of top s < n → top < n
top_below n top [] h = h
top_below n top (x ∷ s) h = (below_top n top x (ltb top x) refl (top_below n (cond (ltb top x) x top) s h)).0

-- ---- parts of octets

-- `&s[k..]` is what is left after k octets
pub tail : (s : List ℕ) (k : ℕ) → take (length s - k) (drop k s) ≡ drop k s
tail s k = take_all (length s - k) (drop k s) (omega (arith, length-drop k s))

-- the greater of two numbers below n is below n
one_below : {n top x : ℕ} (t : Bool) → top < n → x < n → cond t x top < n
one_below true h k = k
one_below false h k = h

-- where the greatest octet is below n, each is
each_below : (n top : ℕ) (s : List ℕ) → highest_of top s < n → (i : ℕ) → i < length s → get_or s i 0 < n
each_below n top [] h i k = absurd (omega arith)
each_below n top (x ∷ s) h zero k = (below_top n top x (ltb top x) refl (top_below n (cond (ltb top x) x top) s h)).1
each_below n top (x ∷ s) h (suc i) k = each_below n (cond (ltb top x) x top) s h i (omega arith)

-- and where each is, the greatest is
all-below : (n top : ℕ) (s : List ℕ) → top < n → ((i : ℕ) → i < length s → get_or s i 0 < n) → highest_of top s < n
all-below n top [] h f = h
all-below n top (x ∷ s) h f =
    all-below n (cond (ltb top x) x top) s (one_below (ltb top x) h (f 0 (omega arith))) (λ i k. f (suc i) (omega arith))

-- an octet of a part, by its place in the whole
part_at : (s : List ℕ) (a m i : ℕ) → i < m → get_or (take m (drop a s)) i 0 ≡ get_or s (a + i) 0
part_at s a m i h = get_or-take m (drop a s) i 0 h ∙ get_or-drop a s i 0

-- the octets from a to a + m are below 0x80, told of each
abbrev Low : List ℕ → ℕ → ℕ → Type 0
Low s a m = (i : ℕ) → a ≤ i → i < a + m → i < length s → get_or s i 0 < 0x80

-- so it is where the greatest of them is
part_low : (s : List ℕ) (a m : ℕ) → highest_of 0 (take m (drop a s)) < 0x80 → Low s a m
part_low s a m h i p q r =
    let e : a + (i - a) ≡ i = omega arith in
    let k : i - a < length (take m (drop a s)) = simp (length-take, length-drop) (omega arith) in
    let f : get_or (take m (drop a s)) (i - a) 0 ≡ get_or s i 0 = part_at s a m (i - a) (omega arith) ∙ ap (λ (j : ℕ). get_or s j 0) e in
    rw f at (each_below 0x80 0 (take m (drop a s)) h (i - a) k)

-- and the greatest of them where it is so
low_part : (s : List ℕ) (a m : ℕ) → Low s a m → highest_of 0 (take m (drop a s)) < 0x80
low_part s a m f =
    all-below 0x80 0 (take m (drop a s)) (omega arith) λ i k.
    let h : (i < m) × (a + i < length s) = inside i k in
    rw (part_at s a m i h.0) (f (a + i) (omega arith) (omega arith) h.1)
  where
    inside : (i : ℕ) → i < length (take m (drop a s)) → (i < m) × (a + i < length s)
    inside i k = let k' : i < min m (length s - a) = simp (length-take, length-drop) at k in (omega arith, omega arith)

-- two parts, the second of which begins within the first or at its end, have all that is between their ends
two-parts : (s : List ℕ) (a m b n e : ℕ) → b ≤ a + m → a + e ≤ b + n → Low s a m → Low s b n → Low s a e
two-parts s a m b n e p q f g i h k l = go (ltb i (a + m)) refl
  where
    go : (t : Bool) → ltb i (a + m) ≡ t → get_or s i 0 < 0x80
    go true w = f i h (ltb-true i (a + m) w) l
    go false w = let v : a + m ≤ i = ltb-false i (a + m) w in g i (omega arith) (omega arith) l

kept : ℕ → Bool
kept x = same_rows (step ([] ∷ []) x) ([] ∷ [])

-- an octet below 0x80 is a character: after it, one may begin again
pub single : (x : ℕ) → x < 0x80 → step ([] ∷ []) x ≡ [] ∷ []
unfolding kept
single x h = same-rows→eq (step ([] ∷ []) x) ([] ∷ []) (at kept 0x80 tt x h)

-- so octets below 0x80 lead `run` back to where it began
pub ascii_run : (top : ℕ) (s : List ℕ) → highest_of top s < 0x80 → (rest : List ℕ) → run ([] ∷ []) (s ++ rest) ≡ run ([] ∷ []) rest
ascii_run top [] h rest = refl
ascii_run top (x ∷ s) h rest =
    let (low, one) = below_top 0x80 top x (ltb top x) refl (top_below 0x80 (cond (ltb top x) x top) s h) in
    ap (λ (rows : List (List Range)). run rows (s ++ rest)) (single x one) ∙ ascii_run (cond (ltb top x) x top) s h rest

-- a run of octets below 0x80 changes no answer on what follows it
pub run_passes : RunPasses
run_passes s rest f = ascii_run 0 s (all-below 0x80 0 s (omega arith) f) rest

-- octets below 0x80 are UTF-8
plain-octets : (s : List ℕ) → highest_of 0 s < 0x80 → Decides true (Octets s)
plain-octets s h =
    let e : utf8 s ≡ true = ap utf8 (sym (append-nil s)) ∙ ascii_run 0 s h [] in
    subst (λ (b : Bool). Decides b (Octets s)) e (octets s)

-- ---- octets passed over

-- a block more: the first r octets, and the n after them
pub block_more : (s : List ℕ) (r n : ℕ) → highest_of 0 (take r s) < 0x80 → highest_of 0 (take (r + n - r) (drop r s)) ≤ 0x7F
    → highest_of 0 (take (r + n) s) < 0x80
block_more s r n h k =
    low_part s 0 (r + n)
    (two-parts s 0 r r (r + n - r) (r + n) (omega arith) (omega arith) (part_low s 0 r h) (part_low s r (r + n - r) (omega arith)))

-- `rest` is left of s, and what stands before it is below 0x80
pub record After (s rest : List ℕ) : Type 0 where
  pub within : length rest ≤ length s
  pub left : rest ≡ drop (length s - length rest) s
  pub low : highest_of 0 (take (length s - length rest) s) < 0x80

-- a block more
pub after-block : (s rest block later : List ℕ) (n : ℕ) → After s rest → n < length rest → block ≡ take n rest → later ≡ drop n rest
    → highest_of 0 block ≤ 0x7F → After s later
after-block s rest block later n a h e f k =
    let r = length s - length rest in
    let m : length later ≡ length rest - n = rw f (length-drop n rest) in
    let more : length s - length later ≡ r + n = omega (arith, a.within) in
    let one : r + n - r ≡ n = omega arith in
    let low : highest_of 0 (take (r + n - r) (drop r s)) ≤ 0x7F = rw (one, ← a.left, ← e) k in
    record {
      within = omega (arith, a.within);
      left = rw (more, ← drop-drop, ← a.left) f;
      low = rw more (block_more s r n a.low low);
    }

-- octets were passed, and more of the rest
pub passed_on : (s t u : List ℕ) (n m : ℕ) → PlainBefore m s t → PlainBefore n t u → PlainBefore n s u
passed_on s t u n m p q =
    let f = length s - length t in
    let r = length t - length u in
    let more : length s - length u ≡ f + r = omega (arith, p.0, q.0) in
    let one : f + r - f ≡ r = omega arith in
    let low : highest_of 0 (take (f + r - f) (drop f s)) ≤ 0x7F = rw (one, ← p.1) (omega (arith, q.2.1)) in
    let left : u ≡ drop (f + r) s = q.1 ∙ rw (← drop-drop, ← p.1) in
    (omega (arith, p.0, q.0), rw more left, rw more (omega arith, block_more s f r p.2.1 low, λ w. rw (← left, q.1) (q.2.2 (omega arith))))

-- ---- the test whether an octet is above 0x7F

-- two parts have the same answer, if one of them is below 0x80 where the other is
same_test : (s : List ℕ) (a m b n : ℕ) → (Low s a m → Low s b n) → (Low s b n → Low s a m)
    → ltb 0x7F (highest_of 0 (take m (drop a s))) ≡ ltb 0x7F (highest_of 0 (take n (drop b s)))
same_test s a m b n f g = go (ltb 0x7F x) refl (ltb 0x7F y) refl
  where
    x : ℕ
    x = highest_of 0 (take m (drop a s))

    y : ℕ
    y = highest_of 0 (take n (drop b s))

    go : (t : Bool) → ltb 0x7F x ≡ t → (u : Bool) → ltb 0x7F y ≡ u → t ≡ u
    go true p true q = refl
    go false p false q = refl
    go true p false q =
        absurd (omega (arith, ltb-true 0x7F x p, low_part s a m (g (part_low s b n (omega (arith, ltb-false 0x7F y q))))))
    go false p true q =
        absurd (omega (arith, ltb-true 0x7F y q, low_part s b n (f (part_low s a m (omega (arith, ltb-false 0x7F x p))))))

-- where a part has such an octet, the whole has
pub part-high : (s : List ℕ) (n : ℕ) → 0x7F < highest_of 0 (take n s) → true ≡ ltb 0x7F (highest_of 0 s)
part-high s n h = go (ltb 0x7F (highest_of 0 s)) refl
  where
    go : (t : Bool) → ltb 0x7F (highest_of 0 s) ≡ t → true ≡ t
    go true w = refl
    go false w =
        let low : highest_of 0 s < 0x80 = omega (arith, ltb-false 0x7F (highest_of 0 s) w) in
        absurd (omega (arith, low_part s 0 n (λ i p q l. each_below 0x80 0 s low i l)))

-- where the first n octets have none, the last n answer for all of at most 2 * n
pub by-ends : (s : List ℕ) (n : ℕ) → n ≤ length s → length s ≤ 2 * n → highest_of 0 (take n s) ≤ 0x7F
    → ltb 0x7F (highest_of 0 (take (length s - (length s - n)) (drop (length s - n) s))) ≡ ltb 0x7F (highest_of 0 s)
by-ends s n h k e =
    let m : ℕ = length s - n in
    let f : ltb 0x7F (highest_of 0 (take (length s - m) (drop m s))) ≡ ltb 0x7F (highest_of 0 (take (length s) s)) =
    same_test s m (length s - m) 0 (length s)
    (λ g. two-parts s 0 n m (length s - m) (length s) (omega arith) (omega arith) (part_low s 0 n (omega arith)) g)
    (λ g i p q l. g i (omega arith) (omega arith) l) in
    rw take-length at f

-- ---- the answers of `is_utf8`

-- no octet is above 0x7F
pub none-high : (s : List ℕ) → ltb 0x7F (highest_of 0 s) ≡ false → Decides true (Octets s)
none-high s e = plain-octets s (omega (arith, ltb-false 0x7F (highest_of 0 s) e))

-- the first octets were passed, and the last 64, which have all that are left, are below 0x80
pub all-passed : (s rest : List ℕ) → PlainBefore 64 s rest → 64 ≤ length s → length rest ≤ 64
    → highest_of 0 (take (length s - (length s - 64)) (drop (length s - 64) s)) < 0x80
    → Decides true (Octets s)
all-passed s rest p h k l =
    let m : ℕ = length s - 64 in
    let r = length s - length rest in
    let front : Low s 0 r = part_low s 0 r p.2.1 in
    let back : Low s m (length s - m) = part_low s m (length s - m) l in
    let all : Low s 0 (length s) = two-parts s 0 r m (length s - m) (length s) (omega (arith, p.0)) (omega arith) front back in
    plain-octets s (rw take-length at (low_part s 0 (length s) all))

-- the first octets were passed, and the rest is judged
pub judged : (s rest : List ℕ) {b : Bool} → PlainBefore 64 s rest → Decides b (Octets rest) → Decides b (Octets s)
judged s rest p d =
    let r = length s - length rest in
    let e : utf8 s ≡ utf8 (drop r s) = ap utf8 (sym (take-append-drop r s)) ∙ ascii_run 0 (take r s) p.2.1 (drop r s) in
    let f = same_answer (octets (drop r s)) (rw p.1 at d) in
    subst (λ (t : Bool). Decides t (Octets s)) (e ∙ f) (octets s)
