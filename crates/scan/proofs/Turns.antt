-- Each turn of the two scans: what one tag does.
use mathlib.Core.Path.{◌≡◌, refl, ap, ap₂, sym, ◌∙◌, subst}
use Prim.Native.Nat.{ℕ, zero, suc, ◌+◌, ◌-◌, ◌<◌, ◌≤◌, max}
use mathlib.Core.List.{List, [], ◌∷◌}
use native.Mathlib.Nat.{zero-add}
use native.Mathlib.Omega.{arith}
use native.Mathlib.Numerals.{add-one}
use lib.ListN.{length, get_or, take, drop, length-drop, drop_of_length-le}
use lib.Seq.{drop-cons, drop-length}
use Rattle.refusal.specs.declared.Fault.{Fault}
use Rattle.refusal.specs.declared.Fault.TheVariants.{NotOpen}
use Rattle.wire.proofs.Parts.{tail}
use Rattle.node.specs.Tags.{sort_of}
use Rattle.node.specs.declared.tags.Class.{Class}
use Rattle.node.specs.declared.tags.Sort.{Sort}
use Rattle.node.specs.declared.tags.Sort.TheVariants.{Opens, Closes, Leaf}
use Rattle.argument.specs.Argument.{read_arg}
use Rattle.scan.proofs.Passed.{used-within}
use Rattle.scan.specs.CodeScans.{used_of, more_used, turn, scan, tag_before, back}
use Rattle.scan.specs.Results.{Scanned, Used}
use Rattle.std.specs.Prelude.{Err, Ok}
use Rattle.scan.specs.declared.Back.TheVariants.{Uncut, Cut}

more-more : (m d n e : ℕ) (s : Scanned) → more_used m d (more_used n e s) ≡ more_used (m + n) (d + e) s
more-more m d n e (Ok scanned) = ap₂ (λ (i j : ℕ). Used i j) (omega arith) (omega arith)
more-more m d n e (Err fault) = refl

more-none : (s : Scanned) → more_used 0 0 s ≡ s
more-none (Ok scanned) = ap₂ (λ (i j : ℕ). Used i j) (omega arith) (omega arith)
more-none (Err fault) = refl

-- ---- forward

module _ (tags m : List ℕ) (k q n : ℕ) (h : k < length tags) where
  scan-turn : {s : Sort} → s ≡ sort_of (get_or tags k 0)
      → scan (drop k tags) m q n ≡ turn s (λ m q j. scan (drop (k + 1) tags) m q j) (get_or tags k 0) m q n
  unfolding scan
  scan-turn {s} e = rw (drop-cons tags k 0, add-one, ← e)

  scan-opens : Opens ≡ sort_of (get_or tags k 0) → scan (drop k tags) m q n ≡ scan (drop (k + 1) tags) m q (n + 1)
  scan-opens e = scan-turn e ∙ rw (add-one n)

  scan-none : Closes ≡ sort_of (get_or tags k 0) → n ≡ 0 → scan (drop k tags) m q n ≡ Err NotOpen
  scan-none e z = scan-turn e ∙ rw z

  scan-closes : Closes ≡ sort_of (get_or tags k 0) → (n ≡ 0 → ⊥) → scan (drop k tags) m q n ≡ scan (drop (k + 1) tags) m q (n - 1)
  scan-closes e z =
      let some : n ≡ suc (n - 1) = omega arith in
      scan-turn e ∙ ap (turn Closes (λ m q j. scan (drop (k + 1) tags) m q j) (get_or tags k 0) m q) some

  scan-given : {class : Class} {used dirty : ℕ} → Leaf class ≡ sort_of (get_or tags k 0)
      → Used used dirty ≡ used_of class m (read_arg (get_or tags k 0) class 0 m q)
      → scan (drop k tags) m q n ≡ more_used used dirty (scan (drop (k + 1) tags) (drop used m) (q + used) n)
  scan-given e g = scan-turn e ∙ rw (← g)

  scan-refused : {class : Class} {fault : Fault} → Leaf class ≡ sort_of (get_or tags k 0)
      → Err fault ≡ used_of class m (read_arg (get_or tags k 0) class 0 m q)
      → scan (drop k tags) m q n ≡ Err fault
  scan-refused e g = scan-turn e ∙ rw (← g)

scan-end : (tags m : List ℕ) (k q n : ℕ) → length tags ≤ k → scan (drop k tags) m q n ≡ Used 0 0
unfolding scan
scan-end tags m k q n h = rw (drop_of_length-le tags h)

-- of the tags k were read, and of the data l from pos on m is left, at `at`; n arrays are open, and so much dirt was met
pub record Scanning (tags l : List ℕ) (pos k : ℕ) (m : List ℕ) (at n dirt : ℕ) : Type 0 where
  pub whole : scan tags l pos 0 ≡ more_used (at - pos) dirt (scan (drop k tags) m at n)
  pub ends : at + length m ≡ pos + length l
  pub past : pos ≤ at
  pub few : n ≤ k
  pub clean : dirt ≤ at - pos

-- at the start all is left
pub scanning-start : (tags l : List ℕ) (pos : ℕ) → Scanning tags l pos 0 l pos 0 0
scanning-start tags l pos =
    let z : pos - pos ≡ 0 = omega arith in
    record { whole = rw z (sym (more-none (scan tags l pos 0))); ends = refl; past = omega arith; few = omega arith; clean = omega arith }

-- where no tag is left, what was read is all
pub scanning-end : {tags l : List ℕ} {pos k : ℕ} {m : List ℕ} {at n dirt : ℕ} → Scanning tags l pos k m at n dirt → length tags ≤ k
    → Used (at - pos) dirt ≡ scan tags l pos 0
scanning-end {tags} {l} {pos} {k} {m} {at} {n} {dirt} w h =
    let z : at - pos + 0 ≡ at - pos = omega arith in
    let y : dirt + 0 ≡ dirt = omega arith in
    sym (w.whole ∙ ap (more_used (at - pos) dirt) (scan-end tags m k at n h) ∙ rw (z, y))

-- a turn: a tag is left, and its sort is found
pub record Forward : Type 0 where
  pub tags : List ℕ
  pub input : List ℕ
  pub pos : ℕ
  pub index : ℕ
  pub rest : List ℕ
  pub at : ℕ
  pub waiting : ℕ
  pub dirt : ℕ
  pub so_far : Scanning tags input pos index rest at waiting dirt
  pub more : index < length tags
  pub sort : Sort
  pub sort-found : sort ≡ sort_of (get_or tags index 0)

module _ (t : Forward) where
  open t use {tags, input as l, pos, index as k, rest as m, at, waiting as n, dirt, so_far as w, more as h, sort}

  sort-is : {x : Sort} → sort ≡ x → x ≡ sort_of (get_or tags k 0)
  sort-is e = sym e ∙ t.sort-found

  -- one tag less is left, and n' arrays are open
  next : (n' : ℕ) → n' ≤ n + 1 → scan (drop k tags) m at n ≡ scan (drop (k + 1) tags) m at n' → Scanning tags l pos (k + 1) m at n' dirt
  next n' j e =
      record {
        whole = w.whole ∙ ap (more_used (at - pos) dirt) e;
        ends = w.ends;
        past = w.past;
        few = omega (arith, w.few);
        clean = w.clean;
      }

  -- a tag that opens: one array more is open
  pub scanning-opens : sort ≡ Opens → Scanning tags l pos (k + 1) m at (n + 1) dirt
  scanning-opens e = next (n + 1) (omega arith) (scan-opens tags m k at n h (sort-is e))

  -- a tag that closes: one array fewer is open
  pub scanning-closes : sort ≡ Closes → (n ≡ 0 → ⊥) → Scanning tags l pos (k + 1) m at (n - 1) dirt
  scanning-closes e z = next (n - 1) (omega arith) (scan-closes tags m k at n h (sort-is e) z)

  -- a tag that closes where no array is open is refused
  pub scanning-none : sort ≡ Closes → n ≡ 0 → Err NotOpen ≡ scan tags l pos 0
  scanning-none e z = sym (w.whole ∙ ap (more_used (at - pos) dirt) (scan-none tags m k at n h (sort-is e) z))

  -- a tag with an argument, of which x is passed
  module _ (class : Class) {x : Scanned} (g : x ≡ used_of class m (read_arg (get_or tags k 0) class 0 m at)) where
    -- what it takes, and its dirt, are no more than there is
    pub data-within : {used dirty : ℕ} → x ≡ Used used dirty
        → (used ≤ length m) × (dirty ≤ used) × (at + used ≤ pos + length l) × (dirt + dirty ≤ length l)
    data-within {used} {dirty} u =
        let v = used-within (get_or tags k 0) class 0 m at (sym u ∙ g) in
        (v.0, v.1, omega (arith, w.ends), omega (arith, w.ends, w.past, w.clean))

    -- its bytes are read too
    pub scanning-given : {used dirty : ℕ} → sort ≡ Leaf class → x ≡ Used used dirty
        → Scanning tags l pos (k + 1) (take (length m - used) (drop used m)) (at + used) n (dirt + dirty)
    scanning-given {used} {dirty} e u =
        let sum : at - pos + used ≡ at + used - pos = omega (arith, w.past) in
        let within = data-within u in
        rw (tail m used)
        (record {
          whole =
              w.whole ∙ ap (more_used (at - pos) dirt) (scan-given tags m k at n h (sort-is e) (sym u ∙ g))
              ∙ more-more (at - pos) dirt used dirty (scan (drop (k + 1) tags) (drop used m) (at + used) n) ∙ rw sum;
          ends = omega (arith, within, length-drop used m, w.ends);
          past = omega (arith, w.past);
          few = omega (arith, w.few);
          clean = omega (arith, within, w.past, w.clean);
        })

    -- it is refused
    pub scanning-refused : {fault : Fault} → sort ≡ Leaf class → x ≡ Err fault → Err fault ≡ scan tags l pos 0
    scanning-refused e u = sym (w.whole ∙ ap (more_used (at - pos) dirt) (scan-refused tags m k at n h (sort-is e) (sym u ∙ g)))

-- ---- backward

before-cut : (s : Sort) (n c d : ℕ) → tag_before s (Cut n c d) ≡ Cut (suc n) c d
before-cut Opens n c d = refl
before-cut Closes n c d = refl
before-cut (Leaf class) n c d = refl

cut_up : (j : ℕ) (ts : List ℕ) (n c d : ℕ) → j ≤ length ts → back (drop j ts) ≡ Cut n c d → back ts ≡ Cut (j + n) c d
unfolding back
cut_up zero ts n c d h e = e ∙ rw (zero-add n)
cut_up (suc j) [] n c d h e = absurd (omega arith)
cut_up (suc j) (t ∷ ts) n c d h e =
    let s : suc (j + n) ≡ suc j + n = omega arith in
    ap (tag_before (sort_of t)) (cut_up j ts n c d (omega arith) e) ∙ before-cut (sort_of t) (j + n) c d ∙ rw s

-- the tags from j on close every array that they open, and n more; they give c records, whose arrays are nested d deep with those n
pub record Looking (tags : List ℕ) (j n c d : ℕ) : Type 0 where
  pub inside : j ≤ length tags
  pub few : n + c + j ≤ length tags
  pub whole : back (drop j tags) ≡ Uncut n c d

-- at the end of the tags nothing was looked at
pub looking-start : (tags : List ℕ) → Looking tags (length tags) 0 0 0
unfolding back
looking-start tags = record { inside = omega arith; few = omega arith; whole = rw (drop-length tags) }

-- a turn: a tag is left before j, and its sort is found
pub record Backward : Type 0 where
  pub tags : List ℕ
  pub at : ℕ
  pub closed : ℕ
  pub count : ℕ
  pub depth : ℕ
  pub so_far : Looking tags at closed count depth
  pub more : 0 < at
  pub sort : Sort
  pub sort-found : sort ≡ sort_of (get_or tags (at - 1) 0)

module _ (t : Backward) where
  open t use {tags, at as j, closed as n, count as c, depth as d, so_far as w, more as h, sort}

  back-turn : {s : Sort} → sort ≡ s → back (drop (j - 1) tags) ≡ tag_before s (Uncut n c d)
  unfolding back
  back-turn {s} e =
      let found : s ≡ sort_of (get_or tags (j - 1) 0) = sym e ∙ t.sort-found in
      let up : j ≡ suc (j - 1) = omega arith in
      let later : back (drop (suc (j - 1)) tags) ≡ Uncut n c d = subst (λ (x : ℕ). back (drop x tags) ≡ Uncut n c d) up w.whole in
      rw (drop-cons tags (j - 1) 0 (omega (arith, w.inside)), ← found, later)

  -- one tag more was looked at
  earlier : {s : Sort} (n' c' d' : ℕ) → sort ≡ s → n' + c' ≤ n + c + 1
      → tag_before s (Uncut n c d) ≡ Uncut n' c' d' → Looking tags (j - 1) n' c' d'
  earlier n' c' d' e k b = record { inside = omega (arith, w.inside); few = omega (arith, w.few); whole = back-turn e ∙ b }

  -- a tag that opens an array which is closed later: one record more, and as deep as the arrays that are yet to be opened
  pub looking-opens : {d' : ℕ} → sort ≡ Opens → (n ≡ 0 → ⊥) → d' ≡ max d n → Looking tags (j - 1) (n - 1) (c + 1) d'
  looking-opens {d'} e z m =
      let some : n ≡ suc (n - 1) = omega arith in
      earlier (n - 1) (c + 1) d' e (omega arith)
      (ap (λ (k : ℕ). tag_before Opens (Uncut k c d)) some
      ∙ ap (λ (k : ℕ). Uncut (n - 1) (suc c) (max d k)) (sym some) ∙ rw (add-one c, m))

  -- a tag that closes: one array more
  pub looking-closes : sort ≡ Closes → Looking tags (j - 1) (n + 1) c d
  looking-closes e = earlier (n + 1) c d e (omega arith) (rw (add-one n))

  -- any other tag: one record more
  pub looking-leaf : {class : Class} → sort ≡ Leaf class → Looking tags (j - 1) n (c + 1) d
  looking-leaf e = earlier n (c + 1) d e (omega arith) (rw (add-one c))

  -- a tag that opens an array which stays open: the tags are cut after it
  pub looking-cut : sort ≡ Opens → n ≡ 0 → Cut (j - 1 + 1) c d ≡ back tags
  looking-cut e z = sym (cut_up (j - 1) tags 1 c d (omega (arith, w.inside)) (back-turn e ∙ rw z))

-- where all tags were looked at, they are not cut
pub looking-end : {tags : List ℕ} {j n c d : ℕ} → Looking tags j n c d → j ≤ 0 → Uncut n c d ≡ back tags
looking-end {tags} {j} {n} {c} {d} w h =
    let z : j ≡ 0 = omega arith in
    sym (rw z at w.whole)
