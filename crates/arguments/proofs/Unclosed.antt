-- Rule 3's last sentence, proved of rosc's loop: of tags that end while arrays are open, what was read since the last unclosed '['.
use mathlib.Core.Path.{◌≡◌, refl, ap, sym, subst, ◌∙◌}
use mathlib.Core.Logic.{⊎_elim}
use mathlib.Core.List.{List, [], ◌∷◌, ◌++◌, append_assoc, append-nil}
use Prim.Native.Nat.{ℕ, zero, suc, ◌+◌, ◌≤◌, max}
use native.Mathlib.Omega.{arith}
use borrow.Author.Tests.{ne_eqb}
use lib.ListN.{drop}
use lib.Seq.{drop-drop}
use Rattle.wire.proofs.Choices.{is-or}
use Rattle.node.specs.Forest.{Forest, nil, snoc}
use Rattle.node.specs.Tags.{array_kind, class_of, sort_of}
use Rattle.node.specs.declared.tags.Sort.{Sort}
use Rattle.node.specs.declared.tags.Sort.TheVariants.{Opens, Closes, Leaf}
use Rattle.argument.specs.Argument.{read_arg}
use Rattle.argument.specs.Results.{Arg}
use Rattle.std.specs.Prelude.{Err, Ok}
use Rattle.scan.specs.CodeScans.{tag_before, back}
use Rattle.scan.specs.declared.Back.{Back}
use Rattle.scan.specs.declared.Back.TheVariants.{Uncut}
use Rattle.arguments.specs.Arguments.{Args, refused, args, later, arg_taken, Open, waits, array_item, act, read_tags, read_args}
use Rattle.arguments.specs.Arguments.{Balanced, nothing, another, matched, since_last, KeptSinceLast}
use Rattle.arguments.specs.Arguments.{AtEnd, none_open, last_open, EndsSo}
use Rattle.arguments.specs.CodeReadings.{ArgsAccepted}
use Rattle.arguments.proofs.Kept.{later-none, later-later, Deep, deep-law, Closed, under-law}

-- ---- balanced tags close as many arrays as the tags after them

-- no array stays open, and n more are closed
record Closing (n : ℕ) (k : Back) : Type 0 where
  count : ℕ
  deep : ℕ
  is : k ≡ Uncut n count deep

other : {tag : ℕ} → (tag ≡ array_kind → ⊥) → (tag ≡ 93 → ⊥) → sort_of tag ≡ Leaf (class_of tag)
unfolding sort_of
other {tag} n m = rw (ne_eqb tag array_kind n, ne_eqb tag 93 m)

closing : {ts : List ℕ} (rest : List ℕ) (n : ℕ) → Balanced ts → Closing n (back rest) → Closing n (back (ts ++ rest))
unfolding back sort_of
closing rest n nothing w = w
closing rest n (another tag a c b) w =
    let v = closing rest n b w in
    record { count = suc v.count; deep = v.deep; is = rw (other a c, v.is) }
closing rest n (matched {within} {tags} b d) w =
    let v = closing rest n d w in
    let u = closing (93 ∷ (tags ++ rest)) (suc n) b
    (record { count = v.count; deep = v.deep; is = ap (tag_before Closes) v.is }) in
    record { count = suc u.count; deep = max u.deep (suc n); is = rw (append_assoc within (93 ∷ tags) rest, u.is) }

balanced-back : {ts : List ℕ} → Balanced ts → Closing 0 (back ts)
unfolding back
balanced-back {ts} b =
    subst (λ (x : List ℕ). Closing 0 (back x)) (append-nil ts) (closing [] 0 b (record { count = 0; deep = 0; is = refl }))

-- so what waits below changes nothing
alone : (base : ℕ) (post l : List ℕ) (p : ℕ) (below : List Open) → Balanced post → read_tags base post l p nil below ≡ read_args base post l p
alone base post l p below b =
    let w = balanced-back b in
    let shut : Closed (back post) 0 = rw w.is (omega arith) in
    under-law base post l p nil [] below shut

-- ---- the tags before the last unclosed '[' leave the bytes of their data, and nothing else

module _ (base : ℕ) (post rest : List ℕ)
    (same : (l : List ℕ) (p : ℕ) (frame : Forest) (below : List Open) → read_tags base rest l p frame below ≡ read_args base post l p) where
  since-later : (l : List ℕ) (p n : ℕ) (o : Args) → later n (since_last base post (drop n l) (p + n) o) ≡ since_last base post l p (later n o)
  since-later l p n (refused fault) = refl
  since-later l p n (args lost m) =
      let sum : p + n + m ≡ p + (n + m) = omega arith in
      later-later n m (read_args base post (drop m (drop n l)) (p + n + m)) ∙ rw (drop-drop m n l, sum)

  -- one tag, where `go` reads the later ones and `all` them and the rest
  act-front : (s : Sort) (all go : List ℕ → ℕ → Forest → List Open → Args) (tag : ℕ) (l : List ℕ) (p : ℕ) (frame : Forest)
      (below : List Open)
      → ((m : List ℕ) (q : ℕ) (f : Forest) (b : List Open) → all m q f b ≡ since_last base post m q (go m q f b))
      → act s all base tag l p frame below ≡ since_last base post l p (act s go base tag l p frame below)
  act-front Opens all go tag l p frame below h = h l p nil (waits frame (array_item (base + p)) ∷ below)
  act-front Closes all go tag l p frame [] h = refl
  act-front Closes all go tag l p frame (waits outer item ∷ below) h = h l p (snoc outer item frame) below
  act-front (Leaf class) all go tag l p frame below h = by-arg (read_arg tag class base l p)
    where
      by-arg : (x : Arg) → arg_taken (λ m q f. all m q f below) l p frame x
          ≡ since_last base post l p (arg_taken (λ m q f. go m q f below) l p frame x)
      by-arg (Err fault) = refl
      by-arg (Ok given) =
          let f = snoc frame given.item nil in
          ap (later given.used) (h (drop given.used l) (p + given.used) f below) ∙ since-later l p given.used (go (drop given.used l) (p + given.used) f below)

  front : (pre l : List ℕ) (p : ℕ) (frame : Forest) (below : List Open)
      → read_tags base (pre ++ rest) l p frame below ≡ since_last base post l p (read_tags base pre l p frame below)
  unfolding read_tags
  front [] l p frame below =
      let sum : p + 0 ≡ p = omega arith in
      same l p frame below ∙ sym (later-none (read_args base post l p)) ∙ rw sum
  front (tag ∷ pre) l p frame below =
      act-front (sort_of tag) _ _ tag l p frame below (λ m q f b. front pre m q f b)

-- only what was read since the last unclosed '[' is kept, and the data of all before it is consumed
pub kept_since_last : KeptSinceLast
unfolding read_tags sort_of
kept_since_last base pre post l p b =
    front base post (array_kind ∷ post)
    (λ m q frame below. alone base post m q (waits frame (array_item (base + q)) ∷ below) b) pre l p nil []

-- ---- every row of tags that is accepted ends so

-- balanced tags, and n times a ']' that closes none of theirs and balanced tags again
data Closers : ℕ → List ℕ → Type 0 where
  last : {ts : List ℕ} → Balanced ts → Closers 0 ts
  more : {n : ℕ} {ts rest : List ℕ} → Balanced ts → Closers n rest → Closers (suc n) (ts ++ (93 ∷ rest))

-- such tags, or tags with a last '[' that stays open
data View : List ℕ → Type 0 where
  closes : (n : ℕ) {ts : List ℕ} → Closers n ts → View ts
  opens : (pre : List ℕ) {post : List ℕ} → Balanced post → View (pre ++ (array_kind ∷ post))

before-other : {t n : ℕ} {ts : List ℕ} → (t ≡ array_kind → ⊥) → (t ≡ 93 → ⊥) → Closers n ts → Closers n (t ∷ ts)
before-other a c (last b) = last (another _ a c b)
before-other a c (more b w) = more (another _ a c b) w

before-open : {n : ℕ} {ts : List ℕ} → Closers n ts → View (array_kind ∷ ts)
before-open (last b) = opens [] b
before-open (more b (last d)) = closes 0 (last (matched b d))
before-open (more {ts = x} b (more {n} {ts = y} {rest} d w)) =
    closes (suc n) (subst (Closers (suc n)) (ap (◌∷◌ array_kind) (append_assoc x (93 ∷ y) (93 ∷ rest))) (more (matched b d) w))

view-before : (t : ℕ) {ts : List ℕ} → View ts → View (t ∷ ts)
view-before t (opens pre b) = opens (t ∷ pre) b
view-before t (closes n {ts} w) =
    ⊎_elim (λ (e : t ≡ array_kind). subst (λ (x : ℕ). View (x ∷ ts)) (sym e) (before-open w))
    (λ (a : t ≡ array_kind → ⊥). ⊎_elim (λ (e : t ≡ 93). subst (λ (x : ℕ). View (x ∷ ts)) (sym e) (closes (suc n) (more nothing w)))
    (λ (c : t ≡ 93 → ⊥). closes n (before-other a c w)) (is-or t 93)) (is-or t array_kind)

view : (ts : List ℕ) → View ts
view [] = closes 0 (last nothing)
view (t ∷ ts) = view-before t (view ts)

closers-back : {n : ℕ} {ts : List ℕ} → Closers n ts → Closing n (back ts)
unfolding back sort_of
closers-back (last b) = balanced-back b
closers-back (more {n} {rest = rest} b w) =
    let v = closers-back w in
    closing (93 ∷ rest) (suc n) b (record { count = v.count; deep = v.deep; is = ap (tag_before Closes) v.is })

-- tags that are accepted end with no array open, or have a last '[' that stays open
pub ends_so : EndsSo
ends_so base tags l p kept used e = at-end (view tags) (deep-law base tags l p nil [] (subst ArgsAccepted (sym e) tt))
  where
    at-end : {ts : List ℕ} → View ts → Deep (back ts) 0 → AtEnd ts
    at-end (opens pre b) d = last_open pre b
    at-end (closes zero (last b)) d = none_open b
    at-end (closes (suc n) w) d = let v = closers-back w in absurd (let z : suc n ≤ 0 = rw v.is at d in omega arith)
