-- The second reading, turn by turn: the table holds the frames one after another, and between two of them the record of the open
-- array with its link. One argument's reading counts only by the bytes it uses.
use mathlib.Core.Path.{◌≡◌, refl, ap, sym, ◌∙◌}
use Prim.Native.Nat.{ℕ, zero, suc, ◌+◌, ◌-◌, ◌*◌, ◌^◌, ◌<◌, ◌≤◌}
use mathlib.Core.List.{List, [], ◌∷◌, ◌++◌}
use native.Mathlib.Omega.{arith}
use lib.ListN.{length, get_or, take, drop, length-drop}
use Rattle.wire.specs.Limits.{longest}
use Rattle.wire.specs.Number.{bytes}
use Rattle.wire.specs.Wrote.{Wrote}
use Rattle.wire.proofs.Numbers.{length-bytes}
use Rattle.wire.proofs.Parts.{tail}
use Rattle.wire.proofs.Writers.{wrote_none, wrote-length, wrote-next, wrote-over}
use Rattle.node.specs.Forest.{Forest, nil, size, snoc}
use Rattle.node.specs.Records.{record_size, most_records, record_of, records_of, end_at, TableRoom}
use Rattle.node.specs.Tags.{sort_of}
use Rattle.node.specs.declared.record.Item.{Item}
use Rattle.node.specs.declared.tags.Class.{Class}
use Rattle.node.specs.declared.tags.Sort.{Sort}
use Rattle.node.specs.declared.tags.Sort.TheVariants.{Opens, Closes, Leaf}
use Rattle.node.proofs.Forests.{size-snoc}
use Rattle.argument.specs.Argument.{read_arg}
use Rattle.arguments.specs.Arguments.{Args, refused, args, later, arg_taken, Open, waits, array_item, act, read_tags, read_args}
use Rattle.arguments.specs.CodeReadings.{kept_of, ArgsRoom}
use Rattle.scan.specs.CodeScans.{tag_before, back, AllClosed}
use Rattle.argument.specs.CodeRead.{ArgRead}
use Rattle.argument.specs.Results.{Arg}
use Rattle.std.specs.Prelude.{Err, Ok}
use Rattle.argument.specs.Results as arg
use Rattle.scan.specs.declared.Back.{Back}
use Rattle.scan.specs.declared.Back.TheVariants.{Uncut, Cut}
use Rattle.argument.proofs.Within.{given-within}
use Rattle.arguments.proofs.Counts.{Counts, counted, args-counted}
use Rattle.arguments.proofs.Kept.{clash, Deep, deep-law}
use Rattle.arguments.proofs.Frames.{held, link, layout, length-layout, layout-leaf, layout-open, front, behind, length_front}
use Rattle.arguments.proofs.Frames.{while-open, once_closed, link-there}

-- the tags ts and the data m at q are left, which ends at E; n records of F are written to the table T that was T₀, the first with
-- index i: those of a frame and of the frames that wait below it. The link to the open array is `top`. The input is not too long
pub record Filling (base : ℕ) (F : Forest) (i E : ℕ) (T₀ T ts m : List ℕ) (q n top : ℕ) : Type 0 where
  pub frame : Forest
  pub below : List Open
  pub left : ℕ
  pub nested : ℕ
  pub used : ℕ
  pub reads : read_tags base ts m q frame below ≡ args F used
  pub ahead : back ts ≡ Uncut (length below) left nested
  pub count : n + left ≡ size F
  pub place : n ≡ held frame below
  pub linked : top ≡ link below
  pub table : Wrote (layout i frame below) T₀ T
  pub ends : q + length m ≡ E
  pub low : base + E ≤ longest
  pub room : TableRoom F i T₀

-- at the start nothing is written, and all is left
pub filling-start : (base : ℕ) (ts m : List ℕ) (q i : ℕ) (T₀ : List ℕ) → base + q + length m ≤ longest
    → ArgsRoom (read_args base ts m q) i T₀ → AllClosed (back ts)
    → Filling base (kept_of (read_args base ts m q)) i (q + length m) T₀ T₀ ts m q 0 0
unfolding records_of size
filling-start base ts m q i T₀ low w closed =
    by_both (read_args base ts m q) (back ts) refl refl w closed (deep-law base ts m q nil [] w.accepted) (args-counted base ts m q)
  where
    by_both : (o : Args) (k : Back) → read_args base ts m q ≡ o → back ts ≡ k → ArgsRoom o i T₀ → AllClosed k → Deep k 0
        → Counts (counted k) o
        → Filling base (kept_of o) i (q + length m) T₀ T₀ ts m q 0 0
    by_both (refused fault) k e b r closed d s = absurd r.accepted
    by_both (args kept used) (Cut n c g) e b r closed d s = absurd closed
    by_both (args kept used) (Uncut (suc n) c g) e b r closed d s = absurd (omega arith)
    by_both (args kept used) (Uncut zero c g) e b r closed d s =
        record {
          frame = nil;
          below = [];
          left = c;
          nested = g;
          used = used;
          reads = e;
          ahead = b;
          count = omega arith;
          place = refl;
          linked = refl;
          table = wrote_none T₀;
          ends = refl;
          low = omega arith;
          room = r.room;
        }

link-le : (frame : Forest) (below : List Open) → link below ≤ held frame below
link-le frame [] = omega arith
link-le frame (waits f item ∷ below) = omega arith

held-snoc : (frame : Forest) (below : List Open) (item : Item) (g : Forest)
    → held (snoc frame item g) below ≡ held frame below + 1 + size g
held-snoc frame [] item g = size-snoc frame item g
held-snoc frame (waits f item' ∷ below) item g = omega (arith, size-snoc frame item g)

-- ---- what later tags give, by what these give

-- k says that d arrays are closed later; one record fewer than c is left
record Fewer (k : Back) (d c : ℕ) : Type 0 where
  pub rest : ℕ
  pub nested : ℕ
  pub is : k ≡ Uncut d rest nested
  pub one : c ≡ suc rest

fewer-opens : (k : Back) (d c g : ℕ) → tag_before Opens k ≡ Uncut d c g → Fewer k (suc d) c
fewer-opens (Cut n x i) d c g e = absurd (clash (sym e))
fewer-opens (Uncut zero x i) d c g e = absurd (clash (sym e))
fewer-opens (Uncut (suc n) x i) d c g e =
    let z : n ≡ d = cc in
    let y : suc x ≡ c = cc in
    record { rest = x; nested = i; is = ap (λ (m : ℕ). Uncut (suc m) x i) z; one = sym y }

fewer-leaf : (class : Class) (k : Back) (d c g : ℕ) → tag_before (Leaf class) k ≡ Uncut d c g → Fewer k d c
fewer-leaf class (Cut n x i) d c g e = absurd (clash (sym e))
fewer-leaf class (Uncut n x i) d c g e =
    let z : n ≡ d = cc in
    let y : suc x ≡ c = cc in
    record { rest = x; nested = i; is = ap (λ (m : ℕ). Uncut m x i) z; one = sym y }

closes-one : (k : Back) (d c g : ℕ) → tag_before Closes k ≡ Uncut d c g → (d ≡ 0 → ⊥) × (k ≡ Uncut (d - 1) c g)
closes-one (Cut n x i) d c g e = absurd (clash (sym e))
closes-one (Uncut n x i) d c g e =
    let z : suc n ≡ d = cc in
    let y : x ≡ c = cc in
    let v : i ≡ g = cc in
    let s : n ≡ d - 1 = omega arith in
    ((λ h. omega arith), cc)

record Later (o : Args) (F : Forest) : Type 0 where
  pub used : ℕ
  pub is : o ≡ args F used

later-args : {v : ℕ} {F : Forest} (u : ℕ) (o : Args) → later u o ≡ args F v → Later o F
later-args u (refused fault) e = let z : ◌≡◌ {A = ℕ} 0 1 = cc in absurd (omega arith)
later-args u (args kept w) e = record { used = w; is = cc }

-- ---- one turn

module _ {base : ℕ} {F : Forest} {i E : ℕ} {T₀ T ts m : List ℕ} {q n top : ℕ} (w : Filling base F i E T₀ T ts m q n top)
    (h : 0 < length ts) where
  -- what the first tag does
  turned : {s : Sort} → s ≡ sort_of (get_or ts 0 0)
      → act s (λ m q f b. read_tags base (drop 1 ts) m q f b) base (get_or ts 0 0) m q w.frame w.below ≡ args F w.used
  unfolding read_tags
  turned {s} e = rw e (by-list ts h w.reads)
    where
      by-list : (ts : List ℕ) → 0 < length ts → read_tags base ts m q w.frame w.below ≡ args F w.used
          → act (sort_of (get_or ts 0 0)) (λ m q f b. read_tags base (drop 1 ts) m q f b) base (get_or ts 0 0) m q w.frame w.below ≡ args
          F w.used
      by-list [] h r = absurd (omega arith)
      by-list (t ∷ ts) h r = r

  looked : {s : Sort} → s ≡ sort_of (get_or ts 0 0) → tag_before s (back (drop 1 ts)) ≡ Uncut (length w.below) w.left w.nested
  unfolding back
  looked {s} e = rw e (by-list ts h w.ahead)
    where
      by-list : (ts : List ℕ) → 0 < length ts → back ts ≡ Uncut (length w.below) w.left w.nested
          → tag_before (sort_of (get_or ts 0 0)) (back (drop 1 ts)) ≡ Uncut (length w.below) w.left w.nested
      by-list [] h a = absurd (omega arith)
      by-list (t ∷ ts) h a = a

  has-opens : Opens ≡ sort_of (get_or ts 0 0) → Fewer (back (drop 1 ts)) (suc (length w.below)) w.left
  has-opens e = fewer-opens (back (drop 1 ts)) (length w.below) w.left w.nested (looked e)

  has-leaf : {class : Class} → Leaf class ≡ sort_of (get_or ts 0 0) → Fewer (back (drop 1 ts)) (length w.below) w.left
  has-leaf {class} e = fewer-leaf class (back (drop 1 ts)) (length w.below) w.left w.nested (looked e)

  has-closes : Closes ≡ sort_of (get_or ts 0 0)
      → (length w.below ≡ 0 → ⊥) × (back (drop 1 ts) ≡ Uncut (length w.below - 1) w.left w.nested)
  has-closes e = closes-one (back (drop 1 ts)) (length w.below) w.left w.nested (looked e)

  -- the link reaches no record that is not written, and what is written is in the table
  held-there : (top ≤ n) × (i + n ≤ most_records) × (record_size * n ≤ length T)
  held-there = (
    omega (arith, link-le w.frame w.below, w.place, w.linked),
    omega (arith, w.count, w.room.low),
    omega (arith, w.count, w.room.fits, wrote-length _ _ _ w.table),
  )

  -- there is room for one record more
  one_more : n + 1 ≤ size F → (top ≤ n) × (i + n + 1 ≤ most_records) × (record_size * n + record_size ≤ length T)
  one_more k = (held-there.0, omega (arith, w.room.low), omega (arith, w.room.fits, wrote-length _ _ _ w.table))

  -- there is room for the record of an array that opens
  pub room-opens : Opens ≡ sort_of (get_or ts 0 0) → (top ≤ n) × (i + n + 1 ≤ most_records) × (record_size * n + record_size ≤ length T)
  room-opens e = one_more (omega (arith, (has-opens e).one, w.count))

  -- there is room for the record of an argument
  pub room-leaf : {class : Class} → Leaf class ≡ sort_of (get_or ts 0 0)
      → (top ≤ n) × (i + n + 1 ≤ most_records) × (record_size * n + record_size ≤ length T)
  room-leaf e = one_more (omega (arith, (has-leaf e).one, w.count))

  -- an array that closes is open, and its record is written
  pub room-closes : Closes ≡ sort_of (get_or ts 0 0) → (1 ≤ top) × ((top ≤ n) × (i + n ≤ most_records) × (record_size * n ≤ length T))
  room-closes e = (by-below w.below w.linked (has-closes e).0, held-there)
    where
      by-below : (b : List Open) → top ≡ link b → (length b ≡ 0 → ⊥) → 1 ≤ top
      by-below [] l z = absurd (z refl)
      by-below (waits f item ∷ b) l z = omega arith

  len : length (layout i w.frame w.below) ≡ record_size * n
  len = length-layout i w.frame w.below ∙ ap (λ (x : ℕ). record_size * x) (sym w.place)

  -- a tag that opens: the record of its array is written, with the link in place of the end
  pub filling-opens : {T' : List ℕ} → Opens ≡ sort_of (get_or ts 0 0)
      → Wrote (take (record_size * n) T ++ record_of (array_item (base + q)) top) T T'
      → Filling base F i E T₀ T' (take (length ts - 1) (drop 1 ts)) m q (n + 1) (n + 1)
  unfolding size
  filling-opens e v =
      let k = has-opens e in
      rw (tail ts 1)
      (record {
        frame = nil;
        below = waits w.frame (array_item (base + q)) ∷ w.below;
        left = k.rest;
        nested = k.nested;
        used = w.used;
        reads = turned e;
        ahead = k.is;
        count = omega (arith, k.one, w.count);
        place = omega (arith, w.place);
        linked = omega (arith, w.place);
        table =
            rw (layout-open i w.frame (array_item (base + q)) w.below, ← w.linked)
            (wrote-next (record_of (array_item (base + q)) top) (record_size * n) w.table len v);
        ends = w.ends;
        low = w.low;
        room = w.room;
      })

  -- a tag with an argument: its record is written, and its bytes are read
  pub filling-leaf : {T' : List ℕ} {class : Class} {item : Item} {u : ℕ} → Leaf class ≡ sort_of (get_or ts 0 0)
      → arg.Given item u ≡ read_arg (get_or ts 0 0) class base m q
      → Wrote (take (record_size * n) T ++ record_of item (i + n + 1)) T T'
      → Filling base F i E T₀ T' (take (length ts - 1) (drop 1 ts)) (take (length m - u) (drop u m)) (q + u) (n + 1) top
  unfolding size
  filling-leaf {T'} {class} {item} {u} e g v =
      let t = get_or ts 0 0 in
      let f = snoc w.frame item nil in
      let k = has-leaf e in
      let within : u ≤ length m = given-within t class base m q g in
      let r : later u (read_tags base (drop 1 ts) (drop u m) (q + u) f w.below) ≡ args F w.used =
      ap (arg_taken (λ m q f. read_tags base (drop 1 ts) m q f w.below) m q w.frame) g ∙ turned e in
      let o = later-args u (read_tags base (drop 1 ts) (drop u m) (q + u) f w.below) r in
      rw (tail ts 1, tail m u)
      (record {
        frame = f;
        below = w.below;
        left = k.rest;
        nested = k.nested;
        used = o.used;
        reads = o.is;
        ahead = k.is;
        count = omega (arith, k.one, w.count);
        place = omega (arith, w.place, held-snoc w.frame w.below item nil);
        linked = w.linked;
        table =
            rw (layout-leaf i w.frame w.below item, ← w.place)
            (wrote-next (record_of item (i + n + 1)) (record_size * n) w.table len v);
        ends = omega (arith, length-drop u m, w.ends);
        low = w.low;
        room = w.room;
      })

  -- a tag that closes: the end takes the place of the link in the record of its array
  pub filling-closes : {T' : List ℕ} {r : ℕ} → Closes ≡ sort_of (get_or ts 0 0) → r ≡ end_at T (top - 1)
      → Wrote (take (record_size * (top - 1) + 4) T ++ bytes 4 (i + n)) T T'
      → Filling base F i E T₀ T' (take (length ts - 1) (drop 1 ts)) m q n r
  filling-closes {T'} {r} e er v =
      by-below w.below (has-closes e).0 (has-closes e).1 (turned e) w.place w.linked w.table
    where
      by-below : (b : List Open) → (length b ≡ 0 → ⊥) → back (drop 1 ts) ≡ Uncut (length b - 1) w.left w.nested
          → act Closes (λ m q f b. read_tags base (drop 1 ts) m q f b) base (get_or ts 0 0) m q w.frame b ≡ args F w.used
          → n ≡ held w.frame b → top ≡ link b → Wrote (layout i w.frame b) T₀ T
          → Filling base F i E T₀ T' (take (length ts - 1) (drop 1 ts)) m q n r
      by-below [] z k rd pl li tb = absurd (z refl)
      by-below (waits f item ∷ b) z k rd pl li tb =
          let up : top - 1 ≡ held f b = omega arith in
          let small : link b < 256 ^ 4 = omega (arith, link-le f b, w.count, w.room.low) in
          let down : suc (length b) - 1 ≡ length b = omega arith in
          let same : length (bytes 4 (link b)) ≡ length (bytes 4 (i + n)) = length-bytes 4 (link b) ∙ sym (length-bytes 4 (i + n)) in
          rw (tail ts 1)
          (record {
            frame = snoc f item w.frame;
            below = b;
            left = w.left;
            nested = w.nested;
            used = w.used;
            reads = rd;
            ahead = k ∙ rw down;
            count = w.count;
            place = omega (arith, pl, held-snoc f b item w.frame);
            linked = er ∙ rw up (link-there i w.frame f item b tb small);
            table =
                rw (once_closed i w.frame f item b, ← pl)
                (wrote-over (front i f item b) (bytes 4 (link b)) (behind i w.frame f item b) (bytes 4 (i + n))
                (record_size * held f b + 4)
                (rw (while-open i w.frame f item b) at tb) (length_front i f item b) same (rw up at v));
            ends = w.ends;
            low = w.low;
            room = w.room;
          })

  -- in what is accepted each argument is given
  pub filling-given : {class : Class} → Leaf class ≡ sort_of (get_or ts 0 0) → ArgRead (read_arg (get_or ts 0 0) class base m q)
  filling-given {class} e = by-arg (read_arg (get_or ts 0 0) class base m q) (turned e)
    where
      by-arg : (x : Arg) → arg_taken (λ m q f. read_tags base (drop 1 ts) m q f w.below) m q w.frame x ≡ args F w.used → ArgRead x
      by-arg (Ok given) r = tt
      by-arg (Err fault) r = let z : ◌≡◌ {A = ℕ} 0 1 = cc in absurd (omega arith)

-- where no tag is left, the frame is all, and none waits below it
ended : (base : ℕ) (ts m : List ℕ) (q : ℕ) {frame F : Forest} {used d c g : ℕ} (below : List Open) → length ts ≤ 0
    → read_tags base ts m q frame below ≡ args F used
    → back ts ≡ Uncut d c g → (frame ≡ F) × (d ≡ 0)
unfolding read_tags back
ended base (t ∷ ts) m q below h r a = absurd (omega arith)
ended base [] m q {frame} {F} {used} {d} {c} {g} below h r a = (cc, cc)

-- where no tag is left, the records are those of all
pub filling-done : {base : ℕ} {F : Forest} {i E : ℕ} {T₀ T ts m : List ℕ} {q n top : ℕ} → Filling base F i E T₀ T ts m q n top
    → length ts ≤ 0
    → Wrote (records_of i F) T₀ T
filling-done {base} {F} {i} {E} {T₀} {T} {ts} {m} {q} w h =
    let e = ended base ts m q w.below h w.reads w.ahead in
    by-below w.below e.1 (rw e.0 at w.table)
  where
    by-below : (b : List Open) → length b ≡ 0 → Wrote (layout i F b) T₀ T → Wrote (records_of i F) T₀ T
    by-below [] z t = t
    by-below (waits f item ∷ b) z t = absurd (omega arith)
