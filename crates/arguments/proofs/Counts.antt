-- The scans answer as `read_args` does: the bytes used and the fault from the forward scan, the count of records and the depth of their
-- arrays (Nested.antt) from the backward one.
use mathlib.Core.Path.{◌≡◌, refl, ap, sym, ◌∙◌, subst}
use Prim.Native.Nat.{ℕ, zero, suc, ◌+◌, ◌*◌, ◌≤◌}
use mathlib.Core.List.{List, [], ◌∷◌}
use native.Mathlib.Omega.{arith}
use lib.ListN.{length, drop, length-drop}
use Rattle.refusal.specs.declared.Fault.{Fault}
use Rattle.node.specs.Forest.{Forest, nil, size, depth, snoc}
use Rattle.node.specs.Records.{record_size, most_records}
use Rattle.node.specs.Tags.{sort_of}
use Rattle.node.specs.declared.record.Item.{Item}
use Rattle.node.specs.declared.tags.Class.{Class}
use Rattle.node.specs.declared.tags.Sort.{Sort}
use Rattle.node.specs.declared.tags.Sort.TheVariants.{Opens, Closes, Leaf}
use Rattle.node.proofs.Forests.{size-snoc}
use Rattle.argument.specs.Argument.{read_arg}
use Rattle.arguments.specs.Arguments.{Args, refused, args, later, arg_taken, Open, waits, array_item, act, read_tags, read_args}
use Rattle.arguments.specs.CodeReadings.{measured, keeping, kept_of, ArgsAccepted, ArgsRoom}
use Rattle.scan.specs.CodeScans.{used_of, more_used, arg_passed, turn, scan, tag_before, back}
use Rattle.argument.specs.Results.{Arg}
use Rattle.wire.proofs.Payloads.{ok-is}
use Rattle.arguments.specs.declared.MeasuredArgs.{MeasuredArgs}
use Rattle.scan.proofs.Passed.{args-are}
use Rattle.scan.specs.Results.{Scanned, Used}
use Rattle.std.specs.Prelude.{Err, Ok}
use Rattle.arguments.specs.Results as measure
use Rattle.scan.specs.declared.Back.{Back}
use Rattle.scan.specs.declared.Back.TheVariants.{Uncut, Cut}
use Rattle.argument.proofs.Within.{given-within}
use Rattle.scan.proofs.Passed.{any-base}
use Rattle.arguments.proofs.Nested.{Nested, nesting, args-nested}

-- ---- the forward scan

-- the arguments without the tree, and a scan without its dirt
abbrev outcome : Args → Scanned
outcome (refused fault) = Err fault
outcome (args kept used) = Used used 0

abbrev plainly : Scanned → Scanned
plainly (Err fault) = Err fault
plainly (Ok scanned) = Used scanned.used 0

outcome-later : (n : ℕ) (o : Args) → outcome (later n o) ≡ more_used n 0 (outcome o)
outcome-later n (refused fault) = refl
outcome-later n (args kept used) = refl

plain_more : (n dirt : ℕ) (s : Scanned) → plainly (more_used n dirt s) ≡ more_used n 0 (plainly s)
plain_more n dirt (Err fault) = refl
plain_more n dirt (Ok scanned) = refl

outcome-taken : (class : Class) (go : List ℕ → ℕ → Forest → Args) (go_s : List ℕ → ℕ → Scanned)
    (l : List ℕ) (p : ℕ) (frame : Forest) (x : Arg)
    → ((m : List ℕ) (q : ℕ) (f : Forest) → outcome (go m q f) ≡ plainly (go_s m q))
    → outcome (arg_taken go l p frame x) ≡ plainly (arg_passed go_s l p (used_of class l x))
outcome-taken class go go_s l p frame (Err fault) h = refl
outcome-taken class go go_s l p frame (Ok given) h =
    let f = snoc frame given.item nil in
    outcome-later given.used (go (drop given.used l) (p + given.used) f) ∙ ap (more_used given.used 0) (h (drop given.used l) (p + given.used) f)
    ∙ sym (plain_more given.used _ (go_s (drop given.used l) (p + given.used)))

outcome-act : (s : Sort) (go : List ℕ → ℕ → Forest → List Open → Args) (go_s : List ℕ → ℕ → ℕ → Scanned) (base tag : ℕ) (l : List ℕ)
    (p : ℕ)
    (frame : Forest) (below : List Open)
    → ((m : List ℕ) (q : ℕ) (f : Forest) (b : List Open) → outcome (go m q f b) ≡ plainly (go_s m q (length b)))
    → outcome (act s go base tag l p frame below) ≡ plainly (turn s go_s tag l p (length below))
outcome-act Opens go go_s base tag l p frame below h = h l p nil (waits frame (array_item (base + p)) ∷ below)
outcome-act Closes go go_s base tag l p frame [] h = refl
outcome-act Closes go go_s base tag l p frame (waits outer item ∷ below) h = h l p _ below
outcome-act (Leaf class) go go_s base tag l p frame below h =
    outcome-taken class _ (λ m q. go_s m q (length below)) l p frame (read_arg tag class base l p) (λ m q f. h m q f below)
    ∙ ap (λ (s : Scanned). plainly (arg_passed (λ m q. go_s m q (length below)) l p s)) (any-base tag class base 0 l p)

scan-law : (base : ℕ) (ts l : List ℕ) (p : ℕ) (frame : Forest) (below : List Open)
    → outcome (read_tags base ts l p frame below) ≡ plainly (scan ts l p (length below))
unfolding read_tags scan
scan-law base [] l p frame below = refl
scan-law base (t ∷ ts) l p frame below = outcome-act (sort_of t) _ _ base t l p frame below (λ m q f b. scan-law base ts m q f b)

-- ---- the backward scan

-- so many records the first n frames give, with the array's own each; the second line is never met, by `deep-law`
abbrev waiting : ℕ → List Open → ℕ
waiting zero b = 0
waiting (suc n) [] = 0
waiting (suc n) (waits f item ∷ b) = 1 + size f + waiting n b

-- so many records are kept, where k is what later tags give, f the frame and b what waits below it
abbrev total : Back → Forest → List Open → ℕ
total (Cut n c d) f b = c
total (Uncut n c d) f b = c + size f + waiting n b

-- n records are kept, unless the arguments are refused
abbrev pub Counts : ℕ → Args → Type 0
Counts n (refused fault) = Unit {0}
Counts n (args kept used) = size kept ≡ n

counts-later : (n used : ℕ) (o : Args) → Counts n o → Counts n (later used o)
counts-later n used (refused fault) w = tt
counts-later n used (args kept used') w = w

total-opens : (k : Back) (f : Forest) (item : Item) (b : List Open) → total k nil (waits f item ∷ b) ≡ total (tag_before Opens k) f b
unfolding size
total-opens (Cut n c d) f item b = refl
total-opens (Uncut zero c d) f item b = omega arith
total-opens (Uncut (suc n) c d) f item b = omega arith

total-closes : (k : Back) (f g : Forest) (item : Item) (b : List Open)
    → total k (snoc g item f) b ≡ total (tag_before Closes k) f (waits g item ∷ b)
total-closes (Cut n c d) f g item b = refl
total-closes (Uncut n c d) f g item b = omega (arith, size-snoc g item f)

total-leaf : (class : Class) (k : Back) (f : Forest) (b : List Open) (item : Item)
    → total k (snoc f item nil) b ≡ total (tag_before (Leaf class) k) f b
unfolding size
total-leaf class (Cut n c d) f b item = refl
total-leaf class (Uncut n c d) f b item = omega (arith, size-snoc f item nil)

counts-act : (s : Sort) (k : Back) (go : List ℕ → ℕ → Forest → List Open → Args) (base tag : ℕ) (l : List ℕ) (p : ℕ) (frame : Forest)
    (below : List Open)
    → ((m : List ℕ) (q : ℕ) (f : Forest) (b : List Open) → Counts (total k f b) (go m q f b))
    → Counts (total (tag_before s k) frame below) (act s go base tag l p frame below)
counts-act Opens k go base tag l p frame below h =
    let array = array_item (base + p) in
    rw (total-opens k frame array below) at (h l p nil (waits frame array ∷ below))
counts-act Closes k go base tag l p frame [] h = tt
counts-act Closes k go base tag l p frame (waits outer item ∷ below) h =
    rw (total-closes k frame outer item below) at (h l p (snoc outer item frame) below)
counts-act (Leaf class) k go base tag l p frame below h = by-arg (read_arg tag class base l p)
  where
    by-arg : (x : Arg) → Counts (total (tag_before (Leaf class) k) frame below) (arg_taken (λ m q f. go m q f below) l p frame x)
    by-arg (Err fault) = tt
    by-arg (Ok given) =
        counts-later (total (tag_before (Leaf class) k) frame below) given.used (go (drop given.used l) (p + given.used) (snoc frame given.item nil) below)
        (rw (total-leaf class k frame below given.item) at (h (drop given.used l) (p + given.used) (snoc frame given.item nil) below))

counts-law : (base : ℕ) (ts l : List ℕ) (p : ℕ) (frame : Forest) (below : List Open)
    → Counts (total (back ts) frame below) (read_tags base ts l p frame below)
unfolding read_tags back
counts-law base [] l p frame below = omega arith
counts-law base (t ∷ ts) l p frame below = counts-act (sort_of t) (back ts) _ base t l p frame below (λ m q f b. counts-law base ts m q f b)

-- how many records are kept, if nothing is read yet
abbrev pub counted : Back → ℕ
counted (Uncut n c d) = c
counted (Cut n c d) = c

total-none : (k : Back) → total k nil [] ≡ counted k
unfolding size
total-none (Cut n c d) = refl
total-none (Uncut zero c d) = omega arith
total-none (Uncut (suc n) c d) = omega arith

-- the backward scan counts the records that are kept
pub args-counted : (base : ℕ) (ts l : List ℕ) (p : ℕ) → Counts (counted (back ts)) (read_args base ts l p)
args-counted base ts l p = rw (total-none (back ts)) at (counts-law base ts l p nil [])

-- so it tells how many records what is accepted takes
pub accepted-counted : {k : Back} (base : ℕ) (ts l : List ℕ) (p : ℕ) → k ≡ back ts → ArgsAccepted (read_args base ts l p)
    → counted k ≡ size (kept_of (read_args base ts l p))
accepted-counted {k} base ts l p b a = by_out (read_args base ts l p) a (rw (← b) at (args-counted base ts l p))
  where
    by_out : (o : Args) → ArgsAccepted o → Counts (counted k) o → counted k ≡ size (kept_of o)
    by_out (refused fault) a w = absurd a
    by_out (args kept used) a w = sym w

-- ---- the first reading

-- a fault of the forward scan is the fault of the reading
pub measured-refused : {fault : Fault} (dirt : Forest → ℕ) (base : ℕ) (ts l : List ℕ) (p : ℕ) → Err fault ≡ scan ts l p 0
    → Err fault ≡ measured dirt (read_args base ts l p)
unfolding measured
measured-refused {fault} dirt base ts l p e =
    by_out (read_args base ts l p) (ap plainly e ∙ sym (scan-law base ts l p nil []))
  where
    by_out : (o : Args) → Err fault ≡ outcome o → Err fault ≡ measured dirt o
    by_out (refused k) s = let z : fault ≡ k = cc in rw z
    by_out (args kept used) s = let z : ◌≡◌ {A = ℕ} 0 1 = cc in absurd (omega arith)

-- no tags keep nothing and use nothing
pub measured-none : (dirt : Forest → ℕ) (base : ℕ) (ts l : List ℕ) (p : ℕ) → length ts ≡ 0 → dirt nil ≡ 0
    → measure.Kept 0 0 0 0 ≡ measured dirt (read_args base ts l p)
unfolding measured read_tags size depth
measured-none dirt base [] l p h d = ap (λ (n : ℕ). measure.Kept 0 0 0 n) (sym d)
measured-none dirt base (t ∷ ts) l p h d = absurd (omega arith)

-- what both scans answer is what the reading keeps and uses
pub measured-kept : {used dirty x : ℕ} (dirt : Forest → ℕ) (base : ℕ) (ts l : List ℕ) (p : ℕ) (k : Back) → Used used x ≡ scan ts l p 0
    → k ≡ back ts → dirty ≡ dirt (kept_of (read_args base ts l p))
    → keeping k used dirty ≡ measured dirt (read_args base ts l p)
unfolding measured
measured-kept {used} {dirty} dirt base ts l p k e b d =
    keeping-is k ∙ by_out (read_args base ts l p) (ap plainly e ∙ sym (scan-law base ts l p nil [])) (rw (← b) at (args-counted base ts l p))
    (rw (← b) at (args-nested base ts l p)) d
  where
    keeping-is : (k : Back) → keeping k used dirty ≡ measure.Kept (counted k) (nesting k) used dirty
    keeping-is (Uncut n c d) = refl
    keeping-is (Cut n c d) = refl

    by_out : (o : Args) → Used used 0 ≡ outcome o → Counts (counted k) o → Nested (nesting k) o → dirty ≡ dirt (kept_of o)
        → measure.Kept (counted k) (nesting k) used dirty ≡ measured dirt o
    by_out (refused fault) s w d g = let z : ◌≡◌ {A = ℕ} 0 1 = cc in absurd (omega arith)
    by_out (args kept u) s w d g = let z : used ≡ u = (args-are s).0 in rw (z, w, d, g)

-- what the forward scan accepts is accepted
pub scan-accepted : {used dirty : ℕ} (base : ℕ) (ts l : List ℕ) (p : ℕ) → Used used dirty ≡ scan ts l p 0
    → ArgsAccepted (read_args base ts l p)
scan-accepted {used} base ts l p e = by_out (read_args base ts l p) (ap plainly e ∙ sym (scan-law base ts l p nil []))
  where
    by_out : (o : Args) → Used used 0 ≡ outcome o → ArgsAccepted o
    by_out (refused fault) s = let z : ◌≡◌ {A = ℕ} 0 1 = cc in absurd (omega arith)
    by_out (args kept u) s = tt

-- and what it refuses is not
pub scan-refused : {fault : Fault} (base : ℕ) (ts l : List ℕ) (p : ℕ) → Err fault ≡ scan ts l p 0 → ArgsAccepted (read_args base ts l p)
    → ⊥
scan-refused {fault} base ts l p e = by_out (read_args base ts l p) (ap plainly e ∙ sym (scan-law base ts l p nil []))
  where
    by_out : (o : Args) → Err fault ≡ outcome o → ArgsAccepted o → ⊥
    by_out (refused k) s a = a
    by_out (args kept u) s a = let z : ◌≡◌ {A = ℕ} 0 1 = cc in omega arith

-- ---- bounds: no more records than tags, no more bytes than there are

counted-le : (ts : List ℕ) → counted (back ts) ≤ length ts
unfolding back
counted-le [] = omega arith
counted-le (t ∷ ts) = by-sort (sort_of t) (back ts) (counted-le ts)
  where
    by-sort : (s : Sort) (k : Back) → counted k ≤ length ts → counted (tag_before s k) ≤ suc (length ts)
    by-sort Opens (Cut n c d) h = omega arith
    by-sort Opens (Uncut zero c d) h = omega arith
    by-sort Opens (Uncut (suc n) c d) h = omega arith
    by-sort Closes (Cut n c d) h = omega arith
    by-sort Closes (Uncut n c d) h = omega arith
    by-sort (Leaf class) (Cut n c d) h = omega arith
    by-sort (Leaf class) (Uncut n c d) h = omega arith

-- no more records are kept than there are tags
pub kept-few : (base : ℕ) (ts l : List ℕ) (p : ℕ) → size (kept_of (read_args base ts l p)) ≤ length ts
unfolding size
kept-few base ts l p = by_out (read_args base ts l p) (args-counted base ts l p)
  where
    by_out : (o : Args) → Counts (counted (back ts)) o → size (kept_of o) ≤ length ts
    by_out (refused fault) w = omega arith
    by_out (args kept used) w = omega (arith, counted-le ts, w)

abbrev UsedIn : ℕ → Args → Type 0
UsedIn m (refused fault) = Unit {0}
UsedIn m (args kept used) = used ≤ m

used-later : (n : ℕ) (l : List ℕ) (o : Args) → n ≤ length l → UsedIn (length (drop n l)) o → UsedIn (length l) (later n o)
used-later n l (refused fault) h w = tt
used-later n l (args kept used) h w = omega (arith, length-drop n l)

used-act : (s : Sort) (go : List ℕ → ℕ → Forest → List Open → Args) (base tag : ℕ) (l : List ℕ) (p : ℕ) (frame : Forest)
    (below : List Open)
    → ((m : List ℕ) (q : ℕ) (f : Forest) (b : List Open) → UsedIn (length m) (go m q f b))
    → UsedIn (length l) (act s go base tag l p frame below)
used-act Opens go base tag l p frame below h = h l p nil (waits frame (array_item (base + p)) ∷ below)
used-act Closes go base tag l p frame [] h = tt
used-act Closes go base tag l p frame (waits outer item ∷ below) h = h l p (snoc outer item frame) below
used-act (Leaf class) go base tag l p frame below h = by-arg (read_arg tag class base l p) refl
  where
    by-arg : (x : Arg) → x ≡ read_arg tag class base l p → UsedIn (length l) (arg_taken (λ m q f. go m q f below) l p frame x)
    by-arg (Err fault) e = tt
    by-arg (Ok given) e =
        let f = snoc frame given.item nil in
        used-later given.used l (go (drop given.used l) (p + given.used) f below) (given-within tag class base l p e) (h (drop given.used l) (p + given.used) f below)

used-law : (base : ℕ) (ts l : List ℕ) (p : ℕ) (frame : Forest) (below : List Open) → UsedIn (length l) (read_tags base ts l p frame below)
unfolding read_tags
used-law base [] l p frame below = omega arith
used-law base (t ∷ ts) l p frame below = used-act (sort_of t) _ base t l p frame below (λ m q f b. used-law base ts m q f b)

-- the arguments' data lies in its part
pub args-within : {kept : Forest} {used : ℕ} (base : ℕ) (ts l : List ℕ) (p : ℕ) → args kept used ≡ read_args base ts l p → used ≤ length l
args-within base ts l p e = subst (UsedIn (length l)) (sym e) (used-law base ts l p nil [])

-- ---- what a caller knows by the first reading

-- two measures that are the same agree in each number
pub record SameMeasure (c u d c' u' d' : ℕ) : Type 0 where
  pub count : c ≡ c'
  pub used : u ≡ u'
  pub dirty : d ≡ d'

pub measured-are : {count deep used dirty count' deep' used' dirty' : ℕ}
    → measure.Kept count deep used dirty ≡ measure.Kept count' deep' used' dirty'
    → SameMeasure count used dirty count' used' dirty'
measured-are e =
    record {
      count = ap (λ (x : MeasuredArgs). x.count) (ok-is e);
      used = ap (λ (x : MeasuredArgs). x.used) (ok-is e);
      dirty = ap (λ (x : MeasuredArgs). x.dirty) (ok-is e);
    }

-- so does the first reading answer no more records than tags, and no more bytes than there are
pub measured-within : {count deep used dirty : ℕ} (dirt : Forest → ℕ) (base : ℕ) (ts l : List ℕ) (p : ℕ)
    → measure.Kept count deep used dirty ≡ measured dirt (read_args base ts l p) → (count ≤ length ts) × (used ≤ length l)
unfolding measured
measured-within {count} {deep} {used} {dirty} dirt base ts l p e =
    by_out (read_args base ts l p) e (kept-few base ts l p) (used-law base ts l p nil [])
  where
    by_out : (o : Args) → measure.Kept count deep used dirty ≡ measured dirt o → size (kept_of o) ≤ length ts → UsedIn (length l) o
        → (count ≤ length ts) × (used ≤ length l)
    by_out (refused fault) e k w = let z : ◌≡◌ {A = ℕ} 0 1 = cc in absurd (omega arith)
    by_out (args kept u) e k w = let z = measured-are e in (omega (arith, k, z.count), omega (arith, w, z.used))

-- the second reading has room, if the table has room for the count
pub measured-room : {count deep used dirty : ℕ} (dirt : Forest → ℕ) (o : Args) (index : ℕ) (table : List ℕ)
    → measure.Kept count deep used dirty ≡ measured dirt o
    → record_size * count ≤ length table → index + count ≤ most_records → ArgsRoom o index table
unfolding measured
measured-room dirt (refused fault) index table e h k = let z : ◌≡◌ {A = ℕ} 0 1 = cc in absurd (omega arith)
measured-room {count} dirt (args kept used) index table e h k =
    let z = (measured-are e).count in
    record { accepted = tt; room = record { fits = omega (arith, h, z); low = omega (arith, k, z) } }
