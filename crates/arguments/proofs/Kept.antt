-- Which tags are kept: an array that is never closed is the last frame, and no later tag reaches below it. So reading from the last
-- such '[' on, after the data before it, keeps the same.
use mathlib.Core.Path.{◌≡◌, refl, ap, sym, ◌∙◌, subst}
use Prim.Native.Nat.{ℕ, zero, suc, ◌+◌, ◌-◌, ◌≤◌}
use mathlib.Core.List.{List, [], ◌∷◌, ◌++◌}
use native.Mathlib.Omega.{arith}
use lib.ListN.{length, take, drop, length-drop}
use lib.Seq.{drop-drop}
use Rattle.refusal.specs.declared.Fault.{Fault}
use Rattle.wire.proofs.Parts.{tail}
use Rattle.node.specs.Forest.{Forest, nil, snoc}
use Rattle.node.specs.Tags.{sort_of}
use Rattle.node.specs.declared.tags.Sort.{Sort}
use Rattle.node.specs.declared.tags.Sort.TheVariants.{Opens, Closes, Leaf}
use Rattle.argument.specs.Argument.{read_arg}
use Rattle.arguments.specs.Arguments.{Args, refused, args, later, arg_taken, Open, waits, array_item, act, read_tags, read_args}
use Rattle.arguments.specs.CodeReadings.{kept_of, ArgsAccepted, ArgsRoom}
use Rattle.scan.specs.CodeScans.{used_of, more_used, arg_passed, turn, scan, tag_before, back, AllClosed}
use Rattle.argument.specs.Results.{Arg}
use Rattle.scan.proofs.Passed.{args-are}
use Rattle.scan.specs.Results.{Scanned, Used}
use Rattle.std.specs.Prelude.{Err, Ok}
use Rattle.scan.specs.declared.Back.{Back}
use Rattle.scan.specs.declared.Back.TheVariants.{Uncut, Cut}
use Rattle.argument.proofs.Within.{given-within}
use Rattle.scan.proofs.Passed.{any-base}

-- tags are not both cut and uncut
pub clash : {m d i n c j : ℕ} → Uncut m d i ≡ Cut n c j → ⊥
clash e = let z : ◌≡◌ {A = ℕ} 0 1 = cc in omega arith

-- 0 bytes later is the same
pub later-none : (o : Args) → later 0 o ≡ o
later-none (refused fault) = refl
later-none (args kept used) = ap (args kept) (omega arith)

-- bytes read before add up
pub later-later : (m n : ℕ) (o : Args) → later m (later n o) ≡ later (m + n) o
later-later m n (refused fault) = refl
later-later m n (args kept used) = ap (args kept) (omega arith)

kept-later : (n : ℕ) (o : Args) → kept_of (later n o) ≡ kept_of o
kept-later n (refused fault) = refl
kept-later n (args kept used) = refl

accepted-later : (n : ℕ) (o : Args) → ArgsAccepted (later n o) → ArgsAccepted o
accepted-later n (refused fault) w = w
accepted-later n (args kept used) w = tt

-- ---- what is accepted closes no more arrays than are open

-- no more than m arrays are closed that were open before
abbrev pub Deep : Back → ℕ → Type 0
Deep (Uncut n c i) m = n ≤ m
Deep (Cut n c i) m = Unit {0}

deep-act : (s : Sort) (k : Back) (go : List ℕ → ℕ → Forest → List Open → Args) (base tag : ℕ) (l : List ℕ) (p : ℕ) (frame : Forest)
    (below : List Open)
    → ((m : List ℕ) (q : ℕ) (f : Forest) (b : List Open) → ArgsAccepted (go m q f b) → Deep k (length b))
    → ArgsAccepted (act s go base tag l p frame below) → Deep (tag_before s k) (length below)
deep-act Opens (Cut n c i) go base tag l p frame below h w = tt
deep-act Opens (Uncut zero c i) go base tag l p frame below h w = tt
deep-act Opens (Uncut (suc n) c i) go base tag l p frame below h w = omega (arith, h l p nil (waits frame (array_item (base + p)) ∷ below) w)
deep-act Closes k go base tag l p frame [] h w = absurd w
deep-act Closes (Cut n c i) go base tag l p frame (waits f item ∷ b) h w = tt
deep-act Closes (Uncut n c i) go base tag l p frame (waits f item ∷ b) h w = omega (arith, h l p (snoc f item frame) b w)
deep-act (Leaf class) (Cut n c i) go base tag l p frame below h w = tt
deep-act (Leaf class) (Uncut n c i) go base tag l p frame below h w = by-arg (read_arg tag class base l p) w
  where
    by-arg : (x : Arg) → ArgsAccepted (arg_taken (λ m q f. go m q f below) l p frame x) → n ≤ length below
    by-arg (Err fault) w = absurd w
    by-arg (Ok given) w =
        let f = snoc frame given.item nil in
        h (drop given.used l) (p + given.used) f below (accepted-later given.used (go (drop given.used l) (p + given.used) f below) w)

-- tags that are accepted close no more arrays than wait below
pub deep-law : (base : ℕ) (ts l : List ℕ) (p : ℕ) (frame : Forest) (below : List Open) → ArgsAccepted (read_tags base ts l p frame below)
    → Deep (back ts) (length below)
unfolding read_tags back
deep-law base [] l p frame below w = omega arith
deep-law base (t ∷ ts) l p frame below w =
    deep-act (sort_of t) (back ts) (λ m q f b. read_tags base ts m q f b) base t l p frame below (λ m q f b v. deep-law base ts m q f b v) w

-- ---- frames below those that are closed change nothing

-- no array stays open, and no more than m are closed that were open before
abbrev pub Closed : Back → ℕ → Type 0
Closed (Uncut n c i) m = n ≤ m
Closed (Cut n c i) m = ⊥

under-act : (s : Sort) (k : Back) (go : List ℕ → ℕ → Forest → List Open → Args) (base tag : ℕ) (l : List ℕ) (p : ℕ) (frame : Forest)
    (A B : List Open)
    → ((m : List ℕ) (q : ℕ) (f : Forest) (A : List Open) → Closed k (length A) → go m q f (A ++ B) ≡ go m q f A)
    → Closed (tag_before s k) (length A)
    → act s go base tag l p frame (A ++ B) ≡ act s go base tag l p frame A
under-act Opens (Cut n c i) go base tag l p frame A B h w = absurd w
under-act Opens (Uncut zero c i) go base tag l p frame A B h w = absurd w
under-act Opens (Uncut (suc n) c i) go base tag l p frame A B h w = h l p nil (waits frame (array_item (base + p)) ∷ A) (omega arith)
under-act Closes (Cut n c i) go base tag l p frame A B h w = absurd w
under-act Closes (Uncut n c i) go base tag l p frame [] B h w = absurd (omega arith)
under-act Closes (Uncut n c i) go base tag l p frame (waits f item ∷ A) B h w = h l p (snoc f item frame) A (omega arith)
under-act (Leaf class) (Cut n c i) go base tag l p frame A B h w = absurd w
under-act (Leaf class) (Uncut n c i) go base tag l p frame A B h w = by-arg (read_arg tag class base l p)
  where
    by-arg : (x : Arg) → arg_taken (λ m q f. go m q f (A ++ B)) l p frame x ≡ arg_taken (λ m q f. go m q f A) l p frame x
    by-arg (Err fault) = refl
    by-arg (Ok given) = ap (later given.used) (h (drop given.used l) (p + given.used) (snoc frame given.item nil) A w)

-- tags that close no more than the first frames read the same whatever waits below these
pub under-law : (base : ℕ) (ts l : List ℕ) (p : ℕ) (frame : Forest) (A B : List Open) → Closed (back ts) (length A)
    → read_tags base ts l p frame (A ++ B) ≡ read_tags base ts l p frame A
unfolding read_tags back
under-law base [] l p frame A B w = refl
under-law base (t ∷ ts) l p frame A B w =
    under-act (sort_of t) (back ts) (λ m q f b. read_tags base ts m q f b) base t l p frame A B (λ m q f A v. under-law base ts m q f A B v) w

-- ---- the first tags are scanned, the others kept

-- s is the scan of the first tags and o the reading of all; ts are the tags that are kept
record Keeps (base : ℕ) (s : Scanned) (o : Args) (ts l : List ℕ) (p : ℕ) : Type 0 where
  pub lost : ℕ
  pub dirt : ℕ
  pub inside : lost ≤ length l
  pub scanned : s ≡ Used lost dirt
  pub same : o ≡ later lost (read_args base ts (drop lost l) (p + lost))
  pub closed : Closed (back ts) 0

-- the same u bytes later
keeps-later : (base u d : ℕ) (s : Scanned) (o : Args) (ts l : List ℕ) (p : ℕ) → u ≤ length l → Keeps base s o ts (drop u l) (p + u)
    → Keeps base (more_used u d s) (later u o) ts l p
keeps-later base u d s o ts l p h w =
    let v = w.lost in
    let sum : p + u + v ≡ p + (u + v) = omega arith in
    record {
      lost = u + v;
      dirt = d + w.dirt;
      inside = omega (arith, length-drop u l, w.inside);
      scanned = ap (more_used u d) w.scanned;
      same = ap (later u) w.same ∙ later-later u v (read_args base ts (drop v (drop u l)) (p + u + v)) ∙ rw (drop-drop v u l, sum);
      closed = w.closed;
    }

abbrev Cuts : ℕ → List ℕ → Type 0
Cuts base ts =
    (l : List ℕ) (p : ℕ) (frame : Forest) (below : List Open) (n c g : ℕ) → back ts ≡ Cut n c g
    → ArgsAccepted (read_tags base ts l p frame below)
    → Keeps base (scan (take n ts) l p (length below)) (read_tags base ts l p frame below) (drop n ts) l p

cut-act : (s : Sort) (k : Back) (base tag : ℕ) (ts l : List ℕ) (p : ℕ) (frame : Forest) (below : List Open) (n c g : ℕ)
    → Cuts base ts → back ts ≡ k
    → tag_before s k ≡ Cut (suc n) c g → ArgsAccepted (act s (λ m q f b. read_tags base ts m q f b) base tag l p frame below)
    → Keeps base (turn s (λ m q i. scan (take n ts) m q i) tag l p (length below))
    (act s (λ m q f b. read_tags base ts m q f b) base tag l p frame below) (drop n ts) l p
unfolding scan
cut-act Opens (Cut m d i) base tag ts l p frame below n c g h e x w =
    h l p nil (waits frame (array_item (base + p)) ∷ below) n c g (let z : m ≡ n = cc in e ∙ cc) w
cut-act Opens (Uncut zero d i) base tag ts l p frame below n c g h e x w =
    let z : n ≡ 0 = (let y : suc n ≡ 1 = cc in omega arith) in
    let q : p + 0 ≡ p = omega arith in
    let shut : Closed (back ts) 0 = subst (λ (k : Back). Closed k 0) (sym e) (omega arith) in
    let below' = waits frame (array_item (base + p)) ∷ below in
    subst (λ (n : ℕ). Keeps base (scan (take n ts) l p (suc (length below))) (read_tags base ts l p nil below') (drop n ts) l p)
    (sym z)
    (record {
      lost = 0;
      dirt = 0;
      inside = omega arith;
      scanned = refl;
      same = under-law base ts l p nil [] below' shut ∙ sym (later-none (read_args base ts l p)) ∙ rw q;
      closed = shut;
    })
cut-act Opens (Uncut (suc m) d i) base tag ts l p frame below n c g h e x w = absurd (clash x)
cut-act Closes (Uncut m d i) base tag ts l p frame below n c g h e x w = absurd (clash x)
cut-act Closes (Cut m d i) base tag ts l p frame [] n c g h e x w = absurd w
cut-act Closes (Cut m d i) base tag ts l p frame (waits f item ∷ b) n c g h e x w =
    h l p (snoc f item frame) b n c g (let z : m ≡ n = cc in e ∙ cc) w
cut-act (Leaf class) (Uncut m d i) base tag ts l p frame below n c g h e x w = absurd (clash x)
cut-act (Leaf class) (Cut m d i) base tag ts l p frame below n c g h e x w =
    rw (any-base tag class 0 base l p) (by-arg (read_arg tag class base l p) refl w)
  where
    by-arg : (y : Arg) → y ≡ read_arg tag class base l p → ArgsAccepted (arg_taken (λ m q f. read_tags base ts m q f below) l p frame y)
        → Keeps base (arg_passed (λ m q. scan (take n ts) m q (length below)) l p (used_of class l y))
        (arg_taken (λ m q f. read_tags base ts m q f below) l p frame y) (drop n ts) l p
    by-arg (Err fault) r v = absurd v
    by-arg (Ok given) r v =
        let f = snoc frame given.item nil in
        let o = read_tags base ts (drop given.used l) (p + given.used) f below in
        keeps-later base given.used _ (scan (take n ts) (drop given.used l) (p + given.used) (length below)) o (drop n ts) l p
        (given-within tag class base l p r)
        (h (drop given.used l) (p + given.used) f below n c g (let z : m ≡ n = cc in e ∙ cc) (accepted-later given.used o v))

-- how many tags a cut takes of those from some tag on
first-le : (s : Sort) (k : Back) (n c g : ℕ) → tag_before s k ≡ Cut n c g → (m : ℕ)
    → ((j d i : ℕ) → k ≡ Cut j d i → j ≤ m) → (1 ≤ n) × (n ≤ suc m)
first-le Opens (Cut j d i) n c g e m h = let z : suc j ≡ n = cc in (omega arith, omega (arith, h j d i refl))
first-le Opens (Uncut zero d i) n c g e m h = let z : 1 ≡ n = cc in (omega arith, omega arith)
first-le Opens (Uncut (suc j) d i) n c g e m h = absurd (clash e)
first-le Closes (Cut j d i) n c g e m h = let z : suc j ≡ n = cc in (omega arith, omega (arith, h j d i refl))
first-le Closes (Uncut j d i) n c g e m h = absurd (clash e)
first-le (Leaf class) (Cut j d i) n c g e m h = let z : suc j ≡ n = cc in (omega arith, omega (arith, h j d i refl))
first-le (Leaf class) (Uncut j d i) n c g e m h = absurd (clash e)

cut-few : (ts : List ℕ) (n c g : ℕ) → back ts ≡ Cut n c g → n ≤ length ts
unfolding back
cut-few [] n c g e = absurd (clash e)
cut-few (t ∷ ts) n c g e = (first-le (sort_of t) (back ts) n c g e (length ts) (λ j d i x. cut-few ts j d i x)).1

cut-law : (base : ℕ) (ts : List ℕ) → Cuts base ts
unfolding read_tags back scan
cut-law base [] l p frame below n c g e w = absurd (clash e)
cut-law base (t ∷ ts) l p frame below zero c g e w =
    absurd (omega (arith, first-le (sort_of t) (back ts) 0 c g e (length ts) (λ j d i x. cut-few ts j d i x)))
cut-law base (t ∷ ts) l p frame below (suc n) c g e w =
    cut-act (sort_of t) (back ts) base t ts l p frame below n c g (cut-law base ts) refl e w

-- ---- as the second reading cites it

-- a cut takes no more tags than there are
pub cut-le : {n c g : ℕ} (ts : List ℕ) → Cut n c g ≡ back ts → n ≤ length ts
cut-le {n} {c} {g} ts e = cut-few ts n c g (sym e)

-- tags that are not cut close all that they open
pub all_closed : {n c g : ℕ} (k : Back) → Uncut n c g ≡ k → AllClosed k
all_closed (Uncut m d i) e = tt
all_closed (Cut m d i) e = absurd (clash e)

closed_all : (k : Back) → Closed k 0 → AllClosed k
closed_all (Uncut n c i) w = tt
closed_all (Cut n c i) w = w

-- what is left of tags and data, as it is lent: the tags from n on, and the data after `used` bytes
abbrev pub rest : ℕ → List ℕ → List ℕ → ℕ → ℕ → ℕ → Args
rest base ts l p n used = read_args base (take (length ts - n) (drop n ts)) (take (length l - used) (drop used l)) (p + used)

-- the arguments of all are those of the rest, which is accepted and closes what it opens
pub record CutAt (base : ℕ) (ts l : List ℕ) (p n used : ℕ) : Type 0 where
  pub within : used ≤ length l
  pub closed : AllClosed (back (take (length ts - n) (drop n ts)))
  pub accepted : ArgsAccepted (rest base ts l p n used)
  pub kept : kept_of (read_args base ts l p) ≡ kept_of (rest base ts l p n used)

module _ (base : ℕ) (ts l : List ℕ) (p : ℕ) {n c g : ℕ} (e : Cut n c g ≡ back ts) (a : ArgsAccepted (read_args base ts l p)) where
  keeps : Keeps base (scan (take n ts) l p 0) (read_args base ts l p) (drop n ts) l p
  keeps = cut-law base ts l p nil [] n c g (sym e) a

  -- the first tags of what is accepted are not refused
  pub cut-never : {fault : Fault} → Err fault ≡ scan (take n ts) l p 0 → ⊥
  cut-never s = let r = keeps.scanned in let z : ◌≡◌ {A = ℕ} 0 1 = cc in omega arith

  module _ {used dirty : ℕ} (s : Used used dirty ≡ scan (take n ts) l p 0) where
    lost-is : keeps.lost ≡ used
    lost-is = (args-are (sym keeps.scanned ∙ sym s)).0

    reads-rest : read_args base ts l p ≡ later used (rest base ts l p n used)
    reads-rest =
        rw (tail ts n, tail l used)
        (subst (λ (u : ℕ). read_args base ts l p ≡ later u (read_args base (drop n ts) (drop u l) (p + u))) lost-is keeps.same)

    -- once the first tags are scanned, the rest reads as all
    pub cut_at : CutAt base ts l p n used
    cut_at =
        record {
          within = omega (arith, keeps.inside, lost-is);
          closed = rw (tail ts n) (closed_all (back (drop n ts)) keeps.closed);
          accepted = accepted-later used (rest base ts l p n used) (subst ArgsAccepted reads-rest a);
          kept = ap kept_of reads-rest ∙ kept-later used (rest base ts l p n used);
        }

-- where there is room for all, there is room for the rest
pub cut-room : {base : ℕ} {ts l : List ℕ} {p n used index : ℕ} {table : List ℕ} → CutAt base ts l p n used
    → ArgsRoom (read_args base ts l p) index table
    → ArgsRoom (rest base ts l p n used) index table
cut-room k w = record { accepted = k.accepted; room = rw k.kept at w.room }
