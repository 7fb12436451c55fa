-- A time tag among the arguments of a message: another number there is read as that number, and nothing else changes. A t of an array that
-- stays open is read too, but no tree has it.
use mathlib.Core.Path.{◌≡◌, refl, ap, sym, subst, ◌∙◌}
use mathlib.Core.Logic.{◌⊎◌, inl, inr, ⊎_elim}
use mathlib.Core.List.{List, [], ◌∷◌}
use Prim.Native.Nat.{ℕ, ◌+◌, ◌-◌, ◌^◌, ◌<◌, ◌≤◌}
use native.Mathlib.Nat.{zero-add}
use native.Mathlib.Omega.{arith}
use borrow.Author.Tests.{le-leb}
use lib.ListN.{length, drop, length-drop}
use Rattle.wire.specs.Number.{number}
use Rattle.node.specs.Forest.{Forest, nil, snoc}
use Rattle.node.specs.Tags.{bundle_kind, class_of, sort_of}
use Rattle.node.specs.declared.record.Item.{Item}
use Rattle.node.specs.declared.tags.Class.{Class}
use Rattle.node.specs.declared.tags.Class.TheVariants.{Eight, Unknown}
use Rattle.node.specs.declared.tags.Sort.{Sort}
use Rattle.node.specs.declared.tags.Sort.TheVariants.{Opens, Closes, Leaf}
use Rattle.argument.specs.Argument.{arg_item, read_arg}
use Rattle.argument.specs.CodeRead.{ArgRead}
use Rattle.argument.specs.Results.{Arg}
use Rattle.std.specs.Prelude.{Err, Ok}
use Rattle.argument.specs.Results as arg
use Rattle.argument.proofs.There.{there}
use Rattle.argument.proofs.Within.{given-within, given-kind}
use Rattle.arguments.specs.Arguments.{Args, refused, args, later, arg_taken, array_item, Open, waits, act, read_tags, read_args}
use Rattle.slides.specs.Slides.{has_time, time_place, with_time, put_time}
use Rattle.slides.proofs.Puts.{put-length, put-take-before, put-drop-before, put-drop-after, put-high, put_low}
use Rattle.slides.proofs.Fronts.{item-of, used-of, arg-front}
use Rattle.slides.proofs.Times.{has-time, AtPlace, TimeAt, retimed, retimed_forest, retimed-at, retimed-not}
use Rattle.slides.proofs.Times.{snoc-retimed, in-snoc, Placed}

-- what was read before is counted
pub later-is : (n : ℕ) (x : Args) (kept : Forest) (used : ℕ) → later n x ≡ args kept used
    → (m : ℕ) × (x ≡ args kept m) × (used ≡ n + m)
later-is n (refused k) kept used e = let z : ◌≡◌ {A = ℕ} 0 1 = cc in absurd (omega arith)
later-is n (args f m) kept used e = (m, (cc), cc)

-- ---- one argument

-- an argument with a time tag is a t, and its tag is its data
pub record IsTime (q tag : ℕ) (class : Class) (l : List ℕ) (p : ℕ) (item : Item) (used : ℕ) : Type 0 where
  pub class-is : class ≡ Eight
  pub place_is : q ≡ p
  pub item-is : item ≡ arg_item 116 (0 + p) (number 4 l) (number 4 (drop 4 l))
  pub tag_is : tag ≡ 116
  pub used-is : used ≡ 8
  pub fits : 8 ≤ length l

pub arg-time : (q tag : ℕ) (class : Class) (l : List ℕ) (p : ℕ) (item : Item) (used : ℕ) → read_arg tag class 0 l p ≡ arg.Given item used
    → Leaf class ≡ sort_of tag → AtPlace q item → IsTime q tag class l p item used
unfolding sort_of class_of read_arg
arg-time q tag class l p item used e s a =
    ⊎_elim (λ h. by-bundle h) (λ h. by-t h) (has-time tag (ap has_time (sym kind) ∙ a.0))
  where
    kind : item.kind ≡ tag
    kind = given-kind tag class 0 l p (sym e)

    by-bundle : tag ≡ bundle_kind → IsTime q tag class l p item used
    by-bundle h =
        let same : Leaf class ≡ Leaf Unknown = s ∙ ap sort_of h in
        let c : class ≡ Unknown = cc in
        let r : read_arg tag Unknown 0 l p ≡ arg.Given item used = ap (λ (x : Class). read_arg tag x 0 l p) (sym c) ∙ e in
        let z : ◌≡◌ {A = ℕ} 0 1 = cc in
        absurd (omega arith)

    by-t : tag ≡ 116 → IsTime q tag class l p item used
    by-t h =
        let same : Leaf class ≡ Leaf Eight = s ∙ ap sort_of h in
        let c : class ≡ Eight = cc in
        let there8 : 8 ≤ length l = there tag 0 l p c (subst ArgRead (sym e) tt) in
        let f : read_arg tag Eight 0 l p ≡ arg.Given item used = ap (λ (x : Class). read_arg tag x 0 l p) (sym c) ∙ e in
        let g : arg.Given (arg_item 116 (0 + p) (number 4 l) (number 4 (drop 4 l))) 8 ≡ arg.Given item used
        = rw (le-leb 8 (length l) there8, h) at f in
        let k : item ≡ arg_item 116 (0 + p) (number 4 l) (number 4 (drop 4 l)) = sym (item-of g) in
        let at : time_place item ≡ 0 + p = ap time_place k in
        record {
          class-is = c;
          place_is = sym a.1 ∙ at ∙ zero-add p;
          item-is = k;
          tag_is = h;
          used-is = sym (used-of g);
          fits = there8;
        }

-- ---- what the tags reach

module _ (q : ℕ) where
  -- an argument with its time tag there, or one that the later tags reach
  abbrev pub ReachedArg : (List ℕ → ℕ → Type 0) → List ℕ → ℕ → Arg → Type 0
  ReachedArg go l p (Err k) = ⊥
  ReachedArg go l p (Ok given) = AtPlace q given.item ⊎ go (drop given.used l) (p + given.used)

  abbrev pub ReachedSort : Sort → (List ℕ → ℕ → Type 0) → ℕ → List ℕ → ℕ → Type 0
  ReachedSort Opens go tag l p = go l p
  ReachedSort Closes go tag l p = go l p
  ReachedSort (Leaf class) go tag l p = ReachedArg go l p (read_arg tag class 0 l p)

  -- these tags have a t whose data stands there
  abbrev pub Reached : List ℕ → List ℕ → ℕ → Type 0
  Reached [] l p = ⊥
  Reached (tag ∷ tags) l p = ReachedSort (sort_of tag) (λ m r. Reached tags m r) tag l p

  -- one of the arrays that are open has it
  abbrev TimeOpen : List Open → Type 0
  TimeOpen [] = ⊥
  TimeOpen (waits outer item ∷ below) = TimeAt q outer ⊎ (AtPlace q item ⊎ TimeOpen below)

  -- the same, or it is reached
  abbrev From : Forest → List Open → Type 0 → Type 0
  From frame below R = TimeAt q frame ⊎ (TimeOpen below ⊎ R)

  array-not : (p : ℕ) → AtPlace q (array_item p) → ⊥
  array-not p a = let z : ◌≡◌ {A = ℕ} 0 1 = cc a.0 in omega arith

  kept-act : (sort : Sort) (tag : ℕ) (go : List ℕ → ℕ → Forest → List Open → Args) (R : List ℕ → ℕ → Type 0)
      → ((m : List ℕ) (r : ℕ) (f : Forest) (b : List Open) (kept : Forest) (used : ℕ) → go m r f b ≡ args kept used → TimeAt q kept
      → From f b (R m r))
      → (l : List ℕ) (p : ℕ) (frame : Forest) (below : List Open) (kept : Forest) (used : ℕ)
      → act sort go 0 tag l p frame below ≡ args kept used → TimeAt q kept → From frame below (ReachedSort sort R tag l p)
  kept-act Opens tag go R h l p frame below kept used e a =
      ⊎_elim (λ (b : ⊥). absurd b)
      (⊎_elim
      (⊎_elim (λ b. inl b) (⊎_elim (λ b. absurd (array-not (0 + p) b)) (λ b. inr (inl b))))
      (λ b. inr (inr b)))
      (h l p nil (waits frame (array_item (0 + p)) ∷ below) kept used e a)
  kept-act Closes tag go R h l p frame [] kept used e a = let z : ◌≡◌ {A = ℕ} 0 1 = cc in absurd (omega arith)
  kept-act Closes tag go R h l p frame (waits outer item ∷ below) kept used e a =
      ⊎_elim
      (λ b. ⊎_elim (λ d. inr (inl (inl d))) (⊎_elim (λ d. inr (inl (inr (inl d)))) (λ d. inl d)) (in-snoc q outer item frame b))
      (⊎_elim (λ b. inr (inl (inr (inr b)))) (λ b. inr (inr b)))
      (h l p (snoc outer item frame) below kept used e a)
  kept-act (Leaf class) tag go R h l p frame below kept used e a = by-arg (read_arg tag class 0 l p) e
    where
      by-arg : (x : Arg) → arg_taken (λ m r f. go m r f below) l p frame x ≡ args kept used → From frame below (ReachedArg R l p x)
      by-arg (Err k) f = let z : ◌≡◌ {A = ℕ} 0 1 = cc in absurd (omega arith)
      by-arg (Ok given) f =
          let w = later-is given.used (go (drop given.used l) (p + given.used) (snoc frame given.item nil) below) kept used f in
          ⊎_elim
          (λ b. ⊎_elim (λ d. inl d) (⊎_elim (λ d. inr (inr (inl d))) (λ (d : ⊥). absurd d)) (in-snoc q frame given.item nil b))
          (⊎_elim (λ b. inr (inl b)) (λ b. inr (inr (inr b))))
          (h (drop given.used l) (p + given.used) (snoc frame given.item nil) below kept w.0 w.1 a)

  -- a time tag that is kept was kept before, or is reached
  kept-reached : (tags l : List ℕ) (p : ℕ) (frame : Forest) (below : List Open) (kept : Forest) (used : ℕ)
      → read_tags 0 tags l p frame below ≡ args kept used → TimeAt q kept → From frame below (Reached tags l p)
  unfolding read_tags
  kept-reached [] l p frame below kept used e a =
      let same : frame ≡ kept = cc in inl (rw same a)
  kept-reached (tag ∷ tags) l p frame below kept used e a =
      kept-act (sort_of tag) tag (λ m r f b. read_tags 0 tags m r f b) (λ m r. Reached tags m r)
      (λ m r f b k u. kept-reached tags m r f b k u) l p frame below kept used e a

  -- a time tag of a message's arguments is reached by its tags
  pub args-reached : (tags l : List ℕ) (p : ℕ) (kept : Forest) (used : ℕ) → read_args 0 tags l p ≡ args kept used → TimeAt q kept
      → Reached tags l p
  args-reached tags l p kept used e a =
      ⊎_elim (λ (b : ⊥). absurd b) (⊎_elim (λ (b : ⊥). absurd b) (λ b. b)) (kept-reached tags l p nil [] kept used e a)

-- ---- another number there

module _ (q v : ℕ) (small : v < 2 ^ 64) where
  abbrev retimed_args : Args → Args
  retimed_args (refused k) = refused k
  retimed_args (args kept used) = args (retimed_forest q v kept) used

  abbrev pub retimed_opens : List Open → List Open
  retimed_opens [] = []
  retimed_opens (waits outer item ∷ below) = waits (retimed_forest q v outer) (retimed q v item) ∷ retimed_opens below

  later-retimed : (n : ℕ) (x : Args) → later n (retimed_args x) ≡ retimed_args (later n x)
  later-retimed n (refused k) = refl
  later-retimed n (args kept used) = refl

  -- how the later tags are read once the place is passed: as they were
  abbrev Passes : (List ℕ → ℕ → Forest → List Open → Args) → Type 0
  Passes go =
      (m : List ℕ) (r : ℕ) (f : Forest) (b : List Open) → q + 8 ≤ r
      → go m r (retimed_forest q v f) (retimed_opens b) ≡ retimed_args (go m r f b)

  -- and where they reach it: the number there is read
  abbrev pub Reads : (List ℕ → ℕ → Forest → List Open → Args) → (List ℕ → ℕ → Type 0) → Type 0
  Reads go R =
      (m : List ℕ) (r : ℕ) (f : Forest) (b : List Open) (kept : Forest) (used : ℕ) → R m r → go m r f b ≡ args kept used
      → Placed q m r × (go (put_time (q - r) v m) r (retimed_forest q v f) (retimed_opens b) ≡ args (retimed_forest q v kept) used)

  -- the same of an array that opens and one that closes, whatever bytes are left
  opens-same : (go : List ℕ → ℕ → Forest → List Open → Args) (tag : ℕ) (l : List ℕ) (p : ℕ) (frame : Forest) (below : List Open)
      → act Opens go 0 tag l p (retimed_forest q v frame) (retimed_opens below)
      ≡ go l p (retimed_forest q v nil) (retimed_opens (waits frame (array_item (0 + p)) ∷ below))
  unfolding retimed_forest
  opens-same go tag l p frame below =
      ap (λ (item : Item). go l p nil (waits (retimed_forest q v frame) item ∷ retimed_opens below))
      (sym (retimed-not q v (array_item (0 + p)) (array-not q (0 + p))))

  -- an argument that has no time tag there
  taken-same : (go : List ℕ → ℕ → Forest → List Open → Args) (m : List ℕ) (r used : ℕ) (frame : Forest) (item : Item) (below : List Open)
      → (AtPlace q item → ⊥)
      → go m r (snoc (retimed_forest q v frame) item nil) (retimed_opens below)
      ≡ go m r (retimed_forest q v (snoc frame item nil)) (retimed_opens below)
  unfolding retimed_forest
  taken-same go m r used frame item below n =
      ap (λ (f : Forest). go m r f (retimed_opens below))
      (ap (λ (i : Item). snoc (retimed_forest q v frame) i nil) (sym (retimed-not q v item n)) ∙ snoc-retimed q v frame item nil)

  passed-act : (sort : Sort) (tag : ℕ) → sort ≡ sort_of tag → (go : List ℕ → ℕ → Forest → List Open → Args) → Passes go
      → Passes (λ l p frame below. act sort go 0 tag l p frame below)
  unfolding retimed_forest
  passed-act Opens tag s go h l p frame below far =
      opens-same go tag l p frame below ∙ h l p nil (waits frame (array_item (0 + p)) ∷ below) far
  passed-act Closes tag s go h l p frame [] far = refl
  passed-act Closes tag s go h l p frame (waits outer item ∷ below) far =
      ap (λ (f : Forest). go l p f (retimed_opens below)) (snoc-retimed q v outer item frame) ∙ h l p (snoc outer item frame) below far
  passed-act (Leaf class) tag s go h l p frame below far = by-arg (read_arg tag class 0 l p) refl
    where
      by-arg : (x : Arg) → read_arg tag class 0 l p ≡ x
          → arg_taken (λ m r f. go m r f (retimed_opens below)) l p (retimed_forest q v frame) x
          ≡ retimed_args (arg_taken (λ m r f. go m r f below) l p frame x)
      by-arg (Err k) e = refl
      by-arg (Ok given) e =
          ap (later given.used) (taken-same go (drop given.used l) (p + given.used) given.used frame given.item below
          (λ a. let w = arg-time q tag class l p given.item given.used e s a in let z : q ≡ p = w.place_is in omega arith))
          ∙ ap (later given.used) (h (drop given.used l) (p + given.used) (snoc frame given.item nil) below (omega arith))
          ∙ later-retimed given.used (go (drop given.used l) (p + given.used) (snoc frame given.item nil) below)

  tags-passed : (tags : List ℕ) → Passes (λ l p frame below. read_tags 0 tags l p frame below)
  unfolding read_tags
  tags-passed [] l p frame below far = refl
  tags-passed (tag ∷ tags) l p frame below far =
      passed-act (sort_of tag) tag refl (λ m r f b. read_tags 0 tags m r f b) (tags-passed tags) l p frame below far

  -- the t itself
  time-read : (tag : ℕ) (class : Class) (l : List ℕ) (p : ℕ) (item : Item) (used : ℕ) → IsTime q tag class l p item used
      → read_arg tag class 0 (put_time (q - p) v l) p ≡ arg.Given (with_time v item) used
  unfolding read_arg
  time-read tag class l p item used w =
      let none : q - p ≡ 0 = omega (arith, w.place_is) in
      let long : 8 ≤ length (put_time 0 v l) = omega (arith, put-length 0 v l w.fits, w.fits) in
      let start : item.start ≡ 0 + p = ap (λ (i : Item). i.start) w.item-is in
      let kind : item.kind ≡ 116 = ap (λ (i : Item). i.kind) w.item-is in
      ap (λ (k : ℕ). read_arg tag class 0 (put_time k v l) p) none
      ∙ ap (λ (c : Class). read_arg tag c 0 (put_time 0 v l) p) w.class-is
      ∙ rw (le-leb 8 (length (put_time 0 v l)) long, put-high v l small, put_low v l small, w.tag_is, w.used-is, start, kind)

  module _ (class : Class) (tag : ℕ) (s : Leaf class ≡ sort_of tag) (go : List ℕ → ℕ → Forest → List Open → Args)
      (R : List ℕ → ℕ → Type 0) (passes : Passes go) (reads : Reads go R) (l : List ℕ) (p : ℕ) (frame : Forest) (below : List Open)
      (kept : Forest) (used : ℕ) (item : Item) (u : ℕ) (e : read_arg tag class 0 l p ≡ arg.Given item u)
      (f : arg_taken (λ m r g. go m r g below) l p frame (arg.Given item u) ≡ args kept used) where
    abbrev Goal : Type 0
    Goal =
        Placed q l p
        × (act (Leaf class) go 0 tag (put_time (q - p) v l) p (retimed_forest q v frame) (retimed_opens below) ≡ args
        (retimed_forest q v kept) used)

    here : AtPlace q item → Goal
    unfolding retimed_forest
    here a =
        let w = arg-time q tag class l p item u e s a in
        let at : q ≡ p = w.place_is in
        let eight : u ≡ 8 = w.used-is in
        let fits : 8 ≤ length l = w.fits in
        let same : drop u (put_time (q - p) v l) ≡ drop u l = put-drop-after (q - p) v l (omega arith) u (omega arith) in (
          record { low = omega arith; high = omega arith },
          ap (arg_taken (λ m r g. go m r g (retimed_opens below)) (put_time (q - p) v l) p (retimed_forest q v frame))
              (time-read tag class l p item u w)
              ∙ ap (λ (m : List ℕ). later u (go m (p + u) (snoc (retimed_forest q v frame) (with_time v item) nil)
              (retimed_opens below))) same
              ∙ ap (λ (g : Forest). later u (go (drop u l) (p + u) g (retimed_opens below)))
              (ap (λ (i : Item). snoc (retimed_forest q v frame) i nil) (sym (retimed-at q v item a)) ∙ snoc-retimed q v frame item nil)
              ∙ ap (later u) (passes (drop u l) (p + u) (snoc frame item nil) below (omega arith))
              ∙ later-retimed u (go (drop u l) (p + u) (snoc frame item nil) below)
              ∙ ap retimed_args f,
        )

    after-it : R (drop u l) (p + u) → Goal
    after-it r =
        let w = later-is u (go (drop u l) (p + u) (snoc frame item nil) below) kept used f in
        let v' = reads (drop u l) (p + u) (snoc frame item nil) below kept w.0 r w.1 in
        let within : u ≤ length l = given-within tag class 0 l p (sym e) in
        let low : p + u ≤ q = v'.0.low in
        let high : q + 8 ≤ p + u + length (drop u l) = v'.0.high in
        let fits : q - p + 8 ≤ length l = omega (arith, length-drop u l) in
        let less : q - p - u ≡ q - (p + u) = omega arith in
        let bytes : drop u (put_time (q - p) v l) ≡ put_time (q - (p + u)) v (drop u l)
        = put-drop-before (q - p) v l fits u (omega arith) ∙ ap (λ (k : ℕ). put_time k v (drop u l)) less in (
          record { low = omega arith; high = omega (arith, length-drop u l) },
          ap (arg_taken (λ m r g. go m r g (retimed_opens below)) (put_time (q - p) v l) p (retimed_forest q v frame))
              (arg-front l (put_time (q - p) v l) p (put-length (q - p) v l fits) tag class item u e
              (put-take-before (q - p) v l fits u (omega arith)))
              ∙ ap (λ (m : List ℕ). later u (go m (p + u) (snoc (retimed_forest q v frame) item nil) (retimed_opens below))) bytes
              ∙ ap (later u) (taken-same go (put_time (q - (p + u)) v (drop u l)) (p + u) u frame item below
              (λ a. let t = arg-time q tag class l p item u e s a in
              let at : q ≡ p = t.place_is in let eight : u ≡ 8 = t.used-is in omega arith))
              ∙ ap (later u) v'.1
              ∙ ap (λ (k : ℕ). args (retimed_forest q v kept) k) (sym w.2),
        )

  reached-act : (sort : Sort) (tag : ℕ) → sort ≡ sort_of tag → (go : List ℕ → ℕ → Forest → List Open → Args) (R : List ℕ → ℕ → Type 0)
      → Passes go → Reads go R → Reads (λ l p frame below. act sort go 0 tag l p frame below) (ReachedSort q sort R tag)
  reached-act Opens tag s go R passes reads l p frame below kept used r e =
      let w = reads l p nil (waits frame (array_item (0 + p)) ∷ below) kept used r e in
      (w.0, opens-same go tag (put_time (q - p) v l) p frame below ∙ w.1)
  reached-act Closes tag s go R passes reads l p frame [] kept used r e = let z : ◌≡◌ {A = ℕ} 0 1 = cc in absurd (omega arith)
  reached-act Closes tag s go R passes reads l p frame (waits outer item ∷ below) kept used r e =
      let w = reads l p (snoc outer item frame) below kept used r e in
      (w.0, ap (λ (f : Forest). go (put_time (q - p) v l) p f (retimed_opens below)) (snoc-retimed q v outer item frame) ∙ w.1)
  reached-act (Leaf class) tag s go R passes reads l p frame below kept used r e = by-arg (read_arg tag class 0 l p) refl r e
    where
      by-arg : (x : Arg) → read_arg tag class 0 l p ≡ x → ReachedArg q R l p x
          → arg_taken (λ m t f. go m t f below) l p frame x ≡ args kept used
          → Placed q l p
          × (act (Leaf class) go 0 tag (put_time (q - p) v l) p (retimed_forest q v frame) (retimed_opens below) ≡ args
          (retimed_forest q v kept) used)
      by-arg (Err k) d a f = absurd a
      by-arg (Ok given) d (inl a) f = here class tag s go R passes reads l p frame below kept used given.item given.used d f a
      by-arg (Ok given) d (inr a) f = after-it class tag s go R passes reads l p frame below kept used given.item given.used d f a

  pub tags-reached : (tags : List ℕ) → Reads (λ l p frame below. read_tags 0 tags l p frame below) (Reached q tags)
  unfolding read_tags
  tags-reached [] l p frame below kept used r e = absurd r
  tags-reached (tag ∷ tags) l p frame below kept used r e =
      reached-act (sort_of tag) tag refl (λ m t f b. read_tags 0 tags m t f b) (λ m t. Reached q tags m t) (tags-passed tags)
      (tags-reached tags) l p frame below kept used r e

  -- a time tag of a message's arguments
  pub args-retimed : (tags l : List ℕ) (p : ℕ) (kept : Forest) (used : ℕ) → read_args 0 tags l p ≡ args kept used → TimeAt q kept
      → Placed q l p × (read_args 0 tags (put_time (q - p) v l) p ≡ args (retimed_forest q v kept) used)
  unfolding retimed_forest
  args-retimed tags l p kept used e a =
      tags-reached tags l p nil [] kept used (args-reached q tags l p kept used e a) e
