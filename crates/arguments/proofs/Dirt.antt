-- The forward scan finds the dirt of what is kept: of all arguments where every array is closed, and no less where one stays open.
use mathlib.Core.Path.{◌≡◌, refl, ap, sym, ◌∙◌, subst}
use mathlib.Core.Bool.{Bool, true, false, cond}
use mathlib.Core.List.{List, [], ◌∷◌, ◌++◌}
use Prim.Native.Nat.{ℕ, zero, suc, ◌+◌, ◌*◌, ◌≤◌}
use native.Mathlib.Omega.{arith}
use borrow.Author.Tests.{ne_eqb}
use lib.Dec.{eqb}
use lib.ListN.{length, drop, replicate}
use Rattle.node.specs.Forest.{Forest, nil, node, snoc}
use Rattle.node.specs.Tags.{message_kind, bundle_kind, array_kind, class_of, sort_of}
use Rattle.node.specs.declared.record.Item.{Item}
use Rattle.node.specs.declared.tags.Class.{Class}
use Rattle.node.specs.declared.tags.Class.TheVariants.{Unknown}
use Rattle.node.specs.declared.tags.Sort.{Sort}
use Rattle.node.specs.declared.tags.Sort.TheVariants.{Opens, Closes, Leaf}
use Rattle.text.specs.Text.{non_zero}
use Rattle.argument.specs.Argument.{read_arg}
use Rattle.argument.specs.CodeParts.{StandsAt, between, padding_from, dirt_of}
use Rattle.argument.specs.Dirt.{own_padding, arg_padding}
use Rattle.argument.specs.Results.{Arg}
use Rattle.scan.proofs.Passed.{args-are}
use Rattle.scan.specs.Results.{Scanned, Used}
use Rattle.std.specs.Prelude.{Err, Ok}
use Rattle.argument.specs.Results as arg
use Rattle.arguments.specs.Results as measure
use Rattle.argument.proofs.Dirt.{arg-padding, own_dirt, dirt-node, dirt-nil}
use Rattle.argument.proofs.Pads.{dirt-few}
use Rattle.argument.proofs.Stands.{stands_on, stands-somewhere}
use Rattle.argument.proofs.Within.{given-within, given-kind}
use Rattle.scan.specs.CodeScans.{used_of, more_used, arg_passed, turn, scan, tag_before, back, AllClosed}
use Rattle.scan.specs.declared.Back.{Back}
use Rattle.scan.specs.declared.Back.TheVariants.{Uncut, Cut}
use Rattle.scan.proofs.Passed.{any-base}
use Rattle.arguments.specs.Arguments.{Args, refused, args, later, arg_taken, Open, waits, array_item, act, read_tags, read_args}
use Rattle.arguments.specs.CodeReadings.{measured, kept_of, ArgsAccepted}
use Rattle.arguments.proofs.Counts.{measured-are, scan-accepted, measured-within}
use Rattle.arguments.proofs.Kept.{clash}

-- the class of a tag that is an argument's
leaf-class : (tag : ℕ) {class : Class} → sort_of tag ≡ Leaf class → class_of tag ≡ class
unfolding sort_of
leaf-class tag {class} s = by_tests (eqb tag array_kind) (eqb tag 93) s
  where
    by_tests : (x y : Bool) → cond x Opens (cond y Closes (Leaf (class_of tag))) ≡ Leaf class → class_of tag ≡ class
    by_tests true y e = let z : ◌≡◌ {A = ℕ} 0 1 = cc in absurd (omega arith)
    by_tests false true e = let z : ◌≡◌ {A = ℕ} 0 1 = cc in absurd (omega arith)
    by_tests false false e = cc

module _ (base : ℕ) (msg : List ℕ) where
  -- one node more at the end
  pub dirt-snoc : (f : Forest) (item : Item) (g : Forest)
      → dirt_of base msg (snoc f item g) ≡ dirt_of base msg f + (own_dirt base msg item + dirt_of base msg g)
  unfolding snoc
  dirt-snoc nil item g = omega (arith, dirt-node base msg item g nil, dirt-nil base msg)
  dirt-snoc (node i f rest) item g =
      omega (arith, dirt-node base msg i f (snoc rest item g), dirt-node base msg i f rest, dirt-snoc rest item g)

  -- an array has none itself
  pub array-clean : (start : ℕ) → own_dirt base msg (array_item start) ≡ 0
  unfolding class_of
  array-clean start = refl

  -- a tag whose class is not known is refused
  known-class : (tag : ℕ) (class : Class) (l : List ℕ) (p : ℕ) {item : Item} {used : ℕ} → arg.Given item used ≡ read_arg tag class base l p
      → class ≡ Unknown → ⊥
  unfolding read_arg
  known-class tag class l p {item} {used} g e =
      let r : arg.Given item used ≡ read_arg tag Unknown base l p =
      subst (λ (c : Class). arg.Given item used ≡ read_arg tag c base l p) e g in
      let z : ◌≡◌ {A = ℕ} 0 1 = cc in omega arith

  -- a message's and a bundle's kind are no tags
  no-tags : (class_of message_kind ≡ Unknown) × (class_of bundle_kind ≡ Unknown)
  unfolding class_of
  no-tags = (refl, refl)

  -- so the padding of an argument that is given is that of its class
  pub leaf-own : (tag : ℕ) (class : Class) (l : List ℕ) (p : ℕ) {item : Item} {used : ℕ} → sort_of tag ≡ Leaf class
      → arg.Given item used ≡ read_arg tag class base l p → own_padding base msg item ≡ arg_padding base msg class item
  leaf-own tag class l p {item} {used} s g =
      let k : item.kind ≡ tag = given-kind tag class base l p g in
      let c : class_of tag ≡ class = leaf-class tag s in
      let other : (x : ℕ) → class_of x ≡ Unknown → tag ≡ x → ⊥ = λ x u e. known-class tag class l p g (sym c ∙ ap class_of e ∙ u) in
      rw (k, ne_eqb tag message_kind (other message_kind no-tags.0), ne_eqb tag bundle_kind (other bundle_kind no-tags.1), c)

  -- ---- what waits below

  -- the dirt of the first n frames, with the arrays' own; the second line is never met
  abbrev waiting_dirt : ℕ → List Open → ℕ
  waiting_dirt zero b = 0
  waiting_dirt (suc n) [] = 0
  waiting_dirt (suc n) (waits f item ∷ b) = dirt_of base msg f + own_dirt base msg item + waiting_dirt n b

  -- the dirt of what is kept: where k is what the tags give, s their scan, f the frame and b what waits below it
  abbrev Weighs : Back → Scanned → Forest → List Open → Args → Type 0
  Weighs k s f b (refused fault) = Unit {0}
  Weighs k (Err fault) f b (args kept used) = ⊥
  Weighs (Uncut n c i) (Ok scanned) f b (args kept used) = dirt_of base msg kept ≡ dirt_of base msg f + waiting_dirt n b + scanned.dirty
  Weighs (Cut n c i) (Ok scanned) f b (args kept used) = dirt_of base msg kept ≤ scanned.dirty

  weighs-later : (k : Back) (s : Scanned) (f f' : Forest) (b : List Open) (o : Args) (n dirt : ℕ)
      → dirt_of base msg f' ≡ dirt_of base msg f + dirt → Weighs k s f' b o → Weighs k (more_used n dirt s) f b (later n o)
  weighs-later k s f f' b (refused fault) n dirt e w = tt
  weighs-later k (Err fault) f f' b (args kept used) n dirt e w = w
  weighs-later (Uncut m c i) (Ok scanned) f f' b (args kept used) n dirt e w = omega arith
  weighs-later (Cut m c i) (Ok scanned) f f' b (args kept used) n dirt e w = omega arith

  weighs-opens : (k : Back) (s : Scanned) (f : Forest) (start : ℕ) (b : List Open) (o : Args)
      → Weighs k s nil (waits f (array_item start) ∷ b) o → Weighs (tag_before Opens k) s f b o
  weighs-opens k s f start b (refused fault) w = tt
  weighs-opens (Uncut zero c i) (Err fault) f start b (args kept used) w = w
  weighs-opens (Uncut (suc n) c i) (Err fault) f start b (args kept used) w = w
  weighs-opens (Cut n c i) (Err fault) f start b (args kept used) w = w
  weighs-opens (Uncut zero c i) (Ok scanned) f start b (args kept used) w = omega (arith, dirt-nil base msg)
  weighs-opens (Uncut (suc n) c i) (Ok scanned) f start b (args kept used) w = omega (arith, dirt-nil base msg, array-clean start)
  weighs-opens (Cut n c i) (Ok scanned) f start b (args kept used) w = w

  weighs-closes : (k : Back) (s : Scanned) (f g : Forest) (item : Item) (b : List Open) (o : Args)
      → Weighs k s (snoc g item f) b o → Weighs (tag_before Closes k) s f (waits g item ∷ b) o
  weighs-closes k s f g item b (refused fault) w = tt
  weighs-closes (Uncut n c i) (Err fault) f g item b (args kept used) w = w
  weighs-closes (Cut n c i) (Err fault) f g item b (args kept used) w = w
  weighs-closes (Uncut n c i) (Ok scanned) f g item b (args kept used) w = omega (arith, dirt-snoc g item f)
  weighs-closes (Cut n c i) (Ok scanned) f g item b (args kept used) w = w

  weighs-leaf : (class : Class) (k : Back) (s : Scanned) (f : Forest) (b : List Open) (o : Args) → Weighs k s f b o
      → Weighs (tag_before (Leaf class) k) s f b o
  weighs-leaf class k s f b (refused fault) w = tt
  weighs-leaf class (Uncut n c i) (Err fault) f b (args kept used) w = w
  weighs-leaf class (Cut n c i) (Err fault) f b (args kept used) w = w
  weighs-leaf class (Uncut n c i) (Ok scanned) f b (args kept used) w = w
  weighs-leaf class (Cut n c i) (Ok scanned) f b (args kept used) w = w

  -- ---- the tags, one after another

  abbrev AllWeigh : List ℕ → Type 0
  AllWeigh ts =
      (l : List ℕ) (p : ℕ) (f : Forest) (b : List Open) → StandsAt msg (base + p) l
      → Weighs (back ts) (scan ts l p (length b)) f b (read_tags base ts l p f b)

  weighs-act : (s : Sort) (tag : ℕ) (ts l : List ℕ) (p : ℕ) (f : Forest) (b : List Open) → sort_of tag ≡ s → AllWeigh ts
      → StandsAt msg (base + p) l
      → Weighs (tag_before s (back ts)) (turn s (λ m q n. scan ts m q n) tag l p (length b)) f b
      (act s (λ m q f b. read_tags base ts m q f b) base tag l p f b)
  weighs-act Opens tag ts l p f b e h w =
      let below = waits f (array_item (base + p)) ∷ b in
      weighs-opens (back ts) (scan ts l p (length below)) f (base + p) b (read_tags base ts l p nil below) (h l p nil below w)
  weighs-act Closes tag ts l p f [] e h w = tt
  weighs-act Closes tag ts l p f (waits g item ∷ b) e h w =
      weighs-closes (back ts) (scan ts l p (length b)) f g item b (read_tags base ts l p (snoc g item f) b) (h l p (snoc g item f) b w)
  weighs-act (Leaf class) tag ts l p f b e h w =
      subst (λ (s : Scanned). Weighs (tag_before (Leaf class) (back ts)) (arg_passed (λ m q. scan ts m q (length b)) l p s) f b
      (arg_taken (λ m q f. read_tags base ts m q f b) l p f (read_arg tag class base l p))) (any-base tag class base 0 l p)
      (by-arg (read_arg tag class base l p) refl)
    where
      by-arg : (x : Arg) → x ≡ read_arg tag class base l p
          → Weighs (tag_before (Leaf class) (back ts)) (arg_passed (λ m q. scan ts m q (length b)) l p (used_of class l x)) f b
          (arg_taken (λ m q f. read_tags base ts m q f b) l p f x)
      by-arg (Err fault) g = tt
      by-arg (Ok given) g =
          let f' = snoc f given.item nil in
          let o = read_tags base ts (drop given.used l) (p + given.used) f' b in
          let s = scan ts (drop given.used l) (p + given.used) (length b) in
          let own : own_dirt base msg given.item ≡ non_zero (between (padding_from class given.item given.used) given.used l)
          = ap non_zero (leaf-own tag class l p e g ∙ arg-padding tag base l p msg w class g) in
          let there = stands_on base p l msg w given.used (given-within tag class base l p g) in
          weighs-leaf class (back ts) (more_used given.used _ s) f b (later given.used o)
          (weighs-later (back ts) s f f' b o given.used (non_zero (between (padding_from class given.item given.used) given.used l))
          (omega (arith, dirt-snoc f given.item nil, dirt-nil base msg, own)) (h (drop given.used l) (p + given.used) f' b there))

  all-weigh : (ts : List ℕ) → AllWeigh ts
  unfolding read_tags scan back
  all-weigh [] l p f b w = omega arith
  all-weigh (t ∷ ts) l p f b w = weighs-act (sort_of t) t ts l p f b refl (all-weigh ts) w

  none-waits : (n : ℕ) → waiting_dirt n [] ≡ 0
  none-waits zero = refl
  none-waits (suc n) = refl

  module _ {used dirty : ℕ} (ts l : List ℕ) (p : ℕ) (w : StandsAt msg (base + p) l) (e : Used used dirty ≡ scan ts l p 0) where
    -- where every array is closed, the scan's dirt is that of what is kept
    pub closed-dirt : AllClosed (back ts) → dirty ≡ dirt_of base msg (kept_of (read_args base ts l p))
    closed-dirt a =
        by_all (back ts) (scan ts l p 0) (read_args base ts l p) a e (scan-accepted base ts l p e) (all-weigh ts l p nil [] w)
      where
        by_all : (k : Back) (s : Scanned) (o : Args) → AllClosed k → Used used dirty ≡ s → ArgsAccepted o → Weighs k s nil [] o
            → dirty ≡ dirt_of base msg (kept_of o)
        by_all k s (refused fault) a e v h = absurd v
        by_all (Uncut n c i) (Ok scanned) (args kept x) a e v h =
            let z : dirty ≡ scanned.dirty = (args-are e).1 in omega (arith, none-waits n, dirt-nil base msg)
        by_all (Cut n c i) (Ok scanned) (args kept x) a e v h = absurd a
        by_all k (Err fault) (args kept x) a e v h = absurd h

    -- where one stays open, it is no less
    pub cut-dirt : {n c i : ℕ} → Cut n c i ≡ back ts → dirt_of base msg (kept_of (read_args base ts l p)) ≤ dirty
    cut-dirt {n} {c} {i} a =
        by_all (back ts) (scan ts l p 0) (read_args base ts l p) a e (scan-accepted base ts l p e) (all-weigh ts l p nil [] w)
      where
        by_all : (k : Back) (s : Scanned) (o : Args) → Cut n c i ≡ k → Used used dirty ≡ s → ArgsAccepted o → Weighs k s nil [] o
            → dirt_of base msg (kept_of o) ≤ dirty
        by_all k s (refused fault) a e v h = absurd v
        by_all (Uncut m d j) (Ok scanned) (args kept y) a e v h = absurd (clash (sym a))
        by_all (Cut m d j) (Ok scanned) (args kept y) a e v h = let z : dirty ≡ scanned.dirty = (args-are e).1 in omega (arith, h)
        by_all k (Err fault) (args kept y) a e v h = absurd h

measured-clean : {count deep used dirty : ℕ} (base : ℕ) (msg : List ℕ) (o : Args)
    → measure.Kept count deep used dirty ≡ measured (dirt_of base msg) o → dirty ≤ 6 * count
unfolding measured
measured-clean base msg (refused fault) e = let z : ◌≡◌ {A = ℕ} 0 1 = cc in absurd (omega arith)
measured-clean {count} {deep} {used} {dirty} base msg (args kept u) e =
    let z = measured-are e in
    omega (arith, dirt-few base msg kept, z.count, z.dirty)

-- what a caller knows by the first reading: no more records than tags, no more bytes than there are, and at most 6 dirty bytes to a record
pub measured-bounds : {count deep used dirty : ℕ} (ts l : List ℕ) (p : ℕ)
    → ((base : ℕ) (msg : List ℕ) → StandsAt msg (base + p) l
    → measure.Kept count deep used dirty ≡ measured (dirt_of base msg) (read_args base ts l p))
    → (count ≤ length ts) × (used ≤ length l) × (dirty ≤ 6 * count)
measured-bounds ts l p e =
    let g = e 0 (replicate (0 + p) 0 ++ l) (stands-somewhere (0 + p) l) in
    let w = measured-within _ 0 ts l p g in
    (w.0, w.1, measured-clean 0 _ (read_args 0 ts l p) g)
