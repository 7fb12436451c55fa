-- The backward scan finds how deep arrays are nested in what is kept: each '[' that is closed stands one level below those around it.
use mathlib.Core.Path.{◌≡◌, refl, sym, ◌∙◌, subst}
use mathlib.Core.Bool.{false}
use mathlib.Core.Logic.{⊎_elim}
use mathlib.Core.List.{List, [], ◌∷◌}
use Prim.Native.Nat.{ℕ, zero, suc, ◌+◌, ◌≤◌, max}
use native.Mathlib.Omega.{arith}
use borrow.Author.Tests.{ne_eqb}
use lib.ListN.{drop}
use Rattle.wire.proofs.Choices.{is-or}
use Rattle.node.specs.Forest.{Forest, nil, is_level, level, depth, snoc}
use Rattle.node.specs.Tags.{bundle_kind, array_kind, class_of, sort_of}
use Rattle.node.specs.declared.record.Item.{Item}
use Rattle.node.specs.declared.tags.Class.{Class}
use Rattle.node.specs.declared.tags.Class.TheVariants.{Unknown}
use Rattle.node.specs.declared.tags.Sort.{Sort}
use Rattle.node.specs.declared.tags.Sort.TheVariants.{Opens, Closes, Leaf}
use Rattle.node.proofs.Forests.{depth-snoc}
use Rattle.argument.specs.Argument.{read_arg}
use Rattle.argument.specs.Results.{Arg}
use Rattle.std.specs.Prelude.{Err, Ok}
use Rattle.argument.specs.Results as arg
use Rattle.argument.proofs.Within.{given-kind}
use Rattle.arguments.specs.Arguments.{Args, refused, args, later, arg_taken, Open, waits, array_item, act, read_tags, read_args}
use Rattle.arguments.specs.CodeReadings.{ArgsAccepted}
use Rattle.scan.specs.CodeScans.{tag_before, back}
use Rattle.scan.specs.declared.Back.{Back}
use Rattle.scan.specs.declared.Back.TheVariants.{Uncut, Cut}
use Rattle.arguments.proofs.Kept.{Deep, deep-law}

-- ---- frames that are closed

-- what waits is arrays
abbrev Arrays : List Open → Type 0
Arrays [] = Unit {0}
Arrays (waits f item ∷ b) = (item.kind ≡ array_kind) × Arrays b

-- the frame after n arrays more are closed; where none waits, one that held nothing else is closed
abbrev shut : ℕ → Forest → List Open → Forest
shut zero f b = f
shut (suc n) f [] = shut n (snoc nil (array_item 0) f) []
shut (suc n) f (waits g item ∷ b) = shut n (snoc g item f) b

array-level : {kind : ℕ} (d : ℕ) → kind ≡ array_kind → level kind d ≡ d + 1
array-level d e = rw e

-- a node at the end of the frame stands n levels below the frame that is left
shut-snoc : (n : ℕ) (f : Forest) (item : Item) (g : Forest) (b : List Open) → Arrays b
    → depth (shut n (snoc f item g) b) ≡ max (depth (shut n f b)) (n + level item.kind (depth g))
shut-snoc zero f item g b w = depth-snoc f item g ∙ omega arith
shut-snoc (suc n) f item g [] w =
    omega (arith, shut-snoc n nil (array_item 0) (snoc f item g) [] tt, shut-snoc n nil (array_item 0) f [] tt, depth-snoc f item g)
shut-snoc (suc n) f item g (waits o i ∷ b) w =
    omega (
      arith,
      shut-snoc n o i (snoc f item g) b w.1,
      shut-snoc n o i f b w.1,
      array-level (depth (snoc f item g)) w.0,
      array-level (depth f) w.0,
      depth-snoc f item g,
    )

-- it is at least n levels deep
shut-deep : (n : ℕ) (f : Forest) (b : List Open) → Arrays b → n ≤ depth (shut n f b)
shut-deep zero f b w = omega arith
shut-deep (suc n) f [] w = omega (arith, shut-snoc n nil (array_item 0) f [] tt)
shut-deep (suc n) f (waits o i ∷ b) w = omega (arith, shut-snoc n o i f b w.1, array-level (depth f) w.0)

-- ---- the backward scan

-- how deep arrays are nested in what is kept, where k is what later tags give, f the frame and b what waits below it
abbrev reached : Back → Forest → List Open → ℕ
reached (Cut n c d) f b = d
reached (Uncut n c d) f b = max d (depth (shut n f b))

-- what is kept is n levels deep, unless the arguments are refused
abbrev pub Nested : ℕ → Args → Type 0
Nested n (refused fault) = Unit {0}
Nested n (args kept used) = depth kept ≡ n

nested-later : (n used : ℕ) (o : Args) → Nested n o → Nested n (later used o)
nested-later n used (refused fault) w = tt
nested-later n used (args kept used') w = w

reached-opens : (k : Back) (f : Forest) (start : ℕ) (b : List Open) → Arrays b
    → reached k nil (waits f (array_item start) ∷ b) ≡ reached (tag_before Opens k) f b
unfolding depth
reached-opens (Cut n c d) f start b w = refl
reached-opens (Uncut zero c d) f start b w = omega arith
reached-opens (Uncut (suc n) c d) f start b w = omega (arith, shut-snoc n f (array_item start) nil b w)

reached-closes : (k : Back) (f g : Forest) (item : Item) (b : List Open)
    → reached k (snoc g item f) b ≡ reached (tag_before Closes k) f (waits g item ∷ b)
reached-closes (Cut n c d) f g item b = refl
reached-closes (Uncut n c d) f g item b = refl

reached-leaf : (class : Class) (k : Back) (f : Forest) (b : List Open) (item : Item) → Arrays b
    → is_level item.kind ≡ false
    → reached k (snoc f item nil) b ≡ reached (tag_before (Leaf class) k) f b
unfolding depth
reached-leaf class (Cut n c d) f b item w e = refl
reached-leaf class (Uncut n c d) f b item w e =
    let flat : level item.kind 0 ≡ 0 = rw e in
    omega (arith, shut-snoc n f item nil b w, shut-deep n f b w, flat)

-- an argument that is given is no level: its tag is neither '[' nor '#', which is no tag
leaf-flat : (tag : ℕ) (class : Class) (base : ℕ) (l : List ℕ) (p : ℕ) {item : Item} {used : ℕ} → sort_of tag ≡ Leaf class
    → arg.Given item used ≡ read_arg tag class base l p → is_level item.kind ≡ false
unfolding sort_of class_of read_arg
leaf-flat tag class base l p {item} {used} s g =
    rw (given-kind tag class base l p g)
    (⊎_elim (λ (e : tag ≡ bundle_kind). absurd (no-hash (rw e at s)))
    (λ (a : tag ≡ bundle_kind → ⊥). ⊎_elim (λ (e : tag ≡ array_kind). absurd (no-array (rw e at s)))
    (λ (c : tag ≡ array_kind → ⊥). rw (ne_eqb tag bundle_kind a, ne_eqb tag array_kind c)) (is-or tag array_kind)) (is-or tag bundle_kind))
  where
    no-array : sort_of array_kind ≡ Leaf class → ⊥
    no-array e = let z : ◌≡◌ {A = ℕ} 0 1 = cc in omega arith

    no-hash : sort_of bundle_kind ≡ Leaf class → ⊥
    no-hash e =
        let u : Unknown ≡ class = cc in
        let r : arg.Given item used ≡ read_arg tag Unknown base l p =
        subst (λ (c : Class). arg.Given item used ≡ read_arg tag c base l p) (sym u) g in
        let z : ◌≡◌ {A = ℕ} 0 1 = cc in omega arith

nested-act : (s : Sort) (k : Back) (go : List ℕ → ℕ → Forest → List Open → Args) (base tag : ℕ) (l : List ℕ) (p : ℕ) (frame : Forest)
    (below : List Open) → sort_of tag ≡ s → Arrays below
    → ((m : List ℕ) (q : ℕ) (f : Forest) (b : List Open) → Arrays b → Nested (reached k f b) (go m q f b))
    → Nested (reached (tag_before s k) frame below) (act s go base tag l p frame below)
nested-act Opens k go base tag l p frame below s w h =
    rw (reached-opens k frame (base + p) below w) at (h l p nil (waits frame (array_item (base + p)) ∷ below) (refl, w))
nested-act Closes k go base tag l p frame [] s w h = tt
nested-act Closes k go base tag l p frame (waits outer item ∷ below) s w h =
    rw (reached-closes k frame outer item below) at (h l p (snoc outer item frame) below w.1)
nested-act (Leaf class) k go base tag l p frame below s w h = by-arg (read_arg tag class base l p) refl
  where
    by-arg : (x : Arg) → x ≡ read_arg tag class base l p
        → Nested (reached (tag_before (Leaf class) k) frame below) (arg_taken (λ m q f. go m q f below) l p frame x)
    by-arg (Err fault) g = tt
    by-arg (Ok given) g =
        let f = snoc frame given.item nil in
        nested-later (reached (tag_before (Leaf class) k) frame below) given.used (go (drop given.used l) (p + given.used) f below)
        (rw (reached-leaf class k frame below given.item w (leaf-flat tag class base l p s g)) at (h (drop given.used l) (p + given.used) f below w))

nested-law : (base : ℕ) (ts l : List ℕ) (p : ℕ) (frame : Forest) (below : List Open) → Arrays below
    → Nested (reached (back ts) frame below) (read_tags base ts l p frame below)
unfolding read_tags back
nested-law base [] l p frame below w = omega arith
nested-law base (t ∷ ts) l p frame below w =
    nested-act (sort_of t) (back ts) _ base t l p frame below refl w (λ m q f b v. nested-law base ts m q f b v)

-- how deep arrays are nested, if nothing is read yet
abbrev pub nesting : Back → ℕ
nesting (Uncut n c d) = d
nesting (Cut n c d) = d

reached-none : (k : Back) → Deep k 0 → reached k nil [] ≡ nesting k
unfolding depth
reached-none (Cut n c d) w = refl
reached-none (Uncut zero c d) w = omega arith
reached-none (Uncut (suc n) c d) w = absurd (omega arith)

-- the backward scan finds how deep arrays are nested in what is kept
pub args-nested : (base : ℕ) (ts l : List ℕ) (p : ℕ) → Nested (nesting (back ts)) (read_args base ts l p)
args-nested base ts l p = by_out (read_args base ts l p) (deep-law base ts l p nil []) (nested-law base ts l p nil [] tt)
  where
    by_out : (o : Args) → (ArgsAccepted o → Deep (back ts) 0) → Nested (reached (back ts) nil []) o → Nested (nesting (back ts)) o
    by_out (refused fault) d w = tt
    by_out (args kept used) d w = w ∙ reached-none (back ts) (d tt)
