-- Arguments that OSC 1.0 spells, read: they are the forest that stands for them.
use mathlib.Core.Path.{◌≡◌, refl, sym, ap, ◌∙◌}
use mathlib.Core.List.{List, [], ◌∷◌, ◌++◌, append_assoc, append-nil}
use Prim.Native.Nat.{ℕ, ◌+◌, ◌%◌, ◌^◌, ◌<◌}
use native.Mathlib.Omega.{arith}
use lib.ListN.{length, drop, length-append}
use lib.Seq.{drop_at}
use Rattle.node.specs.Forest.{Forest, nil, node, snoc}
use Rattle.node.specs.Tags.{array_kind, sort_of}
use Rattle.node.specs.declared.record.Item.{Item}
use Rattle.argument.specs.Argument.{read_arg}
use Rattle.arguments.specs.Arguments.{args, later, array_item, Open, waits, read_tags}
use Rattle.argument.specs.Results.{Given}
use Rattle.osc10.specs.Osc10.{Atom, OscArguments, end, atom, array, AtomAllowed, ArgumentsAllowed, tag_of, tags_of, ArgumentsSpell}
use Rattle.osc10.specs.Osc10.{no_argument, one_atom, one_array, ArgumentsAre, no_node, leaf, branch}
use Rattle.arguments.proofs.Kept.{later-none, later-later}
use Rattle.osc10.proofs.Placed.{At, at_front, at_next}
use Rattle.osc10.proofs.Parts.{atom-even, AtomRead, atom-read}
use Rattle.osc10.proofs.Tags.{class_is, atom-sort}

-- ---- one forest after another

-- trees side by side: the nodes of the first forest, and then those of the second
unfoldable pub join : Forest → Forest → Forest
join nil g = g
join (node item f rest) g = node item f (join rest g)

join-snoc : (f g : Forest) (item : Item) (i : Forest) → join (snoc f item i) g ≡ join f (node item i g)
unfolding join snoc
join-snoc nil g item i = refl
join-snoc (node item' i' r) g item i = ap (node item' i') (join-snoc r g item i)

-- no trees after others change nothing
pub join-end : (f : Forest) → join f nil ≡ f
unfolding join
join-end nil = refl
join-end (node item i r) = ap (node item i) (join-end r)

join-nil : (f : Forest) → join nil f ≡ f
unfolding join
join-nil f = refl

-- ---- what a tag does
module _ (base : ℕ) (ts l : List ℕ) (p : ℕ) (frame : Forest) (below : List Open) where
  -- '[' lets the frame wait, and opens an empty one
  pub read-opens : read_tags base (array_kind ∷ ts) l p frame below ≡ read_tags base ts l p nil (waits frame (array_item (base + p)) ∷ below)
  unfolding read_tags sort_of
  read-opens = refl

  -- ']' puts the frame as an array at the end of the one that waits
  pub read-closes : (outer : Forest) (item : Item)
      → read_tags base (93 ∷ ts) l p frame (waits outer item ∷ below) ≡ read_tags base ts l p (snoc outer item frame) below
  unfolding read_tags sort_of
  read-closes outer item = refl

  -- the tag of an argument that is no array takes its data
  pub read-atom : (v : Atom) {item : Item} {used : ℕ} → AtomAllowed v → Given item used ≡ read_arg (tag_of v) (class_is v) base l p
      → read_tags base (tag_of v ∷ ts) l p frame below ≡ later used (read_tags base ts (drop used l) (p + used) (snoc frame item nil) below)
  unfolding read_tags
  read-atom v h e = rw (atom-sort v h, ← e)

-- data is a multiple of 4 bytes
pub arguments-even : {A : OscArguments} {d : List ℕ} → ArgumentsSpell A d → length d % 4 ≡ 0
arguments-even no_argument = refl
arguments-even (one_atom {x = x} {y = y} w r) = omega (arith, length-append x y, atom-even w, arguments-even r)
arguments-even (one_array {x = x} {y = y} i r) = omega (arith, length-append x y, arguments-even i, arguments-even r)

-- the tags of A and its data, before other tags and bytes: the frame goes on with a forest that stands for A
record ArgsRead (s : List ℕ) (base : ℕ) (A : OscArguments) (d ts more : List ℕ) (p : ℕ) (frame : Forest) (below : List Open)
    : Type 0 where
  forest : Forest
  stands : ArgumentsAre s A forest
  read : read_tags base (tags_of A ++ ts) (d ++ more) p frame below ≡ later (length d)
      (read_tags base ts more (p + length d) (join frame forest) below)

-- the same after n bytes
after-bytes : {s : List ℕ} {base : ℕ} {A : OscArguments} {d ts more : List ℕ} {p : ℕ} {frame : Forest} {below : List Open} (n : ℕ)
    (R : ArgsRead s base A d ts more p frame below)
    → later n (read_tags base (tags_of A ++ ts) (d ++ more) p frame below) ≡ later (n + length d)
    (read_tags base ts more (p + length d) (join frame R.forest) below)
after-bytes n R = ap (later n) R.read ∙ later-later n _ (read_tags _ _ _ _ (join _ R.forest) _)

-- positions after two parts
sum : (p : ℕ) (x y : List ℕ) → p + length (x ++ y) ≡ p + length x + length y
sum p x y = omega (arith, length-append x y)

module _ {s : List ℕ} {base : ℕ} {rest : OscArguments} {x y ts more : List ℕ} {p : ℕ} {frame : Forest} {below : List Open} where
  -- an argument that is no array, then others
  after-atom : (v : Atom) → AtomAllowed v → (u : AtomRead s base v x (x ++ (y ++ more)) p)
      → ArgsRead s base rest y ts more (p + length x) (snoc frame u.item nil) below
      → ArgsRead s base (atom v rest) (x ++ y) ts more p frame below
  unfolding tags_of
  after-atom v h u R =
      record {
        forest = node u.item nil R.forest;
        stands = leaf u.is R.stands;
        read =
            rw (append_assoc x y more, sum p x y, length-append x y, ← join-snoc)
            (read-atom base (tags_of rest ++ ts) (x ++ (y ++ more)) p frame below v h u.given
            ∙ rw (drop_at x (y ++ more) (length x) refl) (after-bytes (length x) R));
      }

  -- an array, then others
  after-array : {within : OscArguments}
      (I : ArgsRead s base within x (93 ∷ (tags_of rest ++ ts)) (y ++ more) p nil (waits frame (array_item (base + p)) ∷ below))
      → ArgsRead s base rest y ts more (p + length x) (snoc frame (array_item (base + p)) I.forest) below
      → ArgsRead s base (array within rest) (x ++ y) ts more p frame below
  unfolding tags_of
  after-array {within} I R =
      let array = array_item (base + p) in
      let close : read_tags base (93 ∷ (tags_of rest ++ ts)) (y ++ more) (p + length x) (join nil I.forest) (waits frame array ∷ below)
      ≡ read_tags base (tags_of rest ++ ts) (y ++ more) (p + length x) (snoc frame array I.forest) below
      = rw join-nil (read-closes base (tags_of rest ++ ts) (y ++ more) (p + length x) I.forest below frame array) in
      record {
        forest = node array I.forest R.forest;
        stands = branch (record { kind = refl; first = refl; second = refl }) I.stands R.stands;
        read =
            rw (append_assoc (tags_of within) (93 ∷ tags_of rest) ts, append_assoc x y more, sum p x y, length-append x y, ← join-snoc)
            (read-opens base _ (x ++ (y ++ more)) p frame below
            ∙ I.read
            ∙ ap (later (length x)) close
            ∙ after-bytes (length x) R);
      }

module _ (s : List ℕ) (base : ℕ) where
  args_read : (A : OscArguments) {d : List ℕ} → ArgumentsSpell A d → ArgumentsAllowed A
      → (ts more : List ℕ) (p : ℕ) (frame : Forest) (below : List Open)
      → p % 4 ≡ 0 → At s (base + p) d → length d < 256 ^ 4 → ArgsRead s base A d ts more p frame below
  unfolding ArgumentsAllowed tags_of
  args_read end no_argument h ts more p frame below z at low =
      let e : p + 0 ≡ p = omega arith in
      record { forest = nil; stands = no_node; read = rw (e, join-end frame) (sym (later-none _)) }
  args_read (atom v rest) (one_atom {x = x} {y = y} w r) h ts more p frame below z at low =
      let n = length-append x y in
      let u = atom-read s base w h.0 (y ++ more) p z (at_front x y at) (omega arith) in
      after-atom v h.0 u
      (args_read rest r h.1 ts more (p + length x) (snoc frame u.item nil) below (omega (arith, atom-even w))
      (at_next base p x y at) (omega arith))
  args_read (array within rest) (one_array {x = x} {y = y} i r) h ts more p frame below z at low =
      let n = length-append x y in
      let array = array_item (base + p) in
      let I = args_read within i h.0 (93 ∷ (tags_of rest ++ ts)) (y ++ more) p nil (waits frame array ∷ below) z (at_front x y at)
      (omega arith) in
      after-array I (args_read rest r h.1 ts more (p + length x) (snoc frame array I.forest) below
      (omega (arith, arguments-even i)) (at_next base p x y at) (omega arith))

  -- the arguments of a message, whole
  pub record Argued (A : OscArguments) (d : List ℕ) (p : ℕ) : Type 0 where
    pub forest : Forest
    pub stands : ArgumentsAre s A forest
    pub read : read_tags base (tags_of A) d p nil [] ≡ args forest (length d)

  -- arguments that their bytes spell are read as a forest that stands for them
  pub arguments-read : (A : OscArguments) {d : List ℕ} → ArgumentsSpell A d → ArgumentsAllowed A → (p : ℕ) → p % 4 ≡ 0
      → At s (base + p) d → length d < 256 ^ 4
      → Argued A d p
  unfolding read_tags
  arguments-read A {d} w h p z at low =
      let r = args_read A w h [] [] p nil [] z at low in
      let e : length d + 0 ≡ length d = omega arith in
      record { forest = r.forest; stands = r.stands; read = (simp append-nil at r.read) ∙ rw (join-nil, e) }
