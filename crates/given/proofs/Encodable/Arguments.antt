-- What is read is sound: every argument that a message is read to have obeys the rules of a well-formed table, and its fields
-- fit.
use mathlib.Core.Path.{◌≡◌, refl, sym, ap, subst, ◌∙◌}
use mathlib.Core.Bool.{Bool, true, false}
use mathlib.Core.List.{List, [], ◌∷◌}
use Prim.Native.Nat.{ℕ, ◌+◌, ◌^◌, ◌≤◌, ◌<◌}
use native.Mathlib.Omega.{arith}
use borrow.Author.Tests.{le-leb}
use lib.ListN.{length, take, drop}
use lib.Seq.{length-take-le}
use Rattle.wire.specs.Number.{number}
use Rattle.wire.specs.Part.{part}
use Rattle.utf8.specs.Derive.{utf8}
use Rattle.node.specs.Forest.{Forest, nil, node, snoc}
use Rattle.node.specs.Tags.{message_kind, bundle_kind, array_kind, among, is_scalar, class_of, sort_of}
use Rattle.node.specs.Rules.{leaf_rules, is_packet, own_rules}
use Rattle.node.specs.declared.record.Item.{Item}
use Rattle.node.specs.declared.tags.Class.{Class}
use Rattle.node.specs.declared.tags.Class.TheVariants.{Four, Eight, Bare, Text as String, Blob, Scalar, Unknown}
use Rattle.node.specs.declared.tags.Sort.{Sort}
use Rattle.node.specs.declared.tags.Sort.TheVariants.{Opens, Closes, Leaf}
use Rattle.text.specs.Text.{reach, read_text}
use Rattle.argument.specs.Results.{Arg}
use Rattle.std.specs.Prelude.{Err, Ok}
use Rattle.text.specs.Results.{Text}
use Rattle.argument.specs.Results as arg
use Rattle.argument.specs.Argument.{arg_item, text_arg, read_arg}
use Rattle.arguments.specs.Arguments.{Args, refused, args, later, arg_taken, array_item, Open, waits, act, read_tags, read_args}
use Rattle.table.specs.Formed.{range_ok, allowed}
use Rattle.table.specs.Tree.{Obeys, FieldsFit}
use Rattle.osc10.specs.Words.{Bytes}
use Rattle.osc10.specs.Osc10.{words, longs, bares}
use Rattle.wire.proofs.Choices.{by-test, by_le}
use Rattle.argument.proofs.Within.{given-within, given-kind, given-fits}
use Rattle.text.proofs.Within.{found_in}
use Rattle.osc10.proofs.Placed.{At, at_take, at_on, at-bytes, range_at}
use Rattle.osc10.proofs.Tags.{of-among, HasTag, HasSort, has-sort}

-- ---- forests that obey the rules, and whose fields fit

-- the nodes of a container obey the rules of a well-formed table, and their numbers fit a record
pub record SoundIn (s : List ℕ) (container : ℕ) (F : Forest) : Type 0 where
  pub obeys : Obeys s container F
  pub fits : FieldsFit F

-- one node's own share
pub record NodeSound (s : List ℕ) (container : ℕ) (item : Item) (inside : Forest) : Type 0 where
  pub rules : own_rules item ≡ true
  pub range : range_ok s item ≡ true
  pub may : allowed container item.kind ≡ true
  pub low : (item.a < 256 ^ 4) × (item.b < 256 ^ 4) × (item.start < 256 ^ 4)
  pub in-sound : SoundIn s item.kind inside

module _ {s : List ℕ} {container : ℕ} where
  -- an empty forest does
  pub sound-nil : SoundIn s container nil
  unfolding Obeys FieldsFit
  sound-nil = record { obeys = tt; fits = tt }

  -- a node and those after it do, where each does
  pub sound-node : {item : Item} {f g : Forest} → NodeSound s container item f → SoundIn s container g → SoundIn s container (node item f g)
  unfolding Obeys FieldsFit
  sound-node n r =
      record {
        obeys = (n.rules, n.range, n.may, n.in-sound.obeys, r.obeys);
        fits = (n.low.0, n.low.1, n.low.2, n.in-sound.fits, r.fits);
      }

  sound-snoc : (F : Forest) {item : Item} {f : Forest} → NodeSound s container item f → SoundIn s container F
      → SoundIn s container (snoc F item f)
  unfolding Obeys FieldsFit snoc
  sound-snoc nil n w = sound-node n w
  sound-snoc (node item' f' rest) n w =
      let r = sound-snoc rest n (record { obeys = w.obeys.4; fits = w.fits.4 }) in
      record {
        obeys = (w.obeys.0, w.obeys.1, w.obeys.2, w.obeys.3, r.obeys);
        fits = (w.fits.0, w.fits.1, w.fits.2, w.fits.3, r.fits);
      }

-- what may stand in an array may stand in a message
in-message : {s : List ℕ} (F : Forest) → SoundIn s array_kind F → SoundIn s message_kind F
unfolding Obeys FieldsFit allowed
in-message nil w = record { obeys = tt; fits = tt }
in-message (node item f rest) w =
    let r = in-message rest (record { obeys = w.obeys.4; fits = w.fits.4 }) in
    record {
      obeys = (w.obeys.0, w.obeys.1, w.obeys.2, w.obeys.3, r.obeys);
      fits = (w.fits.0, w.fits.1, w.fits.2, w.fits.3, r.fits);
    }

-- ---- one argument

-- the rules of an argument that was read
abbrev LeafSound : List ℕ → Class → Arg → Type 0
LeafSound s class (Ok given) = (leaf_rules class given.item ≡ true) × (range_ok s given.item ≡ true)
LeafSound s class (Err k) = Unit {0}

-- a text that was found is one of the source
pub text-range : {s l : List ℕ} {q n : ℕ} (tag : ℕ) → among tag (message_kind ∷ 115 ∷ []) ≡ true → At s q l → n ≤ length l
    → utf8 (take n l) ≡ true → range_ok s (arg_item tag q q n) ≡ true
unfolding range_ok
text-range {s} {l} {q} {n} tag t at h v =
    let e : length (take n l) ≡ n = length-take-le n l h in
    let r = range_at (at_take n at) in
    let g : part s q n ≡ take n l = rw e at r.holds in
    rw (t, le-leb (q + n) (length s) (rw e at r.lies), g, v)

module _ {s : List ℕ} (base : ℕ) {l : List ℕ} (p : ℕ) (at : At s (base + p) l) where
  leaf-sound : (class : Class) (tag : ℕ) → HasTag tag class → LeafSound s class (read_arg tag class base l p)
  unfolding read_arg range_ok
  leaf-sound Four tag t =
      by_le (LeafSound s Four) 4 (length l)
      (λ _. (refl, of-among (λ k. range_ok s (arg_item k (base + p) (number 4 l) 0) ≡ true) tag words (refl, (refl, (refl, (refl, tt)))) t))
      (λ _. tt)
  leaf-sound Eight tag t =
      by_le (LeafSound s Eight) 8 (length l)
      (λ _. (
        refl,
        of-among (λ k. range_ok s (arg_item k (base + p) (number 4 l) (number 4 (drop 4 l))) ≡ true) tag longs
            (refl, (refl, (refl, tt))) t,
      ))
      (λ _. tt)
  leaf-sound Bare tag t = (refl, of-among (λ k. range_ok s (arg_item k (base + p) 0 0) ≡ true) tag bares (refl, (refl, (refl, (refl, tt)))) t)
  leaf-sound String tag t = by-text (read_text l p) refl
    where
      by-text : (x : Text) → x ≡ read_text l p → LeafSound s String (text_arg tag (base + p) p x)
      by-text (Ok text) e =
          let w = found_in l p e in
          (refl, text-range tag (ap (λ (k : ℕ). among k (message_kind ∷ 115 ∷ [])) t) at (omega arith) w.2)
      by-text (Err k) e = tt
  leaf-sound Blob tag t =
      let n = number 4 l in
      by_le (LeafSound s Blob) 4 (length l)
      (λ h. by_le (LeafSound s Blob) (4 + n) (length l)
      (λ j. by_le (LeafSound s Blob) (reach p (4 + n)) (length l)
      (λ k. (refl, rw (t, le-leb (base + (p + 4) + n) (length s) (omega (arith, at.within)))))
      (λ _. tt))
      (λ _. tt))
      (λ _. tt)
  leaf-sound Scalar tag t =
      by_le (LeafSound s Scalar) 4 (length l)
      (λ _. by-test (LeafSound s Scalar) (is_scalar (number 4 l)) (λ e. (e, rw t refl)) (λ _. tt)) (λ _. tt)
  leaf-sound Unknown tag t = tt

-- a tag with data is no packet's kind
not-packet : (tag : ℕ) (class : Class) → sort_of tag ≡ Leaf class → (class ≡ Unknown → ⊥) → is_packet tag ≡ false
unfolding sort_of class_of
not-packet tag class e n = go (is_packet tag) refl
  where
    unknown : is_packet tag ≡ true → Leaf class ≡ Leaf Unknown
    unknown h = sym e ∙ of-among (λ k. sort_of k ≡ Leaf Unknown) tag (bundle_kind ∷ message_kind ∷ []) (refl, (refl, tt)) h

    go : (t : Bool) → is_packet tag ≡ t → t ≡ false
    go true h = let q = unknown h in absurd (n (cc))
    go false h = refl

-- ---- frames, and what is kept of them

-- an array that is open: what it and the frame that waits for it may hold
abbrev OpenSound : List ℕ → Open → Type 0
OpenSound s (waits outer item) = SoundIn s array_kind outer × ((f : Forest) → SoundIn s array_kind f → NodeSound s array_kind item f)

abbrev AllSound : List ℕ → List Open → Type 0
AllSound s [] = Unit {0}
AllSound s (o ∷ os) = OpenSound s o × AllSound s os

abbrev ArgsSound : List ℕ → Args → Type 0
ArgsSound s (refused k) = Unit {0}
ArgsSound s (args f used) = SoundIn s array_kind f

later-sound : (s : List ℕ) (n : ℕ) (o : Args) → ArgsSound s o → ArgsSound s (later n o)
later-sound s n (refused k) w = tt
later-sound s n (args f used) w = w

module _ {s : List ℕ} (small : Bytes s) (low : length s < 256 ^ 4) (base : ℕ) where
  -- an argument that was read may stand in an array
  leaf-node : {l : List ℕ} (p : ℕ) → At s (base + p) l → (class : Class) (tag : ℕ) → sort_of tag ≡ Leaf class → HasTag tag class
      → {item : Item} {used : ℕ} → arg.Given item used ≡ read_arg tag class base l p → NodeSound s array_kind item nil
  unfolding own_rules allowed read_arg
  leaf-node {l} p at class tag e t {item} {used} g =
      let w : LeafSound s class (arg.Given item used) = rw (← g) at (leaf-sound base p at class tag t) in
      let k : item.kind ≡ tag = given-kind tag class base l p g in
      let n : is_packet item.kind ≡ false = ap is_packet k ∙ not-packet tag class e (λ q. refused (rw q at g)) in
      let f : sort_of item.kind ≡ Leaf class = ap sort_of k ∙ e in
      record {
        rules = rw (n, f) w.0;
        range = w.1;
        may = rw n;
        low = given-fits tag class base l p g (at-bytes small at) (omega (arith, at.within));
        in-sound = sound-nil;
      }
    where
      refused : arg.Given item used ≡ read_arg tag Unknown base l p → ⊥
      refused q = let z : ◌≡◌ {A = ℕ} 0 1 = cc in omega arith

  array-node : {l : List ℕ} (p : ℕ) → At s (base + p) l → (F : Forest) → SoundIn s array_kind F
      → NodeSound s array_kind (array_item (base + p)) F
  unfolding own_rules range_ok allowed sort_of
  array-node p at F w = record
      { rules = refl; range = refl; may = refl; low = (omega arith, omega arith, omega (arith, at.within)); in-sound = w }

  -- ---- the arguments of a message

  act-sound : (sort : Sort) (tag : ℕ) → sort_of tag ≡ sort → HasSort tag sort
      → (go : List ℕ → ℕ → Forest → List Open → Args) {l : List ℕ} (p : ℕ) (frame : Forest) (below : List Open)
      → At s (base + p) l → SoundIn s array_kind frame → AllSound s below
      → ((m : List ℕ) (q : ℕ) (f : Forest) (b : List Open) → At s (base + q) m → SoundIn s array_kind f → AllSound s b
      → ArgsSound s (go m q f b))
      → ArgsSound s (act sort go base tag l p frame below)
  act-sound Opens tag e t go {l} p frame below at w v h =
      h l p nil (waits frame (array_item (base + p)) ∷ below) at sound-nil ((w, array-node p at), v)
  act-sound Closes tag e t go p frame [] at w v h = tt
  act-sound Closes tag e t go {l} p frame (waits outer item ∷ below) at w v h =
      h l p (snoc outer item frame) below at (sound-snoc outer (v.0.1 frame w) v.0.0) v.1
  act-sound (Leaf class) tag e t go {l} p frame below at w v h = by-arg (read_arg tag class base l p) refl
    where
      by-arg : (x : Arg) → x ≡ read_arg tag class base l p → ArgsSound s (arg_taken (λ m q f. go m q f below) l p frame x)
      by-arg (Err k) g = tt
      by-arg (Ok given) g =
          let n = given-within tag class base l p g in
          later-sound s given.used (go (drop given.used l) (p + given.used) (snoc frame given.item nil) below)
          (h (drop given.used l) (p + given.used) (snoc frame given.item nil) below (at_on base p given.used n at)
          (sound-snoc frame (leaf-node p at class tag e t.1 g) w) v)

  read-sound : (ts : List ℕ) {l : List ℕ} (p : ℕ) (frame : Forest) (below : List Open) → At s (base + p) l → SoundIn s array_kind frame
      → AllSound s below
      → ArgsSound s (read_tags base ts l p frame below)
  unfolding read_tags
  read-sound [] p frame below at w v = w
  read-sound (t ∷ ts) p frame below at w v =
      act-sound (sort_of t) t refl (has-sort t) (λ m q f b. read_tags base ts m q f b) p frame below at w v
      (λ m q f b. read-sound ts {l = m} q f b)

  -- the arguments that a message is read to have obey the rules of a message's
  pub args-sound : (ts : List ℕ) {l : List ℕ} (p : ℕ) → At s (base + p) l → {kept : Forest} {used : ℕ}
      → args kept used ≡ read_args base ts l p → SoundIn s message_kind kept
  args-sound ts p at {kept} {used} e = in-message kept (subst (ArgsSound s) (sym e) (read-sound ts p nil [] at sound-nil tt))
