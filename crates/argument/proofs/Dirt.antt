-- The padding of a text and of an argument, as it stands in the input and in the part that is read.
use mathlib.Core.Path.{◌≡◌, refl, ap, sym, subst, ◌∙◌}
use mathlib.Core.List.{List, [], ◌++◌}
use Prim.Native.Nat.{ℕ, ◌+◌, ◌-◌, ◌≤◌}
use native.Mathlib.Omega.{arith}
use lib.ListN.{length, drop, length-take}
use Rattle.refusal.specs.declared.Fault.{Fault}
use Rattle.wire.specs.Number.{number}
use Rattle.wire.specs.Pad.{padded}
use Rattle.wire.proofs.Choices.{by-test, by_le}
use Rattle.node.specs.Forest.{Forest, nil, node}
use Rattle.node.specs.Tags.{is_scalar}
use Rattle.node.specs.declared.record.Item.{Item}
use Rattle.node.specs.declared.tags.Class.{Class}
use Rattle.node.specs.declared.tags.Class.TheVariants.{Four, Eight, Bare, Text as String, Blob, Scalar, Unknown}
use Rattle.text.specs.Text.{until_nul, reach, read_text, non_zero}
use Rattle.argument.specs.Results.{Arg, Given}
use Rattle.std.specs.Prelude.{Err, Ok}
use Rattle.text.specs.Results.{Found, Text}
use Rattle.text.proofs.Dirt.{dirt-join}
use Rattle.text.proofs.Within.{found_in, found-ends}
use Rattle.argument.specs.Argument.{read_arg, having, text_arg}
use Rattle.argument.specs.CodeParts.{StandsAt, between, padding_from, dirt_of}
use Rattle.argument.specs.Dirt.{padding_at, text_padding, types_padding, arg_padding, TextPadded, BlobPadded, own_padding, kept_padding}
use Rattle.argument.proofs.Stands.{stands-bytes, stands-nul}

module _ (base p : ℕ) (l msg : List ℕ) (w : StandsAt msg (base + p) l) where
  -- padding that begins n bytes after position p, where all of it is there
  pub padding-in : (n : ℕ) → reach p n ≤ length l → padding_at base msg (base + p + n) ≡ between n (reach p n) l
  padding-in n h =
      let q : base + p + n - base ≡ p + n = omega arith in
      let m : padded (p + n) - (p + n) ≡ reach p n - n = omega arith in
      rw (q, m) (stands-bytes msg (base + p) l w n (reach p n - n) (omega arith))

  module _ {n used : ℕ} (e : Found n used ≡ read_text l p) where
    -- the padding of a text that was found
    pub text-padding : text_padding base msg (base + p) n ≡ between (n + 1) used l
    text-padding =
        let u = found-ends l p e in
        let h : reach p (n + 1) ≤ length l = omega (arith, found_in l p e) in
        let o : base + p + n + 1 ≡ base + p + (n + 1) = omega arith in
        rw (o, u.1) (padding-in (n + 1) h)

    -- a type text stands where the padding before it ends, and its own padding is found from there
    pub types-padding : types_padding base msg (base + p) ≡ between (n + 1) used l
    types-padding =
        let u = found-ends l p e in
        let m : until_nul (drop (base + p) msg) ≡ n = stands-nul msg (base + p) l w (omega (arith, found_in l p e)) ∙ sym u.0 in
        rw m text-padding

-- what an argument that is given has of padding
abbrev PaddingIs : ℕ → List ℕ → List ℕ → Class → Arg → Type 0
PaddingIs base msg l class (Ok given) = arg_padding base msg class given.item ≡ between (padding_from class given.item given.used) given.used l
PaddingIs base msg l class (Err k) = Unit {0}

no_padding : (n : ℕ) (l : List ℕ) → [] ≡ between n n l
no_padding n l = let z : n - n ≡ 0 = omega arith in rw z

module _ (tag base : ℕ) (l : List ℕ) (p : ℕ) (msg : List ℕ) (w : StandsAt msg (base + p) l) where
  if-there : (class : Class) (n : ℕ) (k : Fault) (x : Arg) → (n ≤ length l → PaddingIs base msg l class x)
      → PaddingIs base msg l class (having n l k x)
  if-there class n k x f = by_le (PaddingIs base msg l class) n (length l) f (λ _. tt)

  of-text : (t : Text) → t ≡ read_text l p → PaddingIs base msg l String (text_arg tag (base + p) p t)
  of-text (Ok text) e = text-padding base p l msg w e
  of-text (Err k) e = tt

  all-padded : (class : Class) → PaddingIs base msg l class (read_arg tag class base l p)
  unfolding read_arg
  all-padded Four = if-there Four 4 _ _ (λ h. no_padding 4 l)
  all-padded Eight = if-there Eight 8 _ _ (λ h. no_padding 8 l)
  all-padded Bare = no_padding 0 l
  all-padded String = of-text (read_text l p) refl
  all-padded Blob =
      let n = number 4 l in
      if-there Blob 4 _ _ (λ h. if-there Blob (4 + n) _ _ (λ j. if-there Blob (reach p (4 + n)) _ _
      (λ k. let o : base + (p + 4) + n ≡ base + p + (4 + n) = omega arith in rw o (padding-in base p l msg w (4 + n) k))))
  all-padded Scalar =
      if-there Scalar 4 _ _ (λ h. by-test (PaddingIs base msg l Scalar) (is_scalar (number 4 l)) (λ _. no_padding 4 l) (λ _. tt))
  all-padded Unknown = tt

  -- the padding of an argument that is given
  pub arg-padding : {item : Item} {used : ℕ} (class : Class) → Given item used ≡ read_arg tag class base l p
      → arg_padding base msg class item ≡ between (padding_from class item used) used l
  arg-padding class e = subst (PaddingIs base msg l class) (sym e) (all-padded class)

-- what is counted where a text or a blob is read is its padding
pub text_padded : TextPadded
text_padded base p msg l later n used w e = text-padding base p l msg (later, w) (sym e)

pub blob_padded : BlobPadded
blob_padded tag base p msg l later item used w e = arg-padding tag base l p msg (later, w) Blob (sym e)

-- the padding of an argument begins no later than its data ends, and has at most 3 bytes
abbrev Begun : Class → Arg → Type 0
Begun class (Ok given) = (padding_from class given.item given.used ≤ given.used) × (given.used - padding_from class given.item given.used ≤ 3)
Begun class (Err k) = Unit {0}

begun-text : (tag offset : ℕ) (l : List ℕ) (p : ℕ) (t : Text) → t ≡ read_text l p → Begun String (text_arg tag offset p t)
begun-text tag offset l p (Ok text) e =
    let u = found-ends l p e in
    (omega (arith, found_in l p e), omega (arith, u))
begun-text tag offset l p (Err k) e = tt

begun-there : (class : Class) (n : ℕ) (l : List ℕ) (k : Fault) (x : Arg) → Begun class x → Begun class (having n l k x)
begun-there class n l k x f = by_le (Begun class) n (length l) (λ _. f) (λ _. tt)

all-begun : (tag : ℕ) (class : Class) (base : ℕ) (l : List ℕ) (p : ℕ) → Begun class (read_arg tag class base l p)
unfolding read_arg
all-begun tag Four base l p = begun-there Four 4 l _ _ (omega arith)
all-begun tag Eight base l p = begun-there Eight 8 l _ _ (omega arith)
all-begun tag Bare base l p = omega arith
all-begun tag String base l p = begun-text tag (base + p) l p (read_text l p) refl
all-begun tag Blob base l p = begun-there Blob 4 l _ _ (begun-there Blob _ l _ _ (begun-there Blob _ l _ _ (omega arith)))
all-begun tag Scalar base l p = begun-there Scalar 4 l _ _ (by-test (Begun Scalar) (is_scalar (number 4 l)) (λ _. omega arith) (λ _. tt))
all-begun tag Unknown base l p = tt

-- so does that of an argument that is given
pub padding-begins : {item : Item} {used : ℕ} (tag : ℕ) (class : Class) (base : ℕ) (l : List ℕ) (p : ℕ)
    → Given item used ≡ read_arg tag class base l p
    → (padding_from class item used ≤ used) × (used - padding_from class item used ≤ 3)
padding-begins tag class base l p e = subst (Begun class) (sym e) (all-begun tag class base l p)

-- ---- the dirt of trees

module _ (base : ℕ) (msg : List ℕ) where
  -- the dirt of one node itself
  abbrev pub own_dirt : Item → ℕ
  own_dirt item = non_zero (own_padding base msg item)

  -- the dirt of trees is that of the first node, of what it contains and of those after it
  pub dirt-node : (item : Item) (f rest : Forest)
      → dirt_of base msg (node item f rest) ≡ own_dirt item + (dirt_of base msg f + dirt_of base msg rest)
  unfolding kept_padding
  dirt-node item f rest =
      dirt-join (own_padding base msg item) (kept_padding base msg f ++ kept_padding base msg rest)
      ∙ ap (λ (n : ℕ). own_dirt item + n) (dirt-join (kept_padding base msg f) (kept_padding base msg rest))

  -- no trees have none
  pub dirt-nil : dirt_of base msg nil ≡ 0
  unfolding kept_padding
  dirt-nil = refl

  -- there are no more than 3 bytes of padding at a place
  pub padding-few : (o : ℕ) → length (padding_at base msg o) ≤ 3
  padding-few o = omega (arith, length-take (padded (o - base) - (o - base)) (drop o msg))
