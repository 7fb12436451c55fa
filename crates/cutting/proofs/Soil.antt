-- Dirty padding of a stream of edition 2 that is cut: of trees side by side, and of trees that stand further on.
use mathlib.Core.Path.{◌≡◌, refl, ap, ◌∙◌}
use mathlib.Core.Bool.{Bool, true, false, cond}
use mathlib.Core.List.{List, [], ◌∷◌, ◌++◌}
use Prim.Native.Nat.{ℕ, ◌+◌, ◌-◌}
use native.Mathlib.Omega.{arith}
use borrow.Author.Tests.{eqb-true}
use lib.Dec.{eqb}
use lib.ListN.{length, take, drop}
use lib.Seq.{drop-append-add}
use Rattle.wire.proofs.Choices.{by-test, by_both}
use Rattle.node.specs.Forest.{Forest, nil, node}
use Rattle.node.specs.Tags.{message_kind, bundle_kind, among, class_of}
use Rattle.node.specs.declared.record.Item.{Item}
use Rattle.node.specs.declared.tags.Class.{Class}
use Rattle.text.specs.Text.{until_nul, non_zero}
use Rattle.argument.specs.CodeParts.{dirt_of}
use Rattle.argument.specs.Dirt.{padding_at, types_at, types_padding, arg_padding, own_padding, kept_padding, packets_padding, dirty_in}
use Rattle.argument.proofs.Pads.{packets-join}
use Rattle.packet.proofs.Items.{packet-start}
use Rattle.answering.specs.Limits.{forest_of}
use Rattle.decoder.proofs.Cuts.{rest_of}
use Rattle.calls.proofs.Longer.Frames.{Framed, none, also, list-framed}
use Rattle.osc10.proofs.Arguments.{join}
use Rattle.given.specs.Encodable.{ranged_kind}
use Rattle.cutting.specs.Moved.{moved_item, moved_forest}

-- ---- side by side

-- the dirt of trees side by side is that of both
pub dirt-joined : (msg : List ℕ) (f g : Forest) → dirty_in msg (join f g) ≡ dirty_in msg f + dirty_in msg g
unfolding join packets_padding
dirt-joined msg nil g = omega arith
dirt-joined msg (node item inside rest) g =
    omega (arith, packets-join msg item inside (join rest g), packets-join msg item inside rest, dirt-joined msg rest g)

-- ---- further on

module _ (k : ℕ) (pre l : List ℕ) (e : k ≡ length pre) where
  drop-moved : (o : ℕ) → drop (k + o) (pre ++ l) ≡ drop o l
  drop-moved o = rw e (drop-append-add pre l o)

  module _ (base : ℕ) where
    padding-moved : (o o' : ℕ) → o' ≡ k + o → padding_at (k + base) (pre ++ l) o' ≡ padding_at base l o
    padding-moved o o' q =
        let z : k + o - (k + base) ≡ o - base = omega arith in
        rw (q, z, drop-moved o)

    types-moved : (o o' : ℕ) → o' ≡ k + o → types_padding (k + base) (pre ++ l) o' ≡ types_padding base l o
    types-moved o o' q =
        let n = until_nul (drop o l) in
        rw (q, drop-moved o) (padding-moved (o + n + 1) (k + o + n + 1) (omega arith))

    -- a node k bytes further on, whose `a` is this
    module _ (item : Item) (a : ℕ) (is : ranged_kind item.kind ≡ true → a ≡ k + item.a) where
      abbrev there : Item
      there = record { kind = item.kind; a = a; b = item.b; start = k + item.start }

      a-of : (x : ℕ) → ranged_kind x ≡ true → eqb item.kind x ≡ true → a ≡ k + item.a
      a-of x r t = is (ap ranged_kind (eqb-true item.kind x t) ∙ r)

      abbrev SameArg : Class → Type 0
      SameArg class = arg_padding (k + base) (pre ++ l) class there ≡ arg_padding base l class item

      arg-moved : SameArg (class_of item.kind)
      unfolding class_of
      arg-moved =
          by-test SameArg (among item.kind (102 ∷ 105 ∷ 109 ∷ 114 ∷ [])) (λ _. refl)
          (λ _. by-test SameArg (among item.kind (100 ∷ 104 ∷ 116 ∷ [])) (λ _. refl)
          (λ _. by-test SameArg (among item.kind (70 ∷ 73 ∷ 78 ∷ 84 ∷ [])) (λ _. refl)
          (λ _. by-test SameArg (eqb item.kind 115)
          (λ t. let q = a-of 115 refl t in padding-moved (item.a + item.b + 1) (a + item.b + 1) (omega arith))
          (λ _. by-test SameArg (eqb item.kind 98)
          (λ t. let q = a-of 98 refl t in padding-moved (item.a + item.b) (a + item.b) (omega arith))
          (λ _. by-test SameArg (eqb item.kind 99) (λ _. refl) (λ _. refl))))))

      own-there : own_padding (k + base) (pre ++ l) there ≡ own_padding base l item
      own-there = by-message (eqb item.kind message_kind) refl
        where
          by-message : (x : Bool) → eqb item.kind message_kind ≡ x → own_padding (k + base) (pre ++ l) there ≡ own_padding base l item
          by-message true t =
              let q = a-of message_kind refl t in
              let text = padding-moved (item.a + item.b + 1) (a + item.b + 1) (omega arith) in
              let types = types-moved (types_at base item.a item.b) (types_at (k + base) a item.b) (omega arith) in
              rw (t, text, types)
          by-message false t =
              rw t (by_both (λ (x y : List ℕ). x ≡ y) (eqb item.kind bundle_kind)
              (padding-moved (item.start + 7 + 1) (k + item.start + 7 + 1) (omega arith)) arg-moved)

    own-moved : (item : Item) → own_padding (k + base) (pre ++ l) (moved_item k item) ≡ own_padding base l item
    own-moved item =
        own-there item (cond (ranged_kind item.kind) (k + item.a) item.a)
        (λ r. ap (λ (t : Bool). cond t (k + item.a) item.a) r)

    -- the padding of trees that stand k bytes further on is that of the trees
    kept-moved : (f : Forest) → kept_padding (k + base) (pre ++ l) (moved_forest k f) ≡ kept_padding base l f
    unfolding kept_padding moved_forest
    kept-moved nil = refl
    kept-moved (node item inside rest) = rw (own-moved item, kept-moved inside, kept-moved rest)

  -- trees that are read from frames have the same dirt k bytes further on
  pub framed-moved : {base : ℕ} {m : List ℕ} {f : Forest} → Framed base m f → dirty_in (pre ++ l) (moved_forest k f) ≡ dirty_in l f
  unfolding packets_padding moved_forest
  framed-moved none = refl
  framed-moved {base} {m} (also {item = item} {f = f} {g = g} u w h r) =
      let s = packet-start base (take w.n (drop 4 m)) 4 w.reads in
      let z : k + item.start - 4 ≡ k + (item.start - 4) = omega arith in
      let first : dirt_of (k + item.start - 4) (pre ++ l) (moved_forest k (node item f nil)) ≡ dirt_of (item.start - 4) l (node item f nil)
      = rw z (ap non_zero (kept-moved (item.start - 4) (node item f nil))) in
      omega (
        arith,
        packets-join (pre ++ l) (moved_item k item) (moved_forest k f) (moved_forest k g),
        packets-join l item f g,
        first,
        framed-moved r,
      )

-- the trees of a list of edition 2 that stands k bytes further on have the same dirt there
pub dirt-moved : (limit k : ℕ) (pre l : List ℕ) → k ≡ length pre
    → dirty_in (pre ++ l) (moved_forest k (forest_of (rest_of limit 0 l))) ≡ dirty_in l (forest_of (rest_of limit 0 l))
dirt-moved limit k pre l e = framed-moved k pre l e (list-framed limit 0 l)
