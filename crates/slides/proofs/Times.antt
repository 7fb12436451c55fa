-- One time tag of some trees, by its place: the nodes that have it, and the trees with another number there.
use mathlib.Core.Path.{◌≡◌, refl, ap, sym, ◌∙◌}
use mathlib.Core.Bool.{Bool, true, false, cond, ◌||◌, ◌&&◌, false≢true}
use mathlib.Core.Logic.{◌⊎◌, inl, inr, ⊎_elim}
use mathlib.Core.List.{List}
use Prim.Native.Nat.{ℕ, ◌+◌, ◌≤◌}
use borrow.Author.Tests.{eqb-true, eqb-false, eq-eqb}
use lib.Dec.{eqb}
use lib.ListN.{length}
use Rattle.node.specs.Forest.{Forest, nil, node, snoc}
use Rattle.node.specs.Tags.{bundle_kind}
use Rattle.node.specs.declared.record.Item.{Item}
use Rattle.slides.specs.Slides.{has_time, time_place, with_time}

-- a kind with a time tag is # or t
pub has-time : (k : ℕ) → has_time k ≡ true → (k ≡ bundle_kind) ⊎ (k ≡ 116)
has-time k e = first (eqb k bundle_kind) refl e
  where
    first : (b : Bool) → eqb k bundle_kind ≡ b → b || eqb k 116 ≡ true → (k ≡ bundle_kind) ⊎ (k ≡ 116)
    first true f g = inl (eqb-true k bundle_kind f)
    first false f g = inr (eqb-true k 116 g)

module _ (q : ℕ) where
  -- a node has its time tag there
  abbrev pub AtPlace : Item → Type 0
  AtPlace item = (has_time item.kind ≡ true) × (time_place item ≡ q)

  -- one node of these trees has
  abbrev pub TimeAt : Forest → Type 0
  TimeAt nil = ⊥
  TimeAt (node item inside rest) = AtPlace item ⊎ (TimeAt inside ⊎ TimeAt rest)

  -- it has, or not
  pub at-or-not : (item : Item) → AtPlace item ⊎ (AtPlace item → ⊥)
  at-or-not item = by_kind (has_time item.kind) refl (eqb (time_place item) q) refl
    where
      by_kind : (b : Bool) → has_time item.kind ≡ b → (c : Bool) → eqb (time_place item) q ≡ c → AtPlace item ⊎ (AtPlace item → ⊥)
      by_kind true e true f = inl (e, eqb-true (time_place item) q f)
      by_kind true e false f = inr (λ a. eqb-false (time_place item) q f a.1)
      by_kind false e c f = inr (λ a. false≢true (sym e ∙ a.0))

  module _ (v : ℕ) where
    -- a node with the number v there
    abbrev pub retimed : Item → Item
    retimed item = cond (has_time item.kind && eqb (time_place item) q) (with_time v item) item

    -- trees with it
    unfoldable pub retimed_forest : Forest → Forest
    retimed_forest nil = nil
    retimed_forest (node item inside rest) = node (retimed item) (retimed_forest inside) (retimed_forest rest)

    pub retimed-at : (item : Item) → AtPlace item → retimed item ≡ with_time v item
    retimed-at item a = rw (a.0, eq-eqb (time_place item) q a.1)

    pub retimed-not : (item : Item) → (AtPlace item → ⊥) → retimed item ≡ item
    retimed-not item n = by_kind (has_time item.kind) refl (eqb (time_place item) q) refl
      where
        by_kind : (b : Bool) → has_time item.kind ≡ b → (c : Bool) → eqb (time_place item) q ≡ c
            → cond (b && c) (with_time v item) item ≡ item
        by_kind true e true f = absurd (n (e, eqb-true (time_place item) q f))
        by_kind true e false f = refl
        by_kind false e c f = refl

    -- trees that have no time tag there stay
    pub forest-not : (f : Forest) → (TimeAt f → ⊥) → retimed_forest f ≡ f
    unfolding retimed_forest
    forest-not nil n = refl
    forest-not (node item inside rest) n =
        rw (retimed-not item (λ a. n (inl a)), forest-not inside (λ a. n (inr (inl a))), forest-not rest (λ a. n (inr (inr a))))

    pub snoc-retimed : (f : Forest) (item : Item) (g : Forest)
        → snoc (retimed_forest f) (retimed item) (retimed_forest g) ≡ retimed_forest (snoc f item g)
    unfolding snoc retimed_forest
    snoc-retimed nil item g = refl
    snoc-retimed (node item' f' rest) item g = ap (node (retimed item') (retimed_forest f')) (snoc-retimed rest item g)

  -- which of the trees has it, where one more stands at their end
  pub in-snoc : (f : Forest) (item : Item) (g : Forest) → TimeAt (snoc f item g) → TimeAt f ⊎ (AtPlace item ⊎ TimeAt g)
  unfolding snoc
  in-snoc nil item g (inl a) = inr (inl a)
  in-snoc nil item g (inr (inl a)) = inr (inr a)
  in-snoc nil item g (inr (inr a)) = absurd a
  in-snoc (node item' f' rest) item g (inl a) = inl (inl a)
  in-snoc (node item' f' rest) item g (inr (inl a)) = inl (inr (inl a))
  in-snoc (node item' f' rest) item g (inr (inr a)) =
      ⊎_elim (λ b. inl (inr (inr b))) (λ b. inr b) (in-snoc rest item g a)

  -- the eight bytes there lie in l, which stands at position p
  pub record Placed (l : List ℕ) (p : ℕ) : Type 0 where
    pub low : p ≤ q
    pub high : q + 8 ≤ p + length l
