-- Time tags that are set one after another: as each is set by its place, it does not matter whether two nodes have one place.
use mathlib.Core.Path.{◌≡◌, refl, ap, sym, ◌∙◌}
use mathlib.Core.Bool.{Bool, true, false, cond, ◌||◌, ◌&&◌, false≢true}
use Prim.Native.Nat.{ℕ}
use borrow.Author.Tests.{eqb-true, eqb-false, eq-eqb}
use lib.Dec.{eqb}
use Rattle.clock.specs.Shift.{shifted}
use Rattle.node.specs.Forest.{Forest, nil, node}
use Rattle.node.specs.declared.record.Item.{Item}
use Rattle.slides.specs.Slides.{has_time, time_tag_of, time_place, with_time, slid_item, slid_forest}
use Rattle.slides.proofs.Times.{retimed, retimed_forest, retimed-at, retimed-not}

-- every time tag of these trees is what N says of its place
abbrev pub TimesAre : (ℕ → ℕ) → Forest → Type 0
TimesAre N nil = Unit {0}
TimesAre N (node item inside rest) =
    (has_time item.kind ≡ true → time_tag_of item ≡ N (time_place item)) × TimesAre N inside × TimesAre N rest

-- trees with the time tag of one node set
abbrev pub retime_one : ℕ → Item → Forest → Forest
retime_one by item t = cond (has_time item.kind) (retimed_forest (time_place item) (shifted (time_tag_of item) by) t) t

-- trees with those of some nodes set, one after another
unfoldable pub retime_all : ℕ → Forest → Forest → Forest
retime_all by nil t = t
retime_all by (node item inside rest) t = retime_all by rest (retime_all by inside (retime_one by item t))

-- one place more
abbrev note_one : Item → (ℕ → Bool) → ℕ → Bool
note_one item P r = cond (has_time item.kind) (eqb r (time_place item) || P r) (P r)

-- the places of some nodes more
unfoldable noted : Forest → (ℕ → Bool) → ℕ → Bool
noted nil P = P
noted (node item inside rest) P = noted rest (noted inside (note_one item P))

-- a place that was noted stays so
note-stays : (item : Item) (P : ℕ → Bool) (r : ℕ) → P r ≡ true → note_one item P r ≡ true
note-stays item P r e = by_kind (has_time item.kind) (eqb r (time_place item))
  where
    by_kind : (b c : Bool) → cond b (c || P r) (P r) ≡ true
    by_kind true true = refl
    by_kind true false = e
    by_kind false c = e

noted-stays : (g : Forest) (P : ℕ → Bool) (r : ℕ) → P r ≡ true → noted g P r ≡ true
unfolding noted
noted-stays nil P r e = e
noted-stays (node item inside rest) P r e =
    noted-stays rest (noted inside (note_one item P)) r (noted-stays inside (note_one item P) r (note-stays item P r e))

-- all places of these trees are noted
abbrev AllNoted : (ℕ → Bool) → Forest → Type 0
AllNoted P nil = Unit {0}
AllNoted P (node item inside rest) = (has_time item.kind ≡ true → P (time_place item) ≡ true) × AllNoted P inside × AllNoted P rest

all_more : (g t : Forest) (P : ℕ → Bool) → AllNoted P t → AllNoted (noted g P) t
all_more g nil P a = tt
all_more g (node item inside rest) P a =
    ((λ h. noted-stays g P (time_place item) (a.0 h)), all_more g inside P a.1, all_more g rest P a.2)

all_noted : (g : Forest) (P : ℕ → Bool) → AllNoted (noted g P) g
unfolding noted
all_noted nil P = tt
all_noted (node item inside rest) P =
    let here : has_time item.kind ≡ true → note_one item P (time_place item) ≡ true
    = λ h. rw (h, eq-eqb (time_place item) (time_place item) refl) in (
      (λ h. noted-stays rest (noted inside (note_one item P)) (time_place item)
          (noted-stays inside (note_one item P) (time_place item) (here h))),
      all_more rest inside (noted inside (note_one item P)) (all_noted inside (note_one item P)),
      all_noted rest (noted inside (note_one item P)),
    )

module _ (by : ℕ) (N : ℕ → ℕ) where
  -- the time tag of a node set by its place, where that is noted
  abbrev marked_item : (ℕ → Bool) → Item → Item
  marked_item P item = cond (has_time item.kind && P (time_place item)) (with_time (shifted (N (time_place item)) by) item) item

  unfoldable marked : (ℕ → Bool) → Forest → Forest
  marked P nil = nil
  marked P (node item inside rest) = node (marked_item P item) (marked P inside) (marked P rest)

  -- what a mark leaves, where the tests are known
  marked-is : (P : ℕ → Bool) (item : Item) → has_time item.kind ≡ true → P (time_place item) ≡ true
      → marked_item P item ≡ with_time (shifted (N (time_place item)) by) item
  marked-is P item e f = rw (e, f)

  marked-not : (P : ℕ → Bool) (item : Item) → P (time_place item) ≡ false → marked_item P item ≡ item
  marked-not P item f = ap (λ (c : Bool). cond (has_time item.kind && c) (with_time (shifted (N (time_place item)) by) item) item) f
      ∙ none (has_time item.kind)
    where
      none : (b : Bool) → cond (b && false) (with_time (shifted (N (time_place item)) by) item) item ≡ item
      none true = refl
      none false = refl

  marked-plain : (P : ℕ → Bool) (item : Item) → has_time item.kind ≡ false → marked_item P item ≡ item
  marked-plain P item e = rw e

  module _ (own : Item) (k : has_time own.kind ≡ true) (P : ℕ → Bool) (item : Item) where
    abbrev Q : ℕ → Bool
    Q = note_one own P

    note-same : time_place item ≡ time_place own → Q (time_place item) ≡ true
    note-same e = rw (k, eq-eqb (time_place item) (time_place own) e)

    note-other : eqb (time_place item) (time_place own) ≡ false → Q (time_place item) ≡ P (time_place item)
    note-other e = rw (k, e)

    abbrev x : ℕ
    x = shifted (N (time_place own)) by

    mark-by : (b : Bool) → has_time item.kind ≡ b → (c : Bool) → P (time_place item) ≡ c → (d : Bool)
        → eqb (time_place item) (time_place own) ≡ d → retimed (time_place own) x (marked_item P item) ≡ marked_item Q item
    mark-by false e c f d g =
        ap (retimed (time_place own) x) (marked-plain P item e)
        ∙ retimed-not (time_place own) x item (λ a. false≢true (sym e ∙ a.0))
        ∙ sym (marked-plain Q item e)
    mark-by true e true f true g =
        let same = eqb-true (time_place item) (time_place own) g in
        let i = with_time (shifted (N (time_place item)) by) item in
        ap (retimed (time_place own) x) (marked-is P item e f)
        ∙ retimed-at (time_place own) x i (e, same)
        ∙ ap (λ (r : ℕ). with_time (shifted (N r) by) item) (sym same)
        ∙ sym (marked-is Q item e (note-same same))
    mark-by true e true f false g =
        let i = with_time (shifted (N (time_place item)) by) item in
        ap (retimed (time_place own) x) (marked-is P item e f)
        ∙ retimed-not (time_place own) x i (λ a. eqb-false (time_place item) (time_place own) g a.1)
        ∙ sym (marked-is Q item e (note-other g ∙ f))
    mark-by true e false f true g =
        let same = eqb-true (time_place item) (time_place own) g in
        ap (retimed (time_place own) x) (marked-not P item f)
        ∙ retimed-at (time_place own) x item (e, same)
        ∙ ap (λ (r : ℕ). with_time (shifted (N r) by) item) (sym same)
        ∙ sym (marked-is Q item e (note-same same))
    mark-by true e false f false g =
        ap (retimed (time_place own) x) (marked-not P item f)
        ∙ retimed-not (time_place own) x item (λ a. eqb-false (time_place item) (time_place own) g a.1)
        ∙ sym (marked-not Q item (note-other g ∙ f))

    mark-more : retimed (time_place own) x (marked_item P item) ≡ marked_item Q item
    mark-more = mark-by (has_time item.kind) refl (P (time_place item)) refl (eqb (time_place item) (time_place own)) refl

  marks-more : (own : Item) → has_time own.kind ≡ true → (P : ℕ → Bool) (t : Forest)
      → retimed_forest (time_place own) (shifted (N (time_place own)) by) (marked P t) ≡ marked (note_one own P) t
  unfolding marked retimed_forest
  marks-more own k P nil = refl
  marks-more own k P (node item inside rest) = rw (mark-more own k P item, marks-more own k P inside, marks-more own k P rest)

  marks-same : (P Q : ℕ → Bool) → ((r : ℕ) → P r ≡ Q r) → (t : Forest) → marked P t ≡ marked Q t
  unfolding marked
  marks-same P Q h nil = refl
  marks-same P Q h (node item inside rest) = rw (h (time_place item), marks-same P Q h inside, marks-same P Q h rest)

  one-marked : (own : Item) → (has_time own.kind ≡ true → time_tag_of own ≡ N (time_place own)) → (P : ℕ → Bool) (t : Forest)
      → retime_one by own (marked P t) ≡ marked (note_one own P) t
  one-marked own h P t = by_kind (has_time own.kind) refl
    where
      by_kind : (b : Bool) → has_time own.kind ≡ b → retime_one by own (marked P t) ≡ marked (note_one own P) t
      by_kind true e =
          let set : retime_one by own (marked P t) ≡ retimed_forest (time_place own) (shifted (time_tag_of own) by) (marked P t) = rw e in
          set
          ∙ ap (λ (y : ℕ). retimed_forest (time_place own) (shifted y by) (marked P t)) (h e)
          ∙ marks-more own e P t
      by_kind false e =
          let set : retime_one by own (marked P t) ≡ marked P t = rw e in
          set ∙ marks-same P (note_one own P) (λ r. rw e) t

  all-marked : (g : Forest) → TimesAre N g → (P : ℕ → Bool) (t : Forest) → retime_all by g (marked P t) ≡ marked (noted g P) t
  unfolding retime_all noted
  all-marked nil w P t = refl
  all-marked (node item inside rest) w P t =
      ap (λ (f : Forest). retime_all by rest (retime_all by inside f)) (one-marked item w.0 P t)
      ∙ ap (retime_all by rest) (all-marked inside w.1 (note_one item P) t)
      ∙ all-marked rest w.2 (noted inside (note_one item P)) t

  none-marked : (t : Forest) → marked (λ r. false) t ≡ t
  unfolding marked
  none-marked nil = refl
  none-marked (node item inside rest) = rw (marked-not (λ r. false) item refl, none-marked inside, none-marked rest)

  marked-slid : (P : ℕ → Bool) (t : Forest) → TimesAre N t → AllNoted P t → marked P t ≡ slid_forest by t
  unfolding marked slid_forest
  marked-slid P nil w a = refl
  marked-slid P (node item inside rest) w a =
      rw (own (has_time item.kind) refl, marked-slid P inside w.1 a.1, marked-slid P rest w.2 a.2)
    where
      own : (b : Bool) → has_time item.kind ≡ b → marked_item P item ≡ slid_item by item
      own true e =
          let slide : slid_item by item ≡ with_time (shifted (time_tag_of item) by) item = rw e in
          marked-is P item e (a.0 e) ∙ ap (λ (y : ℕ). with_time (shifted y by) item) (sym (w.0 e)) ∙ sym slide
      own false e = let slide : slid_item by item ≡ item = rw e in marked-plain P item e ∙ sym slide

  -- all time tags of some trees, set one after another, are those trees slid
  pub retimed-slid : (t : Forest) → TimesAre N t → retime_all by t t ≡ slid_forest by t
  retimed-slid t w =
      ap (retime_all by t) (sym (none-marked t)) ∙ all-marked t w (λ r. false) t ∙ marked-slid (noted t (λ r. false)) t w
      (all_noted t (λ r. false))
