-- One frame that is slid: what is read of it, which of its bytes change, and how it slides back.
use mathlib.Core.Path.{◌≡◌, refl, ap, sym, ◌∙◌}
use mathlib.Core.Bool.{Bool, true, false, cond, false≢true}
use mathlib.Core.Logic.{inl, inr, ⊎_elim}
use mathlib.Core.List.{List}
use Prim.Native.Nat.{ℕ, ◌+◌, ◌^◌, ◌<◌, ◌≤◌}
use native.Mathlib.Omega.{arith}
use lib.ListN.{length, take, drop}
use Rattle.clock.specs.Shift.{shifted}
use Rattle.wire.specs.Number.{number, bytes}
use Rattle.wire.proofs.Numbers.{bytes_read, number_small}
use Rattle.wire.proofs.Parts.{drop-small}
use Rattle.node.specs.Forest.{Forest, nil, node, size}
use Rattle.node.specs.declared.record.Item.{Item}
use Rattle.packet.specs.Packet.{one}
use Rattle.framing.specs.Framing.{read}
use Rattle.slides.specs.Slides.{has_time, time_tag_of, time_place, with_time, slid_item, slid_forest, slid_bytes, InTime}
use Rattle.slides.specs.Laws.{AreBytes, FrameSlides}
use Rattle.slides.proofs.Times.{TimeAt}
use Rattle.slides.proofs.Marks.{TimesAre}
use Rattle.slides.proofs.Slid.{FrameIs, place-room, times-read, slid-read}
use Rattle.slides.proofs.Dirt.{slid-dirt}
use Rattle.slides.proofs.Back.{FitsIn, only-times, Restores, put_back}

-- ---- a node that is slid has its time tag where it was

module _ (by : ℕ) where
  -- the kinds and the places of trees stay
  pub slid-places : (q : ℕ) (t : Forest) → TimeAt q (slid_forest by t) → TimeAt q t
  unfolding slid_forest
  slid-places q nil a = a
  slid-places q (node item inside rest) (inl a) = inl (own (has_time item.kind) a)
    where
      own : (b : Bool)
          → (has_time (cond b (with_time (shifted (time_tag_of item) by) item) item).kind ≡ true)
          × (time_place (cond b (with_time (shifted (time_tag_of item) by) item) item) ≡ q)
          → (has_time item.kind ≡ true) × (time_place item ≡ q)
      own true c = c
      own false c = c
  slid-places q (node item inside rest) (inr (inl a)) = inr (inl (slid-places q inside a))
  slid-places q (node item inside rest) (inr (inr a)) = inr (inr (slid-places q rest a))

  pub slid-in : (i : ℕ) (t : Forest) → InTime i t → InTime i (slid_forest by t)
  unfolding slid_forest
  slid-in i nil a = a
  slid-in i (node item inside rest) (inl a) = inl (own (has_time item.kind))
    where
      own : (b : Bool)
          → (has_time (cond b (with_time (shifted (time_tag_of item) by) item) item).kind ≡ true)
          × (time_place (cond b (with_time (shifted (time_tag_of item) by) item) item) ≤ i)
          × (i < time_place (cond b (with_time (shifted (time_tag_of item) by) item) item) + 8)
      own true = a
      own false = a
  slid-in i (node item inside rest) (inr (inl a)) = inr (inl (slid-in i inside a))
  slid-in i (node item inside rest) (inr (inr a)) = inr (inr (slid-in i rest a))

  pub size-slid : (t : Forest) → size (slid_forest by t) ≡ size t
  unfolding size slid_forest
  size-slid nil = refl
  size-slid (node item inside rest) = omega (arith, size-slid inside, size-slid rest)

-- ---- what stood there

module _ (l : List ℕ) (small : AreBytes l) where
  -- the bytes of a time tag are those that stand at its place
  tag-bytes : (x q : ℕ) → q + 8 ≤ length l → x ≡ number 8 (drop q l) → bytes 8 x ≡ take 8 (drop q l)
  tag-bytes x q h e = ap (bytes 8) e ∙ bytes_read l small 8 q h

  tag_small : (q : ℕ) → number 8 (drop q l) < 2 ^ 64
  tag_small q = omega (arith, number_small 8 (drop q l) (drop-small q l small))

  -- a slide by nothing writes what stands there
  none-restores : (g : Forest) → TimesAre (λ q. number 8 (drop q l)) g → FitsIn (length l) g → Restores 0 l g
  none-restores nil w h = tt
  none-restores (node item inside rest) w h = (
    (λ k. let e = w.0 k in let s = tag_small (time_place item) in
        tag-bytes (shifted (time_tag_of item) 0) (time_place item) (h (time_place item) (inl (k, refl))) (omega arith)),
    none-restores inside w.1 (λ q a. h q (inr (inl a))),
    none-restores rest w.2 (λ q a. h q (inr (inr a))),
  )

  -- so does a slide back
  back-restores : (x y : ℕ) → shifted x y ≡ 0 → (g : Forest) → TimesAre (λ q. number 8 (drop q l)) g → FitsIn (length l) g
      → Restores y l (slid_forest x g)
  unfolding slid_forest
  back-restores x y o nil w h = tt
  back-restores x y o (node item inside rest) w h = (
    own (has_time item.kind) refl,
    back-restores x y o inside w.1 (λ q a. h q (inr (inl a))),
    back-restores x y o rest w.2 (λ q a. h q (inr (inr a))),
  )
    where
      own : (b : Bool) → has_time item.kind ≡ b
          → (has_time (cond b (with_time (shifted (time_tag_of item) x) item) item).kind ≡ true)
          → bytes 8 (shifted (time_tag_of (cond b (with_time (shifted (time_tag_of item) x) item) item)) y)
          ≡ take 8 (drop (time_place (cond b (with_time (shifted (time_tag_of item) x) item) item)) l)
      own true k c =
          let e = w.0 k in
          let s = tag_small (time_place item) in
          tag-bytes (shifted (time_tag_of (with_time (shifted (time_tag_of item) x) item)) y) (time_place item) (h (time_place item) (inl (k, refl)))
          (omega arith)
      own false k c = absurd (false≢true (sym k ∙ c))

module _ (limit : ℕ) (l : List ℕ) (small : AreBytes l) (used : ℕ) (t : Forest) (w : FrameIs limit l used t) where
  fits : FitsIn (length l) t
  fits q a = let r = place-room limit l used t w q a in omega (arith, r.near, r.high)

  -- a frame slid by zero is the same frame
  pub frame-zero : slid_bytes 0 t l ≡ l
  frame-zero = put_back 0 l t (none-restores l small t (times-read limit l small used t w) fits) fits l refl (λ i. inr refl)

  -- a frame slid there and back is the same frame
  pub frame_back : (x y : ℕ) → shifted x y ≡ 0 → slid_bytes y (slid_forest x t) (slid_bytes x t l) ≡ l
  frame_back x y o =
      put_back y l (slid_forest x t) (back-restores l small x y o t (times-read limit l small used t w) fits)
      (λ q a. fits q (slid-places x q t a)) (slid_bytes x t l) (slid-read limit l small used t w x).1
      (λ i. ⊎_elim (λ c. inl (slid-in x i t c)) (λ e. inr e) (only-times x t l fits i))

-- what is promised of a frame
pub frame_slides : FrameSlides
unfolding slid_forest
frame_slides limit by l item inside used small e =
    let t = node item inside nil in
    let w : FrameIs limit l used t = record { item = item; inside = inside; tree = refl; reads = e } in
    let r = slid-read limit l small used t w by in
    let i : slid_item by item ≡ r.0.item = cc r.0.tree in
    let f : slid_forest by inside ≡ r.0.inside = cc r.0.tree in
    record {
      reads = r.0.reads ∙ ap (λ (x : Item). read (one x r.0.inside used)) (sym i) ∙ ap
          (λ (x : Forest). read (one (slid_item by item) x used)) (sym f);
      long = r.1;
      only = λ n. only-times by t l (fits limit l small used t w) n;
      dirt = slid-dirt limit by l small used t w;
    }
