-- A frame that is slid is read as its tree, slid: all of its time tags, and nothing else.
use mathlib.Core.Path.{◌≡◌, refl, ap, sym, subst, ◌∙◌}
use mathlib.Core.Bool.{Bool, true, false, cond}
use mathlib.Core.Logic.{inl, inr}
use mathlib.Core.List.{List, ◌++◌}
use Prim.Native.Nat.{ℕ, ◌+◌, ◌/◌, ◌%◌, ◌^◌, ◌<◌, ◌≤◌}
use native.Mathlib.Omega.{arith}
use lib.ListN.{length, get_or, take, drop, take-append-drop}
use Rattle.clock.specs.Shift.{shifted}
use Rattle.wire.specs.Number.{number}
use Rattle.wire.proofs.Numbers.{number_small, number-bytes}
use Rattle.wire.proofs.Parts.{drop-small}
use Rattle.node.specs.Forest.{Forest, nil, node}
use Rattle.node.specs.declared.record.Item.{Item}
use Rattle.packet.specs.Packet.{one}
use Rattle.framing.specs.Framing.{read, cut_frame}
use Rattle.slides.specs.Slides.{has_time, time_tag_of, time_place, with_time, slid_forest, put_time, slide_one, slid_bytes}
use Rattle.slides.proofs.Puts.{put-length}
use Rattle.slides.proofs.Times.{TimeAt, retimed, retimed_forest, retimed-at}
use Rattle.slides.proofs.FrameTimes.{retimed-kind, retimed-start, frame-retimed}
use Rattle.slides.proofs.Marks.{TimesAre, retime_one, retime_all, retimed-slid}

-- a frame of so many bytes stands at the front of l, and its tree is t
pub record FrameIs (limit : ℕ) (l : List ℕ) (used : ℕ) (t : Forest) : Type 0 where
  pub item : Item
  pub inside : Forest
  pub tree : t ≡ node item inside nil
  pub reads : cut_frame limit 0 l ≡ read (one item inside used)

-- what stood at a place, put there again
pub put-own : (l : List ℕ) → ((i : ℕ) → get_or l i 0 < 256) → (q : ℕ) → q + 8 ≤ length l → put_time q (number 8 (drop q l)) l ≡ l
unfolding put_time
put-own l small q h =
    ap (λ (m : List ℕ). take q l ++ m) (sym (number-bytes l small 8 q (q + 8) refl h)) ∙ take-append-drop q l

module _ (limit : ℕ) where
  -- where a time tag of a frame stands
  pub record Room (l : List ℕ) (used q : ℕ) : Type 0 where
    pub low : 4 ≤ q
    pub near : q + 8 ≤ used
    pub high : used ≤ length l

  module _ (l : List ℕ) (used : ℕ) (t : Forest) (w : FrameIs limit l used t) (q : ℕ) (a : TimeAt q t) where
    here : TimeAt q (node w.item w.inside nil)
    here = subst (TimeAt q) w.tree a

    pub place-room : Room l used q
    place-room =
        let r = frame-retimed q 0 (omega arith) limit l w.item w.inside used w.reads here in
        record { low = r.0; near = r.1; high = r.2 }

    pub one-read : (v : ℕ) → v < 2 ^ 64 → FrameIs limit (put_time q v l) used (retimed_forest q v t)
    unfolding retimed_forest
    one-read v small =
        record {
          item = retimed q v w.item;
          inside = retimed_forest q v w.inside;
          tree = ap (retimed_forest q v) w.tree;
          reads = (frame-retimed q v small limit l w.item w.inside used w.reads here).3;
        }

  -- another time tag leaves every place
  place_kept : (q r v : ℕ) (t : Forest) → TimeAt q t → TimeAt q (retimed_forest r v t)
  unfolding retimed_forest
  place_kept q r v nil a = a
  place_kept q r v (node item inside rest) (inl a) =
      let kind : (retimed r v item).kind ≡ item.kind = retimed-kind r v item in
      let start : (retimed r v item).start ≡ item.start = retimed-start r v item in
      inl (ap has_time kind ∙ a.0, rw (kind, start) a.1)
  place_kept q r v (node item inside rest) (inr (inl a)) = inr (inl (place_kept q r v inside a))
  place_kept q r v (node item inside rest) (inr (inr a)) = inr (inr (place_kept q r v rest a))

  -- the time tags of g are all in t
  abbrev pub Has : Forest → Forest → Type 0
  Has g t = (q : ℕ) → TimeAt q g → TimeAt q t

  pub has_one : (by : ℕ) (item : Item) (g t : Forest) → Has g t → Has g (retime_one by item t)
  has_one by item g t h q a = by_kind (has_time item.kind)
    where
      by_kind : (b : Bool) → TimeAt q (cond b (retimed_forest (time_place item) (shifted (time_tag_of item) by) t) t)
      by_kind true = place_kept q (time_place item) (shifted (time_tag_of item) by) t (h q a)
      by_kind false = h q a

  pub has_all : (by : ℕ) (f g t : Forest) → Has g t → Has g (retime_all by f t)
  unfolding retime_all
  has_all by nil g t h = h
  has_all by (node item inside rest) g t h =
      has_all by rest g (retime_all by inside (retime_one by item t)) (has_all by inside g (retime_one by item t) (has_one by item g t h))

  -- the frame and its tree after one node
  pub one-slid : (by : ℕ) (item : Item) (l : List ℕ) (used : ℕ) (t : Forest) → FrameIs limit l used t
      → (has_time item.kind ≡ true → TimeAt (time_place item) t)
      → FrameIs limit (slide_one by item l) used (retime_one by item t) × (length (slide_one by item l) ≡ length l)
  one-slid by item l used t w h = by_kind (has_time item.kind) refl
    where
      by_kind : (b : Bool) → has_time item.kind ≡ b
          → FrameIs limit (cond b (put_time (time_place item) (shifted (time_tag_of item) by) l) l) used
          (cond b (retimed_forest (time_place item) (shifted (time_tag_of item) by) t) t)
          × (length (cond b (put_time (time_place item) (shifted (time_tag_of item) by) l) l) ≡ length l)
      by_kind true e =
          let r = place-room l used t w (time_place item) (h e) in (
            one-read l used t w (time_place item) (h e) (shifted (time_tag_of item) by) (omega arith),
            put-length (time_place item) (shifted (time_tag_of item) by) l (omega (arith, r.near, r.high)),
          )
      by_kind false e = (w, refl)

  -- after some nodes
  pub all-slid : (by : ℕ) (g : Forest) (l : List ℕ) (used : ℕ) (t : Forest) → FrameIs limit l used t → Has g t
      → FrameIs limit (slid_bytes by g l) used (retime_all by g t) × (length (slid_bytes by g l) ≡ length l)
  unfolding slid_bytes retime_all
  all-slid by nil l used t w h = (w, refl)
  all-slid by (node item inside rest) l used t w h =
      let a = one-slid by item l used t w (λ e. h (time_place item) (inl (e, refl))) in
      let b = all-slid by inside (slide_one by item l) used (retime_one by item t) a.0
      (has_one by item inside t (λ q c. h q (inr (inl c)))) in
      let d = all-slid by rest (slid_bytes by inside (slide_one by item l)) used (retime_all by inside (retime_one by item t)) b.0
      (has_all by inside rest (retime_one by item t) (has_one by item rest t (λ q c. h q (inr (inr c))))) in
      (d.0, d.1 ∙ b.1 ∙ a.1)

  -- ---- a time tag is the number of its eight bytes

  -- trees that are the same with the number N says at each of their places
  abbrev Fixed : (ℕ → ℕ) → Forest → Type 0
  Fixed N g = (q : ℕ) → TimeAt q g → retimed_forest q (N q) g ≡ g

  fixed-times : (N : ℕ → ℕ) (g : Forest) → Fixed N g → TimesAre N g
  unfolding retimed_forest
  fixed-times N nil h = tt
  fixed-times N (node item inside rest) h = (
    own,
    fixed-times N inside (λ q a. let e = h q (inr (inl a)) in cc),
    fixed-times N rest (λ q a. let e = h q (inr (inr a)) in cc),
  )
    where
      own : has_time item.kind ≡ true → time_tag_of item ≡ N (time_place item)
      own k =
          let q = time_place item in
          let e : node (retimed q (N q) item) (retimed_forest q (N q) inside) (retimed_forest q (N q) rest) ≡ node item inside rest
          = h q (inl (k, refl)) in
          let i : retimed q (N q) item ≡ item = cc in
          let j : with_time (N q) item ≡ item = sym (retimed-at q (N q) item (k, refl)) ∙ i in
          let a : N q / 2 ^ 32 ≡ item.a = ap (λ (x : Item). x.a) j in
          let b : N q % 2 ^ 32 ≡ item.b = ap (λ (x : Item). x.b) j in
          omega arith

  module _ (l : List ℕ) (small : (i : ℕ) → get_or l i 0 < 256) (used : ℕ) (t : Forest) (w : FrameIs limit l used t) where
    -- the number of eight bytes
    abbrev pub number_at : ℕ → ℕ
    number_at q = number 8 (drop q l)

    pub times-read : TimesAre (λ q. number 8 (drop q l)) t
    unfolding retimed_forest
    times-read = fixed-times (λ q. number 8 (drop q l)) t
        (λ q a.
        let r = place-room l used t w q a in
        let low : number 8 (drop q l) < 2 ^ 64 = omega (arith, number_small 8 (drop q l) (drop-small q l small)) in
        let s = one-read l used t w q a (number 8 (drop q l)) low in
        let same : cut_frame limit 0 (put_time q (number 8 (drop q l)) l) ≡ cut_frame limit 0 l
        = ap (cut_frame limit 0) (put-own l small q (omega (arith, r.near, r.high))) in
        let trees : read (one s.item s.inside used) ≡ read (one w.item w.inside used) = sym s.reads ∙ same ∙ w.reads in
        let i : s.item ≡ w.item = cc in
        let f : s.inside ≡ w.inside = cc in
        s.tree ∙ cc w.tree)

    -- a frame that is slid: its tree is the old one, slid, and it is as long
    pub slid-read : (by : ℕ) → FrameIs limit (slid_bytes by t l) used (slid_forest by t) × (length (slid_bytes by t l) ≡ length l)
    slid-read by =
        let a = all-slid by t l used t w (λ q b. b) in
        (subst (FrameIs limit (slid_bytes by t l) used) (retimed-slid by (λ q. number 8 (drop q l)) t times-read) a.0, a.1)
