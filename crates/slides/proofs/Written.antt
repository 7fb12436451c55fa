-- What the code writes: one time tag, that of one record, and those of a row of records.
use mathlib.Core.Path.{◌≡◌, refl, ap, sym, ◌∙◌}
use mathlib.Core.Bool.{true, false}
use mathlib.Core.List.{List, ◌++◌}
use Prim.Native.Nat.{ℕ, suc, ◌+◌, ◌-◌, ◌*◌, ◌/◌, ◌<◌, ◌≤◌}
use native.Mathlib.Omega.{arith}
use borrow.Author.Tests.{eq-eqb, ne_eqb}
use borrow.Rule.Slice.PartMut.{mid_of, put_mid}
use lib.ListN.{length, take}
use lib.Seq.{drop-drop}
use Rattle.clock.specs.Shift.{shifted}
use Rattle.wire.specs.Number.{bytes}
use Rattle.wire.specs.Wrote.{Wrote}
use Rattle.wire.proofs.Numbers.{length-bytes}
use Rattle.wire.proofs.Parts.{lent, given_back}
use Rattle.node.specs.Records.{item_at}
use Rattle.node.specs.Tags.{bundle_kind}
use Rattle.node.specs.declared.record.Item.{Item}
use Rattle.slides.specs.Slides.{has_time, time_tag_of, time_place, put_time, slide_one}
use Rattle.slides.specs.CodeSlides.{slid_records, TimeFits, RecordsFit}
use Rattle.slides.proofs.Back.{one-long}

-- eight bytes written to what is lent from a place on
pub put_written : (at x : ℕ) (l p : List ℕ) → Wrote (bytes 8 x) (mid_of at (length l - at) l) p
    → put_mid at (length l - at) l p ≡ put_time at x l
unfolding put_time
put_written at x l p w =
    given_back l p at
    ∙ ap (λ (m : List ℕ). take at l ++ m)
    (w.left ∙ rw (length-bytes 8 x, lent l at, drop-drop 8 at l))

module _ (by : ℕ) (item : Item) (l : List ℕ) where
  -- a bundle
  module _ (k : item.kind ≡ bundle_kind) where
    bundle-place : time_place item ≡ (item.start + 11) / 4 * 4
    bundle-place = rw (eq-eqb item.kind bundle_kind k) (omega arith)

    pub bundle-fits : TimeFits (length l) item → (item.start + 11) / 4 * 4 + 8 ≤ length l
    bundle-fits h = rw (← bundle-place) (h (rw (eq-eqb item.kind bundle_kind k)))

    pub bundle-slid : {m : List ℕ} (tag x : ℕ) → tag ≡ time_tag_of item → x ≡ shifted tag by → m ≡ put_time ((item.start + 11) / 4 * 4) x l
        → m ≡ slide_one by item l
    bundle-slid tag x e f w =
        let timed : has_time item.kind ≡ true = rw (eq-eqb item.kind bundle_kind k) in
        let one : slide_one by item l ≡ put_time (time_place item) (shifted (time_tag_of item) by) l = rw timed in
        w
        ∙ ap (λ (y : ℕ). put_time ((item.start + 11) / 4 * 4) y l) (f ∙ ap (λ (y : ℕ). shifted y by) e)
        ∙ ap (λ (q : ℕ). put_time q (shifted (time_tag_of item) by) l) (sym bundle-place)
        ∙ sym one

  -- another kind
  module _ (n : item.kind ≡ bundle_kind → ⊥) where
    -- a t
    module _ (k : item.kind ≡ 116) where
      t-timed : has_time item.kind ≡ true
      t-timed = rw (ne_eqb item.kind bundle_kind n, eq-eqb item.kind 116 k)

      t-place : time_place item ≡ item.start
      t-place = rw (ne_eqb item.kind bundle_kind n)

      pub t-fits : TimeFits (length l) item → item.start + 8 ≤ length l
      t-fits h = rw (← t-place) (h t-timed)

      pub t-slid : {m : List ℕ} (tag x : ℕ) → tag ≡ time_tag_of item → x ≡ shifted tag by → m ≡ put_time item.start x l
          → m ≡ slide_one by item l
      t-slid tag x e f w =
          let one : slide_one by item l ≡ put_time (time_place item) (shifted (time_tag_of item) by) l = rw t-timed in
          w
          ∙ ap (λ (y : ℕ). put_time item.start y l) (f ∙ ap (λ (y : ℕ). shifted y by) e)
          ∙ ap (λ (q : ℕ). put_time q (shifted (time_tag_of item) by) l) (sym t-place)
          ∙ sym one

    -- one without a time tag
    pub none-slid : (item.kind ≡ 116 → ⊥) → l ≡ slide_one by item l
    none-slid m =
        let plain : has_time item.kind ≡ false = rw (ne_eqb item.kind bundle_kind n, ne_eqb item.kind 116 m) in
        let one : slide_one by item l ≡ l = rw plain in
        sym one

-- ---- a row of records

-- the frame so far, of which the records from i on are left
pub record Sliding (by : ℕ) (table : List ℕ) (count : ℕ) (l : List ℕ) (i : ℕ) (m : List ℕ) : Type 0 where
  pub within : i ≤ count
  pub long : length m ≡ length l
  pub whole : slid_records by table i (count - i) m ≡ slid_records by table 0 count l

pub sliding-start : (by : ℕ) (table : List ℕ) (count : ℕ) (l : List ℕ) → Sliding by table count l 0 l
sliding-start by table count l =
    let all : count - 0 ≡ count = omega arith in
    record { within = omega arith; long = refl; whole = ap (λ (n : ℕ). slid_records by table 0 n l) all }

module _ {by : ℕ} {table : List ℕ} {count : ℕ} {l : List ℕ} {i : ℕ} {m : List ℕ} (w : Sliding by table count l i m) where
  -- the time tag of the next record lies in it
  pub sliding-fits : {item : Item} → item ≡ item_at table i → i < count → RecordsFit (length l) table count → TimeFits (length m) item
  sliding-fits {item} e h fits = rw (e, w.long) (fits i h)

  pub sliding-on : {m' : List ℕ} {item : Item} → item ≡ item_at table i → i < count → RecordsFit (length l) table count
      → m' ≡ slide_one by item m → Sliding by table count l (i + 1) m'
  unfolding slid_records
  sliding-on {m'} {item} d h fits s =
      let e : m' ≡ slide_one by (item_at table i) m = s ∙ ap (λ (x : Item). slide_one by x m) d in
      let less : count - i ≡ suc (count - (i + 1)) = omega arith in
      let n : TimeFits (length m) (item_at table i) = λ k. omega (arith, fits i h k, w.long) in
      record {
        within = omega arith;
        long = ap length e ∙ one-long by (item_at table i) m n ∙ w.long;
        whole = ap (slid_records by table (i + 1) (count - (i + 1))) e ∙ ap (λ (k : ℕ). slid_records by table i k m) (sym less) ∙ w.whole;
      }

  pub sliding-end : count ≤ i → m ≡ slid_records by table 0 count l
  unfolding slid_records
  sliding-end h =
      let none : count - i ≡ 0 = omega arith in
      ap (λ (k : ℕ). slid_records by table i k m) (sym none) ∙ w.whole
