-- A turn of the data writer's loop.
use mathlib.Core.Path.{◌≡◌, sym, ap, ◌∙◌}
use mathlib.Core.Bool.{true}
use mathlib.Core.List.{List, [], ◌++◌, append-nil}
use Prim.Native.Nat.{ℕ, ◌+◌, ◌-◌, ◌≤◌, ◌<◌}
use native.Mathlib.Omega.{arith}
use lib.ListN.{length, length-append}
use borrow.Rule.Slice.PartMut.{mid_of, put_mid}
use Rattle.wire.specs.Limits.{longest}
use Rattle.wire.specs.Wrote.{Filled}
use Rattle.wire.proofs.Parts.{length-lent}
use Rattle.wire.proofs.Writers.{filled-length, filled-lent}
use Rattle.node.specs.Tags.{sort_of}
use Rattle.node.specs.Records.{kind_at, end_at, item_at}
use Rattle.node.specs.declared.record.Item.{Item}
use Rattle.node.specs.declared.tags.Class.{Class}
use Rattle.node.specs.declared.tags.Sort.{Sort}
use Rattle.node.specs.declared.tags.Sort.TheVariants.{Opens, Closes, Leaf}
use Rattle.strings.specs.Atomic.{write_argument}
use Rattle.strings.specs.CodeStrings.{has_range}
use Rattle.table.proofs.Spanned.{Cut, Parts}
use Rattle.writers.specs.Osc.{data_by, write_data}
use Rattle.writers.specs.CodeWriters.{SoundIn, OutputRoom, WritesRow}
use Rattle.writers.proofs.Classed.{leaf-range, data_is}
use Rattle.writers.proofs.Rows.{Going, room-left, next, gone, ends, obeyed}

-- a turn of the loop at record `at`, whose end, kind and sort were read
pub record Turn (source t : List ℕ) (lo hi : ℕ) (o₀ o : List ℕ) (at k end kind : ℕ) (sort : Sort) : Type 0 where
  pub going : Going (SoundIn source) (write_data source) (write_data source) t lo hi o₀ o at k
  pub more : at < hi
  pub ended : end ≡ end_at t at
  pub kinded : kind ≡ kind_at t at
  pub sorted : sort ≡ sort_of kind

-- the facts that make a turn
pub turn : {source t : List ℕ} {lo hi : ℕ} {o₀ o : List ℕ} {at k end kind : ℕ} {sort : Sort}
    → Going (SoundIn source) (write_data source) (write_data source) t lo hi o₀ o at k → at < hi → end ≡ end_at t at → kind ≡ kind_at t at
    → sort ≡ sort_of kind → Turn source t lo hi o₀ o at k end kind sort
turn w h e q s = record { going = w; more = h; ended = e; kinded = q; sorted = s }

module _ {source t : List ℕ} {lo hi : ℕ} {o₀ o : List ℕ} {at k end kind : ℕ} {sort : Sort} (r : Turn source t lo hi o₀ o at k end kind sort)
  where
    -- the record, and its rules
    abbrev first : Cut t at hi r.going.rest
    first = next r.going r.more

    abbrev rules : Parts source r.going.holds.container (item_at t at) first.inside first.rest
    rules = obeyed r.going r.more

    later-sound : SoundIn source first.rest
    later-sound = record { container = r.going.holds.container; obeys = rules.rest-obeys }

    sort-is : sort ≡ sort_of (kind_at t at)
    sort-is = r.sorted ∙ ap sort_of r.kinded

    -- it ends after its place, and in the row; what is written is in the output
    pub turn-fits : (at < end) × (end ≤ hi) × (k ≤ length o)
    turn-fits =
        let e = ends r.going r.more r.ended in
        (e.0, e.1, omega (arith, room-left r.going, filled-length r.going.filled))

    -- the bytes of the record
    abbrev datum : Sort → List ℕ
    datum x = data_by x source (item_at t at) (write_data source first.inside)

    data-left : write_data source r.going.rest ≡ datum sort ++ write_data source first.rest
    data-left =
        ap (write_data source) first.is
        ∙ data_is (item_at t at) first.inside first.rest source sort sort-is

    data-room : (k + length (datum sort) ≤ length o₀) × (k + length (datum sort) ≤ longest)
    data-room =
        let l = simp length-append at (ap length data-left) in
        (omega (arith, room-left r.going), omega (arith, room-left r.going))

    -- there is room for it in the later part
    pub datum-fits : {x : Sort} → sort ≡ x → length (datum x) ≤ length (mid_of k (length o - k) o)
    datum-fits q = rw (length-lent, ← q) (omega (arith, data-room, filled-length r.going.filled))

    datum-gone : {x : Sort} → sort ≡ x → {p : List ℕ} {n : ℕ} → Filled (datum x) (mid_of k (length o - k) o) p n
        → Going (SoundIn source) (write_data source) (write_data source) t lo hi o₀ (put_mid k (length o - k) o p) end (k + n)
    datum-gone {x} q f = rw r.ended
        (gone r.going r.more (datum x) (data-left ∙ rw q) later-sound
        (filled-lent r.going.filled f))

    -- a closing bracket has no data
    pub closes-gone : sort ≡ Closes → Going (SoundIn source) (write_data source) (write_data source) t lo hi o₀ o end k
    closes-gone q = rw r.ended (gone r.going r.more [] (data-left ∙ rw q) later-sound
        (rw append-nil r.going.filled))

    -- an array: what it contains is written
    module _ (q : sort ≡ Opens) where
      -- there is room for the data of what it contains
      pub data-inside : OutputRoom (SoundIn source) (write_data source) t (at + 1) end (length (mid_of k (length o - k) o))
      data-inside =
          record {
            forest = first.inside;
            spans = rw r.ended first.in-spans;
            holds = record { container = kind_at t at; obeys = rules.in-obeys };
            fits = datum-fits q;
            few = omega (arith, rw q at data-room);
            table = omega (arith, r.going.table, turn-fits);
          }

      module _ {p : List ℕ} {n : ℕ} (f : WritesRow (write_data source) t (at + 1) end (mid_of k (length o - k) o) p n) where
        within : Filled (write_data source first.inside) (mid_of k (length o - k) o) p n
        within = f first.inside (rw r.ended first.in-spans)

        -- with it the output is no longer than a packet may be
        pub array-after : k + n ≤ longest
        array-after = omega (arith, within.count, rw q at data-room)

        -- the array is passed
        pub array-gone : Going (SoundIn source) (write_data source) (write_data source) t lo hi o₀ (put_mid k (length o - k) o p) end (k + n)
        array-gone = datum-gone q within

    -- an argument that is no array
    module _ {class : Class} (q : sort ≡ Leaf class) {item : Item} (u : item ≡ item_at t at) where
      -- its range lies in the source, and there is room for its data
      pub leaf-asked : (has_range class ≡ true → item.a + item.b ≤ length source) ×
          (length (write_argument class source item) ≤ length (mid_of k (length o - k) o))
      leaf-asked = (
        rw u (leaf-range source (item_at t at) class rules.range (sym sort-is ∙ q)),
        rw u (datum-fits q),
      )

      module _ {p : List ℕ} {n : ℕ} (f : Filled (write_argument class source item) (mid_of k (length o - k) o) p n) where
        -- with it the output is no longer than a packet may be
        pub leaf-after : k + n ≤ longest
        leaf-after = omega (arith, rw u at f.count, rw q at data-room)

        -- the argument is passed
        pub leaf-gone : Going (SoundIn source) (write_data source) (write_data source) t lo hi o₀ (put_mid k (length o - k) o p) end (k + n)
        leaf-gone = datum-gone q (rw u at f)
