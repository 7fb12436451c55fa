-- Ticket 10: tables that differ in their starts alone have trees that do, and those are written alike.
use mathlib.Core.Path.{◌≡◌, refl, sym, ap, ◌∙◌}
use mathlib.Core.Bool.{true, cond}
use mathlib.Core.List.{List}
use Prim.Native.Nat.{ℕ, ◌+◌, ◌-◌, ◌%◌, ◌≤◌, ◌<◌, min}
use native.Mathlib.Omega.{arith}
use lib.ListN.{length, take, drop, length-take, length-drop}
use lib.Seq.{ext_get_or, get_or-take, get_or-drop}
use Rattle.edition.specs.declared.Edition.{Edition}
use Rattle.wire.specs.Number.{from, number}
use Rattle.node.specs.Forest.{Forest, nil, node, depth}
use Rattle.node.specs.Records.{kind_at, zeros_at, field_at, start_at, end_at, item_at, record_start}
use Rattle.node.specs.Rules.{arg_rules, is_packet, own_rules}
use Rattle.node.specs.Tags.{sort_of}
use Rattle.node.specs.declared.record.Item.{Item}
use Rattle.node.specs.declared.tags.Class.TheVariants.{Four, Eight, Bare, Text, Blob, Scalar, Unknown}
use Rattle.node.specs.declared.tags.Sort.{Sort}
use Rattle.node.specs.declared.tags.Sort.TheVariants.{Opens, Closes, Leaf}
use Rattle.table.specs.Formed.{range_ok}
use Rattle.table.specs.Tree.{Spans, Obeys, IsTree}
use Rattle.writers.specs.Osc.{data_by, write_data, write_tags, write_message, write_bundle, write_elements, write_packet}
use Rattle.encoder.specs.Outcome.{Encodes, malformed, formed, tree_outcome, unframed, framed_by}
use Rattle.encoder.proofs.Only.{encodes-only}
use Rattle.wire.proofs.Only.{one-outcome}
use Rattle.standards.specs.Ignored.{StartsDiffer, IgnoresStarts}

-- ---- trees that differ in their starts alone

-- an item with another start
abbrev moved : ℕ → Item → Item
moved start item = record { kind = item.kind; a = item.a; b = item.b; start = start }

-- each node has another start, and is as it was
data Alike : Forest → Forest → Type 0 where
  none : Alike nil nil
  both : {item : Item} {f f' g g' : Forest} (start : ℕ) → Alike f f' → Alike g g' → Alike (node item f g) (node (moved start item) f' g')

-- a node's own rules do not speak of its start
rules-moved : (start : ℕ) (item : Item) → own_rules (moved start item) ≡ own_rules item
unfolding own_rules
rules-moved start item = ap (cond (is_packet item.kind) true) (by-sort (sort_of item.kind))
  where
    by-sort : (x : Sort) → arg_rules x (moved start item) ≡ arg_rules x item
    by-sort Opens = refl
    by-sort Closes = refl
    by-sort (Leaf Four) = refl
    by-sort (Leaf Eight) = refl
    by-sort (Leaf Bare) = refl
    by-sort (Leaf Text) = refl
    by-sort (Leaf Blob) = refl
    by-sort (Leaf Scalar) = refl
    by-sort (Leaf Unknown) = refl

-- nor does its data
data-moved : (source : List ℕ) (start : ℕ) (item : Item) (within : List ℕ) (x : Sort)
    → data_by x source (moved start item) within ≡ data_by x source item within
data-moved source start item within Opens = refl
data-moved source start item within Closes = refl
data-moved source start item within (Leaf Four) = refl
data-moved source start item within (Leaf Eight) = refl
data-moved source start item within (Leaf Bare) = refl
data-moved source start item within (Leaf Text) = refl
data-moved source start item within (Leaf Blob) = refl
data-moved source start item within (Leaf Scalar) = refl
data-moved source start item within (Leaf Unknown) = refl

alike-obeys : (source : List ℕ) (container : ℕ) {F F' : Forest} → Alike F F' → Obeys source container F → Obeys source container F'
unfolding Obeys range_ok
alike-obeys source container none o = tt
alike-obeys source container (both {item} start w v) o =
    (rules-moved start item ∙ o.0, o.1, o.2, alike-obeys source item.kind w o.3, alike-obeys source container v o.4)

alike-depth : {F F' : Forest} → Alike F F' → depth F' ≡ depth F
unfolding depth
alike-depth none = refl
alike-depth (both start w v) = rw (alike-depth w, alike-depth v)

alike-tags : {F F' : Forest} → Alike F F' → write_tags F' ≡ write_tags F
unfolding write_tags
alike-tags none = refl
alike-tags (both start w v) = rw (alike-tags w, alike-tags v)

alike-data : (source : List ℕ) {F F' : Forest} → Alike F F' → write_data source F' ≡ write_data source F
unfolding write_data
alike-data source none = refl
alike-data source (both {item} {f} start w v) =
    rw (alike-data source w, alike-data source v, data-moved source start item (write_data source f) (sort_of item.kind))

alike-elements : (source : List ℕ) {F F' : Forest} → Alike F F' → write_elements source F' ≡ write_elements source F
unfolding write_elements write_message write_bundle
alike-elements source none = refl
alike-elements source (both start w v) = rw (alike-elements source w, alike-elements source v, alike-tags w, alike-data source w)

-- a packet is written alike
alike-packet : (source : List ℕ) (item : Item) (start : ℕ) {f f' : Forest} → Alike f f'
    → write_packet source (moved start item) f' ≡ write_packet source item f
unfolding write_packet write_message write_bundle
alike-packet source item start w = rw (alike-elements source w, alike-tags w, alike-data source w)

-- and so is a tree
alike-tree : (frame : ℕ → List ℕ → List ℕ) (source out : List ℕ) (item : Item) (start : ℕ) {f f' : Forest} → Alike f f'
    → tree_outcome frame source out (moved start item) f' ≡ tree_outcome frame source out item f
unfolding tree_outcome
alike-tree frame source out item start w = rw (alike-depth (both {item = item} start w none), alike-packet source item start w)

-- ---- tables that do

-- the trees of a row of records of the other table
record Respanned (t : List ℕ) (lo hi : ℕ) (F : Forest) : Type 0 where
  forest : Forest
  spans : Spans t lo hi forest
  alike : Alike F forest

module _ {t t' : List ℕ} (d : StartsDiffer t t') where
  bytes_same : (o n : ℕ) → ((k : ℕ) → k < n → (o + k) % 20 < 16) → take n (drop o t) ≡ take n (drop o t')
  bytes_same o n h =
      ext_get_or 0 (take n (drop o t)) (take n (drop o t')) (long t ∙ ap (λ (m : ℕ). min n (m - o)) d.long ∙ sym (long t'))
      (λ k l.
      let low : k < n = omega (arith, length-take n (drop o t)) in
      get_or-take n (drop o t) k 0 low ∙ get_or-drop o t k 0 ∙ d.same (o + k) (h k low) ∙ sym (get_or-drop o t' k 0)
      ∙ sym (get_or-take n (drop o t') k 0 low))
    where
      long : (s : List ℕ) → length (take n (drop o s)) ≡ min n (length s - o)
      long s = length-take n (drop o s) ∙ ap (min n) (length-drop o s)

  field-same : (i k : ℕ) → k + 4 ≤ 16 → field_at t' i k ≡ field_at t i k
  unfolding field_at number
  field-same i k h = sym (ap (from 0) (bytes_same (record_start i + k) 4 (λ j l. omega arith)))

  zeros-same : (i : ℕ) → zeros_at t' i ≡ zeros_at t i
  unfolding zeros_at number
  zeros-same i = sym (ap (from 0) (bytes_same (record_start i + 1) 3 (λ j l. omega arith)))

  kind-same : (i : ℕ) → kind_at t' i ≡ kind_at t i
  unfolding kind_at
  kind-same i = sym (d.same (record_start i) (omega arith))

  -- a record says the same of its node but for its start
  item-same : (i : ℕ) → item_at t' i ≡ moved (start_at t' i) (item_at t i)
  item-same i = rw (kind-same i, field-same i 8 (omega arith), field-same i 12 (omega arith))

  respan : (lo hi : ℕ) (F : Forest) → Spans t lo hi F → Respanned t' lo hi F
  unfolding Spans
  respan lo hi nil s = record { forest = nil; spans = s; alike = none }
  respan lo hi (node item inside rest) s =
      let x = respan (lo + 1) (end_at t lo) inside s.1 in
      let y = respan (end_at t lo) hi rest s.2 in
      let e : end_at t' lo ≡ end_at t lo = field-same lo 4 (omega arith) in
      record {
        forest = node (moved (start_at t' lo) item) x.forest y.forest;
        spans = (item-same lo ∙ ap (moved (start_at t' lo)) s.0, rw e x.spans, rw e y.spans);
        alike = both (start_at t' lo) x.alike y.alike;
      }

  -- the other table has a tree too, and that gives the same
  other-encodes : (frame : ℕ → List ℕ → List ℕ) (count : ℕ) (source out : List ℕ) (item : Item) (inside : Forest)
      → IsTree t count source item inside
      → Encodes frame t' count source out (tree_outcome frame source out item inside)
  other-encodes frame count source out item inside w = by-forest (respan 0 count (node item inside nil) w.spans)
    where
      by-forest : Respanned t' 0 count (node item inside nil) → Encodes frame t' count source out (tree_outcome frame source out item inside)
      by-forest x = by_alike x.forest x.spans x.alike
        where
          by_alike : (F : Forest) → Spans t' 0 count F → Alike (node item inside nil) F
              → Encodes frame t' count source out (tree_outcome frame source out item inside)
          by_alike F s (both {f' = f'} start v none) =
              formed (moved start item) f'
              (record {
                spans = s;
                obeys = alike-obeys source _ (both start v none) w.obeys;
                few = w.few;
                fits = rw (← d.long) w.fits;
                zeros = λ i h. zeros-same i ∙ w.zeros i h;
              })
              (sym (alike-tree frame source out item start v))

-- the other way round
turned : {t t' : List ℕ} → StartsDiffer t t' → StartsDiffer t' t
turned d = record { long = sym d.long; same = λ j h. sym (d.same j h) }

-- an encoder ignores the starts, whatever its frame
ignores : (frame : ℕ → List ℕ → List ℕ) → IgnoresStarts frame
ignores frame t t' d count source out r r' (malformed n e) (malformed m f) = one-outcome e f
ignores frame t t' d count source out r r' (formed item inside w e) q =
    e ∙ encodes-only frame t' count source out (tree_outcome frame source out item inside) r'
    (other-encodes d frame count source out item inside w) q
ignores frame t t' d count source out r r' (malformed n e) (formed item inside w f) =
    encodes-only frame t count source out r (tree_outcome frame source out item inside) (malformed n e)
    (other-encodes (turned d) frame count source out item inside w)
    ∙ sym f

-- `encode` does
pub encode_ignores : IgnoresStarts unframed
encode_ignores = ignores unframed

-- and `encode_tcp`, in both editions
pub encode_tcp_ignores : (edition : Edition) → IgnoresStarts (framed_by edition)
encode_tcp_ignores edition = ignores (framed_by edition)
