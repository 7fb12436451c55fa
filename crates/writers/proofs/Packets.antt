-- The type tag text, the message, the bundle and its elements: what each step of their writers has room for, and what it leaves.
use mathlib.Core.Path.{◌≡◌, refl, ap, ◌∙◌}
use mathlib.Core.List.{List, [], ◌++◌, append_assoc}
use Prim.Native.Nat.{ℕ, suc, ◌+◌, ◌-◌, ◌*◌, ◌%◌, ◌≤◌, ◌<◌}
use native.Mathlib.Omega.{arith}
use lib.ListN.{length, set, replicate, length-append, length-set}
use borrow.Rule.Slice.PartMut.{mid_of, put_mid}
use Rattle.wire.specs.Number.{bytes}
use Rattle.wire.specs.Limits.{longest}
use Rattle.wire.specs.Wrote.{Wrote, Filled}
use Rattle.wire.proofs.Numbers.{length-bytes}
use Rattle.wire.proofs.Parts.{length-lent}
use Rattle.wire.proofs.Writers.{wrote_none, filled-set, filled-length, filled-lent, same_length}
use Rattle.wire.proofs.Gaps.{gap-filled, written-again, written_from}
use Rattle.node.specs.Forest.{Forest}
use Rattle.node.specs.Records.{record_size, kind_at, end_at, item_at, capacity}
use Rattle.node.specs.Tags.{message_kind}
use Rattle.node.specs.declared.record.Item.{Item}
use Rattle.wire.specs.Part.{part}
use Rattle.table.specs.Tree.{Spans}
use Rattle.table.proofs.Spanned.{spans-size}
use Rattle.strings.specs.Atomic.{osc_string}
use Rattle.strings.specs.CodeStrings.{string_length}
use Rattle.writers.specs.Osc.{write_tags, write_data, write_message, write_bundle, write_element, write_elements}
use Rattle.writers.specs.CodeWriters.{tag_text, bundle_head, Any, SoundIn, OutputRoom, WritesRow, WritesPacket, packet_at, Ready}
use Rattle.strings.proofs.Lengths.{length-string}
use Rattle.writers.proofs.Lengths.{length-bundle}
use Rattle.writers.proofs.Classed.{address-range, message-is, bundle-is, elements-is, elements-none}
use Rattle.writers.proofs.Rows.{Going, begun, ended, room-left, next, gone, obeyed}

-- ---- the type tag text

module _ {t : List ℕ} {lo hi : ℕ} (o : List ℕ) (r : OutputRoom Any tag_text t lo hi (length o)) where
  -- the output with the comma
  abbrev comma : List ℕ
  comma = set o 0 44

  -- there is room for the type tag text
  pub text-room : (string_length (1 + length (write_tags r.forest)) ≤ length o) ×
      (string_length (1 + length (write_tags r.forest)) ≤ longest)
  text-room =
      let e : 1 + length (write_tags r.forest) ≡ suc (length (write_tags r.forest)) = omega arith in
      rw e (rw length-string at r.fits, rw length-string at r.few)

  -- after the comma there is room for the tags
  pub tags-asked : OutputRoom Any write_tags t lo hi (length (mid_of 1 (length comma - 1) comma))
  tags-asked =
      record {
        forest = r.forest;
        spans = r.spans;
        holds = tt;
        fits = rw length-lent (simp length-set (omega (arith, text-room)));
        few = omega (arith, text-room);
        table = r.table;
      }

  module _ {p : List ℕ} {n : ℕ} (f : WritesRow write_tags t lo hi (mid_of 1 (length comma - 1) comma) p n) where
    -- the output with the tags
    abbrev tagged : List ℕ
    tagged = put_mid 1 (length comma - 1) comma p

    -- after the tags there is room for the NULs
    pub tagged-room : (string_length (1 + n) ≤ length o) × (string_length (1 + n) ≤ longest) × (length tagged ≡ length o)
    tagged-room =
        let c = f r.forest r.spans in
        rw c.count (text-room.0, text-room.1, same_length comma 1 c.wrote ∙ simp length-set)

    -- comma, tags and NULs are the type tag text
    pub text-filled : {q : List ℕ} {z : ℕ} → Filled (replicate (4 - (1 + n) % 4) 0) (mid_of (1 + n) (length tagged - (1 + n)) tagged) q z
        → WritesRow tag_text t lo hi o (put_mid (1 + n) (length tagged - (1 + n)) tagged q) (1 + n + z)
    unfolding osc_string
    text-filled zeros F s =
        let none : Filled [] o o 0 = record { count = refl; wrote = wrote_none o } in
        let tags = filled-lent (filled-set 44 none (omega (arith, text-room))) (f F s) in
        let e : 1 + n ≡ suc (length (write_tags F)) = omega (arith, (f F s).count) in
        rw (← e) (filled-lent tags zeros)

-- ---- a packet

-- its record stands before what it contains, and in the table
pub before-end : {source t : List ℕ} {at n : ℕ} → Ready source t at n → (at < end_at t at) × (at < capacity t)
before-end {source} {t} {at} q =
    let s = spans-size t (at + 1) (end_at t at) q.room.forest q.room.spans in
    (omega arith, omega (arith, q.room.table))

-- ---- a message

-- the record of a message, whose end and numbers were read, and the output, which has room for the message
pub record MessageToWrite (source t : List ℕ) (at : ℕ) (o : List ℕ) (end : ℕ) (item : Item) : Type 0 where
  pub kind : kind_at t at ≡ message_kind
  pub ready : Ready source t at (length o)
  pub ends : end ≡ end_at t at
  pub numbers : item ≡ item_at t at

-- the facts that make it
pub message : {source t : List ℕ} {at : ℕ} {o : List ℕ} {end : ℕ} {item : Item} → kind_at t at ≡ message_kind → Ready source t at (length o)
    → end ≡ end_at t at → item ≡ item_at t at → MessageToWrite source t at o end item
message k r e i = record { kind = k; ready = r; ends = e; numbers = i }

module _ {source t : List ℕ} {at : ℕ} {o : List ℕ} {end : ℕ} {item : Item} (w : MessageToWrite source t at o end item) where
  message-bytes : (F : Forest) → packet_at source t at F ≡ osc_string (part source item.a item.b) ++ (tag_text F ++ write_data source F)
  unfolding write_message
  message-bytes F = rw w.numbers (message-is source (item_at t at) F w.kind)

  -- how long the message is
  abbrev message-length : ℕ
  message-length =
      length (osc_string (part source item.a item.b))
      + length (tag_text w.ready.room.forest) + length (write_data source w.ready.room.forest)

  message-room : (message-length ≤ length o) × (message-length ≤ longest)
  message-room =
      let l = simp length-append at (ap length (message-bytes w.ready.room.forest)) in
      (omega (arith, w.ready.room.fits), omega (arith, w.ready.room.few))

  inside-spans : Spans t (at + 1) end w.ready.room.forest
  inside-spans = rw w.ends w.ready.room.spans

  table-room : record_size * end ≤ length t
  table-room = rw w.ends w.ready.room.table

  -- the address's range lies in the source
  pub address-asked : item.a + item.b ≤ length source
  address-asked = rw w.numbers (address-range source (item_at t at) w.ready.range w.kind)

  -- there is room for the address
  pub address-fits : length (osc_string (part source item.a item.b)) ≤ length o
  address-fits = omega (arith, message-room)

  module _ {o₁ : List ℕ} {k : ℕ} (f₁ : Filled (osc_string (part source item.a item.b)) o o₁ k) where
    -- after the address there is room for the type tag text
    pub text-asked : OutputRoom Any tag_text t (at + 1) end (length (mid_of k (length o₁ - k) o₁))
    text-asked =
        record {
          forest = w.ready.room.forest;
          spans = inside-spans;
          holds = tt;
          fits = rw length-lent (omega (arith, f₁.count, message-room, filled-length f₁));
          few = omega (arith, message-room);
          table = table-room;
        }

    module _ {p : List ℕ} {m : ℕ} (f₂ : WritesRow tag_text t (at + 1) end (mid_of k (length o₁ - k) o₁) p m) where
      -- the output with address and tags
      abbrev headed : List ℕ
      headed = put_mid k (length o₁ - k) o₁ p

      headed-filled : Filled (osc_string (part source item.a item.b) ++ tag_text w.ready.room.forest) o headed (k + m)
      headed-filled = filled-lent f₁ (f₂ w.ready.room.forest inside-spans)

      -- address and type tag text fit the output
      pub head-room : (k + m ≤ length headed) × (k + m ≤ longest)
      head-room =
          let l = simp length-append at headed-filled.count in
          (omega (arith, message-room, filled-length headed-filled), omega (arith, message-room))

      -- after them there is room for the data
      pub data-asked : OutputRoom (SoundIn source) (write_data source) t (at + 1) end
          (length (mid_of (k + m) (length headed - (k + m)) headed))
      data-asked =
          let l = simp length-append at headed-filled.count in
          record {
            forest = w.ready.room.forest;
            spans = inside-spans;
            holds = w.ready.room.holds;
            fits = rw length-lent (omega (arith, message-room, filled-length headed-filled));
            few = omega (arith, message-room);
            table = table-room;
          }

      module _ {p' : List ℕ} {d : ℕ}
          (f₃ : WritesRow (write_data source) t (at + 1) end (mid_of (k + m) (length headed - (k + m)) headed) p' d) where
        -- with the data the message is no longer than a packet may be
        pub message-end : k + m + d ≤ longest
        message-end =
            let l = simp length-append at headed-filled.count in
            let c = (f₃ w.ready.room.forest inside-spans).count in
            omega (arith, message-room)

        -- address, type tag text and data are the message
        pub message-filled : WritesPacket source t at o (put_mid (k + m) (length headed - (k + m)) headed p') (k + m + d)
        message-filled F s =
            let s' : Spans t (at + 1) end F = rw w.ends s in
            rw (message-bytes F) (simp append_assoc at (filled-lent (filled-lent f₁ (f₂ F s')) (f₃ F s')))

-- ---- a bundle

-- the record of a bundle, whose end and numbers were read, and the output, which has room for the bundle
pub record BundleToWrite (source t : List ℕ) (at : ℕ) (o : List ℕ) (end : ℕ) (item : Item) : Type 0 where
  pub kind : kind_at t at ≡ message_kind → ⊥
  pub ready : Ready source t at (length o)
  pub ends : end ≡ end_at t at
  pub numbers : item ≡ item_at t at

-- the facts that make it
pub bundle : {source t : List ℕ} {at : ℕ} {o : List ℕ} {end : ℕ} {item : Item} → (kind_at t at ≡ message_kind → ⊥)
    → Ready source t at (length o) → end ≡ end_at t at → item ≡ item_at t at → BundleToWrite source t at o end item
bundle k r e i = record { kind = k; ready = r; ends = e; numbers = i }

module _ {source t : List ℕ} {at : ℕ} {o : List ℕ} {end : ℕ} {item : Item} (w : BundleToWrite source t at o end item) where
  bundle-bytes : (F : Forest) → packet_at source t at F ≡ write_bundle item [] ++ write_elements source F
  bundle-bytes F = rw w.numbers (bundle-is source (item_at t at) F w.kind)

  -- there is room for the bundle's head
  pub head-asked : bundle_head ≤ length o
  head-asked =
      omega (arith, w.ready.room.fits, simp (length-append, length-bundle) at (ap length (bundle-bytes w.ready.room.forest)))

  module _ {o₁ : List ℕ} {k : ℕ} (f : Filled (write_bundle item []) o o₁ k) where
    -- after the head all elements are left to write
    pub bundle-begun : Going (SoundIn source) (packet_at source t at) (write_elements source) t (at + 1) end o₁ o₁ (at + 1) k
    bundle-begun =
        let room : OutputRoom (SoundIn source) (packet_at source t at) t (at + 1) end (length o₁)
        = rw (w.ends, filled-length f) w.ready.room in
        begun room (write_bundle item []) (bundle-bytes room.forest) (written-again f)

    -- where no element is left, the bundle is written
    pub bundle-ended : {o₂ : List ℕ} {next n : ℕ}
        → Going (SoundIn source) (packet_at source t at) (write_elements source) t (at + 1) end o₁ o₂ next n
        → end ≤ next → WritesPacket source t at o o₂ n
    bundle-ended b h F s =
        let all = ended b (elements-none source) h F (rw w.ends s) in
        rw (bundle-bytes F) (written_from (write_elements source F) f (rw (bundle-bytes F) at all))

-- ---- an element of a bundle

module _ {source t : List ℕ} {g : Forest → List ℕ} {lo hi : ℕ} {o₀ o : List ℕ} {at k : ℕ}
    (w : Going (SoundIn source) g (write_elements source) t lo hi o₀ o at k) (h : at < hi) where
  element-left : write_elements source w.rest
      ≡ write_element (packet_at source t at (next w h).inside) ++ write_elements source (next w h).rest
  element-left = ap (write_elements source) (next w h).is
      ∙ elements-is (item_at t at) (next w h).inside (next w h).rest source

  -- there is room for the next element
  pub element-room : (k + 4 + length (packet_at source t at (next w h).inside) ≤ length o) ×
      (k + 4 + length (packet_at source t at (next w h).inside) ≤ longest)
  element-room =
      let l = simp (length-append, length-bytes) at (ap length element-left) in
      (omega (arith, room-left w, filled-length w.filled), omega (arith, room-left w))

  -- after the gap for its size there is room for its packet
  pub packet-asked : Ready source t at (length (mid_of (k + 4) (length o - (k + 4)) o))
  packet-asked =
      record {
        room = record {
          forest = (next w h).inside;
          spans = (next w h).in-spans;
          holds = record { container = kind_at t at; obeys = (obeyed w h).in-obeys };
          fits = rw length-lent (omega (arith, element-room));
          few = omega (arith, element-room);
          table = omega (arith, w.table, (next w h).within);
        };
        range = (obeyed w h).range;
      }

  module _ {p : List ℕ} {n : ℕ} (f : WritesPacket source t at (mid_of (k + 4) (length o - (k + 4)) o) p n) where
    -- the output with the packet behind the gap for its size
    abbrev placed : List ℕ
    placed = put_mid (k + 4) (length o - (k + 4)) o p

    inside-filled : Filled (packet_at source t at (next w h).inside) (mid_of (k + 4) (length o - (k + 4)) o) p n
    inside-filled = f (next w h).inside (next w h).in-spans

    -- with its packet the output is no longer than a packet may be
    pub packet-after : (k + 4 + n ≤ length placed) × (k + 4 + n ≤ longest)
    packet-after = (
      omega (arith, element-room, inside-filled.count, same_length o (k + 4) inside-filled.wrote),
      omega
          (arith, element-room, inside-filled.count),
    )

    -- once its size is written, the element is passed
    pub element-gone : {p' : List ℕ} → Wrote (bytes 4 n) (mid_of k (length placed - k) placed) p' → {end : ℕ} → end ≡ end_at t at
        → Going (SoundIn source) g (write_elements source) t lo hi o₀ (put_mid k (length placed - k) placed p') end (k + 4 + n)
    element-gone v e =
        let size = gap-filled w.filled (omega (arith, element-room, filled-length w.filled)) (length-bytes 4 _) inside-filled
        (rw inside-filled.count at v) in
        rw e
        (gone w h (write_element (packet_at source t at (next w h).inside)) element-left
        (record { container = w.holds.container; obeys = (obeyed w h).rest-obeys })
        size)
