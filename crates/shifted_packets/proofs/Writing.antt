-- What a shifted tree is written as: the same bytes, but for its tags.
use mathlib.Core.Path.{◌≡◌, refl, ap, sym, ◌∙◌}
use mathlib.Core.Bool.{Bool, true, false, cond, false≢true, true≢false}
use mathlib.Core.Logic.{◌⊎◌, inl, inr, ⊎_elim}
use mathlib.Core.List.{List, [], ◌∷◌, ◌++◌, append_assoc, append-nil}
use Prim.Native.Nat.{ℕ, ◌+◌, ◌*◌, ◌/◌, ◌%◌, ◌^◌, ◌<◌}
use native.Mathlib.Omega.{arith}
use borrow.Author.Tests.{ne_eqb, not-true}
use lib.Dec.{eqb}
use lib.ListN.{length}
use Rattle.wire.specs.Number.{bytes}
use Rattle.wire.specs.Part.{part}
use Rattle.wire.proofs.Choices.{is-or}
use Rattle.wire.proofs.Numbers.{eight-bytes}
use Rattle.node.specs.Forest.{Forest, nil, node}
use Rattle.node.specs.Tags.{array_kind, message_kind, bundle_kind, sort_of, class_of}
use Rattle.node.specs.Rules.{is_packet}
use Rattle.node.specs.declared.record.Item.{Item}
use Rattle.node.specs.declared.tags.Class.TheVariants.{Eight}
use Rattle.node.specs.declared.tags.Sort.{Sort}
use Rattle.node.specs.declared.tags.Sort.TheVariants.{Opens, Closes, Leaf}
use Rattle.table.specs.Formed.{allowed}
use Rattle.table.specs.Tree.{Obeys, FieldsFit}
use Rattle.strings.specs.Atomic.{int32, osc_string, write_argument}
use Rattle.writers.specs.Osc.{data_by, write_data, write_tags, write_message, write_bundle, write_element, packet_with, write_elements}
use Rattle.writers.specs.Osc.{write_packet}
use Rattle.writers.proofs.Classed.{opens, opens-only}
use Rattle.clock.specs.Shift.{shifted}
use Rattle.shifts.specs.Shifts.{is_timed}
use Rattle.shifts.proofs.Items.{item_tag, shifted_item, item-timed, item-other, timed-kinds, kind-kept}
use Rattle.shifted_packets.specs.Packets.{Retagged}
use Rattle.shifted_packets.proofs.Retags.{retag-none, retag-one, retag-both, retag-length, retag-after}
use Rattle.shifted_packets.proofs.Trees.{shifted_forest, node_tag, forest_tags}

-- ---- which nodes contain what

-- a kind that contains nothing
no-inside : (source : List ℕ) (k : ℕ) (F : Forest) → Obeys source k F → (k ≡ bundle_kind → ⊥) → (k ≡ message_kind → ⊥) → (k ≡ array_kind → ⊥)
    → F ≡ nil
unfolding Obeys allowed
no-inside source k nil o a b c = refl
no-inside source k (node item inside rest) o a b c =
    absurd (false≢true (rw (ne_eqb k bundle_kind a, ne_eqb k message_kind b, ne_eqb k array_kind c) at o.2))

-- a kind that is no packet's
no-bundle : (k : ℕ) → is_packet k ≡ false → k ≡ bundle_kind → ⊥
no-bundle k e q = true≢false (rw q at e)

no-message : (k : ℕ) → is_packet k ≡ false → k ≡ message_kind → ⊥
no-message k e q = true≢false (rw q at e)

-- a packet is a bundle or a message
packet-kinds : (k : ℕ) → is_packet k ≡ true → (k ≡ bundle_kind) ⊎ (k ≡ message_kind)
packet-kinds k e =
    ⊎_elim inl
    (λ n. ⊎_elim inr (λ m. absurd (false≢true (rw (ne_eqb k bundle_kind n, ne_eqb k message_kind m) at e))) (is-or k message_kind))
    (is-or k bundle_kind)

-- a container of arguments
abbrev OfArguments : ℕ → Type 0
OfArguments c = (k : ℕ) → allowed c k ≡ true → is_packet k ≡ false

in-message : (c : ℕ) → c ≡ message_kind → OfArguments c
unfolding allowed
in-message c q k e = not-true (is_packet k) (rw q at e)

in_array : (c : ℕ) → c ≡ array_kind → OfArguments c
unfolding allowed
in_array c q k e = not-true (is_packet k) (rw q at e)

-- a bundle contains packets
in-bundle : (k : ℕ) → allowed bundle_kind k ≡ true → is_packet k ≡ true
unfolding allowed
in-bundle k e = e

-- ---- tags

tag-some : (item : Item) → is_timed item.kind ≡ true → node_tag item ≡ item_tag item ∷ []
tag-some item e = ap (λ (b : Bool). cond b (item_tag item ∷ []) []) e

tag-none : (item : Item) → is_timed item.kind ≡ false → node_tag item ≡ []
tag-none item e = ap (λ (b : Bool). cond b (item_tag item ∷ []) []) e

-- the eight bytes of a tag, from its halves
tag-bytes : (a b : ℕ) → b < 256 ^ 4 → bytes 4 a ++ bytes 4 b ≡ bytes 8 (a * 2 ^ 32 + b)
tag-bytes a b h =
    let x = a * 2 ^ 32 + b in
    let high : x / 2 ^ 32 ≡ a = omega arith in
    let low : x % 2 ^ 32 ≡ b = omega arith in
    ap (λ (k : ℕ). bytes 4 k ++ bytes 4 b) (sym high) ∙ ap (λ (k : ℕ). bytes 4 (x / 2 ^ 32) ++ bytes 4 k) (sym low) ∙ eight-bytes x

-- the two numbers of a node with a tag
halves-moved : (by : ℕ) (item : Item) → is_timed item.kind ≡ true → item.b < 256 ^ 4
    → Retagged by (item_tag item ∷ []) (bytes 4 item.a ++ bytes 4 item.b)
    (bytes 4 (shifted_item by item).a ++ bytes 4 (shifted_item by item).b)
halves-moved by item e h =
    rw (tag-bytes item.a item.b h, item-timed by item e, eight-bytes (shifted (item_tag item) by)) (retag-one (item_tag item))

-- ---- arguments

-- the data of a t
data-timed : (source : List ℕ) (item : Item) (within : List ℕ) → item.kind ≡ 116
    → data_by (sort_of item.kind) source item within ≡ bytes 4 item.a ++ bytes 4 item.b
unfolding sort_of class_of
data-timed source item within q =
    let e : sort_of item.kind ≡ Leaf Eight = ap sort_of q in ap (λ (s : Sort). data_by s source item within) e

tags-kept : (by : ℕ) (F : Forest) → write_tags (shifted_forest by F) ≡ write_tags F
unfolding write_tags shifted_forest
tags-kept by nil = refl
tags-kept by (node item inside rest) = rw (kind-kept by item, tags-kept by inside, tags-kept by rest)

-- a bundle, with its two numbers side by side
bundle-bytes : (source : List ℕ) (item : Item) (inside : Forest) (elements : List ℕ) → item.kind ≡ bundle_kind
    → packet_with source item inside elements
    ≡ (35 ∷ 98 ∷ 117 ∷ 110 ∷ 100 ∷ 108 ∷ 101 ∷ 0 ∷ []) ++ ((bytes 4 item.a ++ bytes 4 item.b) ++ elements)
unfolding write_bundle
bundle-bytes source item inside elements q =
    let e : eqb item.kind message_kind ≡ false = rw q in
    let head : List ℕ = 35 ∷ 98 ∷ 117 ∷ 110 ∷ 100 ∷ 108 ∷ 101 ∷ 0 ∷ [] in
    ap (λ (b : Bool). cond b (write_message source item inside) (write_bundle item elements)) e
    ∙ ap (λ (l : List ℕ). head ++ l) (sym (append_assoc (bytes 4 item.a) (bytes 4 item.b) elements))

-- an element has the same size before it
pub element-moved : {by : ℕ} {tags bs cs : List ℕ} → Retagged by tags bs cs → Retagged by tags (write_element bs) (write_element cs)
element-moved {by} {tags} {bs} {cs} w = rw (retag-length w) (retag-after (int32 (length bs)) w)

module _ (by : ℕ) (source : List ℕ) where
  -- trees are written as the same bytes but for their tags
  abbrev DataMoved : Forest → Type 0
  DataMoved F = Retagged by (forest_tags F) (write_data source F) (write_data source (shifted_forest by F))

  module _ (item : Item) (inside : Forest) (np : is_packet item.kind ≡ false) (o : Obeys source item.kind inside) where
    -- a kind that is no array's contains nothing
    bare : (item.kind ≡ array_kind → ⊥) → inside ≡ nil
    bare n = no-inside source item.kind inside o (no-bundle item.kind np) (no-message item.kind np) n

    no-tags : (item.kind ≡ array_kind → ⊥) → forest_tags inside ≡ []
    unfolding forest_tags
    no-tags n = ap forest_tags (bare n)

    -- the data of a node without a tag of its own
    plain-datum : (item.kind ≡ array_kind → DataMoved inside) → (s : Sort) → s ≡ sort_of item.kind
        → Retagged by (forest_tags inside) (data_by s source item (write_data source inside))
        (data_by s source item (write_data source (shifted_forest by inside)))
    plain-datum more Opens q = more (opens-only item.kind (sym q))
    plain-datum more Closes q =
        rw (no-tags (λ r. let z : Closes ≡ Opens = q ∙ opens item.kind r in let n : ◌≡◌ {A = ℕ} 0 1 = cc in omega arith))
        (retag-none [])
    plain-datum more (Leaf class) q =
        rw (no-tags (λ r. let z : Leaf class ≡ Opens = q ∙ opens item.kind r in let n : ◌≡◌ {A = ℕ} 0 1 = cc in omega arith))
        (retag-none (write_argument class source item))

    -- the data of a t
    timed-datum : item.kind ≡ 116 → is_timed item.kind ≡ true → item.b < 256 ^ 4
        → Retagged by (node_tag item ++ forest_tags inside) (data_by (sort_of item.kind) source item (write_data source inside))
        (data_by (sort_of (shifted_item by item).kind) source (shifted_item by item) (write_data source (shifted_forest by inside)))
    timed-datum q e h =
        let n : item.kind ≡ array_kind → ⊥ = λ r. let z : ◌≡◌ {A = ℕ} 116 91 = sym q ∙ r in omega arith in
        rw (
          no-tags n,
          tag-some item e,
          data-timed source item (write_data source inside) q,
          data-timed source (shifted_item by item) (write_data source (shifted_forest by inside)) (kind-kept by item ∙ q),
        )
        (halves-moved by item e h)

    datum-moved : (item.kind ≡ array_kind → DataMoved inside) → item.b < 256 ^ 4
        → Retagged by (node_tag item ++ forest_tags inside) (data_by (sort_of item.kind) source item (write_data source inside))
        (data_by (sort_of (shifted_item by item).kind) source (shifted_item by item) (write_data source (shifted_forest by inside)))
    datum-moved more h = go (is_timed item.kind) refl
      where
        go : (b : Bool) → is_timed item.kind ≡ b
            → Retagged by (node_tag item ++ forest_tags inside) (data_by (sort_of item.kind) source item (write_data source inside))
            (data_by (sort_of (shifted_item by item).kind) source (shifted_item by item) (write_data source (shifted_forest by inside)))
        go true e =
            ⊎_elim (λ q. absurd (no-bundle item.kind np q)) (λ q. timed-datum q e h) (timed-kinds item.kind e)
        go false e = rw (tag-none item e, item-other by item e) (plain-datum more (sort_of item.kind) refl)

  data-moved : (c : ℕ) → OfArguments c → (F : Forest) → Obeys source c F → FieldsFit F → DataMoved F
  unfolding write_data shifted_forest forest_tags Obeys FieldsFit
  data-moved c args nil o f = retag-none []
  data-moved c args (node item inside rest) o f =
      rw (← append_assoc (node_tag item) (forest_tags inside) (forest_tags rest))
      (retag-both
      (datum-moved item inside (args item.kind o.2) o.3
      (λ q. data-moved item.kind (in_array item.kind q) inside o.3 f.3)
      f.1)
      (data-moved c args rest o.4 f.4))

  -- ---- packets

  abbrev ElementsMoved : Forest → Type 0
  ElementsMoved F = Retagged by (forest_tags F) (write_elements source F) (write_elements source (shifted_forest by F))

  module _ (item : Item) (inside : Forest) where
    abbrev PacketMoved : Type 0
    PacketMoved =
        Retagged by (node_tag item ++ forest_tags inside) (packet_with source item inside (write_elements source inside))
        (packet_with source (shifted_item by item) (shifted_forest by inside) (write_elements source (shifted_forest by inside)))

    message-moved : item.kind ≡ message_kind → Obeys source item.kind inside → FieldsFit inside → PacketMoved
    unfolding write_message
    message-moved q o f =
        let e : is_timed item.kind ≡ false = rw q in
        rw (tag-none item e, item-other by item e, q, tags-kept by inside)
        (retag-after (osc_string (part source item.a item.b))
        (retag-after (osc_string (44 ∷ write_tags inside)) (data-moved item.kind (in-message item.kind q) inside o f)))

    bundle-moved : item.kind ≡ bundle_kind → item.b < 256 ^ 4 → ElementsMoved inside → PacketMoved
    bundle-moved q h more =
        let e : is_timed item.kind ≡ true = rw q in
        rw (
          tag-some item e,
          bundle-bytes source item inside (write_elements source inside) q,
          bundle-bytes source (shifted_item by item) (shifted_forest by inside) (write_elements source (shifted_forest by inside))
              (kind-kept by item ∙ q),
        )
        (retag-after (35 ∷ 98 ∷ 117 ∷ 110 ∷ 100 ∷ 108 ∷ 101 ∷ 0 ∷ []) (retag-both (halves-moved by item e h) more))

    packet-moved : is_packet item.kind ≡ true → item.b < 256 ^ 4 → Obeys source item.kind inside → FieldsFit inside
        → (item.kind ≡ bundle_kind → ElementsMoved inside) → PacketMoved
    packet-moved p h o f more =
        ⊎_elim (λ q. bundle-moved q h (more q)) (λ q. message-moved q o f) (packet-kinds item.kind p)

  elements-moved : (c : ℕ) → c ≡ bundle_kind → (F : Forest) → Obeys source c F → FieldsFit F → ElementsMoved F
  unfolding write_elements shifted_forest forest_tags Obeys FieldsFit
  elements-moved c q nil o f = retag-none []
  elements-moved c q (node item inside rest) o f =
      rw (← append_assoc (node_tag item) (forest_tags inside) (forest_tags rest))
      (retag-both
      (element-moved
      (packet-moved item inside (in-bundle item.kind (rw q at o.2)) f.1 o.3 f.3
      (λ r. elements-moved item.kind r inside o.3 f.3)))
      (elements-moved c q rest o.4 f.4))

  -- a tree that may stand in a bundle
  pub tree-moved : (item : Item) (inside : Forest) → Obeys source bundle_kind (node item inside nil) → FieldsFit (node item inside nil)
      → Retagged by (forest_tags (node item inside nil)) (write_packet source item inside)
      (write_packet source (shifted_item by item) (shifted_forest by inside))
  unfolding write_packet forest_tags Obeys FieldsFit
  tree-moved item inside o f =
      rw (append-nil (forest_tags inside))
      (packet-moved item inside (in-bundle item.kind o.2) f.1 o.3 f.3
      (λ r. elements-moved item.kind r inside o.3 f.3))
