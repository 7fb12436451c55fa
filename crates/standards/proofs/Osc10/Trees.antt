-- Trees that stand for one packet, each over its own source, are the same; and what the packet says of its tree's fields.
use mathlib.Core.Path.{◌≡◌, refl, sym, ◌∙◌}
use mathlib.Core.Bool.{true, false}
use mathlib.Core.List.{List}
use Prim.Native.Nat.{ℕ, ◌^◌, ◌<◌}
use native.Mathlib.Omega.{arith}
use lib.ListN.{length}
use Rattle.node.specs.Tags.{message_kind, bundle_kind, array_kind}
use Rattle.node.specs.Forest.{Forest, nil, node, size}
use Rattle.node.specs.declared.record.Item.{Item}
use Rattle.table.specs.Tree.{FieldsFit}
use Rattle.osc10.specs.Osc10.{Atom, word, long, bare, string, blob, char, OscArguments, end, atom, array, Packet, message, bundle, Packets}
use Rattle.osc10.specs.Osc10.{none, also, AtomAllowed, ArgumentsAllowed, Allowed, AllAllowed, RangeHolds, AtomIs, ArgumentsAre, no_node}
use Rattle.osc10.specs.Osc10.{leaf, branch, StandsFor, is_message, is_bundle, StandFor, no_packet, packet}
use Rattle.osc10.specs.Osc10 as osc
use Rattle.given.specs.Encodable.{ranged_kind}
use Rattle.standards.specs.Trip.{SameItem, Same, both}
use Rattle.standards.specs.Trip as trip
use Rattle.osc10.proofs.Placed.{range_length}
use Rattle.osc10.proofs.Tags.{of-among, scalar-small}
use Rattle.given.proofs.Starts.Forests.{Begun, begun-le}
use Rattle.given.proofs.Starts.Forests as begun

-- ---- the same tree

module _ {s s' : List ℕ} where
  -- nodes with the same numbers, of a kind that has no range
  same_numbers : {item item' : Item} (tag : ℕ) {x y : ℕ} → ranged_kind tag ≡ false → item.kind ≡ tag → item'.kind ≡ tag
      → (item.a ≡ x) × (item.b ≡ y) → (item'.a ≡ x) × (item'.b ≡ y) → SameItem s s' item item'
  same_numbers tag e k k' n n' = record { kinds = k ∙ sym k'; seconds = n.1 ∙ sym n'.1; firsts = rw (k, e) (n.0 ∙ sym n'.0) }

  -- nodes whose ranges hold the same, of a kind that has one
  same-range : {item item' : Item} (tag : ℕ) {w : List ℕ} → ranged_kind tag ≡ true → item.kind ≡ tag → item'.kind ≡ tag
      → RangeHolds s item.a item.b w → RangeHolds s' item'.a item'.b w → SameItem s s' item item'
  same-range tag e k k' r r' =
      record { kinds = k ∙ sym k'; seconds = range_length r ∙ sym (range_length r'); firsts = rw (k, e) (r.holds ∙ sym r'.holds) }

  same-atom : (v : Atom) {item item' : Item} → AtomAllowed v → AtomIs s v item → AtomIs s' v item' → SameItem s s' item item'
  same-atom (word tag x) h w w' =
      same_numbers tag (of-among (λ t. ranged_kind t ≡ false) tag osc.words (refl, (refl, (refl, (refl, tt)))) h.0)
      w.kind w'.kind w.numbers w'.numbers
  same-atom (long tag x y) h w w' =
      same_numbers tag (of-among (λ t. ranged_kind t ≡ false) tag osc.longs (refl, (refl, (refl, tt))) h.0)
      w.kind w'.kind w.numbers w'.numbers
  same-atom (bare tag) h w w' =
      same_numbers tag (of-among (λ t. ranged_kind t ≡ false) tag osc.bares (refl, (refl, (refl, (refl, tt)))) h)
      w.kind w'.kind w.numbers w'.numbers
  same-atom (string text) h w w' = same-range 115 refl w.kind w'.kind w.numbers w'.numbers
  same-atom (blob content) h w w' = same-range 98 refl w.kind w'.kind w.numbers w'.numbers
  same-atom (char x) h w w' = same_numbers 99 refl w.kind w'.kind w.numbers w'.numbers

  same-arguments : (A : OscArguments) {F F' : Forest} → ArgumentsAllowed A → ArgumentsAre s A F → ArgumentsAre s' A F' → Same s s' F F'
  unfolding ArgumentsAllowed
  same-arguments end h no_node no_node = trip.Same.none
  same-arguments (atom v rest) h (leaf x r) (leaf x' r') = both (same-atom v h.0 x x') trip.Same.none
      (same-arguments rest h.1 r r')
  same-arguments (array within rest) h (branch w x r) (branch w' x' r') =
      both (same_numbers array_kind refl w.kind w'.kind (w.first, w.second) (w'.first, w'.second))
      (same-arguments within h.0 x x') (same-arguments rest h.1 r r')

  mutual
    unfolding Allowed AllAllowed

    -- two trees that stand for one packet, each over its own source, are the same
    pub same-tree : (P : Packet) {item item' : Item} {f f' g g' : Forest} → Allowed P → StandsFor s P item f → StandsFor s' P item' f'
        → Same s s' g g' → Same s s' (node item f g) (node item' f' g')
    same-tree (message address A) h (is_message w x) (is_message w' x') g =
        both (same-range message_kind refl w.kind w'.kind w.range w'.range) (same-arguments A h.2 x x') g
    same-tree (bundle seconds fractional Ps) h (is_bundle w x) (is_bundle w' x') g =
        both (same_numbers bundle_kind refl w.kind w'.kind (w.first, w.second) (w'.first, w'.second))
        (same-forest Ps h.2 x x') g

    same-forest : (Ps : Packets) {F F' : Forest} → AllAllowed Ps → StandFor s Ps F → StandFor s' Ps F' → Same s s' F F'
    same-forest none h no_packet no_packet = trip.Same.none
    same-forest (also P Ps) h (packet x r) (packet x' r') = same-tree P h.0 x x' (same-forest Ps h.1 r r')

-- ---- the same tree has the same size

-- the same trees have as many nodes
pub same_size : {s s' : List ℕ} {F G : Forest} → Same s s' F G → size F ≡ size G
unfolding size
same_size trip.Same.none = refl
same_size (both e f g) = rw (same_size f, same_size g)

-- ---- fields fit a record

module _ {s : List ℕ} (low : length s < 256 ^ 4) where
  atom-fits : (v : Atom) {item : Item} → AtomAllowed v → AtomIs s v item → (item.a < 256 ^ 4) × (item.b < 256 ^ 4)
  atom-fits (word tag x) h w = (omega (arith, h.1, w.numbers.0), omega (arith, w.numbers.1))
  atom-fits (long tag x y) h w = (omega (arith, h.1, w.numbers.0), omega (arith, h.2, w.numbers.1))
  atom-fits (bare tag) h w = (omega (arith, w.numbers.0), omega (arith, w.numbers.1))
  atom-fits (string text) h w = (omega (arith, w.numbers.lies), omega (arith, w.numbers.lies))
  atom-fits (blob content) h w = (omega (arith, w.numbers.lies), omega (arith, w.numbers.lies))
  atom-fits (char x) h w = (omega (arith, scalar-small x h, w.numbers.0), omega (arith, w.numbers.1))

  arguments-fit : (A : OscArguments) {l : List ℕ} {from upto : ℕ} {F : Forest} → ArgumentsAllowed A → ArgumentsAre s A F
      → Begun l from F upto
      → upto < 256 ^ 4 → FieldsFit F
  unfolding ArgumentsAllowed FieldsFit
  arguments-fit end h no_node b n = tt
  arguments-fit (atom v rest) h (leaf x r) (begun.Begun.also k g i j) n =
      let e = atom-fits v h.0 x in
      (e.0, e.1, omega (arith, begun-le i, begun-le j), tt, arguments-fit rest h.1 r j n)
  arguments-fit (array within rest) h (branch w x r) (begun.Begun.also k g i j) n = (
    omega (arith, w.first),
    omega (arith, w.second),
    omega (arith, begun-le i, begun-le j),
    arguments-fit within h.0 x i (omega (arith, begun-le j)),
    arguments-fit rest h.1 r j n,
  )

  mutual
    unfolding Allowed AllAllowed FieldsFit

    tree-fits : (P : Packet) {l : List ℕ} {from upto : ℕ} {item : Item} {f : Forest} → Allowed P → StandsFor s P item f
        → Begun l from f upto
        → upto < 256 ^ 4 → (item.a < 256 ^ 4) × (item.b < 256 ^ 4) × FieldsFit f
    tree-fits (message address A) h (is_message m x) b n =
        (omega (arith, m.range.lies), omega (arith, m.range.lies), arguments-fit A h.2 x b n)
    tree-fits (bundle seconds fractional Ps) h (is_bundle t x) b n =
        (omega (arith, h.0, t.first), omega (arith, h.1, t.second), forest-fits Ps h.2 x b n)

    forest-fits : (Ps : Packets) {l : List ℕ} {from upto : ℕ} {F : Forest} → AllAllowed Ps → StandFor s Ps F → Begun l from F upto
        → upto < 256 ^ 4
        → FieldsFit F
    forest-fits none h no_packet b n = tt
    forest-fits (also P Ps) h (packet x r) (begun.Begun.also k g i j) n =
        let w = tree-fits P h.0 x i (omega (arith, begun-le j)) in
        (w.0, w.1, omega (arith, begun-le i, begun-le j), w.2, forest-fits Ps h.1 r j n)

  -- the numbers of a tree that stands for a packet fit a record, where its starts do
  pub packet-fits : (P : Packet) {l : List ℕ} {from upto : ℕ} {item : Item} {f : Forest} → Allowed P → StandsFor s P item f
      → Begun l from (node item f nil) upto → upto < 256 ^ 4 → FieldsFit (node item f nil)
  unfolding FieldsFit
  packet-fits P h x (begun.Begun.also k g i j) n =
      let w = tree-fits P h x i (omega (arith, begun-le j)) in
      (w.0, w.1, omega (arith, begun-le i, begun-le j), w.2, tt)
