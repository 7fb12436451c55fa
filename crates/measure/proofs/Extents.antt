-- What the first reading answers at each of its ways out.
use mathlib.Core.Path.{◌≡◌, refl, ap, sym, ◌∙◌, subst}
use mathlib.Core.Bool.{Bool, true, false, cond}
use mathlib.Core.List.{List}
use Prim.Native.Nat.{ℕ, ◌+◌, ◌-◌, ◌*◌, ◌<◌, ◌≤◌, max}
use native.Mathlib.Nat.{add_assoc}
use native.Mathlib.Omega.{arith}
use borrow.Author.Tests.{le-leb, lt-leb, leb-true, leb-false}
use lib.Dec.{leb, leb-zero}
use lib.ListN.{length, take, drop}
use Rattle.refusal.specs.declared.Fault.{Fault}
use Rattle.wire.proofs.Choices.{by-test, by_le, by_both}
use Rattle.wire.proofs.Parts.{tail}
use Rattle.node.specs.Forest.{Forest, nil, node, size, depth, level}
use Rattle.node.specs.declared.record.Item.{Item}
use Rattle.text.specs.Text.{read_text, non_zero}
use Rattle.arguments.specs.Results.{Measured}
use Rattle.measure.specs.Results.{Deep, Extent, Tree}
use Rattle.std.specs.Prelude.{Err, Some, Ok}
use Rattle.text.specs.Results.{Found}
use Rattle.packet.specs.Results as start
use Rattle.text.proofs.Dirt.{dirt-join}
use Rattle.text.proofs.Within.{found-ends}
use Rattle.argument.specs.CodeParts.{StandsAt, between, dirt_of}
use Rattle.argument.specs.Dirt.{text_padding, types_at, types_padding}
use Rattle.argument.proofs.Dirt.{text-padding, types-padding, dirt-node, dirt-nil}
use Rattle.argument.proofs.Pads.{dirt-few}
use Rattle.argument.proofs.Stands.{stands_on, stands-take}
use Rattle.arguments.specs.Arguments.{Args, refused, args, read_args}
use Rattle.arguments.specs.CodeReadings.{measured}
use Rattle.heads.specs.Heads.{tags_in, size_of, message_item, bundle_item}
use Rattle.packet.specs.FirstText.{start_of}
use Rattle.packet.specs.Packet.{Out, fault, one, Elements, upto, after, message_with, read_message, bundle_with}
use Rattle.packet.specs.Packet.{filling}
use Rattle.packet.specs.Packet.{read_packet, read_elements, read_bundle, read_element, used_by, trees_in}
use Rattle.measure.specs.CodeMeasure.{fitting, extent, node_dirt, message_dirt, bundle_dirt}
use Rattle.packet.proofs.Dirt.{bundle-padding}
use Rattle.packet.proofs.FirstText.{message-text, bundle-text}
use Rattle.packet.proofs.Items.{HasItem, message-item, bundle-item}
use Rattle.packet.proofs.Within.{Within, types-found}
use Rattle.packet.proofs.Knot.{starts-message, starts-bundle, element-holds}
use Rattle.packet.proofs.Bundles.{contents, bundle-long, ended, first-trees, first_rest, Stepped, stepped, Counted, counted_start}
use Rattle.packet.proofs.Bundles.{counted-on}

-- the extent of what is refused
pub refused-is : {k : Fault} {o : Out} (room p : ℕ) (dirt : Item → Forest → ℕ) → o ≡ fault k → Err k ≡ extent room p dirt o
unfolding extent
refused-is room p dirt e = sym (ap (extent room p dirt) e)

-- ---- the node of a packet

-- of a node with these own numbers two ways to count dirt are one
same-dirt : (room p : ℕ) (dirt dirt' : Item → Forest → ℕ) (item : Item) (o : Out) → HasItem item o
    → ((f : Forest) → dirt item f ≡ dirt' item f) → extent room p dirt o ≡ extent room p dirt' o
unfolding extent
same-dirt room p dirt dirt' item (fault k) w e = refl
same-dirt room p dirt dirt' item (one item' f u) w e =
    ap (λ (d : ℕ). fitting room (level item'.kind (depth f)) (1 + size f) (p + u) d) (rw w (e f))

-- ---- messages

-- the extent of a message by that of its arguments, where what stands before them has so much dirt
abbrev pub message_extent : ℕ → ℕ → ℕ → Measured → Extent
message_extent room p dirt (Ok measured) = fitting room measured.depth (1 + measured.count) (p + measured.used) (dirt + measured.dirty)
message_extent room p dirt (Err k) = Err k

-- n bytes before a packet move its end
pub extent-after : (room p n : ℕ) (dirt : Item → Forest → ℕ) (o : Out) → extent room (p + n) dirt o ≡ extent room p dirt (after n o)
unfolding extent
extent-after room p n dirt (fault k) = refl
extent-after room p n dirt (one item f u) = rw add_assoc

extent-message : (room p offset n d : ℕ) (dirt : Forest → ℕ) (o : Args)
    → message_extent room p d (measured dirt o) ≡ extent room p (λ item f. d + dirt f) (message_with (message_item offset n) o)
unfolding extent measured
extent-message room p offset n d dirt (refused k) = refl
extent-message room p offset n d dirt (args f u) = refl

module _ (base : ℕ) (msg : List ℕ) (offset n room : ℕ) (l : List ℕ) (p : ℕ) (w : StandsAt msg (base + p) l) where
  -- the extent of a message is that of its arguments, after the type text
  pub message-exit : {m used types : ℕ} {x : Measured} {tags rest : List ℕ} (dirt : ℕ) → Found m used ≡ read_text l p
      → tags ≡ tags_in (take m l)
      → rest ≡ drop used l → types ≡ non_zero (between (m + 1) used l)
      → x ≡ measured (dirt_of base msg) (read_args base tags rest (p + used))
      → message_extent room (p + used) (dirt + types) x
      ≡ extent room p (message_dirt base msg (base + p) dirt) (read_message base (message_item offset n) l p)
  message-exit {m} {used} {types} {x} dirt e t s d g =
      let y : x ≡ measured (dirt_of base msg) (read_args base (tags_in (take m l)) (drop used l) (p + used)) = rw (t, s) at g in
      let z : types ≡ non_zero (types_padding base msg (base + p)) = d ∙ ap non_zero (sym (types-padding base p l msg w e)) in
      ap (message_extent room (p + used) (dirt + types)) y
      ∙ ap (λ (k : ℕ). message_extent room (p + used) (dirt + k)
      (measured (dirt_of base msg) (read_args base (tags_in (take m l)) (drop used l) (p + used)))) z
      ∙ extent-message room (p + used) offset n (dirt + non_zero (types_padding base msg (base + p))) (dirt_of base msg)
      (read_args base (tags_in (take m l)) (drop used l) (p + used))
      ∙ extent-after room p used _ _
      ∙ ap (extent room p (message_dirt base msg (base + p) dirt)) (sym (types-found base (message_item offset n) l p e))

-- what follows a text that was found stands after it
pub stands_after : {used : ℕ} {rest : List ℕ} (base p : ℕ) (l msg : List ℕ) → StandsAt msg (base + p) l → used ≤ length l
    → rest ≡ drop used l → StandsAt msg (base + (p + used)) rest
stands_after {used} base p l msg w h s = rw s (stands_on base p l msg w used h)

-- ---- packets

module _ (base : ℕ) (msg : List ℕ) (room : ℕ) (l rest : List ℕ) (p : ℕ) (w : StandsAt msg (base + p) l) where
  -- the extent of a packet that starts with an address is its message's
  pub packet-by-message : {n used dirt : ℕ} {r : Extent} → start.Message n used ≡ start_of l p → rest ≡ drop used l
      → dirt ≡ non_zero (between (n + 1) used l)
      → r ≡ extent room (p + used) (message_dirt base msg (base + (p + used)) dirt)
      (read_message base (message_item (base + p) n) rest (p + used))
      → r ≡ extent room p (node_dirt base msg) (read_packet base l p)
  packet-by-message {n} {used} {dirt} e s d g =
      let item = message_item (base + p) n in
      let found = message-text l p e in
      let own : text_padding base msg (base + p) n ≡ between (n + 1) used l = text-padding base p l msg w found in
      let at : types_at base (base + p) n ≡ base + (p + used) = omega (arith, found-ends l p found) in
      let same : (f : Forest) → message_dirt base msg (base + (p + used)) dirt item f ≡ node_dirt base msg item f = λ f.
      omega (
        arith,
        d,
        ap non_zero own,
        ap (λ (o : ℕ). non_zero (types_padding base msg o)) at,
        dirt-node base msg item f nil,
        dirt-nil base msg,
        dirt-join (text_padding base msg (base + p) n) (types_padding base msg (types_at base (base + p) n)),
      ) in
      g ∙ same-dirt room (p + used) _ _ item _ (message-item base item rest (p + used)) same
      ∙ extent-after room p used _ _ ∙ ap (extent room p (node_dirt base msg)) (rw s (sym (starts-message base l p e)))

  -- the extent of a packet that starts with "#bundle" is its bundle's
  pub packet-by-bundle : {used dirt : ℕ} {r : Extent} → start.Bundle used ≡ start_of l p → rest ≡ drop used l
      → dirt ≡ non_zero (between 8 used l)
      → r ≡ extent room (p + used) (bundle_dirt base msg dirt) (read_bundle base (base + p) rest (p + used))
      → r ≡ extent room p (node_dirt base msg) (read_packet base l p)
  packet-by-bundle {used} {dirt} e s d g =
      let item = bundle_item (base + p) rest in
      let own = bundle-padding base p l msg w rest (bundle-text l p e) in
      let same : (f : Forest) → bundle_dirt base msg dirt item f ≡ node_dirt base msg item f = λ f.
      omega (arith, d, ap non_zero own, dirt-node base msg item f nil, dirt-nil base msg) in
      g ∙ same-dirt room (p + used) _ _ item _ (bundle-item base (base + p) rest (p + used)) same
      ∙ extent-after room p used _ _ ∙ ap (extent room p (node_dirt base msg)) (rw s (sym (starts-bundle base l p e)))

-- ---- elements

-- the element ends at q
abbrev pub up_to : ℕ → Extent → Extent
up_to q (Tree count next dirty) = Tree count q dirty
up_to q (Deep next) = Deep q
up_to q (Err k) = Err k

extent-filling : (room p n : ℕ) (dirt : Item → Forest → ℕ) (o : Out)
    → up_to (p + n) (extent room p dirt o) ≡ extent room p dirt (filling n o)
unfolding extent
extent-filling room p n dirt (fault k) = refl
extent-filling room p n dirt (one item f u) =
    by_both (λ (x y : Extent). up_to (p + n) x ≡ y) (leb (level item.kind (depth f)) room) refl refl

-- the bytes of an element stand after its size
pub stands-in : {part : List ℕ} (base p n : ℕ) (l msg : List ℕ) → StandsAt msg (base + p) l → 4 ≤ length l → part ≡ take n (drop 4 l)
    → StandsAt msg (base + (p + 4)) part
stands-in base p n l msg w h s =
    rw s (stands-take msg (base + (p + 4)) (drop 4 l) (stands_after base p l msg w h refl) n)

-- the extent of an element is that of its packet, which ends where the element ends
pub element-by-packet : {n : ℕ} {r : Extent} (base : ℕ) (msg : List ℕ) (room : ℕ) (l part : List ℕ) (p : ℕ) → Some n ≡ size_of l
    → part ≡ take n (drop 4 l) → r ≡ extent room (p + 4) (node_dirt base msg) (read_packet base part (p + 4))
    → up_to (p + 4 + n) r ≡ extent room (p + 4) (node_dirt base msg) (read_element base l p)
element-by-packet {n} base msg room l part p e s g =
    ap (up_to (p + 4 + n)) g
    ∙ extent-filling room (p + 4) n (node_dirt base msg) (read_packet base part (p + 4))
    ∙ ap (extent room (p + 4) (node_dirt base msg)) (rw s (sym (element-holds base l p e)))

-- a tree that was measured lies within its part
abbrev pub ExtentIn : ℕ → ℕ → Extent → Type 0
ExtentIn p m (Tree count next dirty) = (1 ≤ count) × (p + count ≤ next) × (next ≤ p + m)
ExtentIn p m (Deep next) = Unit {0}
ExtentIn p m (Err k) = Unit {0}

-- the extent of a packet that lies in m bytes
pub extent-in : (room p m : ℕ) (dirt : Item → Forest → ℕ) (o : Out) → Within m o → ExtentIn p m (extent room p dirt o)
unfolding extent
extent-in room p m dirt (fault k) w = tt
extent-in room p m dirt (one item f u) w = by-test (ExtentIn p m) (leb (level item.kind (depth f)) room) (λ _. omega arith) (λ _. tt)

-- a tree has a record at least, no more than bytes, and ends within its part
pub tree-in : {c next dirty : ℕ} (room p m : ℕ) (dirt : Item → Forest → ℕ) (o : Out) → Within m o → Tree c next dirty ≡ extent room p dirt o
    → (1 ≤ c) × (p + c ≤ next) × (next ≤ p + m)
tree-in room p m dirt o w e = subst (ExtentIn p m) (sym e) (extent-in room p m dirt o w)

-- ---- bundles

extent-bundle : (room p start : ℕ) (l : List ℕ) (dirt : Item → Forest → ℕ) (k : Elements)
    → extent room p dirt (bundle_with (bundle_item start l) k) ≡ cond (leb (depth (trees_in k) + 1) room)
    (Tree (1 + size (trees_in k)) (p + (8 + used_by k)) (dirt (bundle_item start l) (trees_in k)))
    (Deep (p + (8 + used_by k)))
unfolding extent
extent-bundle room p start l dirt (upto f u) = refl

module _ (base start : ℕ) (l : List ℕ) (p : ℕ) (dirt : Item → Forest → ℕ) where
  -- too deep: where its elements end
  pub bundle-deep : {x : ℕ} (room : ℕ) → 8 ≤ length l → room < depth (trees_in (contents base l p)) + 1
      → x ≡ p + 8 + used_by (contents base l p) → Deep x ≡ extent room p dirt (read_bundle base start l p)
  bundle-deep {x} room h d e =
      let u : x ≡ p + (8 + used_by (contents base l p)) = omega arith in
      sym (ap (extent room p dirt) (bundle-long base start l p h) ∙ extent-bundle room p start l dirt (contents base l p)
      ∙ rw (lt-leb _ _ d, u))

  bundle-tree : {c x y : ℕ} (room : ℕ) → 8 ≤ length l → depth (trees_in (contents base l p)) + 1 ≤ room
      → c ≡ 1 + size (trees_in (contents base l p)) → x ≡ p + 8 + used_by (contents base l p)
      → y ≡ dirt (bundle_item start l) (trees_in (contents base l p)) → Tree c x y ≡ extent room p dirt (read_bundle base start l p)
  bundle-tree {c} {x} {y} room h d ec e ed =
      let u : x ≡ p + (8 + used_by (contents base l p)) = omega arith in
      sym (ap (extent room p dirt) (bundle-long base start l p h) ∙ extent-bundle room p start l dirt (contents base l p)
      ∙ rw (le-leb _ _ d, u, ec, ed))

-- what is left of a bundle in which `room` levels may be opened yet, and whose "#bundle" has so much dirt: d of it was met so far
pub record Going (base : ℕ) (msg l : List ℕ) (p room dirt : ℕ) (m : List ℕ) (q c d : ℕ) : Type 0 where
  pub stands : StandsAt msg (base + q) m
  pub counted : Counted base l p m q c
  pub deep : leb (depth (trees_in (contents base l p))) room ≡ leb (depth (trees_in (read_elements base m q))) room
  pub dirty : dirt + dirt_of base msg (trees_in (contents base l p)) ≡ d + dirt_of base msg (trees_in (read_elements base m q))
  pub few : d ≤ dirt + 6 * c

-- before the first element
pub going_start : (base : ℕ) (msg l : List ℕ) (p room dirt : ℕ) → StandsAt msg (base + p) l → 8 ≤ length l
    → Going base msg l p room dirt (take (length l - 8) (drop 8 l)) (p + 8) 1 dirt
going_start base msg l p room dirt w h = record {
  stands = stands_after base p l msg w h (tail l 8);
  counted = counted_start base l p;
  deep = rw (tail l 8);
  dirty = rw (tail l 8);
  few = omega arith;
}

-- a first element that is not too deep leaves it to the others
pub max-low : (x y d : ℕ) → x ≤ d → leb (max x y) d ≡ leb y d
max-low x y d h = both (leb y d) refl
  where
    both : (t : Bool) → leb y d ≡ t → leb (max x y) d ≡ leb y d
    both true e = le-leb (max x y) d (omega (arith, leb-true y d e)) ∙ sym e
    both false e = lt-leb (max x y) d (omega (arith, leb-false y d e)) ∙ sym e

-- the elements from m on by those after the first, which is not too deep
pub record Turned (base : ℕ) (msg m : List ℕ) (q room c next d : ℕ) : Type 0 where
  pub step : Stepped base m q c next
  pub deep : leb (depth (trees_in (read_elements base m q))) room ≡ leb (depth (trees_in (read_elements base (drop (next - q) m) next))) room
  pub dirty : dirt_of base msg (trees_in (read_elements base m q))
      ≡ d + dirt_of base msg (trees_in (read_elements base (drop (next - q) m) next))
  pub few : d ≤ 6 * c

module _ (base : ℕ) (msg m : List ℕ) (q room : ℕ) where
  turned-one : (item : Item) (n : ℕ) (f : Forest) → read_element base m q ≡ one item f n → level item.kind (depth f) ≤ room
      → Turned base msg m q room (1 + size f) (q + 4 + n) (node_dirt base msg item f)
  unfolding depth size
  turned-one item n f e h =
      let g = trees_in (read_elements base (drop (4 + n) m) (q + (4 + n))) in
      record {
        step = stepped base m q e;
        deep = rw (first_rest base m q e)
            (ap (λ (x : Forest). leb (depth x) room) (first-trees base m q e)
            ∙ max-low (level item.kind (depth f)) (depth g) room h);
        dirty = rw (first_rest base m q e)
            (omega (
              arith,
              ap (dirt_of base msg) (first-trees base m q e),
              dirt-node base msg item f g,
              dirt-node base msg item f nil,
              dirt-nil base msg,
            ));
        few = omega (arith, dirt-few base msg (node item f nil));
      }

  -- an element that is a tree
  pub turned : {c next d : ℕ} → Tree c next d ≡ extent room (q + 4) (node_dirt base msg) (read_element base m q)
      → Turned base msg m q room c next d
  unfolding extent
  turned {c} {next} {d} h = by_out (read_element base m q) refl h
    where
      by_out : (o : Out) → read_element base m q ≡ o → Tree c next d ≡ extent room (q + 4) (node_dirt base msg) o
          → Turned base msg m q room c next d
      by_out (fault k) e g = let z : ◌≡◌ {A = ℕ} 0 1 = cc in absurd (omega arith)
      by_out (one item f n) e g =
          by_le (λ (x : Extent). Tree c next d ≡ x → Turned base msg m q room c next d) (level item.kind (depth f)) room
          (λ s i. let ec : c ≡ 1 + size f = cc in let en : next ≡ q + 4 + n = cc in let ed : d ≡ node_dirt base msg item f = cc in
          rw (ec, en, ed) (turned-one item n f e s))
          (λ s i. let z : ◌≡◌ {A = ℕ} 0 1 = cc in absurd (omega arith))
          g

  -- an element that is too deep
  turned-deep : {next : ℕ} → Deep next ≡ extent room (q + 4) (node_dirt base msg) (read_element base m q)
      → leb (depth (trees_in (read_elements base m q))) room ≡ false
  unfolding extent depth
  turned-deep {next} h = by_out (read_element base m q) refl h
    where
      by_out : (o : Out) → read_element base m q ≡ o → Deep next ≡ extent room (q + 4) (node_dirt base msg) o
          → leb (depth (trees_in (read_elements base m q))) room ≡ false
      by_out (fault k) e g = let z : ◌≡◌ {A = ℕ} 0 1 = cc in absurd (omega arith)
      by_out (one item f n) e g =
          by_le (λ (x : Extent). Deep next ≡ x → leb (depth (trees_in (read_elements base m q))) room ≡ false)
          (level item.kind (depth f)) room
          (λ s i. let z : ◌≡◌ {A = ℕ} 0 1 = cc in absurd (omega arith))
          (λ s i. lt-leb (depth (trees_in (read_elements base m q))) room (omega (arith, ap depth (first-trees base m q e))))
          g

  -- an element that fails
  turned-end : {k : Fault} → Err k ≡ extent room (q + 4) (node_dirt base msg) (read_element base m q)
      → read_elements base m q ≡ upto nil 0
  unfolding extent
  turned-end {k} h = by_out (read_element base m q) refl h
    where
      by_out : (o : Out) → read_element base m q ≡ o → Err k ≡ extent room (q + 4) (node_dirt base msg) o
          → read_elements base m q ≡ upto nil 0
      by_out (fault j) e g = ended base m q e
      by_out (one item f n) e g =
          by_le (λ (x : Extent). Err k ≡ x → read_elements base m q ≡ upto nil 0) (level item.kind (depth f)) room
          (λ s i. let z : ◌≡◌ {A = ℕ} 0 1 = cc in absurd (omega arith))
          (λ s i. let z : ◌≡◌ {A = ℕ} 0 1 = cc in absurd (omega arith))
          g

module _ (base : ℕ) (msg l : List ℕ) (p room dirt : ℕ) (m : List ℕ) (q c d : ℕ) (w : Going base msg l p room dirt m q c d) where
  -- after an element that is a tree
  pub going_on : {n next x : ℕ} → Tree n next x ≡ extent room (q + 4) (node_dirt base msg) (read_element base m q)
      → Going base msg l p room dirt (take (length m - (next - q)) (drop (next - q) m)) next (c + n) (d + x)
  going_on {n} {next} {x} e =
      let t : Turned base msg m q room n next x = turned base msg m q room e in
      let sum : q + (next - q) ≡ next = omega (arith, t.step.low) in
      let within : next - q ≤ length m = omega (arith, t.step.low, t.step.high) in
      record {
        stands = rw sum at (stands_after base q m msg w.stands within (tail m (next - q)));
        counted = counted-on base l p m q c w.counted t.step;
        deep = w.deep ∙ t.deep ∙ rw (tail m (next - q));
        dirty = rw (tail m (next - q)) (omega (arith, w.dirty, t.dirty));
        few = omega (arith, w.few, t.few);
      }

  -- at an element that is too deep
  pub going-deep : {next x e : ℕ} (start : ℕ) → room + 1 ≡ e → 8 ≤ length l
      → Deep next ≡ extent room (q + 4) (node_dirt base msg) (read_element base m q)
      → x ≡ q + used_by (read_elements base m q) → Deep x ≡ extent e p (bundle_dirt base msg dirt) (read_bundle base start l p)
  going-deep {next} {x} {e} start o h f u =
      let over : room < depth (trees_in (contents base l p)) = leb-false _ _ (w.deep ∙ turned-deep base msg m q room f) in
      bundle-deep base start l p _ e h (omega arith) (omega (arith, w.counted))

  -- at an element that fails
  pub going_done : {k : Fault} {e : ℕ} (start : ℕ) → room + 1 ≡ e → 8 ≤ length l
      → Err k ≡ extent room (q + 4) (node_dirt base msg) (read_element base m q)
      → Tree c q d ≡ extent e p (bundle_dirt base msg dirt) (read_bundle base start l p)
  unfolding size depth
  going_done {k} {e} start o h f =
      let none : read_elements base m q ≡ upto nil 0 = turned-end base msg m q room f in
      let no_size : size (trees_in (read_elements base m q)) ≡ 0 = ap (λ (k : Elements). size (trees_in k)) none in
      let no-use : used_by (read_elements base m q) ≡ 0 = ap used_by none in
      let no-dirt : dirt_of base msg (trees_in (read_elements base m q)) ≡ 0
      = ap (λ (k : Elements). dirt_of base msg (trees_in k)) none ∙ dirt-nil base msg in
      let flat : depth (trees_in (contents base l p)) ≤ room
      = leb-true _ _ (w.deep ∙ ap (λ (k : Elements). leb (depth (trees_in k)) room) none ∙ leb-zero room) in
      bundle-tree base start l p _ e h (omega arith) (omega (arith, w.counted)) (omega (arith, w.counted)) (omega (arith, w.dirty))
