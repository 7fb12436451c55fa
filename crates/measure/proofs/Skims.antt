-- Whether an element is accepted, and so where a bundle ends, is known without opening the bundles in it.
use mathlib.Core.Path.{◌≡◌, refl, ap, sym, ◌∙◌}
use mathlib.Core.Bool.{Bool, true, false, cond}
use mathlib.Core.List.{List}
use Prim.Native.Nat.{ℕ, ◌+◌, ◌-◌, ◌<◌, ◌≤◌}
use native.Mathlib.Omega.{arith}
use lib.Dec.{leb}
use lib.ListN.{length, take, drop, length-drop}
use Rattle.refusal.specs.declared.Fault.{Fault}
use Rattle.wire.proofs.Choices.{by_le, by-test}
use Rattle.wire.proofs.Parts.{tail}
use Rattle.node.specs.Forest.{Forest, level, depth}
use Rattle.node.specs.declared.record.Item.{Item}
use Rattle.heads.specs.Heads.{size_of, message_item}
use Rattle.packet.specs.FirstText.{start_of}
use Rattle.packet.specs.Packet.{Out, fault, one, Elements, upto, after, read_message, bundle_with, filling, read_packet}
use Rattle.packet.specs.Packet.{read_elements}
use Rattle.packet.specs.Packet.{read_bundle, read_element, used_by}
use Rattle.measure.specs.CodeMeasure.{extent, skimmed, accepted}
use Rattle.measure.specs.Results.{Deep, Extent, Tree}
use Rattle.std.specs.Prelude.{Ok, Err, None, Some, is_ok}
use Rattle.measure.specs.declared.MeasuredPacket.{MeasuredPacket}
use Rattle.measure.specs.declared.MeasuredPacket.TheVariants as packet
use Rattle.packet.specs.Results as start
use Rattle.packet.proofs.Knot.{starts-message, starts-bundle, starts-refused, element-holds, element-runs-out}
use Rattle.packet.proofs.Bundles.{bundle-short, bundle-long, ended, first-used, first-in}

-- ---- packets

-- what the first reading accepts
abbrev pub is_tree : Extent → Bool
is_tree (Tree count next dirty) = true
is_tree (Deep next) = true
is_tree (Err k) = false

extent-tree : (room p : ℕ) (dirt : Item → Forest → ℕ) (o : Out) → is_tree (extent room p dirt o) ≡ accepted o
unfolding extent
extent-tree room p dirt (fault k) = refl
extent-tree room p dirt (one item f u) =
    by-test (λ (x : Extent). is_tree x ≡ true) (leb (level item.kind (depth f)) room) (λ _. refl) (λ _. refl)

-- whether a first reading is one is whether it accepts
pub tree-or-not : (b : Bool) (r : Extent) → b ≡ is_ok r → b ≡ is_tree r
tree-or-not b (Ok measured) e = e ∙ tree measured
  where
    tree : (measured : MeasuredPacket) → true ≡ is_tree (Ok measured)
    tree (packet.Tree count next dirty) = refl
    tree (packet.Deep next) = refl
tree-or-not b (Err k) e = e

itself : (b : Bool) → b ≡ cond b true false
itself true = refl
itself false = refl

after-accepted : (n : ℕ) (o : Out) → accepted o ≡ accepted (after n o)
after-accepted n (fault k) = refl
after-accepted n (one item f u) = refl

with-accepted : (item : Item) (k : Elements) → true ≡ accepted (bundle_with item k)
with-accepted item (upto f u) = refl

module _ (base : ℕ) (l : List ℕ) (p : ℕ) where
  -- a message is accepted where its first reading is a tree
  pub is_message : {n used : ℕ} {r : Extent} (dirt : Item → Forest → ℕ) (rest : List ℕ) → start.Message n used ≡ start_of l p
      → rest ≡ drop used l → r ≡ extent 0 (p + used) dirt (read_message base (message_item (base + p) n) rest (p + used))
      → is_tree r ≡ accepted (read_packet base l p)
  is_message {n} {used} {r} dirt rest e s g =
      let o = read_message base (message_item (base + p) n) (drop used l) (p + used) in
      let is : r ≡ extent 0 (p + used) dirt o = rw s at g in
      ap is_tree is ∙ extent-tree 0 (p + used) dirt o ∙ after-accepted used o ∙ ap accepted (sym (starts-message base l p e))

  module _ {used : ℕ} (e : start.Bundle used ≡ start_of l p) where
    -- a bundle is accepted where its time tag is there
    pub is_bundle : 8 ≤ length l - used → true ≡ accepted (read_packet base l p)
    is_bundle h =
        let long : 8 ≤ length (drop used l) = omega (arith, length-drop used l) in
        with-accepted _ (read_elements base (drop 8 (drop used l)) (p + used + 8))
        ∙ ap accepted (sym (bundle-long base (base + p) (drop used l) (p + used) long))
        ∙ after-accepted used (read_bundle base (base + p) (drop used l) (p + used))
        ∙ ap accepted (sym (starts-bundle base l p e))

    -- a bundle without its time tag is refused
    pub is-no-bundle : length l - used < 8 → false ≡ accepted (read_packet base l p)
    is-no-bundle h =
        let short : length (drop used l) < 8 = omega (arith, length-drop used l) in
        ap accepted (sym (bundle-short base (base + p) (drop used l) (p + used) short))
        ∙ after-accepted used (read_bundle base (base + p) (drop used l) (p + used))
        ∙ ap accepted (sym (starts-bundle base l p e))

    -- so it is whether that is there
    pub bundle-or-not : leb 8 (length l - used) ≡ accepted (read_packet base l p)
    bundle-or-not =
        itself (leb 8 (length l - used)) ∙ by_le (λ (x : Bool). x ≡ accepted (read_packet base l p)) 8 (length l - used) is_bundle is-no-bundle

  -- a packet that is refused by what it starts with
  pub is-refused : {k : Fault} → Err k ≡ start_of l p → false ≡ accepted (read_packet base l p)
  is-refused e = ap accepted (sym (starts-refused base l p e))

  -- ---- elements

  filling-skimmed : (n : ℕ) (o : Out) → cond (accepted o) (Some n) None ≡ skimmed (filling n o)
  filling-skimmed n (fault k) = refl
  filling-skimmed n (one item f u) = refl

  -- an element is accepted where its packet is
  pub skim-packet : {n : ℕ} {r : Bool} (part : List ℕ) → Some n ≡ size_of l → part ≡ take n (drop 4 l)
      → r ≡ accepted (read_packet base part (p + 4)) → cond r (Some n) None ≡ skimmed (read_element base l p)
  skim-packet {n} {r} part e s g =
      let o = read_packet base (take n (drop 4 l)) (p + 4) in
      let is : r ≡ accepted o = rw s at g in
      ap (λ (t : Bool). cond t (Some n) None) is ∙ filling-skimmed n o
      ∙ ap skimmed (sym (element-holds base l p e))

  -- an element that is not all there fails
  pub skim-none : None ≡ size_of l → None ≡ skimmed (read_element base l p)
  skim-none e = sym (ap skimmed (element-runs-out base l p e))

  -- the next element is accepted
  pub skim-on : {n : ℕ} → Some n ≡ skimmed (read_element base l p)
      → (4 + n ≤ length l) ×
      (p + used_by (read_elements base l p) ≡ p + (4 + n) + used_by
      (read_elements base (take (length l - (4 + n)) (drop (4 + n) l)) (p + (4 + n))))
  skim-on {n} h = by_out (read_element base l p) refl h
    where
      by_out : (o : Out) → read_element base l p ≡ o → Some n ≡ skimmed o
          → (4 + n ≤ length l) ×
          (p + used_by (read_elements base l p) ≡ p + (4 + n) + used_by
          (read_elements base (take (length l - (4 + n)) (drop (4 + n) l)) (p + (4 + n))))
      by_out (fault k) e g = let z : ◌≡◌ {A = ℕ} 0 1 = cc in absurd (omega arith)
      by_out (one item f u) e g =
          let eu : n ≡ u = cc in
          let w = first-in base l p e in
          rw (eu, tail l (4 + u)) (omega arith, omega (arith, first-used base l p e))

  -- the next one fails
  pub skim-end : None ≡ skimmed (read_element base l p) → p ≡ p + used_by (read_elements base l p)
  skim-end h = by_out (read_element base l p) refl h
    where
      by_out : (o : Out) → read_element base l p ≡ o → None ≡ skimmed o → p ≡ p + used_by (read_elements base l p)
      by_out (fault k) e g = omega (arith, ap used_by (ended base l p e))
      by_out (one item f u) e g = let z : ◌≡◌ {A = ℕ} 0 1 = cc in absurd (omega arith)
