-- The number of bytes that ties the knot of packets and elements does not matter: each meets its rule, with no side condition.
-- So a packet is told by what it starts with, and an element by its size.
use mathlib.Core.Path.{◌≡◌, refl, ap, sym, ◌∙◌}
use mathlib.Core.Bool.{cond}
use mathlib.Core.List.{List, [], ◌∷◌}
use Prim.Native.Nat.{ℕ, zero, suc, ◌+◌, ◌-◌, ◌≤◌}
use native.Mathlib.Omega.{arith}
use lib.Dec.{leb}
use lib.ListN.{length, take, drop, length-drop, length-take}
use Rattle.refusal.specs.declared.Fault.{Fault}
use Rattle.refusal.specs.declared.Fault.TheVariants.{Short}
use Rattle.refusal.specs.declared.Field.TheVariants.{Head}
use Rattle.heads.specs.Heads.{size_of, message_item, bundle_item}
use Rattle.packet.specs.FirstText.{start_of}
use Rattle.packet.specs.Packet.{Out, fault, one, Elements, after, read_message, bundle_with, bundle_by}
use Rattle.packet.specs.Packet.{filling, held_by, element_by}
use Rattle.packet.specs.Packet.{joined, go_on, elements_by, started_by, packet_by, packet_at, elements_at, read_packet, read_elements}
use Rattle.packet.specs.Packet.{read_bundle, read_element}
use Rattle.heads.specs.Results.{ElementSize}
use Rattle.packet.specs.Results.{Bundle, Message, Start}
use Rattle.std.specs.Prelude.{Err, None, Some}

-- two rules agree on what is shorter than l
abbrev Agree : {A : Type 0} → (List ℕ → ℕ → A) → (List ℕ → ℕ → A) → List ℕ → Type 0
Agree f g l = (m : List ℕ) (q : ℕ) → length m ≤ length l - 1 → f m q ≡ g m q

-- ---- a rule takes rules that agree to the same result

bundle-cong : (start : ℕ) (es es' : List ℕ → ℕ → Elements) (l : List ℕ) (p : ℕ) → es (drop 8 l) (p + 8) ≡ es' (drop 8 l) (p + 8)
    → bundle_by start es l p ≡ bundle_by start es' l p
unfolding bundle_by
bundle-cong start es es' l p e =
    ap (λ (k : Elements). cond (leb 8 (length l)) (bundle_with (bundle_item start l) k) (fault (Short Head p))) e

held-cong : (pk pk' : List ℕ → ℕ → Out) (l : List ℕ) (p : ℕ) (s : ElementSize) → Agree pk pk' l → held_by pk l p s ≡ held_by pk' l p s
held-cong pk pk' l p (Some n) h = ap (filling n) (h _ _ (omega (arith, length-take n (drop 4 l), length-drop 4 l)))
held-cong pk pk' l p None h = refl

on-cong : (es es' : List ℕ → ℕ → Elements) (l : List ℕ) (p : ℕ) (o : Out) → Agree es es' l → go_on es l p o ≡ go_on es' l p o
on-cong es es' l p (fault k) h = refl
on-cong es es' l p (one item f n) h = ap (joined item f n) (h _ _ (omega (arith, length-drop (4 + n) l)))

elements-cong : (pk pk' : List ℕ → ℕ → Out) (es es' : List ℕ → ℕ → Elements) (l : List ℕ) (p : ℕ) → Agree pk pk' l → Agree es es' l
    → elements_by pk es l p ≡ elements_by pk' es' l p
unfolding elements_by element_by
elements-cong pk pk' es es' l p hp he =
    on-cong es es' l p (held_by pk l p (size_of l)) he ∙ ap (go_on es' l p) (held-cong pk pk' l p (size_of l) hp)

module _ (base : ℕ) where
  start-cong : (es es' : List ℕ → ℕ → Elements) (l : List ℕ) (p : ℕ) (s : Start) → Agree es es' l
      → started_by base es l p s ≡ started_by base es' l p s
  start-cong es es' l p (Message n used) h = refl
  start-cong es es' l p (Bundle used) h =
      ap (after used)
      (bundle-cong (base + p) es es' (drop used l) (p + used) (h _ _ (omega (arith, length-drop 8 (drop used l), length-drop used l))))
  start-cong es es' l p (Err k) h = refl

  packet-cong : (es es' : List ℕ → ℕ → Elements) (l : List ℕ) (p : ℕ) → Agree es es' l → packet_by base es l p ≡ packet_by base es' l p
  unfolding packet_by
  packet-cong es es' l p h = start-cong es es' l p (start_of l p) h

  -- ---- any number that the length does not pass gives the same

  mutual
    unfolding packet_at packet_by elements_by element_by start_of size_of

    packet-same : (n m : ℕ) (l : List ℕ) (p : ℕ) → length l ≤ n → length l ≤ m → packet_at base n l p ≡ packet_at base m l p
    packet-same zero zero l p h k = refl
    packet-same zero (suc m) [] p h k = refl
    packet-same zero (suc m) (a ∷ l) p h k = absurd (omega arith)
    packet-same (suc n) zero [] p h k = refl
    packet-same (suc n) zero (a ∷ l) p h k = absurd (omega arith)
    packet-same (suc n) (suc m) l p h k = packet-cong _ _ l p (λ j q s. elements_same n m j q (omega arith) (omega arith))

    elements_same : (n m : ℕ) (l : List ℕ) (p : ℕ) → length l ≤ n → length l ≤ m → elements_at base n l p ≡ elements_at base m l p
    elements_same zero zero l p h k = refl
    elements_same zero (suc m) [] p h k = refl
    elements_same zero (suc m) (a ∷ l) p h k = absurd (omega arith)
    elements_same (suc n) zero [] p h k = refl
    elements_same (suc n) zero (a ∷ l) p h k = absurd (omega arith)
    elements_same (suc n) (suc m) l p h k =
        elements-cong _ _ _ _ l p (λ j q s. packet-same n m j q (omega arith) (omega arith))
        (λ j q s. elements_same n m j q (omega arith) (omega arith))

  elements-shorter : (n : ℕ) (m : List ℕ) (q : ℕ) → length m ≤ n → elements_at base n m q ≡ read_elements base m q
  unfolding read_elements
  elements-shorter n m q h = elements_same n (length m) m q h (omega arith)

  packet-shorter : (n : ℕ) (m : List ℕ) (q : ℕ) → length m ≤ n → packet_at base n m q ≡ read_packet base m q
  unfolding read_packet
  packet-shorter n m q h = packet-same n (length m) m q h (omega arith)

  -- a packet reads elements
  pub packet-eq : (l : List ℕ) (p : ℕ) → read_packet base l p ≡ packet_by base (λ m q. read_elements base m q) l p
  unfolding read_packet packet_at packet_by start_of
  packet-eq [] p = refl
  packet-eq (a ∷ l) p = packet-cong _ _ (a ∷ l) p (λ m q h. elements-shorter (length l) m q (omega arith))

  -- an element reads a packet
  pub elements-eq : (l : List ℕ) (p : ℕ)
      → read_elements base l p ≡ elements_by (λ m q. read_packet base m q) (λ m q. read_elements base m q) l p
  unfolding read_elements elements_at elements_by element_by size_of
  elements-eq [] p = refl
  elements-eq (a ∷ l) p =
      elements-cong _ _ _ _ (a ∷ l) p (λ m q h. packet-shorter (length l) m q (omega arith))
      (λ m q h. elements-shorter (length l) m q (omega arith))

  -- the same by the first element
  pub elements-by : (l : List ℕ) (p : ℕ) → read_elements base l p ≡ go_on (λ m q. read_elements base m q) l p (read_element base l p)
  unfolding read_element elements_by
  elements-by l p = elements-eq l p

  -- ---- a packet by what it starts with

  module _ (l : List ℕ) (p : ℕ) where
    started : {s : Start} → s ≡ start_of l p → read_packet base l p ≡ started_by base (λ m q. read_elements base m q) l p s
    unfolding packet_by
    started e = packet-eq l p ∙ ap (started_by base (λ m q. read_elements base m q) l p) (sym e)

    -- an address starts a message
    pub starts-message : {n used : ℕ} → Message n used ≡ start_of l p
        → read_packet base l p ≡ after used (read_message base (message_item (base + p) n) (drop used l) (p + used))
    starts-message e = started e

    -- "#bundle" starts a bundle
    pub starts-bundle : {used : ℕ} → Bundle used ≡ start_of l p
        → read_packet base l p ≡ after used (read_bundle base (base + p) (drop used l) (p + used))
    unfolding read_bundle
    starts-bundle e = started e

    -- a packet that is refused by what it starts with
    pub starts-refused : {k : Fault} → Err k ≡ start_of l p → read_packet base l p ≡ fault k
    starts-refused e = started e

    -- ---- an element by its size

    -- an element holds one packet
    pub element-holds : {n : ℕ} → Some n ≡ size_of l → read_element base l p ≡ filling n (read_packet base (take n (drop 4 l)) (p + 4))
    unfolding read_element element_by
    element-holds e = ap (held_by (λ m q. read_packet base m q) l p) (sym e)

    -- an element that is not all there
    pub element-runs-out : None ≡ size_of l → read_element base l p ≡ fault (Short Head p)
    unfolding read_element element_by
    element-runs-out e = ap (held_by (λ m q. read_packet base m q) l p) (sym e)
