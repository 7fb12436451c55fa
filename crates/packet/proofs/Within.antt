-- A tree has at most a node for each byte that was used, and no more is used than there is.
use mathlib.Core.Path.{◌≡◌, refl, ap, sym}
use mathlib.Core.List.{List}
use Prim.Native.Nat.{ℕ, zero, suc, ◌+◌, ◌-◌, ◌<◌, ◌≤◌}
use native.Mathlib.Omega.{arith}
use lib.ListN.{length, take, drop, length-drop, length-take}
use Rattle.wire.proofs.Choices.{by_le}
use Rattle.refusal.specs.declared.Field.TheVariants.{TypeText}
use Rattle.node.specs.Forest.{Forest, size}
use Rattle.node.specs.declared.record.Item.{Item}
use Rattle.text.specs.Text.{read_text, fault_in}
use Rattle.heads.specs.Results.{ElementSize}
use Rattle.packet.specs.Results.{Bundle, Message, Start}
use Rattle.std.specs.Prelude.{Err, None, Some, Ok}
use Rattle.text.specs.Results.{Found, Text}
use Rattle.text.specs.declared.Lack.{Lack}
use Rattle.text.proofs.Within.{found_in}
use Rattle.arguments.specs.Arguments.{Args, refused, args, read_args}
use Rattle.arguments.specs.CodeReadings.{kept_of}
use Rattle.arguments.proofs.Counts.{kept-few, args-within}
use Rattle.heads.specs.Heads.{tags_in, size_of, message_item}
use Rattle.packet.specs.FirstText.{start_of}
use Rattle.packet.specs.Packet.{Out, fault, one, Elements, upto, after, message_with, types_then, read_message}
use Rattle.packet.specs.Packet.{bundle_with, bundle_by}
use Rattle.packet.specs.Packet.{filling, held_by, element_by, joined, go_on, elements_by, started_by, packet_by, packet_at, elements_at}
use Rattle.packet.specs.Packet.{read_packet, read_elements, read_element, used_by, trees_in}
use Rattle.heads.proofs.Heads.{SizeIn, size-within, tags-few}
use Rattle.packet.proofs.FirstText.{StartIn, start-within}

-- ---- packets

-- a tree that was read from m bytes
abbrev pub Within : ℕ → Out → Type 0
Within m (fault k) = Unit {0}
Within m (one item f u) = (1 + size f ≤ u) × (u ≤ m)

-- elements that were read from m bytes
abbrev ElementsIn : ℕ → Elements → Type 0
ElementsIn m (upto f u) = (size f ≤ u) × (u ≤ m)

-- a tree that was read after n bytes
pub after-in : (n m : ℕ) (o : Out) → n ≤ m → Within (m - n) o → Within m (after n o)
after-in n m (fault k) h w = tt
after-in n m (one item f u) h w = omega arith

-- the arguments, after u bytes of type text
arguments-in : (item : Item) (t u j m : ℕ) (o : Args) → t < u → u + j ≤ m → size (kept_of o) ≤ t
    → ((f : Forest) (v : ℕ) → args f v ≡ o → v ≤ j)
    → Within m (after u (message_with item o))
arguments-in item t u j m (refused k) h g few low = tt
arguments-in item t u j m (args f v) h g few low = omega (arith, low f v refl)

module _ (base : ℕ) (item : Item) (l : List ℕ) (p : ℕ) where
  -- a message with a type text
  pub types-found : {m used : ℕ} → Found m used ≡ read_text l p
      → read_message base item l p ≡ after used (message_with item (read_args base (tags_in (take m l)) (drop used l) (p + used)))
  unfolding read_message
  types-found e = sym (ap (types_then base item l p) e)

  -- a message whose type text is lacking
  pub types-lack : {k : Lack} → Err k ≡ read_text l p → read_message base item l p ≡ fault (fault_in TypeText p k)
  unfolding read_message
  types-lack e = sym (ap (types_then base item l p) e)

  message-in : Within (length l) (read_message base item l p)
  message-in = by-text (read_text l p) refl
    where
      by-text : (t : Text) → t ≡ read_text l p → Within (length l) (read_message base item l p)
      by-text (Err k) e = rw (types-lack e) tt
      by-text (Ok text') e =
          let w = found_in l p e in
          let text = take text'.length l in
          let tags = tags_in text in
          rw (types-found e)
          (arguments-in item (length tags) text'.used (length (drop text'.used l)) (length l) (read_args base tags (drop text'.used l) (p + text'.used))
          (omega (arith, tags-few text, length-take text'.length l)) (omega (arith, length-drop text'.used l))
          (kept-few base tags (drop text'.used l) (p + text'.used)) (λ f v e. args-within base tags (drop text'.used l) (p + text'.used) e))

bundle-with-in : (item : Item) (k : Elements) (m : ℕ) → 8 ≤ m → ElementsIn (m - 8) k → Within m (bundle_with item k)
bundle-with-in item (upto f u) m h w = omega arith

bundle-by-in : (start : ℕ) (es : List ℕ → ℕ → Elements) (l : List ℕ) (p : ℕ) → ElementsIn (length (drop 8 l)) (es (drop 8 l) (p + 8))
    → Within (length l) (bundle_by start es l p)
unfolding bundle_by
bundle-by-in start es l p w =
    by_le (Within (length l)) 8 (length l) (λ h. bundle-with-in _ (es (drop 8 l) (p + 8)) (length l) h (rw length-drop at w)) (λ h. tt)

module _ (base : ℕ) where
  started-in : (es : List ℕ → ℕ → Elements) (l : List ℕ) (p : ℕ) (s : Start) → ((m : List ℕ) (q : ℕ) → ElementsIn (length m) (es m q))
      → StartIn (length l) s → Within (length l) (started_by base es l p s)
  started-in es l p (Message n used) h w =
      after-in used (length l) (read_message base (message_item (base + p) n) (drop used l) (p + used)) w.1
      (rw length-drop at (message-in base (message_item (base + p) n) (drop used l) (p + used)))
  started-in es l p (Bundle used) h w =
      after-in used (length l) (bundle_by (base + p) es (drop used l) (p + used)) w.1
      (rw length-drop at (bundle-by-in (base + p) es (drop used l) (p + used) (h _ _)))
  started-in es l p (Err k) h w = tt

  packet-by-in : (es : List ℕ → ℕ → Elements) (l : List ℕ) (p : ℕ) → ((m : List ℕ) (q : ℕ) → ElementsIn (length m) (es m q))
      → Within (length l) (packet_by base es l p)
  unfolding packet_by
  packet-by-in es l p h = started-in es l p (start_of l p) h (start-within l p)

-- ---- elements

filling-in : (n j m : ℕ) (o : Out) → j ≤ n → n ≤ m → Within j o → Within m (filling n o)
filling-in n j m (fault k) h g w = tt
filling-in n j m (one item f u) h g w = omega arith

held_in : (pk : List ℕ → ℕ → Out) (l : List ℕ) (p : ℕ) (s : ElementSize) → ((m : List ℕ) (q : ℕ) → Within (length m) (pk m q))
    → SizeIn (length l) s → Within (length l - 4) (held_by pk l p s)
held_in pk l p (Some n) h w =
    filling-in n _ (length l - 4) (pk (take n (drop 4 l)) (p + 4)) (omega (arith, length-take n (drop 4 l))) (omega arith) (h _ _)
held_in pk l p None h w = tt

element-by-in : (pk : List ℕ → ℕ → Out) (l : List ℕ) (p : ℕ) → ((m : List ℕ) (q : ℕ) → Within (length m) (pk m q))
    → Within (length l - 4) (element_by pk l p)
unfolding element_by
element-by-in pk l p h = held_in pk l p (size_of l) h (size-within l)

joined_in : (item : Item) (f : Forest) (n m : ℕ) (g : Elements) → Within (m - 4) (one item f n) → ElementsIn (m - (4 + n)) g
    → ElementsIn m (joined item f n g)
unfolding size
joined_in item f n m (upto g u) w v = omega arith

on_in : (es : List ℕ → ℕ → Elements) (l : List ℕ) (p : ℕ) (o : Out) → ((m : List ℕ) (q : ℕ) → ElementsIn (length m) (es m q))
    → Within (length l - 4) o → ElementsIn (length l) (go_on es l p o)
unfolding size
on_in es l p (fault k) h w = omega arith
on_in es l p (one item f n) h w =
    joined_in item f n (length l) (es (drop (4 + n) l) (p + (4 + n))) w (rw length-drop at (h (drop (4 + n) l) (p + (4 + n))))

module _ (base : ℕ) where
  mutual
    unfolding packet_at elements_by size

    -- a packet takes no more than there is, at most n deep
    pub packet-at-in : (n : ℕ) (l : List ℕ) (p : ℕ) → Within (length l) (packet_at base n l p)
    packet-at-in zero l p = tt
    packet-at-in (suc n) l p = packet-by-in base _ l p (λ m q. elements-at-in n m q)

    elements-at-in : (n : ℕ) (l : List ℕ) (p : ℕ) → ElementsIn (length l) (elements_at base n l p)
    elements-at-in zero l p = omega arith
    elements-at-in (suc n) l p =
        on_in _ l p (element_by (λ m q. packet_at base n m q) l p) (λ m q. elements-at-in n m q)
        (element-by-in _ l p (λ m q. packet-at-in n m q))

  -- a packet takes no more than there is, and a byte at least for each node
  pub packet-in : (l : List ℕ) (p : ℕ) → Within (length l) (read_packet base l p)
  unfolding read_packet
  packet-in l p = packet-at-in (length l) l p

  elements-within : (l : List ℕ) (p : ℕ) → ElementsIn (length l) (read_elements base l p)
  unfolding read_elements
  elements-within l p = elements-at-in (length l) l p

  -- an element's `used` is its size
  pub element-in : (l : List ℕ) (p : ℕ) → Within (length l - 4) (read_element base l p)
  unfolding read_element
  element-in l p = element-by-in _ l p (λ m q. packet-in m q)

by-elements : (m : ℕ) (k : Elements) → ElementsIn m k → (size (trees_in k) ≤ used_by k) × (used_by k ≤ m)
by-elements m (upto f u) w = w

-- the elements of a bundle take no more than there is, and a byte at least for each node
pub elements-in : (base : ℕ) (l : List ℕ) (p : ℕ)
    → (size (trees_in (read_elements base l p)) ≤ used_by (read_elements base l p)) × (used_by (read_elements base l p) ≤ length l)
elements-in base l p = by-elements (length l) (read_elements base l p) (elements-within base l p)
