-- Bytes appended to a packet: a message is the same message, a bundle keeps its time tag and begins with the same elements, and a fault
-- that they cannot mend is the same fault.
use mathlib.Core.Path.{◌≡◌, refl, ap, subst}
use mathlib.Core.List.{List, ◌++◌}
use Prim.Native.Nat.{ℕ, ◌+◌, ◌-◌, ◌≤◌}
use native.Mathlib.Omega.{arith}
use borrow.Author.Tests.{le-leb, ne_eqb}
use lib.ListN.{length, take, drop, length-append, length-drop, get_or-append}
use lib.Seq.{take-append-le, drop-append-le}
use Rattle.refusal.specs.declared.Fault.{Fault}
use Rattle.refusal.specs.declared.Field.TheVariants.{Address, TypeText}
use Rattle.wire.specs.Number.{number}
use Rattle.node.specs.Tags.{message_kind, bundle_kind}
use Rattle.node.specs.Forest.{Forest, nil, node}
use Rattle.node.specs.declared.record.Item.{Item}
use Rattle.text.specs.Text.{read_text}
use Rattle.heads.specs.Results.{ElementSize}
use Rattle.packet.specs.Results.{Start}
use Rattle.std.specs.Prelude.{Err, None, Some, Ok}
use Rattle.text.specs.Results.{Found, Text}
use Rattle.packet.specs.Results as start
use Rattle.arguments.specs.Arguments.{Args, refused, args, read_args}
use Rattle.heads.specs.Heads.{tags_in, size_of}
use Rattle.packet.specs.FirstText.{start_by, start_of}
use Rattle.packet.specs.Packet.{Out, fault, one, Elements, upto, after, message_with, types_then, read_message}
use Rattle.heads.specs.Heads.{message_item, bundle_item}
use Rattle.packet.specs.Packet.{bundle_with, bundle_by, filling}
use Rattle.packet.specs.Packet.{held_by, element_by, started_by, packet_by, read_packet, read_elements, read_bundle, read_element, trees_in}
use Rattle.calls.specs.Words.{BeginsSame, none, also, Mendable}
use Rattle.wire.proofs.Choices.{by-eq, by_le}
use Rattle.text.proofs.Within.{found_in}
use Rattle.heads.proofs.Heads.{size_in}
use Rattle.packet.proofs.FirstText.{message-start-in, bundle-start-in}
use Rattle.packet.proofs.Knot.{packet-eq}
use Rattle.packet.proofs.Bundles.{ended, first-trees}
use Rattle.packet.proofs.Within.{Within, element-in}
use Rattle.calls.proofs.Longer.Arguments.{KeptText, KeptArgs, number-longer, text-longer, args-longer}

-- a message is the same and takes as many bytes; a bundle keeps its time tag and begins with the same elements; a fault that no bytes mend
-- is the same
pub data Grows : Out → Out → Type 0 where
  was-refused : {k : Fault} {o : Out} → ((Mendable k → ⊥) → o ≡ fault k) → Grows (fault k) o
  same-message : {item : Item} {f : Forest} {used : ℕ} → item.kind ≡ message_kind → Grows (one item f used) (one item f used)
  longer-bundle : {item : Item} {f g : Forest} {used used' : ℕ} → item.kind ≡ bundle_kind → BeginsSame f g
      → Grows (one item f used) (one item g used')

-- with bytes read before, it goes on too
pub after-grows : (n : ℕ) {o o' : Out} → Grows o o' → Grows (after n o) (after n o')
after-grows n (was-refused s) = was-refused (λ m. ap (after n) (s m))
after-grows n (same-message k) = same-message k
after-grows n (longer-bundle k w) = longer-bundle k w

-- an element that was accepted stays
abbrev Kept : Out → Out → Type 0
Kept (fault k) o = Unit {0}
Kept (one item f used) o = o ≡ one item f used

same_out : (o : Out) → Kept o o
same_out (fault k) = tt
same_out (one item f used) = refl

-- what a packet starts with stays, and so does a fault that no bytes mend
abbrev KeptStart : Start → Start → Type 0
KeptStart (start.Message n used) s = s ≡ start.Message n used
KeptStart (start.Bundle used) s = s ≡ start.Bundle used
KeptStart (Err k) s = (Mendable k → ⊥) → s ≡ Err k

same_start : (s : Start) → KeptStart s s
same_start (start.Message n used) = refl
same_start (start.Bundle used) = refl
same_start (Err k) = λ s. refl

-- the size of an element that is all there stays
abbrev KeptSize : ElementSize → ElementSize → Type 0
KeptSize (Some n) s = s ≡ Some n
KeptSize None s = Unit {0}

module _ (base : ℕ) (more : List ℕ) where
  -- ---- messages

  message-with-grows : (item : Item) → item.kind ≡ message_kind → (x y : Args) → KeptArgs x y
      → Grows (message_with item x) (message_with item y)
  message-with-grows item k (refused f) y e = was-refused (λ s. ap (message_with item) (e s))
  message-with-grows item k (args f used) y e = rw e (same-message k)

  types-grow : (item : Item) → item.kind ≡ message_kind → (l : List ℕ) (p : ℕ) (t t' : Text) → t ≡ read_text l p → KeptText t t'
      → Grows (types_then base item l p t) (types_then base item (l ++ more) p t')
  types-grow item k l p (Err lack) t' e s = was-refused (λ m. ap (types_then base item (l ++ more) p) (s TypeText p m))
  types-grow item k l p (Ok text) t' e s =
      let w = found_in l p e in
      let tags = tags_in (take text.length l) in
      rw (s, take-append-le text.length l more (omega arith), drop-append-le text.used l more w.1)
      (after-grows text.used (message-with-grows item k (read_args base tags (drop text.used l) (p + text.used)) _
      (args-longer more base tags (drop text.used l) (p + text.used))))

  message-grows : (item : Item) → item.kind ≡ message_kind → (l : List ℕ) (p : ℕ)
      → Grows (read_message base item l p) (read_message base item (l ++ more) p)
  unfolding read_message
  message-grows item k l p = types-grow item k l p (read_text l p) (read_text (l ++ more) p) refl (text-longer more l p)

  -- ---- bundles: an element is cut by its size, so that it does not change

  size-longer : (l : List ℕ) → KeptSize (size_of l) (size_of (l ++ more))
  unfolding size_of
  size-longer l =
      by_le (λ s. KeptSize s (size_of (l ++ more))) 4 (length l)
      (λ h. by_le (λ s. KeptSize s (size_of (l ++ more))) (number 4 l) (length l - 4)
      (λ k. let four = le-leb 4 (length (l ++ more)) (omega (arith, length-append l more)) in
      let within = le-leb (number 4 l) (length (l ++ more) - 4) (omega (arith, length-append l more)) in
      rw (size_of, number-longer more 4 l h, four, within))
      (λ k. tt))
      (λ h. tt)

  element-longer : (l : List ℕ) (p : ℕ) → Kept (read_element base l p) (read_element base (l ++ more) p)
  unfolding read_element element_by
  element-longer l p = by_size (size_of l) (size_of (l ++ more)) refl (size-longer l)
    where
      by_size : (s s' : ElementSize) → s ≡ size_of l → KeptSize s s'
          → Kept (held_by (λ m q. read_packet base m q) l p s) (held_by (λ m q. read_packet base m q) (l ++ more) p s')
      by_size (Some n) s' e k =
          let h = size_in l e in
          let h4 : 4 ≤ length l = omega arith in
          let h' : n ≤ length (drop 4 l) = omega (arith, length-drop 4 l) in
          rw (k, drop-append-le 4 l more h4, take-append-le n (drop 4 l) more h')
          (same_out (filling n (read_packet base (take n (drop 4 l)) (p + 4))))
      by_size None s' e k = tt

  elements-begin : (f : Forest) (l : List ℕ) (p : ℕ) → trees_in (read_elements base l p) ≡ f
      → BeginsSame f (trees_in (read_elements base (l ++ more) p))
  elements-begin nil l p e = none
  elements-begin (node item inside rest) l p e = by-element (read_element base l p) refl (element-longer l p)
      (λ m q. elements-begin rest m q)
    where
      by-element : (o : Out) → read_element base l p ≡ o → Kept o (read_element base (l ++ more) p)
          → ((m : List ℕ) (q : ℕ) → trees_in (read_elements base m q) ≡ rest → BeginsSame rest (trees_in (read_elements base (m ++ more) q)))
          → BeginsSame (node item inside rest) (trees_in (read_elements base (l ++ more) p))
      by-element (fault k) x s go = let n : trees_in (read_elements base l p) ≡ nil = ap trees_in (ended base l p x) in
          let z : ◌≡◌ {A = ℕ} 0 1 = cc in absurd (omega arith)
      by-element (one item' inside' n) x s go =
          let w = subst (Within (length l - 4)) x (element-in base l p) in
          let later = trees_in (read_elements base (drop (4 + n) l) (p + (4 + n))) in
          let y : trees_in (read_elements base l p) ≡ node item' inside' later = first-trees base l p x in
          let er : later ≡ rest = cc in
          let ek : item' ≡ item = cc in
          let ei : inside' ≡ inside = cc in
          rw (first-trees base (l ++ more) p s, drop-append-le (4 + n) l more (omega arith), ek, ei)
          (also (go (drop (4 + n) l) (p + (4 + n)) er))

  bundle-with-grows : (item : Item) → item.kind ≡ bundle_kind → (x y : Elements) → BeginsSame (trees_in x) (trees_in y)
      → Grows (bundle_with item x) (bundle_with item y)
  bundle-with-grows item k (upto f used) (upto g used') w = longer-bundle k w

  bundle-grows : (start : ℕ) (l : List ℕ) (p : ℕ) → Grows (read_bundle base start l p) (read_bundle base start (l ++ more) p)
  unfolding read_bundle bundle_by
  bundle-grows start l p =
      by_le (λ o. Grows o (read_bundle base start (l ++ more) p)) 8 (length l)
      (λ h. let h4 : 4 ≤ length l = omega arith in
      let h4' : 4 ≤ length (drop 4 l) = omega (arith, length-drop 4 l) in
      let eight = le-leb 8 (length (l ++ more)) (omega (arith, length-append l more)) in
      let seconds = number-longer more 4 l h4 in
      let fractional = number-longer more 4 (drop 4 l) h4' in
      rw (read_bundle, bundle_by, eight, seconds, drop-append-le 4 l more h4, fractional, drop-append-le 8 l more h)
      (bundle-with-grows (bundle_item start l) refl (read_elements base (drop 8 l) (p + 8)) (read_elements base (drop 8 l ++ more) (p + 8))
      (elements-begin _ (drop 8 l) (p + 8) refl)))
      (λ h. was-refused (λ s. absurd (s tt)))

  -- ---- packets

  start-longer : (l : List ℕ) (p : ℕ) → KeptStart (start_of l p) (start_of (l ++ more) p)
  unfolding start_of
  start-longer l p =
      by-eq (λ s. KeptStart s (start_of (l ++ more) p)) (length l) 0 (λ h s. absurd (s tt))
      (λ h. rw (start_of, ne_eqb (length (l ++ more)) 0 (omega (arith, length-append l more)))
      (by-text (read_text l p) (read_text (l ++ more) p) refl (text-longer more l p)))
    where
      by-text : (t t' : Text) → t ≡ read_text l p → KeptText t t' → KeptStart (start_by l p t) (start_by (l ++ more) p t')
      by-text (Err lack) t' e s = λ m. rw (s Address p m)
      by-text (Ok text) t' e s =
          let w = found_in l p e in
          rw (s, get_or-append l more 0 0 (omega arith), take-append-le text.length l more (omega arith))
          (same_start (start_by l p (Found text.length text.used)))

  -- a packet goes on: a message is the same, a bundle begins with the same elements, and a fault that no bytes mend is the same
  pub packet-grows : (l : List ℕ) (p : ℕ) → Grows (read_packet base l p) (read_packet base (l ++ more) p)
  unfolding packet_by read_bundle
  packet-grows l p =
      rw (packet-eq base l p, packet-eq base (l ++ more) p)
      (by-start (start_of l p) (start_of (l ++ more) p) refl (start-longer l p))
    where
      by-start : (s s' : Start) → s ≡ start_of l p → KeptStart s s'
          → Grows (started_by base (λ m q. read_elements base m q) l p s) (started_by base (λ m q. read_elements base m q) (l ++ more) p s')
      by-start (start.Message n used) s' e k =
          rw (k, drop-append-le used l more (message-start-in l p e).1)
          (after-grows used (message-grows (message_item (base + p) n) refl (drop used l) (p + used)))
      by-start (start.Bundle used) s' e k =
          rw (k, drop-append-le used l more (bundle-start-in l p e).1)
          (after-grows used (bundle-grows (base + p) (drop used l) (p + used)))
      by-start (Err f) s' e k =
          was-refused (λ n. ap (started_by base (λ m q. read_elements base m q) (l ++ more) p) (k n))
