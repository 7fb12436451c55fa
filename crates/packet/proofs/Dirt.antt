-- The padding of what is read, as it stands in the input and in the part that is read: it is a matter of those bytes alone.
use mathlib.Core.Path.{◌≡◌, refl, ap, sym, subst, ◌∙◌}
use mathlib.Core.List.{List, ◌++◌}
use Prim.Native.Nat.{ℕ, zero, suc, ◌+◌, ◌-◌, ◌≤◌}
use native.Mathlib.Omega.{arith}
use lib.ListN.{length, take, drop}
use Rattle.wire.proofs.Choices.{by_le}
use Rattle.node.specs.Forest.{Forest, nil, node}
use Rattle.node.specs.declared.record.Item.{Item}
use Rattle.text.specs.Text.{read_text, non_zero}
use Rattle.heads.specs.Results.{ElementSize}
use Rattle.packet.specs.Results.{Bundle, Message, Start}
use Rattle.scan.specs.Results.{Scanned}
use Rattle.std.specs.Prelude.{Err, None, Some, Ok}
use Rattle.text.specs.Results.{Found, Text}
use Rattle.text.proofs.Within.{found_in, found-ends}
use Rattle.argument.specs.CodeParts.{StandsAt, between, dirt_of}
use Rattle.argument.specs.Dirt.{types_at, own_padding}
use Rattle.argument.proofs.Dirt.{text-padding, types-padding, dirt-node, dirt-nil}
use Rattle.argument.proofs.Stands.{stands_on, stands-take}
use Rattle.scan.specs.CodeScans.{scan, back, AllClosed}
use Rattle.scan.specs.declared.Back.{Back}
use Rattle.scan.specs.declared.Back.TheVariants.{Uncut, Cut}
use Rattle.arguments.specs.Arguments.{Args, refused, args, read_args}
use Rattle.arguments.specs.CodeReadings.{kept_of, ArgsAccepted}
use Rattle.arguments.proofs.Counts.{scan-refused}
use Rattle.arguments.proofs.Dirt.{closed-dirt}
use Rattle.arguments.proofs.Kept.{all_closed, cut-never, cut_at}
use Rattle.heads.specs.Heads.{tags_in, size_of, message_item, bundle_item}
use Rattle.heads.proofs.Heads.{size_in}
use Rattle.packet.specs.FirstText.{start_of}
use Rattle.packet.specs.Packet.{Out, fault, one, Elements, upto, after, message_with, types_then, read_message, bundle_with, bundle_by}
use Rattle.packet.specs.Packet.{filling, held_by, element_by, joined, go_on, elements_by, started_by, packet_by, packet_at, elements_at}
use Rattle.packet.specs.Packet.{read_packet, read_elements, trees_in}
use Rattle.packet.proofs.FirstText.{message-text, bundle-text}

-- ---- what a node has itself

module _ (base p : ℕ) (l msg : List ℕ) (w : StandsAt msg (base + p) l) where
  -- a message has itself the padding of its address and of its type text, which follows it
  pub message-padding : {n used m more : ℕ} → Found n used ≡ read_text l p → Found m more ≡ read_text (drop used l) (p + used)
      → own_padding base msg (message_item (base + p) n) ≡ between (n + 1) used l ++ between (m + 1) more (drop used l)
  message-padding {n} {used} e f =
      let u = found-ends l p e in
      let after : types_at base (base + p) n ≡ base + (p + used) = omega arith in
      let there = stands_on base p l msg w used (found_in l p e).1 in
      rw (after, text-padding base p l msg w e, types-padding base (p + used) (drop used l) msg there f)

  -- a bundle has itself that of "#bundle"
  pub bundle-padding : {used : ℕ} (m : List ℕ) → Found 7 used ≡ read_text l p
      → own_padding base msg (bundle_item (base + p) m) ≡ between 8 used l
  bundle-padding m e = text-padding base p l msg w e

-- ---- the same in two inputs

module _ (base : ℕ) (msg msg' : List ℕ) where
  -- trees that have the same dirt in both
  abbrev Alike : Forest → Type 0
  Alike f = dirt_of base msg f ≡ dirt_of base msg' f

  nil-alike : Alike nil
  nil-alike = dirt-nil base msg ∙ sym (dirt-nil base msg')

  -- a node that has itself the same padding in both
  abbrev OwnAlike : Item → Type 0
  OwnAlike item = own_padding base msg item ≡ own_padding base msg' item

  node_alike : (item : Item) (f rest : Forest) → OwnAlike item → Alike f → Alike rest → Alike (node item f rest)
  node_alike item f rest own h g = omega (arith, ap non_zero own, dirt-node base msg item f rest, dirt-node base msg' item f rest)

  abbrev OutAlike : Out → Type 0
  OutAlike (fault k) = Unit {0}
  OutAlike (one item f used) = OwnAlike item × Alike f

  abbrev ElementsAlike : Elements → Type 0
  ElementsAlike (upto f used) = Alike f

  after-alike : (n : ℕ) (o : Out) → OutAlike o → OutAlike (after n o)
  after-alike n (fault k) w = w
  after-alike n (one item f used) w = w

  -- these bytes stand at this position of both
  abbrev Both : ℕ → List ℕ → Type 0
  Both p l = StandsAt msg (base + p) l × StandsAt msg' (base + p) l

  both-on : (n : ℕ) (l : List ℕ) (p : ℕ) → n ≤ length l → Both p l → Both (p + n) (drop n l)
  both-on n l p h w = (stands_on base p l msg w.0 n h, stands_on base p l msg' w.1 n h)

  both_first : (n : ℕ) (l : List ℕ) (p : ℕ) → Both p l → Both p (take n l)
  both_first n l p w = (stands-take msg (base + p) l w.0 n, stands-take msg' (base + p) l w.1 n)

  -- ---- arguments

  closed-alike : (ts l : List ℕ) (p : ℕ) → Both p l → AllClosed (back ts) → ArgsAccepted (read_args base ts l p)
      → Alike (kept_of (read_args base ts l p))
  closed-alike ts l p w c a = by-scan (scan ts l p 0) refl
    where
      by-scan : (s : Scanned) → s ≡ scan ts l p 0 → Alike (kept_of (read_args base ts l p))
      by-scan (Ok scanned') e = sym (closed-dirt base msg ts l p w.0 e c) ∙ closed-dirt base msg' ts l p w.1 e c
      by-scan (Err k) e = absurd (scan-refused base ts l p e a)

  args-alike : (ts l : List ℕ) (p : ℕ) → Both p l → ArgsAccepted (read_args base ts l p) → Alike (kept_of (read_args base ts l p))
  args-alike ts l p w a = by-back (back ts) refl
    where
      by-scan : {n c d : ℕ} → Cut n c d ≡ back ts → (s : Scanned) → s ≡ scan (take n ts) l p 0 → Alike (kept_of (read_args base ts l p))
      by-scan {n} e (Ok scanned') s =
          let k = cut_at base ts l p e a s in
          let both = both_first (length l - scanned'.used) (drop scanned'.used l) (p + scanned'.used) (both-on scanned'.used l p k.within w) in
          subst Alike (sym k.kept) (closed-alike (take (length ts - n) (drop n ts)) _ (p + scanned'.used) both k.closed k.accepted)
      by-scan e (Err k) s = absurd (cut-never base ts l p e a s)

      by-back : (k : Back) → k ≡ back ts → Alike (kept_of (read_args base ts l p))
      by-back (Uncut n c d) e = closed-alike ts l p w (all_closed (back ts) e) a
      by-back (Cut n c d) e = by-scan e (scan (take n ts) l p 0) refl

  -- ---- messages and bundles

  message-alike : {n used : ℕ} (l : List ℕ) (p : ℕ) → Both p l → Found n used ≡ read_text l p
      → OutAlike (read_message base (message_item (base + p) n) (drop used l) (p + used))
  unfolding read_message
  message-alike {n} {used} l p w e = by-text (read_text m q) refl
    where
      m : List ℕ
      m = drop used l

      q : ℕ
      q = p + used

      item : Item
      item = message_item (base + p) n

      by_args : (o : Args) → OwnAlike item → (ArgsAccepted o → Alike (kept_of o)) → OutAlike (message_with item o)
      by_args (refused k) own h = tt
      by_args (args kept used) own h = (own, h tt)

      by-text : (t : Text) → t ≡ read_text m q → OutAlike (types_then base item m q t)
      by-text (Err k) f = tt
      by-text (Ok text) f =
          let tags = tags_in (take text.length m) in
          let o = read_args base tags (drop text.used m) (q + text.used) in
          let both = both-on text.used m q (found_in m q f).1 (both-on used l p (found_in l p e).1 w) in
          let own = message-padding base p l msg w.0 e f ∙ sym (message-padding base p l msg' w.1 e f) in
          after-alike text.used (message_with item o) (by_args o own (args-alike tags (drop text.used m) (q + text.used) both))

  module _ (es : List ℕ → ℕ → Elements) (he : (m : List ℕ) (q : ℕ) → Both q m → ElementsAlike (es m q)) where
    bundle-alike : {used : ℕ} (l : List ℕ) (p : ℕ) → Both p l → Found 7 used ≡ read_text l p
        → OutAlike (bundle_by (base + p) es (drop used l) (p + used))
    unfolding bundle_by
    bundle-alike {used} l p w e =
        let both = both-on used l p (found_in l p e).1 w in
        by_le OutAlike 8 (length m) (λ h. by-elements (es (drop 8 m) (q + 8)) (he (drop 8 m) (q + 8) (both-on 8 m q h both))) (λ h. tt)
      where
        m : List ℕ
        m = drop used l

        q : ℕ
        q = p + used

        by-elements : (k : Elements) → ElementsAlike k → OutAlike (bundle_with (bundle_item (base + p) m) k)
        by-elements (upto f u) h =
            (bundle-padding base p l msg w.0 m e ∙ sym (bundle-padding base p l msg' w.1 m e), h)

    packet-by-alike : (l : List ℕ) (p : ℕ) → Both p l → OutAlike (packet_by base es l p)
    unfolding packet_by
    packet-by-alike l p w = by-start (start_of l p) refl
      where
        by-start : (s : Start) → s ≡ start_of l p → OutAlike (started_by base es l p s)
        by-start (Message n used) e =
            after-alike used (read_message base (message_item (base + p) n) (drop used l) (p + used))
            (message-alike l p w (message-text l p e))
        by-start (Bundle used) e =
            after-alike used (bundle_by (base + p) es (drop used l) (p + used)) (bundle-alike l p w (bundle-text l p e))
        by-start (Err k) e = tt

    -- ---- elements

    module _ (pk : List ℕ → ℕ → Out) (hp : (m : List ℕ) (q : ℕ) → Both q m → OutAlike (pk m q)) where
      elements-by-alike : (l : List ℕ) (p : ℕ) → Both p l → ElementsAlike (elements_by pk es l p)
      unfolding elements_by element_by
      elements-by-alike l p w = by_size (size_of l) refl
        where
          by-joined : (item : Item) (f : Forest) (n : ℕ) (k : Elements) → OutAlike (one item f n) → ElementsAlike k
              → ElementsAlike (joined item f n k)
          by-joined item f n (upto rest used) h g = node_alike item f rest h.0 h.1 g

          by_out : (n : ℕ) (o : Out) → 4 + n ≤ length l → OutAlike o → ElementsAlike (go_on es l p (filling n o))
          by_out n (fault k) h g = nil-alike
          by_out n (one item f used) h g =
              by-joined item f n (es (drop (4 + n) l) (p + (4 + n))) g (he (drop (4 + n) l) (p + (4 + n)) (both-on (4 + n) l p h w))

          by_size : (s : ElementSize) → s ≡ size_of l → ElementsAlike (go_on es l p (held_by pk l p s))
          by_size (Some n) e =
              let h = size_in l e in
              by_out n (pk (take n (drop 4 l)) (p + 4)) h
              (hp (take n (drop 4 l)) (p + 4) (both_first n (drop 4 l) (p + 4) (both-on 4 l p (omega arith) w)))
          by_size None e = nil-alike

  mutual
    unfolding packet_at

    packet-at-alike : (n : ℕ) (l : List ℕ) (p : ℕ) → Both p l → OutAlike (packet_at base n l p)
    packet-at-alike zero l p w = tt
    packet-at-alike (suc n) l p w = packet-by-alike _ (λ m q v. elements-at-alike n m q v) l p w

    elements-at-alike : (n : ℕ) (l : List ℕ) (p : ℕ) → Both p l → ElementsAlike (elements_at base n l p)
    elements-at-alike zero l p w = nil-alike
    elements-at-alike (suc n) l p w =
        elements-by-alike _ (λ m q v. elements-at-alike n m q v) _ (λ m q v. packet-at-alike n m q v) l p w

by-elements : (base : ℕ) (msg msg' : List ℕ) (k : Elements) → ElementsAlike base msg msg' k → Alike base msg msg' (trees_in k)
by-elements base msg msg' (upto f used) w = w

-- the dirt of a packet is a matter of the bytes that it is read from: it is the same in every input in which they stand there
pub packet-same : {item : Item} {f : Forest} {used : ℕ} (base : ℕ) (l : List ℕ) (p : ℕ) (msg msg' : List ℕ) → StandsAt msg (base + p) l
    → StandsAt msg' (base + p) l → read_packet base l p ≡ one item f used
    → dirt_of base msg (node item f nil) ≡ dirt_of base msg' (node item f nil)
unfolding read_packet
packet-same {item} {f} base l p msg msg' w w' e =
    let h = subst (OutAlike base msg msg') e (packet-at-alike base msg msg' (length l) l p (w, w')) in
    node_alike base msg msg' item f nil h.0 h.1 (nil-alike base msg msg')

-- so is that of the elements of a bundle
pub elements_same : (base : ℕ) (l : List ℕ) (p : ℕ) (msg msg' : List ℕ) → StandsAt msg (base + p) l → StandsAt msg' (base + p) l
    → dirt_of base msg (trees_in (read_elements base l p)) ≡ dirt_of base msg' (trees_in (read_elements base l p))
unfolding read_elements
elements_same base l p msg msg' w w' =
    by-elements base msg msg' (elements_at base (length l) l p) (elements-at-alike base msg msg' (length l) l p (w, w'))
