-- Packets, and the elements of a bundle, begin one after another in the bytes that are read of them, and each at its own data.
use mathlib.Core.Path.{◌≡◌, refl, sym, ap, subst, ◌∙◌}
use mathlib.Core.Bool.{Bool, true, false, cond, false≢true}
use mathlib.Core.List.{List, [], ◌∷◌, ◌++◌}
use Prim.Native.Nat.{ℕ, zero, suc, ◌+◌, ◌%◌, ◌≤◌, ◌<◌}
use native.Mathlib.Omega.{arith}
use borrow.Author.Tests.{eqb-true}
use lib.Dec.{eqb}
use lib.ListN.{length, get_or, take, drop, length-drop, length-take}
use lib.Seq.{take-suc, take-append-le}
use Rattle.wire.specs.Same.{same_bytes}
use Rattle.wire.proofs.Same.{same-one}
use Rattle.wire.proofs.Choices.{by-test, by_le}
use Rattle.node.specs.Forest.{Forest, nil, node}
use Rattle.node.specs.Tags.{message_kind, class_of}
use Rattle.node.specs.declared.record.Item.{Item}
use Rattle.text.specs.Text.{until_nul, read_text}
use Rattle.heads.specs.Results.{ElementSize}
use Rattle.packet.specs.Results.{Start}
use Rattle.std.specs.Prelude.{Err, None, Some, Ok}
use Rattle.text.specs.Results.{Found, Text}
use Rattle.text.proofs.Within.{found_in, found-ends}
use Rattle.text.proofs.Nuls.{nul-longer}
use Rattle.argument.specs.Dirt.{types_at}
use Rattle.arguments.specs.Arguments.{Args, refused, args, read_args, Balanced}
use Rattle.heads.specs.Heads.{tags_in, size_of}
use Rattle.packet.specs.FirstText.{bundle_word, start_by, start_of}
use Rattle.packet.specs.Packet.{Out, fault, one, Elements, upto, after, message_with, types_then, read_message}
use Rattle.heads.specs.Heads.{message_item, bundle_item}
use Rattle.packet.specs.Packet.{bundle_with, bundle_by, filling, held_by, element_by, joined, go_on, elements_by, started_by, packet_by}
use Rattle.packet.specs.Packet.{packet_at, elements_at, read_packet}
use Rattle.heads.proofs.Heads.{size_in}
use Rattle.packet.proofs.Within.{Within, packet-at-in}
use Rattle.osc10.proofs.Placed.{At, at_take, at_on, range_at}
use Rattle.given.specs.Starts.{BytesStand, tags_at, data_at}
use Rattle.given.proofs.Starts.Forests.{Own, Laid, Packed, none, message, bundle, packed-from, packed-to, packed_join}
use Rattle.given.proofs.Starts.Arguments.{KeptLaid, args-laid, args-closed}

-- a packet that was read from position p on stands, with what it contains, between `low` and the end of what was read
abbrev pub OutPacked : List ℕ → ℕ → ℕ → ℕ → Out → Type 0
OutPacked msg low base p (fault k) = Unit {0}
OutPacked msg low base p (one item f used) = Packed msg base low (node item f nil) (base + (p + used))

-- the same of the elements of a bundle
abbrev ElementsPacked : List ℕ → ℕ → ℕ → Elements → Type 0
ElementsPacked msg base p (upto f used) = Packed msg base (base + p) f (base + (p + used))

-- so does one with bytes read before it
after-packed : (msg : List ℕ) (low base p n : ℕ) (o : Out) → OutPacked msg low base (p + n) o → OutPacked msg low base p (after n o)
after-packed msg low base p n (fault k) w = tt
after-packed msg low base p n (one item f used) w =
    let q : base + (p + n + used) ≤ base + (p + (n + used)) = omega arith in packed-to q w

-- at the first NUL stands a NUL
nul-at : (l : List ℕ) → get_or l (until_nul l) 0 ≡ 0
nul-at [] = refl
nul-at (b ∷ l) = by-nul (eqb b 0) refl (nul-at l)
  where
    by-nul : (t : Bool) → eqb b 0 ≡ t → get_or l (until_nul l) 0 ≡ 0 → get_or (b ∷ l) (cond t 0 (suc (until_nul l))) 0 ≡ 0
    by-nul true e h = eqb-true b 0 e
    by-nul false e h = h

module _ {msg : List ℕ} (base : ℕ) where
  -- ---- messages

  message-own : (q n : ℕ) → Own msg (message_item q n)
  unfolding class_of
  message-own q n small = record { bundle = λ e. absurd (omega arith); text = λ _. refl; blob = λ e. absurd (omega arith); number = refl }

  with-packed : (q n p : ℕ) (o : Args) → q ≤ base + p
      → ((kept : Forest) (used : ℕ) → args kept used ≡ o → KeptLaid msg (base + p) kept (base + (p + used))
      × (Balanced (tags_at base msg (message_item q n)) → Laid msg (data_at base msg (message_item q n)) kept (base + (p + used))))
      → OutPacked msg q base p (message_with (message_item q n) o)
  with-packed q n p (refused k) le h = tt
  with-packed q n p (args kept used) le h =
      let w = (h kept used refl).0 in
      let here : q ≤ q = omega arith in
      let on : q ≤ w.from = omega (arith, w.above) in
      let end : base + (p + used) ≤ base + (p + used) = omega arith in
      message refl here (message-own q n) on w.laid (h kept used refl).1 (none end)

  -- where the type text of a message stands at p, its tags and its data are those that are read
  module _ (q n : ℕ) {l : List ℕ} (p : ℕ) (at : At msg (base + p) l) (types : types_at base q n ≡ base + p) {m used : ℕ}
      (e : Found m used ≡ read_text l p) where
    types-here : drop (types_at base q n) msg ≡ l ++ at.more
    types-here = ap (λ (o : ℕ). drop o msg) types ∙ at.is

    until-here : until_nul (drop (types_at base q n) msg) ≡ m
    until-here =
        let w = found_in l p e in
        let v = found-ends l p e in
        ap until_nul types-here ∙ nul-longer l at.more (omega (arith, v.0)) ∙ sym v.0

    tags-here : tags_at base msg (message_item q n) ≡ tags_in (take m l)
    tags-here =
        ap tags_in (ap (λ (k : ℕ). take k (drop (types_at base q n) msg)) until-here ∙ ap (take m) types-here
        ∙ take-append-le m l at.more (omega (arith, found_in l p e)))

    data-here : data_at base msg (message_item q n) ≡ base + (p + used)
    data-here =
        ap (λ (k : ℕ). types_at base (types_at base q n) k) until-here ∙ ap (λ (o : ℕ). types_at base o m) types
        ∙ omega (arith, (found-ends l p e).1)

  message-packed : (q n : ℕ) {l : List ℕ} (p : ℕ) → At msg (base + p) l → q ≤ base + p → types_at base q n ≡ base + p
      → OutPacked msg q base p (read_message base (message_item q n) l p)
  unfolding read_message
  message-packed q n {l} p at le types = by-text (read_text l p) refl
    where
      by-text : (t : Text) → t ≡ read_text l p → OutPacked msg q base p (types_then base (message_item q n) l p t)
      by-text (Err k) e = tt
      by-text (Ok text) e =
          let tags = tags_in (take text.length l) in
          let o = read_args base tags (drop text.used l) (p + text.used) in
          let fours : (p + text.used) % 4 ≡ 0 = omega (arith, (found-ends l p e).1) in
          let next = at_on base p text.used (found_in l p e).1 at in
          after-packed msg q base p text.used (message_with (message_item q n) o)
          (with-packed q n (p + text.used) o (omega arith)
          (λ kept v g. (
            args-laid base tags (p + text.used) next fours g,
            λ b. subst (λ (x : ℕ). Laid msg x kept (base + (p + text.used + v))) (sym (data-here q n p at types e))
                (args-closed base tags (p + text.used) next fours g (subst Balanced (tags-here q n p at types e) b)),
          )))

  -- ---- bundles

  -- a bundle whose "#bundle" stands at q
  module _ (q : ℕ) (word : BytesStand msg q (bundle_word ++ (0 ∷ []))) where
    bundle-own : (l : List ℕ) → Own msg (bundle_item q l)
    unfolding class_of
    bundle-own l small = record { bundle = λ _. word; text = λ e. absurd (false≢true e); blob = λ e. absurd (omega arith); number = refl }

    bundle-packed : (es : List ℕ → ℕ → Elements) {l : List ℕ} (p : ℕ) → At msg (base + p) l → q ≤ base + p
        → ((m : List ℕ) (r : ℕ) → At msg (base + r) m → ElementsPacked msg base r (es m r))
        → OutPacked msg q base p (bundle_by q es l p)
    unfolding bundle_by
    bundle-packed es {l} p at le h = by_le (OutPacked msg q base p) 8 (length l)
        (λ k. with-elements (es (drop 8 l) (p + 8)) (h (drop 8 l) (p + 8) (at_on base p 8 k at))) (λ _. tt)
      where
        with-elements : (x : Elements) → ElementsPacked msg base (p + 8) x → OutPacked msg q base p (bundle_with (bundle_item q l) x)
        with-elements (upto f used) w =
            let h : q ≤ base + (p + 8) = omega arith in
            let here : q ≤ q = omega arith in
            let k : base + (p + 8 + used) ≤ base + (p + (8 + used)) = omega arith in
            let end : base + (p + (8 + used)) ≤ base + (p + (8 + used)) = omega arith in
            bundle refl here (bundle-own l) (packed-from h (packed-to k w)) (none end)

  -- ---- packets

  -- the first text is "#bundle", and its NUL follows it
  word-here : (l : List ℕ) (p : ℕ) → At msg (base + p) l → (n : ℕ) → n ≡ until_nul l → n < length l → take n l ≡ bundle_word
      → BytesStand msg (base + p) (bundle_word ++ (0 ∷ []))
  word-here l p at n e h s =
      let nul : get_or l n 0 ≡ 0 = ap (λ (k : ℕ). get_or l k 0) e ∙ nul-at l in
      let front : take (suc n) l ≡ bundle_word ++ (0 ∷ [])
      = take-suc l n 0 h ∙ ap (λ (x : List ℕ). x ++ (get_or l n 0 ∷ [])) s ∙ ap (λ (b : ℕ). bundle_word ++ (b ∷ [])) nul in
      subst (BytesStand msg (base + p)) front (range_at (at_take (suc n) at)).holds

  packet-by-packed : (es : List ℕ → ℕ → Elements) {l : List ℕ} (p : ℕ) → At msg (base + p) l
      → ((m : List ℕ) (r : ℕ) → At msg (base + r) m → ElementsPacked msg base r (es m r))
      → OutPacked msg (base + p) base p (packet_by base es l p)
  unfolding packet_by start_of
  packet-by-packed es {l} p at h =
      by-test (λ x. OutPacked msg (base + p) base p (started_by base es l p x)) (eqb (length l) 0) (λ _. tt)
      (λ _. by-text (read_text l p) refl)
    where
      by-text : (t : Text) → t ≡ read_text l p → OutPacked msg (base + p) base p (started_by base es l p (start_by l p t))
      by-text (Err k) e = tt
      by-text (Ok text) e =
          let w = found_in l p e in
          let next = at_on base p text.used w.1 at in
          let P : Start → Type 0 = λ x. OutPacked msg (base + p) base p (started_by base es l p x) in
          by-test P (eqb (get_or l 0 0) message_kind)
          (λ _. after-packed msg (base + p) base p text.used
          (read_message base (message_item (base + p) text.length) (drop text.used l) (p + text.used))
          (message-packed (base + p) text.length (p + text.used) next (omega arith) (omega (arith, (found-ends l p e).1))))
          (λ _. by-test P (same_bytes (take text.length l) bundle_word)
          (λ s. after-packed msg (base + p) base p text.used (bundle_by (base + p) es (drop text.used l) (p + text.used))
          (bundle-packed (base + p) (word-here l p at text.length (found-ends l p e).0 (omega arith)
          (same-one (take text.length l) bundle_word s))
          es (p + text.used) next (omega arith) h))
          (λ _. tt))

  -- ---- elements

  joined-packed : (p n : ℕ) (item : Item) (f : Forest) (g : Elements)
      → Packed msg base (base + p) (node item f nil) (base + (p + (4 + n))) → ElementsPacked msg base (p + (4 + n)) g
      → ElementsPacked msg base p (joined item f n g)
  joined-packed p n item f (upto g used) w v =
      let q : base + (p + (4 + n) + used) ≤ base + (p + (4 + n + used)) = omega arith in packed_join w (packed-to q v)

  no_element : (p : ℕ) → ElementsPacked msg base p (upto nil 0)
  no_element p = let q : base + p ≤ base + (p + 0) = omega arith in none q

  module _ (pk : List ℕ → ℕ → Out) (es : List ℕ → ℕ → Elements)
      (hp : (m : List ℕ) (r : ℕ) → At msg (base + r) m → OutPacked msg (base + r) base r (pk m r))
      (hw : (m : List ℕ) (r : ℕ) → Within (length m) (pk m r))
      (he : (m : List ℕ) (r : ℕ) → At msg (base + r) m → ElementsPacked msg base r (es m r)) where
    -- an element's packet takes no more than the element
    filled-packed : {l : List ℕ} (p n : ℕ) (o : Out) → 4 + n ≤ length l → At msg (base + p) l → Within n o
        → OutPacked msg (base + (p + 4)) base (p + 4) o
        → ElementsPacked msg base p (go_on es l p (filling n o))
    filled-packed p n (fault k) h at v w = no_element p
    filled-packed {l} p n (one item f used) h at v w =
        let q : base + (p + 4 + used) ≤ base + (p + (4 + n)) = omega (arith, v) in
        let k : base + p ≤ base + (p + 4) = omega arith in
        joined-packed p n item f (es (drop (4 + n) l) (p + (4 + n))) (packed-from k (packed-to q w))
        (he (drop (4 + n) l) (p + (4 + n)) (at_on base p (4 + n) h at))

    elements-by-packed : {l : List ℕ} (p : ℕ) → At msg (base + p) l → ElementsPacked msg base p (elements_by pk es l p)
    unfolding elements_by element_by
    elements-by-packed {l} p at = by_size (size_of l) refl
      where
        by_size : (x : ElementSize) → x ≡ size_of l → ElementsPacked msg base p (go_on es l p (held_by pk l p x))
        by_size (Some n) e =
            let m = take n (drop 4 l) in
            let same : length m ≡ n = omega (arith, size_in l e, length-take n (drop 4 l), length-drop 4 l) in
            filled-packed p n (pk m (p + 4)) (size_in l e) at (subst (λ (k : ℕ). Within k (pk m (p + 4))) same (hw m (p + 4)))
            (hp m (p + 4) (at_take n (at_on base p 4 (omega (arith, size_in l e)) at)))
        by_size None e = no_element p

  mutual
    unfolding packet_at

    packet-at-packed : (n : ℕ) (l : List ℕ) (p : ℕ) → At msg (base + p) l → OutPacked msg (base + p) base p (packet_at base n l p)
    packet-at-packed zero l p at = tt
    packet-at-packed (suc n) l p at = packet-by-packed _ p at (λ m q t. elements-at-packed n m q t)

    elements-at-packed : (n : ℕ) (l : List ℕ) (p : ℕ) → At msg (base + p) l → ElementsPacked msg base p (elements_at base n l p)
    elements-at-packed zero l p at = no_element p
    elements-at-packed (suc n) l p at =
        elements-by-packed _ _ (λ m q t. packet-at-packed n m q t) (λ m q. packet-at-in base n m q)
        (λ m q t. elements-at-packed n m q t) p at

  -- a packet and all that it contains stand in the bytes that are read of it
  pub packet-packed : (l : List ℕ) (p : ℕ) → At msg (base + p) l → OutPacked msg (base + p) base p (read_packet base l p)
  unfolding read_packet
  packet-packed l p at = packet-at-packed (length l) l p at
