-- Packets that OSC 1.0 spells have no dirty padding: the bytes that fill a text or a blob up to a multiple of 4 are zeros by its spelling.
use mathlib.Core.Path.{◌≡◌, refl, ap, ◌∙◌, subst}
use mathlib.Core.Bool.{true}
use mathlib.Core.List.{List, [], ◌∷◌, ◌++◌, append_assoc, append-nil}
use Prim.Native.Nat.{ℕ, zero, suc, ◌+◌, ◌-◌, ◌%◌, ◌^◌, ◌<◌}
use native.Mathlib.Omega.{arith}
use lib.ListN.{length, get_or, take, replicate, length-append, length-replicate}
use lib.Seq.{take_at, drop_at}
use Rattle.wire.specs.Same.{same_bytes}
use Rattle.node.specs.Forest.{Forest, nil, node, snoc}
use Rattle.node.specs.Tags.{bundle_kind}
use Rattle.node.specs.declared.record.Item.{Item}
use Rattle.node.specs.declared.tags.Class.TheVariants.{Text, Blob}
use Rattle.text.specs.Text.{non_zero}
use Rattle.argument.specs.CodeParts.{StandsAt, between, dirt_of}
use Rattle.argument.specs.Dirt.{text_padding, types_at, types_padding, arg_padding, packets_padding, dirty_in}
use Rattle.arguments.specs.Arguments.{Args, refused, args, later, array_item, Open, waits, read_tags, read_args}
use Rattle.heads.specs.Heads.{message_item}
use Rattle.packet.specs.FirstText.{bundle_word}
use Rattle.packet.specs.Packet.{Out, fault, one, Elements, upto, elements_at, read_packet, read_elements, used_by, trees_in}
use Rattle.osc10.specs.Words.{slash}
use Rattle.osc10.specs.Osc10.{Atom, OscArguments, end, atom, array, Packet, message, bundle, Packets, none, also, IsText}
use Rattle.osc10.specs.Osc10.{AtomAllowed, ArgumentsAllowed, Allowed, AllAllowed, osc_int32, OscString, OscBlob, tag_of, tags_of}
use Rattle.osc10.specs.Osc10.{AtomSpells, as_word, as_long, as_bare, as_string, as_blob, as_char, ArgumentsSpell, no_argument}
use Rattle.osc10.specs.Osc10.{one_atom, one_array, hash_bundle, Spells, as_message, as_bundle, ElementsSpell, no_element, element}
use Rattle.wire.proofs.Numbers.{length-bytes}
use Rattle.text.proofs.Dirt.{dirt-join}
use Rattle.argument.proofs.Dirt.{text-padding, types-padding, arg-padding, own_dirt, dirt-node, dirt-nil}
use Rattle.arguments.proofs.Dirt.{dirt-snoc, array-clean, leaf-own}
use Rattle.packet.proofs.FirstText.{start-message, start-bundle}
use Rattle.packet.proofs.Knot.{starts-message, starts-bundle}
use Rattle.osc10.proofs.Placed.{At, at_front, at_next, range_length}
use Rattle.osc10.proofs.Tags.{class_is, atom-sort}
use Rattle.osc10.proofs.Parts.{string-length, string-take, string-read, atom-even, AtomRead, atom-read}
use Rattle.osc10.proofs.Arguments.{read-opens, read-closes, read-atom, arguments-even, Argued, arguments-read}
use Rattle.osc10.proofs.Packets.{types-text, bundle-text, bundle-eight, string-first, string-led, types-read, bundle-read}
use Rattle.osc10.proofs.Packets.{element-read, at-elements, at-content, at_rest, PacketRead, packet-read}

-- ---- zeros

zeros-clean : (k : ℕ) → non_zero (replicate k 0) ≡ 0
zeros-clean zero = refl
zeros-clean (suc k) = omega (arith, zeros-clean k)

-- what stands between a part x and what follows k zeros after it
zeros-after : (x : List ℕ) (k : ℕ) (more : List ℕ) {n used : ℕ} → length x ≡ n → used ≡ n + k
    → non_zero (between n used (x ++ (replicate k 0 ++ more))) ≡ 0
zeros-after x k more {n} {used} e u =
    let m : length {A = ℕ} (replicate k 0) ≡ used - n = omega (arith, length-replicate {A = ℕ} k 0) in
    rw (drop_at x (replicate k 0 ++ more) n e, take_at (replicate k 0) more (used - n) m) (zeros-clean k)

-- the additional nulls of an OSC-string
string-zeros : {text bs : List ℕ} → OscString text bs → (more : List ℕ)
    → non_zero (between (length text + 1) (length bs) (bs ++ more)) ≡ 0
string-zeros {text} {bs} w more =
    let x = text ++ (0 ∷ []) in
    let e : bs ++ more ≡ x ++ (replicate w.additional 0 ++ more) = rw w.spelled (simp append_assoc) in
    rw e (zeros-after x w.additional more (length-append text (0 ∷ [])) (string-length w))

-- the additional zeros of an OSC-blob
blob-zeros : {content bs : List ℕ} → OscBlob content bs → (more : List ℕ)
    → non_zero (between (4 + length content) (length bs) (bs ++ more)) ≡ 0
blob-zeros {content} {bs} w more =
    let x = osc_int32 (length content) ++ content in
    let e : bs ++ more ≡ x ++ (replicate w.additional 0 ++ more) = rw w.spelled (simp append_assoc) in
    let n : length x ≡ 4 + length content = simp (length-append, length-bytes) in
    let u : length bs ≡ 4 + length content + w.additional = ap length w.spelled
    ∙ simp (length-append, length-bytes, length-replicate) (omega arith) in
    rw e (zeros-after x w.additional more n u)

-- what stands at an offset, as the laws of padding say it
stands : {s : List ℕ} {q : ℕ} {l : List ℕ} → At s q l → StandsAt s q l
stands at = (at.more, at.is)

module _ (s : List ℕ) (base : ℕ) where
  -- ---- texts

  module _ {text bs : List ℕ} (w : OscString text bs) (t : IsText text) (more : List ℕ) (p : ℕ) (z : p % 4 ≡ 0)
      (at : At s (base + p) (bs ++ more)) where
    -- the padding of a text, by its length
    string-clean : non_zero (text_padding base s (base + p) (length text)) ≡ 0
    string-clean = ap non_zero (text-padding base p (bs ++ more) s (stands at) (string-read w more p t z)) ∙ string-zeros w more

    -- the same of a type text, which is found by its NUL
    types-clean : non_zero (types_padding base s (base + p)) ≡ 0
    types-clean = ap non_zero (types-padding base p (bs ++ more) s (stands at) (string-read w more p t z)) ∙ string-zeros w more

  -- ---- arguments

  -- the padding of one argument's data
  data-clean : {v : Atom} {bs : List ℕ} → AtomSpells v bs → (more : List ℕ) (p : ℕ) → At s (base + p) (bs ++ more)
      → (r : AtomRead s base v bs (bs ++ more) p) → non_zero (arg_padding base s (class_is v) r.item) ≡ 0
  data-clean as_word more p at r = refl
  data-clean as_long more p at r = refl
  data-clean as_bare more p at r = refl
  data-clean (as_string {bs = bs} w) more p at r =
      ap non_zero (arg-padding 115 base (bs ++ more) p s (stands at) Text r.given)
      ∙ rw (range_length r.is.numbers) (string-zeros w more)
  data-clean (as_blob {bs = bs} w) more p at r =
      ap non_zero (arg-padding 98 base (bs ++ more) p s (stands at) Blob r.given)
      ∙ rw (range_length r.is.numbers) (blob-zeros w more)
  data-clean as_char more p at r = refl

  -- an argument that is no array has no dirt
  atom-clean : {v : Atom} {bs : List ℕ} → AtomSpells v bs → AtomAllowed v → (more : List ℕ) (p : ℕ) → At s (base + p) (bs ++ more)
      → (r : AtomRead s base v bs (bs ++ more) p) → own_dirt base s r.item ≡ 0
  atom-clean {v} {bs} w h more p at r =
      ap non_zero (leaf-own base s (tag_of v) (class_is v) (bs ++ more) p (atom-sort v h) r.given) ∙ data-clean w more p at r

  -- arguments that are kept have no dirt
  abbrev ArgsClean : Args → Type 0
  ArgsClean (refused k) = Unit {0}
  ArgsClean (args kept used) = dirt_of base s kept ≡ 0

  clean-later : (n : ℕ) (o : Args) → ArgsClean o → ArgsClean (later n o)
  clean-later n (refused k) c = c
  clean-later n (args kept used) c = c

  -- the tags of A and its data, before other tags and bytes: where the frame has no dirt, and whatever is read after A to a frame without
  -- dirt has none either, none is read
  args-clean : (A : OscArguments) {d : List ℕ} → ArgumentsSpell A d → ArgumentsAllowed A
      → (ts more : List ℕ) (p : ℕ) (frame : Forest) (below : List Open)
      → p % 4 ≡ 0 → At s (base + p) (d ++ more) → length d < 256 ^ 4 → dirt_of base s frame ≡ 0
      → ((f : Forest) → dirt_of base s f ≡ 0 → ArgsClean (read_tags base ts more (p + length d) f below))
      → ArgsClean (read_tags base (tags_of A ++ ts) (d ++ more) p frame below)
  unfolding ArgumentsAllowed tags_of
  args-clean end no_argument h ts more p frame below z placed low c go =
      let e : p + 0 ≡ p = omega arith in
      rw e at (go frame c)
  args-clean (atom v rest) (one_atom {x = x} {y = y} w r) h ts more p frame below z placed low c go =
      let n = length-append x y in
      let q : p + length (x ++ y) ≡ p + length x + length y = omega arith in
      let here : At s (base + p) (x ++ (y ++ more)) = rw append_assoc at placed in
      let u = atom-read s base w h.0 (y ++ more) p z (at_front x (y ++ more) here) (omega arith) in
      let own = atom-clean w h.0 (y ++ more) p here u in
      let longer = snoc frame u.item nil in
      let clean : dirt_of base s longer ≡ 0 = omega (arith, dirt-snoc base s frame u.item nil, dirt-nil base s) in
      rw (
        append_assoc x y more,
        read-atom base (tags_of rest ++ ts) (x ++ (y ++ more)) p frame below v h.0 u.given,
        drop_at x (y ++ more) (length x) refl,
      )
      (clean-later (length x) (read_tags base (tags_of rest ++ ts) (y ++ more) (p + length x) longer below)
      (args-clean rest r h.1 ts more (p + length x) longer below (omega (arith, atom-even w)) (at_next base p x (y ++ more) here)
      (omega arith) clean (rw q at go)))
  args-clean (array within rest) (one_array {x = x} {y = y} i r) h ts more p frame below z placed low c go =
      let n = length-append x y in
      let q : p + length (x ++ y) ≡ p + length x + length y = omega arith in
      let here : At s (base + p) (x ++ (y ++ more)) = rw append_assoc at placed in
      let array = array_item (base + p) in
      let after = tags_of rest ++ ts in
      rw (
        append_assoc (tags_of within) (93 ∷ tags_of rest) ts,
        append_assoc x y more,
        read-opens base (tags_of within ++ (93 ∷ after)) (x ++ (y ++ more)) p frame below,
      )
      (args-clean within i h.0 (93 ∷ after) (y ++ more) p nil (waits frame array ∷ below) z here (omega arith) (dirt-nil base s)
      (λ f d. rw (read-closes base after (y ++ more) (p + length x) f below frame array)
      (args-clean rest r h.1 ts more (p + length x) (snoc frame array f) below (omega (arith, arguments-even i))
      (at_next base p x (y ++ more) here) (omega arith) (omega (arith, dirt-snoc base s frame array f, array-clean base s (base + p)))
      (rw q at go))))

  -- the arguments of a message, whole
  arguments-clean : (A : OscArguments) {d : List ℕ} → ArgumentsSpell A d → ArgumentsAllowed A → (p : ℕ) → p % 4 ≡ 0
      → At s (base + p) d → length d < 256 ^ 4 → ArgsClean (read_args base (tags_of A) d p)
  unfolding read_tags
  arguments-clean A {d} w h p z placed low =
      let whole : At s (base + p) (d ++ []) = rw append-nil placed in
      simp append-nil at (args-clean A w h [] [] p nil [] z whole low (dirt-nil base s) (λ f c. c))

  -- ---- packets

  -- a packet that was read at position p begins there, and has no dirt
  abbrev PacketClean : ℕ → Out → Type 0
  PacketClean p (fault k) = Unit {0}
  PacketClean p (one item f used) = (item.start ≡ base + p) × (dirt_of base s (node item f nil) ≡ 0)

  -- a tree of which no part has dirt
  clean-node : (item : Item) (f rest : Forest) → own_dirt base s item ≡ 0 → dirt_of base s f ≡ 0 → dirt_of base s rest ≡ 0
      → dirt_of base s (node item f rest) ≡ 0
  clean-node item f rest x y z = omega (arith, dirt-node base s item f rest)

  -- what elements are read as, by its two parts
  by_parts : (k : Elements) → k ≡ upto (trees_in k) (used_by k)
  by_parts (upto f n) = refl

  no-elements : (p : ℕ) → dirt_of base s (trees_in (read_elements base [] p)) ≡ 0
  unfolding read_elements elements_at
  no-elements p = dirt-nil base s

  -- a message's own padding: its address's and its type text's
  message-own : {address : List ℕ} (A : OscArguments) {a t : List ℕ} (d : List ℕ) (p : ℕ) → OscString address a
      → OscString (44 ∷ tags_of A) t → IsText address → ArgumentsAllowed A → p % 4 ≡ 0 → At s (base + p) (a ++ (t ++ d))
      → own_dirt base s (message_item (base + p) (length address)) ≡ 0
  message-own {address} A {a} {t} d p w v valid h z at =
      let n = length address in
      let q : (p + length a) % 4 ≡ 0 = omega (arith, w.multiple) in
      let e : types_at base (base + p) n ≡ base + (p + length a) = omega (arith, string-length w, w.few, w.multiple) in
      let first = string-clean w valid (t ++ d) p z at in
      let types : non_zero (types_padding base s (types_at base (base + p) n)) ≡ 0
      = rw e (types-clean v (types-text A h) d (p + length a) q (at_next base p a (t ++ d) at)) in
      dirt-join (text_padding base s (base + p) n) (types_padding base s (types_at base (base + p) n)) ∙ omega arith

  -- a message, by its arguments
  message-clean : (address : List ℕ) (A : OscArguments) {a t d : List ℕ} (p : ℕ) → OscString address a → OscString (44 ∷ tags_of A) t
      → get_or address 0 0 ≡ slash → IsText address
      → ArgumentsAllowed A → p % 4 ≡ 0 → At s (base + p) (a ++ (t ++ d)) → (F : Argued s base A d (p + length a + length t))
      → dirt_of base s F.forest ≡ 0
      → PacketClean p (read_packet base (a ++ (t ++ d)) p)
  message-clean address A {a} {t} {d} p w v led valid h z at F c =
      let l = a ++ (t ++ d) in
      let item = message_item (base + p) (length address) in
      let q : (p + length a) % 4 ≡ 0 = omega (arith, w.multiple) in
      let some : length l ≡ 0 → ⊥ = λ e. omega (arith, length-append a (t ++ d), string-length w) in
      let starts = start-message l p some (string-read w (t ++ d) p valid z) (string-led w led (t ++ d)) in
      rw (
        starts-message base l p starts,
        drop_at a (t ++ d) (length a) refl,
        types-read base item A d v h (p + length a) q F.read,
      )
      (refl, clean-node item F.forest nil (message-own A d p w v valid h z at) c (dirt-nil base s))

  -- a bundle, by its elements
  bundle-clean : (seconds fractional : ℕ) {w : List ℕ} (es : List ℕ) (p : ℕ) → OscString hash_bundle w → seconds < 256 ^ 4
      → fractional < 256 ^ 4 → p % 4 ≡ 0 → At s (base + p) (w ++ (osc_int32 seconds ++ (osc_int32 fractional ++ es)))
      → dirt_of base s (trees_in (read_elements base es (p + 8 + 8))) ≡ 0
      → PacketClean p (read_packet base (w ++ (osc_int32 seconds ++ (osc_int32 fractional ++ es))) p)
  bundle-clean x y {w} es p v hx hy z at c =
      let m = osc_int32 x ++ (osc_int32 y ++ es) in
      let k = read_elements base es (p + 8 + 8) in
      let e : length w ≡ 8 = bundle-eight v in
      let q : read_elements base es (p + length w + 8) ≡ upto (trees_in k) (used_by k) = rw e (by_parts k) in
      let some : length (w ++ m) ≡ 0 → ⊥ = λ z. omega (arith, length-append w m) in
      let first : get_or (w ++ m) 0 0 ≡ 35 = string-first v m in
      let same : same_bytes (take (length hash_bundle) (w ++ m)) bundle_word ≡ true = rw (string-take v m) in
      let starts = start-bundle (w ++ m) p some (string-read v m p bundle-text z) (λ z. omega arith) same in
      let item : Item = record { kind = bundle_kind; a = x; b = y; start = base + p } in
      rw (
        starts-bundle base (w ++ m) p starts,
        drop_at w m (length w) refl,
        bundle-read base (base + p) x y es (p + length w) hx hy q,
      )
      (refl, clean-node item (trees_in k) nil (string-clean v bundle-text m p z at) c (dirt-nil base s))

  -- elements, by the first and the others
  first-clean : {P : Packet} (c es : List ℕ) (p : ℕ) → length c < 256 ^ 4 → (F : PacketRead s base P c (p + 4))
      → PacketClean (p + 4) (read_packet base c (p + 4))
      → dirt_of base s (trees_in (read_elements base es (p + (4 + length c)))) ≡ 0
      → dirt_of base s (trees_in (read_elements base (osc_int32 (length c) ++ (c ++ es)) p)) ≡ 0
  first-clean c es p low F x y =
      let k = read_elements base es (p + (4 + length c)) in
      let one-clean = (rw F.read at x).1 in
      rw (element-read base c es p low F.read, by_parts k)
      (omega (arith, dirt-node base s F.item F.inside (trees_in k), dirt-node base s F.item F.inside nil, dirt-nil base s))

  -- every packet, and every row of elements
  mutual
    unfolding Allowed AllAllowed

    any-packet : (P : Packet) {l : List ℕ} → Spells P l → Allowed P → (p : ℕ) → p % 4 ≡ 0 → At s (base + p) l
        → length l < 256 ^ 4 → PacketClean p (read_packet base l p)
    any-packet (message address A) (as_message {a = a} {t = t} {d = d} w v r) h p z at low =
        let n = length-append a (t ++ d) in
        let m = length-append t d in
        let q : (p + length a + length t) % 4 ≡ 0 = omega (arith, w.multiple, v.multiple) in
        let there = at_next base (p + length a) t d (at_next base p a (t ++ d) at) in
        let F = arguments-read s base A r h.2 (p + length a + length t) q there (omega arith) in
        message-clean address A p w v h.0 h.1 h.2 z at F
        (rw F.read at (arguments-clean A r h.2 (p + length a + length t) q there (omega arith)))
    any-packet (bundle x y Ps) (as_bundle {w = w} {es = es} v r) h p z at low =
        let e : length w ≡ 8 = bundle-eight v in
        let n = length-append w (osc_int32 x ++ (osc_int32 y ++ es)) in
        let m : length (osc_int32 x ++ (osc_int32 y ++ es)) ≡ 8 + length es = simp (length-append, length-bytes) (omega arith) in
        bundle-clean x y es p v h.0 h.1 z at
        (any-elements Ps r h.2 (p + 8 + 8) (omega arith) (at-elements s base x y w es p e at) (omega arith))

    any-elements : (Ps : Packets) {l : List ℕ} → ElementsSpell Ps l → AllAllowed Ps → (p : ℕ) → p % 4 ≡ 0 → At s (base + p) l
        → length l < 256 ^ 4 → dirt_of base s (trees_in (read_elements base l p)) ≡ 0
    any-elements none no_element h p z at low = no-elements p
    any-elements (also P Ps) (element {content = c} {es = es} f w r) h p z at low =
        let n : length (osc_int32 (length c) ++ (c ++ es)) ≡ 4 + length c + length es = simp (length-append, length-bytes) (omega arith) in
        let here = at_front c es (at-content s base (length c) c es p at) in
        first-clean c es p (omega arith) (packet-read s base P w h.0 (p + 4) (omega arith) here (omega arith))
        (any-packet P w h.0 (p + 4) (omega arith) here (omega arith))
        (any-elements Ps r h.1 (p + (4 + length c)) (omega arith) (at_rest s base (length c) c es p at) (omega arith))

  module _ (P : Packet) {l : List ℕ} (w : Spells P l) (h : Allowed P) (p : ℕ) (z : p % 4 ≡ 0) (at : At s (base + p) l)
      (low : length l < 256 ^ 4) {item : Item} {inside : Forest} {used : ℕ} (e : read_packet base l p ≡ one item inside used) where
    read-clean : PacketClean p (one item inside used)
    read-clean = subst (PacketClean p) e (any-packet P w h p z at low)

    -- the tree that the bytes of a packet are read as has no dirty padding
    pub packet-clean : dirt_of base s (node item inside nil) ≡ 0
    packet-clean = read-clean.1

    -- a call counts none of it: its input begins with the packet, or a frame's prefix of 4 bytes stands at `base`, before the packet
    pub call_clean : base + p - 4 ≡ base → dirty_in s (node item inside nil) ≡ 0
    unfolding packets_padding
    call_clean b =
        let from : item.start - 4 ≡ base = omega (arith, read-clean.0) in
        rw (append-nil, from) packet-clean
