-- Packets that OSC 1.0 spells, read: the tree stands for the packet, and nothing is left.
use mathlib.Core.Path.{◌≡◌, refl, sym, ap, ◌∙◌}
use mathlib.Core.Bool.{true}
use mathlib.Core.List.{List, [], ◌∷◌, ◌++◌, append_assoc, append-nil}
use Prim.Native.Nat.{ℕ, ◌+◌, ◌%◌, ◌^◌, ◌≤◌, ◌<◌}
use native.Mathlib.Omega.{arith}
use lib.ListN.{length, get_or, take, drop, length-append}
use lib.Seq.{take_at, drop_at, drop-drop}
use Rattle.utf8.specs.Utf8.{to, here, end, next, char}
use Rattle.node.specs.Tags.{bundle_kind}
use Rattle.node.specs.Forest.{Forest, nil, node}
use Rattle.node.specs.declared.record.Item.{Item}
use Rattle.arguments.specs.Arguments.{args, read_args}
use Rattle.packet.specs.FirstText.{bundle_word}
use Rattle.wire.specs.Same.{same_bytes}
use Rattle.packet.specs.Packet.{one, upto, read_message, joined, elements_at, read_packet, read_elements, read_bundle, read_element}
use Rattle.heads.specs.Heads.{message_item}
use Rattle.osc10.specs.Words.{NoNul, slash}
use Rattle.osc10.specs.Osc10.{Atom, word, long, bare, string, blob, OscArguments, atom, array, Packet, message, bundle, Packets, none}
use Rattle.osc10.specs.Osc10.{also, IsText, words, longs, bares, AtomAllowed, ArgumentsAllowed, Allowed, AllAllowed, osc_int32}
use Rattle.osc10.specs.Osc10.{OscString, tag_of, tags_of, hash_bundle, Spells, as_message, as_bundle, ElementsSpell, no_element}
use Rattle.osc10.specs.Osc10.{element as one-element, StandsFor, is_message, is_bundle, StandFor, no_packet}
use Rattle.osc10.specs.Osc10 as osc
use Rattle.wire.proofs.Numbers.{length-bytes, read-written}
use Rattle.heads.proofs.Heads.{size_holds}
use Rattle.packet.proofs.FirstText.{start-message, start-bundle}
use Rattle.packet.proofs.Knot.{starts-message, starts-bundle, element-holds, elements-by}
use Rattle.packet.proofs.Bundles.{bundle-long}
use Rattle.packet.proofs.Within.{types-found}
use Rattle.osc10.proofs.Placed.{At, at_front, at_next, range_at}
use Rattle.osc10.proofs.Parts.{string-length, string-take, string-read}
use Rattle.osc10.proofs.Tags.{of-among}
use Rattle.osc10.proofs.Arguments.{Argued, arguments-read}

-- ---- type tags are text

-- an ASCII character before a text
pub ascii-text : {x : ℕ} {text : List ℕ} → 0 < x → x < 128 → IsText text → IsText (x ∷ text)
unfolding NoNul
ascii-text {x} h k t =
    record {
      non_null = ((λ e. omega arith), t.non_null);
      valid = char {c = x ∷ []} here
          (next {r = to 0x00 0x7F} {x = x} (omega arith, omega arith) end) t.valid;
    }

-- a tag is an ASCII character other than NUL
tag-low : (v : Atom) → AtomAllowed v → (0 < tag_of v) × (tag_of v < 128)
tag-low (word tag x) h = of-among (λ t. (0 < t) × (t < 128)) tag words (omega arith, (omega arith, (omega arith, (omega arith, tt)))) h.0
tag-low (long tag high low) h = of-among (λ t. (0 < t) × (t < 128)) tag longs (omega arith, (omega arith, (omega arith, tt))) h.0
tag-low (bare tag) h = of-among (λ t. (0 < t) × (t < 128)) tag bares (omega arith, (omega arith, (omega arith, (omega arith, tt)))) h
tag-low (string text) h = omega arith
tag-low (blob content) h = omega arith
tag-low (osc.char x) h = omega arith

-- so tags before a text are text
tags-text : (A : OscArguments) → ArgumentsAllowed A → (more : List ℕ) → IsText more → IsText (tags_of A ++ more)
unfolding ArgumentsAllowed tags_of
tags-text osc.end h more t = t
tags-text (atom v rest) h more t = let l = tag-low v h.0 in ascii-text l.0 l.1 (tags-text rest h.1 more t)
tags-text (array within rest) h more t =
    ascii-text (omega arith) (omega arith)
    (rw append_assoc (tags-text within h.0 (93 ∷ (tags_of rest ++ more))
    (ascii-text (omega arith) (omega arith) (tags-text rest h.1 more t))))

-- no characters are text
pub no_text : IsText []
unfolding NoNul
no_text = record { non_null = tt; valid = Rattle.utf8.specs.Utf8.none }

-- a comma and the tags
pub types-text : (A : OscArguments) → ArgumentsAllowed A → IsText (44 ∷ tags_of A)
types-text A h = rw append-nil at (ascii-text {x = 44} (omega arith) (omega arith) (tags-text A h [] no_text))

-- "#bundle" is a text
pub bundle-text : IsText hash_bundle
bundle-text =
    ascii-text (omega arith) (omega arith)
    (ascii-text (omega arith) (omega arith)
    (ascii-text (omega arith) (omega arith)
    (ascii-text (omega arith) (omega arith)
    (ascii-text (omega arith) (omega arith)
    (ascii-text (omega arith) (omega arith)
    (ascii-text (omega arith) (omega arith) no_text))))))

-- "#bundle" takes 8 bytes
pub bundle-eight : {w : List ℕ} → OscString hash_bundle w → length w ≡ 8
bundle-eight v = omega (arith, string-length v, v.few, v.multiple)

-- ---- what follows the first text

-- the first byte of an OSC-string
pub string-first : {x : ℕ} {text bs : List ℕ} → OscString (x ∷ text) bs → (more : List ℕ) → get_or (bs ++ more) 0 0 ≡ x
string-first w more = rw w.spelled

-- an address begins with '/'
pub string-led : {text bs : List ℕ} → OscString text bs → get_or text 0 0 ≡ slash → (more : List ℕ) → get_or (bs ++ more) 0 0 ≡ slash
string-led {text = []} w h more = absurd (omega arith)
string-led {text = x ∷ text} w h more = string-first w more ∙ h

module _ (base : ℕ) where
  -- type tags and data
  pub types-read : (item : Item) (A : OscArguments) {t : List ℕ} (d : List ℕ) {F : Forest} → OscString (44 ∷ tags_of A) t
      → ArgumentsAllowed A → (p : ℕ) → p % 4 ≡ 0
      → read_args base (tags_of A) d (p + length t) ≡ args F (length d)
      → read_message base item (t ++ d) p ≡ one item F (length t + length d)
  types-read item A {t} d w h p z e =
      types-found base item (t ++ d) p (string-read w d p (types-text A h) z)
      ∙ rw (string-take w d, drop_at t d (length t) refl, e)

  -- a time tag and elements
  pub bundle-read : (start seconds fractional : ℕ) (es : List ℕ) (p : ℕ) → seconds < 256 ^ 4 → fractional < 256 ^ 4 → {F : Forest} {n : ℕ}
      → read_elements base es (p + 8) ≡ upto F n
      → read_bundle base start (osc_int32 seconds ++ (osc_int32 fractional ++ es)) p
      ≡ one (record { kind = bundle_kind; a = seconds; b = fractional; start = start }) F (8 + n)
  bundle-read start x y es p hx hy e =
      let m = osc_int32 x ++ (osc_int32 y ++ es) in
      let d4 : drop 4 m ≡ osc_int32 y ++ es = drop_at (osc_int32 x) (osc_int32 y ++ es) 4 (length-bytes 4 x) in
      let d8 : drop 8 m ≡ es = sym (drop-drop 4 4 m) ∙ ap (drop 4) d4 ∙ drop_at (osc_int32 y) es 4 (length-bytes 4 y) in
      let h : 8 ≤ length m = simp (length-append, length-bytes) (omega arith) in
      bundle-long base start m p h ∙ rw (read-written 4 x (osc_int32 y ++ es) hx, d4, read-written 4 y es hy, d8, e)

  -- an element before others
  pub element-read : (c es : List ℕ) (p : ℕ) {item : Item} {u : ℕ} {f : Forest} → length c < 256 ^ 4
      → read_packet base c (p + 4) ≡ one item f u
      → read_elements base (osc_int32 (length c) ++ (c ++ es)) p ≡ joined item f (length c) (read_elements base es (p + (4 + length c)))
  element-read c es p {item} {u} {f} h e =
      let n = osc_int32 (length c) in
      let l = n ++ (c ++ es) in
      let len : length l ≡ 4 + (length c + length es) = simp (length-append, length-bytes) in
      let d4 : drop 4 l ≡ c ++ es = drop_at n (c ++ es) 4 (length-bytes 4 (length c)) in
      let dn : drop (4 + length c) l ≡ es = sym (drop-drop (length c) 4 l) ∙ ap (drop (length c)) d4 ∙ drop_at c es (length c) refl in
      let holds = size_holds l (omega arith) (sym (read-written 4 (length c) (c ++ es) h)) (omega arith) in
      let one-is : read_element base l p ≡ one item f (length c)
      = element-holds base l p holds ∙ rw (d4, take_at c es (length c) refl, e) in
      elements-by base l p ∙ rw (one-is, dn)

-- ---- packets

-- a packet is read whole, as a node that stands for it
pub record PacketRead (s : List ℕ) (base : ℕ) (P : Packet) (l : List ℕ) (p : ℕ) : Type 0 where
  pub item : Item
  pub inside : Forest
  pub read : read_packet base l p ≡ one item inside (length l)
  pub stands : StandsFor s P item inside

-- the elements of a bundle are read whole, as a forest that stands for them
record ElementsRead (s : List ℕ) (base : ℕ) (Ps : Packets) (l : List ℕ) (p : ℕ) : Type 0 where
  forest : Forest
  read : read_elements base l p ≡ upto forest (length l)
  stands : StandFor s Ps forest

module _ (s : List ℕ) (base : ℕ) where
  -- a message, by its arguments
  message-read : (address : List ℕ) (A : OscArguments) {a t d : List ℕ} (p : ℕ) → OscString address a → OscString (44 ∷ tags_of A) t
      → get_or address 0 0 ≡ slash → IsText address
      → ArgumentsAllowed A → p % 4 ≡ 0 → At s (base + p) (a ++ (t ++ d)) → Argued s base A d (p + length a + length t)
      → PacketRead s base (message address A) (a ++ (t ++ d)) p
  message-read address A {a} {t} {d} p w v led valid h z at F =
      let l = a ++ (t ++ d) in
      let n : length l ≡ length a + (length t + length d) = simp length-append in
      let q : (p + length a) % 4 ≡ 0 = omega (arith, w.multiple) in
      let some : length l ≡ 0 → ⊥ = λ e. omega (arith, string-length w) in
      let starts = start-message l p some (string-read w (t ++ d) p valid z) (string-led w led (t ++ d)) in
      record {
        item = message_item (base + p) (length address);
        inside = F.forest;
        read =
            rw n
            (starts-message base l p starts
            ∙ rw (
              drop_at a (t ++ d) (length a) refl,
              types-read base (message_item (base + p) (length address)) A d v h (p + length a) q
                  F.read,
            ));
        stands = is_message
            (record { kind = refl; range = range_at (at_front address _ (rw w.spelled at (at_front a (t ++ d) at))) }) F.stands;
      }

  -- a bundle, by its elements
  bundled : (seconds fractional : ℕ) {Ps : Packets} {w es : List ℕ} (p : ℕ) → OscString hash_bundle w → seconds < 256 ^ 4
      → fractional < 256 ^ 4 → p % 4 ≡ 0
      → ElementsRead s base Ps es (p + 8 + 8)
      → PacketRead s base (bundle seconds fractional Ps) (w ++ (osc_int32 seconds ++ (osc_int32 fractional ++ es))) p
  bundled x y {Ps} {w} {es} p v hx hy z F =
      let m = osc_int32 x ++ (osc_int32 y ++ es) in
      let e : length w ≡ 8 = bundle-eight v in
      let n : length (w ++ m) ≡ length w + (8 + length es) = simp (length-append, length-bytes) (omega arith) in
      let q : read_elements base es (p + length w + 8) ≡ upto F.forest (length es) = rw e F.read in
      let some : length (w ++ m) ≡ 0 → ⊥ = λ z. omega arith in
      let first : get_or (w ++ m) 0 0 ≡ 35 = string-first v m in
      let same : same_bytes (take (length hash_bundle) (w ++ m)) bundle_word ≡ true = rw (string-take v m) in
      let starts = start-bundle (w ++ m) p some (string-read v m p bundle-text z) (λ z. omega arith) same in
      record {
        item = record { kind = bundle_kind; a = x; b = y; start = base + p };
        inside = F.forest;
        read =
            rw n
            (starts-bundle base (w ++ m) p starts
            ∙ rw (drop_at w m (length w) refl, bundle-read base (base + p) x y es (p + length w) hx hy q));
        stands = is_bundle (record { kind = refl; first = refl; second = refl }) F.stands;
      }

  no-elements : (p : ℕ) → ElementsRead s base none [] p
  unfolding read_elements elements_at
  no-elements p = record { forest = nil; read = refl; stands = no_packet }

  -- elements, by the first and the others
  one_more : {P : Packet} {Ps : Packets} {c es : List ℕ} (p : ℕ) → length c < 256 ^ 4 → PacketRead s base P c (p + 4)
      → ElementsRead s base Ps es (p + (4 + length c))
      → ElementsRead s base (also P Ps) (osc_int32 (length c) ++ (c ++ es)) p
  one_more {P} {Ps} {c} {es} p h F G =
      let n : length (osc_int32 (length c) ++ (c ++ es)) ≡ 4 + length c + length es = simp (length-append, length-bytes) (omega arith) in
      record {
        forest = node F.item F.inside G.forest;
        read = rw n (element-read base c es p h F.read ∙ rw G.read);
        stands = osc.packet F.stands G.stands;
      }

  -- where elements stand
  pub at-elements : (x y : ℕ) (w es : List ℕ) (p : ℕ) → length w ≡ 8 → At s (base + p) (w ++ (osc_int32 x ++ (osc_int32 y ++ es)))
      → At s (base + (p + 8 + 8)) es
  at-elements x y w es p e at =
      let h = at_next base (p + length w + length (osc_int32 x)) (osc_int32 y) es
      (at_next base (p + length w) (osc_int32 x) _ (at_next base p w _ at)) in
      let q : p + 8 + 4 + 4 ≡ p + 8 + 8 = omega arith in
      rw (e, length-bytes 4 x, length-bytes 4 y, q) at h

  -- where what follows an element's size stands
  pub at-content : (n : ℕ) (c es : List ℕ) (p : ℕ) → At s (base + p) (osc_int32 n ++ (c ++ es)) → At s (base + (p + 4)) (c ++ es)
  at-content n c es p at = rw (length-bytes 4 n) at (at_next base p (osc_int32 n) (c ++ es) at)

  -- where the elements after the first stand
  pub at_rest : (n : ℕ) (c es : List ℕ) (p : ℕ) → At s (base + p) (osc_int32 n ++ (c ++ es)) → At s (base + (p + (4 + length c))) es
  at_rest n c es p at =
      let q : p + 4 + length c ≡ p + (4 + length c) = omega arith in
      rw q at (at_next base (p + 4) c es (at-content n c es p at))

  -- every packet, and every row of elements
  mutual
    unfolding Allowed AllAllowed

    -- a packet that its bytes spell is read whole, as a node that stands for it
    pub packet-read : (P : Packet) {l : List ℕ} → Spells P l → Allowed P → (p : ℕ) → p % 4 ≡ 0 → At s (base + p) l
        → length l < 256 ^ 4 → PacketRead s base P l p
    packet-read (message address A) (as_message {a = a} {t = t} {d = d} w v r) h p z at low =
        let n = length-append a (t ++ d) in
        let m = length-append t d in
        let q : (p + length a + length t) % 4 ≡ 0 = omega (arith, w.multiple, v.multiple) in
        message-read address A p w v h.0 h.1 h.2 z at
        (arguments-read s base A r h.2 (p + length a + length t) q (at_next base (p + length a) t d (at_next base p a (t ++ d) at))
        (omega arith))
    packet-read (bundle x y Ps) (as_bundle {w = w} {es = es} v r) h p z at low =
        let e : length w ≡ 8 = bundle-eight v in
        let n = length-append w (osc_int32 x ++ (osc_int32 y ++ es)) in
        let m : length (osc_int32 x ++ (osc_int32 y ++ es)) ≡ 8 + length es = simp (length-append, length-bytes) (omega arith) in
        bundled x y p v h.0 h.1 z (elements-read Ps r h.2 (p + 8 + 8) (omega arith) (at-elements x y w es p e at) (omega arith))

    elements-read : (Ps : Packets) {l : List ℕ} → ElementsSpell Ps l → AllAllowed Ps → (p : ℕ) → p % 4 ≡ 0 → At s (base + p) l
        → length l < 256 ^ 4 → ElementsRead s base Ps l p
    elements-read none no_element h p z at low = no-elements p
    elements-read (also P Ps) (one-element {content = c} {es = es} f w r) h p z at low =
        let n : length (osc_int32 (length c) ++ (c ++ es)) ≡ 4 + length c + length es = simp (length-append, length-bytes) (omega arith) in
        one_more p (omega arith)
        (packet-read P w h.0 (p + 4) (omega arith) (at_front c es (at-content (length c) c es p at)) (omega arith))
        (elements-read Ps r h.1 (p + (4 + length c)) (omega arith) (at_rest (length c) c es p at) (omega arith))
