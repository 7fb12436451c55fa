-- The bytes of a tree with '/'-led addresses and no NUL spell a packet that OSC 1.0 allows, and the one that the tree is.
use mathlib.Core.Path.{◌≡◌, refl, sym, ap, ◌∙◌}
use mathlib.Core.Bool.{Bool, true, false, not, cond, ◌&&◌, false≢true}
use mathlib.Core.List.{List, [], ◌∷◌, append_assoc}
use Prim.Native.Nat.{ℕ, zero, suc, ◌+◌, ◌-◌, ◌%◌, ◌^◌, ◌<◌}
use native.Mathlib.Omega.{arith}
use borrow.Author.Tests.{eqb-true, eqb-false, ne_eqb, leb-true, not-true}
use lib.Dec.{eqb}
use lib.ListN.{length, get_or, drop, replicate}
use lib.Seq.{append_snoc}
use Rattle.wire.specs.Part.{inside}
use Rattle.utf8.specs.Derive.{utf8}
use Rattle.node.specs.Forest.{Forest, nil, node}
use Rattle.node.specs.Tags.{message_kind, bundle_kind, array_kind, among, is_scalar, sort_of}
use Rattle.node.specs.declared.record.Item.{Item}
use Rattle.node.specs.Rules.{leaf_rules, arg_rules, is_packet, own_rules}
use Rattle.node.specs.declared.tags.Class.{Class}
use Rattle.node.specs.declared.tags.Class.TheVariants.{Four, Eight, Bare, Text, Blob, Scalar, Unknown}
use Rattle.node.specs.declared.tags.Sort.{Sort}
use Rattle.node.specs.declared.tags.Sort.TheVariants.{Opens, Closes, Leaf}
use Rattle.table.specs.Formed.{range_ok, allowed}
use Rattle.table.specs.Tree.{Obeys, FieldsFit}
use Rattle.strings.specs.Atomic.{osc_string, osc_blob, write_argument}
use Rattle.writers.specs.Osc.{write_data, write_tags, write_message, write_bundle, write_elements, write_packet}
use Rattle.osc10.specs.Words.{Bytes, NoNul, slash, bytes_named, CleanNode, Clean}
use Rattle.osc10.specs.Osc10.{Atom, word, long, bare, string, blob, char, OscArguments, end, atom, array, message, bundle, Packets}
use Rattle.osc10.specs.Osc10.{none, also, IsText, AtomAllowed, ArgumentsAllowed, Allowed, AllAllowed, OscString, OscBlob, tags_of}
use Rattle.osc10.specs.Osc10.{AtomSpells, as_word, as_long, as_bare, as_string, as_blob, as_char, ArgumentsSpell, no_argument}
use Rattle.osc10.specs.Osc10.{one_atom, one_array, as_message, as_bundle, ElementsSpell, no_element, element, RangeHolds, AtomIs}
use Rattle.osc10.specs.Osc10.{ArrayIs, ArgumentsAre, no_node, leaf, branch, is_message, is_bundle, StandFor, no_packet, packet}
use Rattle.osc10.specs.Osc10.{Spelled}
use Rattle.utf8.proofs.Grammar.{octets}
use Rattle.writers.proofs.Lengths.{packet-even}
use Rattle.strings.proofs.Lengths.{length-blob, string-even}
use Rattle.wire.proofs.Parts.{take-small, drop-small}
use Rattle.osc10.proofs.Tags.{of-among, HasTag, HasSort, has-sort}

no_way : {A : Type 0} → false ≡ true → A
no_way e = absurd (false≢true e)

-- both of two tests
pub both_true : (t u : Bool) → t && u ≡ true → (t ≡ true) × (u ≡ true)
both_true true u e = (refl, e)
both_true false u e = no_way e

-- both a test and what it then chooses
pub then-true : (t u : Bool) → cond t u false ≡ true → (t ≡ true) × (u ≡ true)
then-true true u e = (refl, e)
then-true false u e = no_way e

-- ---- strings and blobs

more-nuls : (n x : ℕ) → 0 < n → replicate n x ≡ x ∷ replicate (n - 1) x
more-nuls zero x h = absurd (omega arith)
more-nuls (suc n) x h = let e : suc n - 1 ≡ n = omega arith in rw e

string-spelled : (text : List ℕ) → OscString text (osc_string text)
unfolding osc_string
string-spelled text =
    record {
      additional = 4 - length text % 4 - 1;
      few = omega arith;
      spelled = rw (more-nuls (4 - length text % 4) 0 (omega arith));
      multiple = string-even text;
    }

blob-spelled : (content : List ℕ) → OscBlob content (osc_blob content)
unfolding osc_blob
blob-spelled content =
    record { additional = (4 - length content % 4) % 4; few = omega arith; spelled = refl; multiple = omega (arith, length-blob content) }

-- ---- arguments

-- what messages and arrays may contain
message-allows : (j : ℕ) → allowed message_kind j ≡ not (is_packet j)
unfolding allowed
message-allows j = refl

array-allows : (j : ℕ) → allowed array_kind j ≡ not (is_packet j)
unfolding allowed
array-allows j = refl

bundle-allows : (j : ℕ) → allowed bundle_kind j ≡ is_packet j
unfolding allowed
bundle-allows j = refl

-- a packet that is no message is a bundle
bundle-kind : (k : ℕ) → (k ≡ message_kind → ⊥) → is_packet k ≡ true → k ≡ bundle_kind
bundle-kind k n h =
    of-among (λ j. (j ≡ message_kind → ⊥) → j ≡ bundle_kind) k (bundle_kind ∷ message_kind ∷ [])
    ((λ _. refl), ((λ m. absurd (m refl)), tt)) h n

-- a kind that is no packet's
neither : (k : ℕ) → is_packet k ≡ false → (k ≡ bundle_kind → ⊥) × (k ≡ message_kind → ⊥)
neither k n = ((λ e. no_way (sym (rw e at n))), (λ e. no_way (sym (rw e at n))))

module _ (source : List ℕ) (small : Bytes source) where
  -- an argument that is no array: what it is, and that its data spells it
  record LeafWritten (class : Class) (item : Item) : Type 0 where
    value : Atom
    allowed : AtomAllowed value
    is : AtomIs source value item
    spells : AtomSpells value (write_argument class source item)

  text-is : (item : Item) → among item.kind (message_kind ∷ 115 ∷ []) ≡ true → range_ok source item ≡ true
      → NoNul (bytes_named source item)
      → IsText (bytes_named source item) × RangeHolds source item.a item.b (bytes_named source item)
  unfolding range_ok
  text-is item e g n =
      let w = then-true (inside source item.a item.b) (utf8 (bytes_named source item)) (rw e at g) in (
        record { non_null = n; valid = (octets (bytes_named source item)).sound w.1 },
        record { lies = leb-true (item.a + item.b) (length source) w.0; holds = refl },
      )

  leaf-is : (class : Class) (item : Item) → HasTag item.kind class → leaf_rules class item ≡ true → range_ok source item ≡ true
      → CleanNode source item → item.a < 256 ^ 4 → item.b < 256 ^ 4 → LeafWritten class item
  unfolding range_ok CleanNode
  leaf-is Four item t h g c la lb =
      record {
        value = word item.kind item.a;
        allowed = (t, la);
        is = record { kind = refl; numbers = (refl, eqb-true item.b 0 h) };
        spells = as_word;
      }
  leaf-is Eight item t h g c la lb =
      record {
        value = long item.kind item.a item.b;
        allowed = (t, la, lb);
        is = record { kind = refl; numbers = (refl, refl) };
        spells = as_long;
      }
  leaf-is Bare item t h g c la lb =
      let z = both_true (eqb item.a 0) (eqb item.b 0) h in
      record {
        value = bare item.kind;
        allowed = t;
        is = record { kind = refl; numbers = (eqb-true item.a 0 z.0, eqb-true item.b 0 z.1) };
        spells = as_bare;
      }
  leaf-is Text item t h g c la lb =
      let w = text-is item (ap (λ (k : ℕ). among k (message_kind ∷ 115 ∷ [])) t) g (rw t at c) in
      record {
        value = string (bytes_named source item);
        allowed = w.0;
        is = record { kind = t; numbers = w.1 };
        spells = as_string (string-spelled (bytes_named source item));
      }
  leaf-is Blob item t h g c la lb =
      record {
        value = blob (bytes_named source item);
        allowed = take-small item.b (drop item.a source) (drop-small item.a source small);
        is = record {
          kind = t;
          numbers = record { lies = leb-true (item.a + item.b) (length source) (rw t at g); holds = refl };
        };
        spells = as_blob (blob-spelled (bytes_named source item));
      }
  leaf-is Scalar item t h g c la lb =
      let z = both_true (eqb item.b 0) (is_scalar item.a) h in
      record {
        value = char item.a;
        allowed = z.1;
        is = record { kind = t; numbers = (refl, eqb-true item.b 0 z.0) };
        spells = as_char;
      }
  leaf-is Unknown item t h g c la lb = no_way h

  -- arguments: what they are, and that their tags and data spell them
  record ArgsWritten (F : Forest) : Type 0 where
    arguments : OscArguments
    allowed : ArgumentsAllowed arguments
    stands : ArgumentsAre source arguments F
    tags : write_tags F ≡ tags_of arguments
    spells : ArgumentsSpell arguments (write_data source F)

  -- a kind that is no container contains nothing
  no-inside : (k : ℕ) (F : Forest) → is_packet k ≡ false → (k ≡ array_kind → ⊥) → Obeys source k F → F ≡ nil
  unfolding Obeys allowed
  no-inside k nil n m h = refl
  no-inside k (node item i r) n m h =
      let p = neither k n in
      no_way (rw (ne_eqb k bundle_kind p.0, ne_eqb k message_kind p.1, ne_eqb k array_kind m) at h.2)

  module _ (item : Item) (inside rest : Forest) (R : ArgsWritten rest) where
    leaf-args : (class : Class) → sort_of item.kind ≡ Leaf class → inside ≡ nil → LeafWritten class item
        → ArgsWritten (node item inside rest)
    unfolding write_tags write_data tags_of ArgumentsAllowed
    leaf-args class e n L =
        record {
          arguments = atom L.value R.arguments;
          allowed = (L.allowed, R.allowed);
          stands = rw n (leaf L.is R.stands);
          tags = rw (e, L.is.kind, R.tags);
          spells = rw e (one_atom L.spells R.spells);
        }

    array-args : sort_of item.kind ≡ Opens → ArrayIs item → ArgsWritten inside → ArgsWritten (node item inside rest)
    unfolding write_tags write_data tags_of ArgumentsAllowed
    array-args e w I =
        record {
          arguments = array I.arguments R.arguments;
          allowed = (I.allowed, R.allowed);
          stands = branch w I.stands R.stands;
          tags = rw (e, w.kind)
              (ap (λ (l : List ℕ). array_kind ∷ l) (append_snoc (write_tags inside) 93 (write_tags rest) ∙ rw (I.tags, R.tags)));
          spells = rw e (one_array I.spells R.spells);
        }

    node-args : (sort : Sort) → sort_of item.kind ≡ sort → HasSort item.kind sort → is_packet item.kind ≡ false
        → arg_rules sort item ≡ true → range_ok source item ≡ true → CleanNode source item → item.a < 256 ^ 4 → item.b < 256 ^ 4
        → Obeys source item.kind inside → (Obeys source array_kind inside → ArgsWritten inside)
        → ArgsWritten (node item inside rest)
    node-args Opens e t p h g c la lb o go =
        let z = both_true (eqb item.a 0) (eqb item.b 0) h in
        array-args e (record { kind = t; first = eqb-true item.a 0 z.0; second = eqb-true item.b 0 z.1 }) (go (rw t at o))
    node-args Closes e t p h g c la lb o go = no_way h
    node-args (Leaf class) e t p h g c la lb o go =
        leaf-args class e (no-inside item.kind inside p t.0 o) (leaf-is class item t.1 h g c la lb)

  args_are : (F : Forest) (container : ℕ) → ((j : ℕ) → allowed container j ≡ not (is_packet j)) → Obeys source container F
      → Clean source F → FieldsFit F → ArgsWritten F
  unfolding Obeys Clean FieldsFit write_tags write_data tags_of ArgumentsAllowed own_rules
  args_are nil container q o c f = record { arguments = end; allowed = tt; stands = no_node; tags = refl; spells = no_argument }
  args_are (node item inside rest) container q o c f =
      let k = item.kind in
      let p : is_packet k ≡ false = not-true (is_packet k) (sym (q k) ∙ o.2) in
      node-args item inside rest (args_are rest container q o.4 c.2 f.4) (sort_of k) refl (has-sort k) p (rw p at o.0) o.1
      c.0 f.0 f.1 o.3
      (λ h. args_are inside array_kind array-allows h c.1 f.3)

  -- ---- packets

  -- packets: what they are, and that the elements spell them
  record PacketsWritten (F : Forest) : Type 0 where
    packets : Packets
    allowed : AllAllowed packets
    stands : StandFor source packets F
    spells : ElementsSpell packets (write_elements source F)

  a-message : (item : Item) (inside : Forest) → item.kind ≡ message_kind → range_ok source item ≡ true → CleanNode source item
      → ArgsWritten inside → Spelled source item inside (write_message source item inside)
  unfolding write_message CleanNode Allowed
  a-message item inside k g c A =
      let clean : (get_or (bytes_named source item) 0 0 ≡ slash) × NoNul (bytes_named source item) = rw k at c in
      let w = text-is item (ap (λ (j : ℕ). among j (message_kind ∷ 115 ∷ [])) k) g clean.1 in
      let types : OscString (44 ∷ tags_of A.arguments) (osc_string (44 ∷ write_tags inside)) = rw A.tags
      (string-spelled (44 ∷ tags_of A.arguments)) in
      record {
        packet = message (bytes_named source item) A.arguments;
        allowed = (clean.0, w.0, A.allowed);
        spells = as_message (string-spelled (bytes_named source item)) types A.spells;
        stands = is_message (record { kind = k; range = w.1 }) A.stands;
      }

  a-bundle : (item : Item) (inside : Forest) → item.kind ≡ bundle_kind → item.a < 256 ^ 4 → item.b < 256 ^ 4 → PacketsWritten inside
      → Spelled source item inside (write_bundle item (write_elements source inside))
  unfolding write_bundle Allowed
  a-bundle item inside k la lb P =
      record {
        packet = bundle item.a item.b P.packets;
        allowed = (la, lb, P.allowed);
        spells = as_bundle (record { additional = 0; few = omega arith; spelled = refl; multiple = refl }) P.spells;
        stands = is_bundle (record { kind = k; first = refl; second = refl }) P.stands;
      }

  a-packet : (t : Bool) (item : Item) (inside : Forest) → eqb item.kind message_kind ≡ t → range_ok source item ≡ true
      → allowed bundle_kind item.kind ≡ true → CleanNode source item → item.a < 256 ^ 4 → item.b < 256 ^ 4
      → Obeys source item.kind inside → (Obeys source message_kind inside → ArgsWritten inside)
      → (Obeys source bundle_kind inside → PacketsWritten inside)
      → Spelled source item inside (cond t (write_message source item inside) (write_bundle item (write_elements source inside)))
  a-packet true item inside e g w c la lb o args packets =
      let k : item.kind ≡ message_kind = eqb-true item.kind message_kind e in
      a-message item inside k g c (args (rw k at o))
  a-packet false item inside e g w c la lb o args packets =
      let k : item.kind ≡ bundle_kind = bundle-kind item.kind (eqb-false item.kind message_kind e)
      (sym (bundle-allows item.kind) ∙ w)
      in
      a-bundle item inside k la lb (packets (rw k at o))

  one_more : (item : Item) (inside rest : Forest) → PacketsWritten rest → Spelled source item inside (write_packet source item inside)
      → PacketsWritten (node item inside rest)
  unfolding write_elements AllAllowed write_packet
  one_more item inside rest R S =
      record {
        packets = also S.packet R.packets;
        allowed = (S.allowed, R.allowed);
        stands = packet S.stands R.stands;
        spells = rw append_assoc (element (packet-even source item inside) S.spells R.spells);
      }

  module _ (item : Item) (inside rest : Forest) (o : Obeys source bundle_kind (node item inside rest))
      (c : Clean source (node item inside rest)) (f : FieldsFit (node item inside rest)) where
    -- the first packet, by what a bundle in it contains
    packet-by : (Obeys source bundle_kind inside → Clean source inside → FieldsFit inside → PacketsWritten inside)
        → Spelled source item inside (write_packet source item inside)
    unfolding Obeys Clean FieldsFit write_packet
    packet-by go =
        a-packet (eqb item.kind message_kind) item inside refl o.1 o.2 c.0 f.0 f.1 o.3
        (λ h. args_are inside message_kind message-allows h c.1 f.3) (λ h. go h c.1 f.3)

  packets-are : (F : Forest) → Obeys source bundle_kind F → Clean source F → FieldsFit F → PacketsWritten F
  unfolding Obeys Clean FieldsFit write_elements AllAllowed
  packets-are nil o c f = record { packets = none; allowed = tt; stands = no_packet; spells = no_element }
  packets-are (node item inside rest) o c f =
      one_more item inside rest (packets-are rest o.4 c.2 f.4) (packet-by item inside rest o c f (packets-are inside))

  -- the tree's packet, and that its bytes spell it
  pub packet-is : (item : Item) (inside : Forest) → Obeys source bundle_kind (node item inside nil) → Clean source (node item inside nil)
      → FieldsFit (node item inside nil) → Spelled source item inside (write_packet source item inside)
  packet-is item inside o c f = packet-by item inside nil o c f (packets-are inside)
