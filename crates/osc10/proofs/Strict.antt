-- The packets of OSC 1.0 itself are allowed; a tree that has only what OSC 1.0 has is clean, and stands for such a packet and no other.
use mathlib.Core.Path.{◌≡◌, refl}
use mathlib.Core.Bool.{Bool, true, false}
use mathlib.Core.List.{List, [], ◌∷◌}
use Prim.Native.Nat.{ℕ}
use native.Mathlib.Omega.{arith}
use borrow.Author.Tests.{lt-ltb}
use lib.Dec.{eqb}
use Rattle.values.specs.Value.{joined_of}
use Rattle.node.specs.Tags.{message_kind, among}
use Rattle.node.specs.Forest.{Forest, nil, node}
use Rattle.node.specs.declared.record.Item.{Item}
use Rattle.osc10.specs.Words.{NoNul, bytes_named, CleanNode, Clean}
use Rattle.osc10.specs.Osc10.{Atom, word, long, bare, string, blob, char, OscArguments, end, atom, array, Packet, message, bundle}
use Rattle.osc10.specs.Osc10.{Packets, none, also, IsText, AtomAllowed, ArgumentsAllowed, Allowed, AllAllowed, AtomIs, ArgumentsAre}
use Rattle.osc10.specs.Osc10.{words, longs, bares, no_node, leaf, branch, StandsFor, is_message, is_bundle, StandFor, no_packet}
use Rattle.osc10.specs.Osc10.{packet}
use Rattle.osc10.specs.Strict.{All, Ascii, AddressCharacter, AtomStrict, ArgumentsStrict, StrictIn, AllStrict, Strict, StrictNode}
use Rattle.osc10.specs.Strict.{StrictForest, StrictTree}
use Rattle.osc10.proofs.Tags.{of-among}
use Rattle.osc10.proofs.Packets.{ascii-text, no_text}

-- ---- the narrower grammar is part of the wider

-- ASCII characters are text
ascii-all : (text : List ℕ) → All Ascii text → IsText text
ascii-all [] h = no_text
ascii-all (x ∷ text) h = ascii-text h.0.0 h.0.1 (ascii-all text h.1)

-- a character of an address is one of a string
address-ascii : (text : List ℕ) → All AddressCharacter text → All Ascii text
address-ascii [] h = tt
address-ascii (x ∷ text) h = ((omega (arith, h.0.0), omega (arith, h.0.1)), address-ascii text h.1)

atom-allowed : (v : Atom) → AtomStrict v → AtomAllowed v
atom-allowed (word tag x) h = h
atom-allowed (long tag high low) h = h
atom-allowed (bare tag) h = h
atom-allowed (string text) h = ascii-all text h
atom-allowed (blob content) h = h
atom-allowed (char x) h = rw (lt-ltb x 55296 (omega arith))

arguments-allowed : (A : OscArguments) → ArgumentsStrict A → ArgumentsAllowed A
unfolding ArgumentsStrict ArgumentsAllowed
arguments-allowed end h = tt
arguments-allowed (atom v rest) h = (atom-allowed v h.0, arguments-allowed rest h.1)
arguments-allowed (array within rest) h = (arguments-allowed within h.0, arguments-allowed rest h.1)

mutual
  unfolding StrictIn AllStrict Allowed AllAllowed

  in-allowed : (time : ℕ) (P : Packet) → StrictIn time P → Allowed P
  in-allowed time (message address A) h = (h.0, ascii-all address (address-ascii address h.1), arguments-allowed A h.2)
  in-allowed time (bundle x y Ps) h = (h.1, h.2, all-allowed _ Ps h.3)

  all-allowed : (time : ℕ) (Ps : Packets) → AllStrict time Ps → AllAllowed Ps
  all-allowed time none h = tt
  all-allowed time (also P Ps) h = (in-allowed time P h.0, all-allowed time Ps h.1)

-- a packet of OSC 1.0 itself is allowed
pub strict_allowed : (P : Packet) → Strict P → Allowed P
strict_allowed = in-allowed 0

-- ---- a tree that has only what OSC 1.0 has

no_nul : (text : List ℕ) → All Ascii text → NoNul text
no_nul text h = (ascii-all text h).non_null

clean-node : (source : List ℕ) (time : ℕ) (item : Item) → StrictNode source time item → CleanNode source item
unfolding StrictNode CleanNode
clean-node source time item h = by_kind (eqb item.kind message_kind) refl (eqb item.kind 115) refl
  where
    by_kind : (m : Bool) → eqb item.kind message_kind ≡ m → (s : Bool) → eqb item.kind 115 ≡ s → CleanNode source item
    by_kind true e s f = let n = rw e at h in rw e (n.0, no_nul (bytes_named source item) (address-ascii (bytes_named source item) n.1))
    by_kind false e true f = rw (e, f) (no_nul (bytes_named source item) (rw (e, f) at h))
    by_kind false e false f = rw (e, f) tt

-- it is clean
pub strict-clean : (source : List ℕ) (time : ℕ) (F : Forest) → StrictForest source time F → Clean source F
unfolding StrictForest Clean
strict-clean source time nil h = tt
strict-clean source time (node item inside rest) h =
    (clean-node source time item h.0, strict-clean source (joined_of item.a item.b) inside h.1, strict-clean source time rest h.2)

module _ (source : List ℕ) where
  -- a node of a kind of which nothing is asked
  plain-node : (time : ℕ) (item : Item) (tag : ℕ) (tags : List ℕ)
      → All (λ k. StrictNode source time (record { kind = k; a = item.a; b = item.b; start = item.start })) tags → among tag tags ≡ true
      → StrictNode source time (record { kind = tag; a = item.a; b = item.b; start = item.start })
  plain-node time item = of-among (λ k. StrictNode source time (record { kind = k; a = item.a; b = item.b; start = item.start }))

  atom-strict : (time : ℕ) (v : Atom) {item : Item} → AtomAllowed v → AtomIs source v item → StrictNode source time item → AtomStrict v
  unfolding StrictNode
  atom-strict time (word tag x) h w s = h
  atom-strict time (long tag high low) h w s = h
  atom-strict time (bare tag) h w s = h
  atom-strict time (string text) h w s = rw (w.kind, w.numbers.holds) at s
  atom-strict time (blob content) h w s = h
  atom-strict time (char x) h w s = rw (w.kind, w.numbers.0) at s

  arguments-strict : (time : ℕ) (A : OscArguments) {F : Forest} → ArgumentsAllowed A → ArgumentsAre source A F → StrictForest source time F
      → ArgumentsStrict A
  unfolding ArgumentsAllowed StrictForest ArgumentsStrict
  arguments-strict time end h no_node s = tt
  arguments-strict time (atom v rest) h (leaf x r) s = (atom-strict time v h.0 x s.0, arguments-strict time rest h.1 r s.2)
  arguments-strict time (array within rest) h (branch {item = item} w x r) s =
      (arguments-strict (joined_of item.a item.b) within h.0 x s.1, arguments-strict time rest h.1 r s.2)

  mutual
    unfolding Allowed AllAllowed StrictIn AllStrict StrictNode StrictForest

    -- the packet that its first node stands for is one of OSC 1.0 itself
    pub strict_packet : (time : ℕ) (P : Packet) {item : Item} {f : Forest} (g : Forest) → Allowed P → StandsFor source P item f
        → StrictForest source time (node item f g) → StrictIn time P
    strict_packet time (message address A) g h (is_message m x) s =
        let n = rw (m.kind, m.range.holds) at s.0 in
        (n.0, n.1, arguments-strict _ A h.2 x s.1)
    strict_packet time (bundle x y Ps) g h (is_bundle b r) s =
        (rw (b.kind, b.first, b.second) at s.0, h.0, h.1, strict-packets _ Ps h.2 r (rw (b.first, b.second) at s.1))

    strict-packets : (time : ℕ) (Ps : Packets) {F : Forest} → AllAllowed Ps → StandFor source Ps F → StrictForest source time F
        → AllStrict time Ps
    strict-packets time none h no_packet s = tt
    strict-packets time (also P Ps) h (packet {g = g} x r) s = (strict_packet time P g h.0 x s, strict-packets time Ps h.1 r s.2)

  -- ---- and back

  atom-node : (time : ℕ) (v : Atom) {item : Item} → AtomIs source v item → AtomStrict v → StrictNode source time item
  unfolding StrictNode
  atom-node time (word tag x) {item} w h = rw w.kind (plain-node time item tag words (tt, (tt, (tt, (tt, tt)))) h.0)
  atom-node time (long tag high low) {item} w h = rw w.kind (plain-node time item tag longs (tt, (tt, (tt, tt))) h.0)
  atom-node time (bare tag) {item} w h = rw w.kind (plain-node time item tag bares (tt, (tt, (tt, (tt, tt)))) h)
  atom-node time (string text) w h = rw (w.kind, w.numbers.holds) h
  atom-node time (blob content) w h = rw w.kind tt
  atom-node time (char x) w h = rw (w.kind, w.numbers.0) h

  arguments-node : (time : ℕ) (A : OscArguments) {F : Forest} → ArgumentsAre source A F → ArgumentsStrict A → StrictForest source time F
  unfolding ArgumentsStrict StrictForest StrictNode
  arguments-node time end no_node h = tt
  arguments-node time (atom v rest) (leaf x r) h = (atom-node time v x h.0, tt, arguments-node time rest r h.1)
  arguments-node time (array within rest) (branch {item = item} w x r) h =
      (rw w.kind tt, arguments-node (joined_of item.a item.b) within x h.0, arguments-node time rest r h.1)

  mutual
    unfolding StrictIn AllStrict StrictNode StrictForest

    tree-strict : (time : ℕ) (P : Packet) {item : Item} {f : Forest} (g : Forest) → StandsFor source P item f → StrictIn time P
        → StrictForest source time g → StrictForest source time (node item f g)
    tree-strict time (message address A) g (is_message m x) h s =
        (rw (m.kind, m.range.holds) (h.0, h.1), arguments-node _ A x h.2, s)
    tree-strict time (bundle x y Ps) g (is_bundle b r) h s =
        (rw (b.kind, b.first, b.second) h.0, rw (b.first, b.second) (trees-strict _ Ps r h.3), s)

    trees-strict : (time : ℕ) (Ps : Packets) {F : Forest} → StandFor source Ps F → AllStrict time Ps → StrictForest source time F
    trees-strict time none no_packet h = tt
    trees-strict time (also P Ps) (packet {g = g} x r) h = tree-strict time P g x h.0 (trees-strict time Ps r h.1)

  -- a tree that stands for a packet of OSC 1.0 itself has only what OSC 1.0 has
  pub strict_tree : (P : Packet) {item : Item} {f : Forest} → StandsFor source P item f → Strict P → StrictTree source item f
  unfolding StrictForest
  strict_tree P x h = tree-strict 0 P nil x h tt
