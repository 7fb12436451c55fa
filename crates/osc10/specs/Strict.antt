-- The packets of OSC 1.0 itself, a part of those that Osc10.antt allows, and the trees that have only what OSC 1.0 has: addresses of
-- printable ASCII without the reserved characters, ASCII text and c, and bundles in bundles in the order of time.
use Rattle.std.specs.Prelude.{◌≡◌, false, cond, List, [], ◌∷◌, ℕ, ◌^◌, ◌≤◌, ◌<◌, eqb, get_or}
use Rattle.node.specs.Tags.{message_kind, bundle_kind, among}
use Rattle.node.specs.Forest.{Forest, nil, node}
use Rattle.node.specs.declared.record.Item.{Item}
use Rattle.values.specs.Value.{joined_of}
use Rattle.osc10.specs.Words.{slash, bytes_named}
use Rattle.osc10.specs.Osc10.{Atom, word, long, bare, string, blob, char, OscArguments, end, atom, array, AtomAllowed, Packet}
use Rattle.osc10.specs.Osc10.{message, bundle, Packets, none, also}

-- what holds of each of a list
abbrev pub All : (ℕ → Type 0) → List ℕ → Type 0
All P [] = Unit {0}
All P (x ∷ xs) = P x × All P xs

-- a character of an OSC-string: a "non-null ASCII character"
abbrev pub Ascii : ℕ → Type 0
Ascii x = (0 < x) × (x < 128)

-- the printable characters that no name in an address has: space # * , ? [ ] { }. A '/' leads each name; OSC 1.0 does not say whether a
-- name may be empty, so here it may
abbrev pub reserved : List ℕ
reserved = 32 ∷ 35 ∷ 42 ∷ 44 ∷ 63 ∷ 91 ∷ 93 ∷ 123 ∷ 125 ∷ []

-- a character of an address: printable ASCII and not reserved. So this is the address of one method; a pattern for several, which has
-- * , ? [ ] { } too, is allowed by Osc10.antt and left out here
abbrev pub AddressCharacter : ℕ → Type 0
AddressCharacter x = (32 ≤ x) × (x < 127) × (among x reserved ≡ false)

-- ---- of a packet

-- s has ASCII characters, and c is "an ascii character"; the others are as Osc10.antt allows them
abbrev pub AtomStrict : Atom → Type 0
AtomStrict (word tag x) = AtomAllowed (word tag x)
AtomStrict (long tag high low) = AtomAllowed (long tag high low)
AtomStrict (bare tag) = AtomAllowed (bare tag)
AtomStrict (string text) = All Ascii text
AtomStrict (blob content) = AtomAllowed (blob content)
AtomStrict (char x) = x < 128

-- every argument is one of OSC 1.0 itself
unfoldable pub ArgumentsStrict : OscArguments → Type 0
ArgumentsStrict end = Unit {0}
ArgumentsStrict (atom value rest) = AtomStrict value × ArgumentsStrict rest
ArgumentsStrict (array within rest) = ArgumentsStrict within × ArgumentsStrict rest

unfoldable mutual
  -- a packet in a bundle with this time tag: "the OSC Time Tag of the enclosed bundle must be greater than or equal to the OSC Time Tag
  -- of the enclosing bundle"
  pub StrictIn : (time : ℕ) → Packet → Type 0
  StrictIn time (message address arguments) =
      (get_or address 0 0 ≡ slash) × All AddressCharacter address × ArgumentsStrict arguments
  StrictIn time (bundle seconds fractional elements) =
      (time ≤ joined_of seconds fractional) × (seconds < 256 ^ 4) × (fractional < 256 ^ 4)
      × AllStrict (joined_of seconds fractional) elements

  -- every packet that a bundle with this time tag holds
  pub AllStrict : (time : ℕ) → Packets → Type 0
  AllStrict time none = Unit {0}
  AllStrict time (also packet rest) = StrictIn time packet × AllStrict time rest

-- a packet in no bundle: any time tag is at least 0
abbrev pub Strict : Packet → Type 0
Strict packet = StrictIn 0 packet

-- ---- of a tree

-- one node in a bundle with this time tag, by its kind: a message, text, c, a bundle
unfoldable pub StrictNode : List ℕ → (time : ℕ) → Item → Type 0
StrictNode source time item =
    cond (eqb item.kind message_kind) ((get_or (bytes_named source item) 0 0 ≡ slash) × All AddressCharacter (bytes_named source item))
    (cond (eqb item.kind 115) (All Ascii (bytes_named source item))
    (cond (eqb item.kind 99) (item.a < 128)
    (cond (eqb item.kind bundle_kind) (time ≤ joined_of item.a item.b) (Unit {0}))))

-- the same of every node of a forest in a bundle with this time tag. A message or an array contains no bundle, so what is handed on there
-- is never asked for
unfoldable pub StrictForest : List ℕ → (time : ℕ) → Forest → Type 0
StrictForest source time nil = Unit {0}
StrictForest source time (node item inside rest) =
    StrictNode source time item × StrictForest source (joined_of item.a item.b) inside × StrictForest source time rest

-- only what OSC 1.0 has
abbrev pub StrictTree : List ℕ → Item → Forest → Type 0
StrictTree source item inside = StrictForest source 0 (node item inside nil)
