-- What the OSC 1.0 specification allows, in its own terms: packets as a syntax, the rules on them, and the bytes that spell them.
-- Nothing here speaks of the decoder or the encoder. The type tags are document 01's, so without S. In four ways `Allowed` is wider than
-- OSC 1.0, as document 01 is: text and addresses are UTF-8 (RFC 3629) and not ASCII only; an address has any characters after its '/';
-- c is any scalar number; an enclosed bundle has any time tag. Strict.antt has the narrower rules of OSC 1.0 itself.
use Rattle.std.specs.Prelude.{◌≡◌, true, List, [], ◌∷◌, ◌++◌, ℕ, ◌+◌, ◌%◌, ◌^◌, ◌≤◌, ◌<◌, max, length, get_or, replicate}
use Rattle.wire.specs.Number.{bytes}
use Rattle.utf8.specs.Utf8.{Octets}
use Rattle.wire.specs.Part.{part}
use Rattle.node.specs.Tags.{message_kind, bundle_kind, array_kind, among, is_scalar}
use Rattle.node.specs.Forest.{Forest, nil, node}
use Rattle.node.specs.declared.record.Item.{Item}
use Rattle.osc10.specs.Words.{Bytes, NoNul, slash}

-- ---- the syntax

-- an argument that is no array, by what its type tag stands for: 32 bits, 64 bits as two halves, no data, an OSC-string, an
-- OSC-blob, a character
pub data Atom : Type 0 where
  word : (tag x : ℕ) → Atom
  long : (tag high low : ℕ) → Atom
  bare : (tag : ℕ) → Atom
  string : (text : List ℕ) → Atom
  blob : (content : List ℕ) → Atom
  char : (x : ℕ) → Atom

-- a sequence of OSC Arguments, arrays among them
pub data OscArguments : Type 0 where
  end : OscArguments
  atom : Atom → OscArguments → OscArguments
  array : (within rest : OscArguments) → OscArguments

mutual
  -- OSC Packet: an OSC Message or an OSC Bundle
  pub data Packet : Type 0 where
    message : (address : List ℕ) (arguments : OscArguments) → Packet
    bundle : (seconds fractional : ℕ) (elements : Packets) → Packet

  -- the packets that a bundle's elements hold, in order
  pub data Packets : Type 0 where
    none : Packets
    also : Packet → Packets → Packets

-- ---- the rules

-- the characters of an OSC-string: "a sequence of non-null ASCII characters", here UTF-8 by the grammar of RFC 3629
pub record IsText (text : List ℕ) : Type 0 where
  pub non_null : NoNul text
  pub valid : Octets text

-- the tags of 32 bits: i int32, f float32, r RGBA color, m MIDI message
abbrev pub words : List ℕ
words = 105 ∷ 102 ∷ 114 ∷ 109 ∷ []

-- the tags of 64 bits, as two halves: h int64, t OSC-timetag, d float64
abbrev pub longs : List ℕ
longs = 104 ∷ 116 ∷ 100 ∷ []

-- the tags of which "no bytes are allocated in the argument data": T True, F False, N Nil, I Infinitum
abbrev pub bares : List ℕ
bares = 84 ∷ 70 ∷ 78 ∷ 73 ∷ []

-- numbers fit their bits, a blob's content is bytes, and c is a scalar number (document 01)
abbrev pub AtomAllowed : Atom → Type 0
AtomAllowed (word tag x) = (among tag words ≡ true) × (x < 256 ^ 4)
AtomAllowed (long tag high low) = (among tag longs ≡ true) × (high < 256 ^ 4) × (low < 256 ^ 4)
AtomAllowed (bare tag) = among tag bares ≡ true
AtomAllowed (string text) = IsText text
AtomAllowed (blob content) = Bytes content
AtomAllowed (char x) = is_scalar x ≡ true

-- every argument is allowed
unfoldable pub ArgumentsAllowed : OscArguments → Type 0
ArgumentsAllowed end = Unit {0}
ArgumentsAllowed (atom value rest) = AtomAllowed value × ArgumentsAllowed rest
ArgumentsAllowed (array within rest) = ArgumentsAllowed within × ArgumentsAllowed rest

unfoldable mutual
  -- "An OSC Address Pattern is an OSC-string beginning with the character '/'"; a time tag is 64 bits, as two halves
  pub Allowed : Packet → Type 0
  Allowed (message address arguments) = (get_or address 0 0 ≡ slash) × IsText address × ArgumentsAllowed arguments
  Allowed (bundle seconds fractional elements) = (seconds < 256 ^ 4) × (fractional < 256 ^ 4) × AllAllowed elements

  -- every packet is allowed
  pub AllAllowed : Packets → Type 0
  AllAllowed none = Unit {0}
  AllAllowed (also packet rest) = Allowed packet × AllAllowed rest

-- how deep arrays are nested: an array is one level more than what is in it (document 02, Ticket 4)
unfoldable pub arguments_deep : OscArguments → ℕ
arguments_deep end = 0
arguments_deep (atom value rest) = arguments_deep rest
arguments_deep (array within rest) = max (arguments_deep within + 1) (arguments_deep rest)

unfoldable mutual
  -- how deep bundles and arrays are nested along a path: a bundle is one level, and a message none (document 02, Ticket 4)
  pub deep : Packet → ℕ
  deep (message address arguments) = arguments_deep arguments
  deep (bundle seconds fractional elements) = deep_all elements + 1

  -- the depth of the deepest
  pub deep_all : Packets → ℕ
  deep_all none = 0
  deep_all (also packet rest) = max (deep packet) (deep_all rest)

-- ---- the bytes that spell a packet

-- int32, and every other number of 32 bits: big-endian
abbrev pub osc_int32 : ℕ → List ℕ
osc_int32 x = bytes 4 x

-- OSC-string: the characters, "followed by a null, followed by 0-3 additional null characters to make the total number of bits a
-- multiple of 32"
pub record OscString (text bs : List ℕ) : Type 0 where
  pub additional : ℕ
  pub few : additional ≤ 3
  pub spelled : bs ≡ text ++ (0 ∷ replicate additional 0)
  pub multiple : length bs % 4 ≡ 0

-- OSC-blob: "an int32 size count, followed by that many 8-bit bytes of arbitrary binary data, followed by 0-3 additional zero
-- bytes to make the total number of bits a multiple of 32"
pub record OscBlob (content bs : List ℕ) : Type 0 where
  pub additional : ℕ
  pub few : additional ≤ 3
  pub spelled : bs ≡ osc_int32 (length content) ++ (content ++ replicate additional 0)
  pub multiple : length bs % 4 ≡ 0

-- the type tag of an argument that is no array
abbrev pub tag_of : Atom → ℕ
tag_of (word tag x) = tag
tag_of (long tag high low) = tag
tag_of (bare tag) = tag
tag_of (string text) = 115
tag_of (blob content) = 98
tag_of (char x) = 99

-- "a sequence of characters corresponding exactly to the sequence of OSC Arguments"; an array's stand in brackets
unfoldable pub tags_of : OscArguments → List ℕ
tags_of end = []
tags_of (atom value rest) = tag_of value ∷ tags_of rest
tags_of (array within rest) = array_kind ∷ (tags_of within ++ (93 ∷ tags_of rest))

-- the binary representation of an argument that is no array
pub data AtomSpells : Atom → List ℕ → Type 0 where
  as_word : {tag x : ℕ} → AtomSpells (word tag x) (osc_int32 x)
  as_long : {tag high low : ℕ} → AtomSpells (long tag high low) (osc_int32 high ++ osc_int32 low)
  as_bare : {tag : ℕ} → AtomSpells (bare tag) []
  as_string : {text bs : List ℕ} → OscString text bs → AtomSpells (string text) bs
  as_blob : {content bs : List ℕ} → OscBlob content bs → AtomSpells (blob content) bs
  as_char : {x : ℕ} → AtomSpells (char x) (osc_int32 x)

-- "a contiguous sequence of the binary representations of each argument"; brackets have none
pub data ArgumentsSpell : OscArguments → List ℕ → Type 0 where
  no_argument : ArgumentsSpell end []
  one_atom : {value : Atom} {rest : OscArguments} {x y : List ℕ} → AtomSpells value x → ArgumentsSpell rest y
      → ArgumentsSpell (atom value rest) (x ++ y)
  one_array : {within rest : OscArguments} {x y : List ℕ} → ArgumentsSpell within x → ArgumentsSpell rest y
      → ArgumentsSpell (array within rest) (x ++ y)

-- "#bundle"
abbrev pub hash_bundle : List ℕ
hash_bundle = 35 ∷ 98 ∷ 117 ∷ 110 ∷ 100 ∷ 108 ∷ 101 ∷ []

mutual
  -- OSC Message: an OSC Address Pattern, an OSC Type Tag String ("an OSC-string beginning with the character ','"), the OSC Arguments.
  -- OSC Bundle: the OSC-string "#bundle", an OSC Time Tag, zero or more OSC Bundle Elements
  pub data Spells : Packet → List ℕ → Type 0 where
    as_message : {address : List ℕ} {arguments : OscArguments} {a t d : List ℕ} → OscString address a → OscString (44 ∷ tags_of arguments) t
        → ArgumentsSpell arguments d → Spells (message address arguments) (a ++ (t ++ d))
    as_bundle : {seconds fractional : ℕ} {elements : Packets} {w es : List ℕ} → OscString hash_bundle w → ElementsSpell elements es
        → Spells (bundle seconds fractional elements) (w ++ (osc_int32 seconds ++ (osc_int32 fractional ++ es)))

  -- OSC Bundle Element: its size, an int32 that "will always be a multiple of 4", and its contents
  pub data ElementsSpell : Packets → List ℕ → Type 0 where
    no_element : ElementsSpell none []
    element : {packet : Packet} {rest : Packets} {content es : List ℕ} → length content % 4 ≡ 0 → Spells packet content
        → ElementsSpell rest es
        → ElementsSpell (also packet rest) (osc_int32 (length content) ++ (content ++ es))

-- ---- the tree of a packet

-- a range of the source that holds a text or a blob
pub record RangeHolds (source : List ℕ) (a b : ℕ) (content : List ℕ) : Type 0 where
  pub lies : a + b ≤ length source
  pub holds : part source a b ≡ content

-- the numbers of a node stand for an argument that is no array (document 01, the table of kinds)
abbrev pub NumbersAre : List ℕ → Atom → Item → Type 0
NumbersAre source (word tag x) item = (item.a ≡ x) × (item.b ≡ 0)
NumbersAre source (long tag high low) item = (item.a ≡ high) × (item.b ≡ low)
NumbersAre source (bare tag) item = (item.a ≡ 0) × (item.b ≡ 0)
NumbersAre source (string text) item = RangeHolds source item.a item.b text
NumbersAre source (blob content) item = RangeHolds source item.a item.b content
NumbersAre source (char x) item = (item.a ≡ x) × (item.b ≡ 0)

-- a node stands for an argument that is no array
pub record AtomIs (source : List ℕ) (value : Atom) (item : Item) : Type 0 where
  pub kind : item.kind ≡ tag_of value
  pub numbers : NumbersAre source value item

-- a node of an array, which has no numbers of its own
pub record ArrayIs (item : Item) : Type 0 where
  pub kind : item.kind ≡ array_kind
  pub first : item.a ≡ 0
  pub second : item.b ≡ 0

-- a forest stands for arguments
pub data ArgumentsAre (source : List ℕ) : OscArguments → Forest → Type 0 where
  no_node : ArgumentsAre source end nil
  leaf : {value : Atom} {rest : OscArguments} {item : Item} {g : Forest} → AtomIs source value item → ArgumentsAre source rest g
      → ArgumentsAre source (atom value rest) (node item nil g)
  branch : {within rest : OscArguments} {item : Item} {f g : Forest} → ArrayIs item → ArgumentsAre source within f
      → ArgumentsAre source rest g → ArgumentsAre source (array within rest) (node item f g)

-- a node of a message names its address
pub record MessageIs (source address : List ℕ) (item : Item) : Type 0 where
  pub kind : item.kind ≡ message_kind
  pub range : RangeHolds source item.a item.b address

-- a node of a bundle has its time tag
pub record BundleIs (seconds fractional : ℕ) (item : Item) : Type 0 where
  pub kind : item.kind ≡ bundle_kind
  pub first : item.a ≡ seconds
  pub second : item.b ≡ fractional

mutual
  -- a node stands for a packet
  pub data StandsFor (source : List ℕ) : Packet → Item → Forest → Type 0 where
    is_message : {address : List ℕ} {arguments : OscArguments} {item : Item} {f : Forest} → MessageIs source address item
        → ArgumentsAre source arguments f → StandsFor source (message address arguments) item f
    is_bundle : {seconds fractional : ℕ} {elements : Packets} {item : Item} {f : Forest} → BundleIs seconds fractional item
        → StandFor source elements f → StandsFor source (bundle seconds fractional elements) item f

  -- a forest stands for a bundle's elements
  pub data StandFor (source : List ℕ) : Packets → Forest → Type 0 where
    no_packet : StandFor source none nil
    packet : {first : Packet} {rest : Packets} {item : Item} {f g : Forest} → StandsFor source first item f → StandFor source rest g
        → StandFor source (also first rest) (node item f g)

-- bytes spell a packet that is allowed, and the tree stands for it
pub record Spelled (source : List ℕ) (item : Item) (inside : Forest) (l : List ℕ) : Type 0 where
  pub packet : Packet
  pub allowed : Allowed packet
  pub spells : Spells packet l
  pub stands : StandsFor source packet item inside
