-- Packets, messages, bundles and elements: document 01, "How bytes are read", rules 2 and 5. What a packet starts with: FirstText.antt.
-- A rule reads at the front of l, which stands at position p of its frame; `base` is added to a position to give an offset.
-- A rule that reads contained packets is given the rule for them; the knot is tied once, at the end, by the number of bytes.
use Rattle.std.specs.Prelude.{cond, List, ℕ, zero, suc, ◌+◌, leb, length, take, drop, Err, None, Some, Ok}
use Rattle.refusal.specs.declared.Fault.{Fault}
use Rattle.refusal.specs.declared.Fault.TheVariants.{Empty, Short}
use Rattle.refusal.specs.declared.Field.TheVariants.{TypeText, Head}
use Rattle.node.specs.Forest.{Forest, nil, node}
use Rattle.node.specs.declared.record.Item.{Item}
use Rattle.text.specs.Text.{read_text, fault_in}
use Rattle.heads.specs.Results.{ElementSize}
use Rattle.packet.specs.Results.{Start}
use Rattle.text.specs.Results.{Text}
use Rattle.packet.specs.Results as start
use Rattle.arguments.specs.Arguments.{Args, refused, args, read_args}
use Rattle.heads.specs.Heads.{tags_in, size_of, message_item, bundle_item}
use Rattle.packet.specs.FirstText.{start_of}

-- what a packet is read as: one node and how many bytes it took; or the fault
pub data Out : Type 0 where
  fault : Fault → Out
  one : (item : Item) (inside : Forest) (used : ℕ) → Out

-- what the elements of a bundle are read as: they never fail
pub data Elements : Type 0 where
  upto : (inside : Forest) (used : ℕ) → Elements

-- n more bytes were read before
abbrev pub after : ℕ → Out → Out
after n (fault k) = fault k
after n (one item inside used) = one item inside (n + used)

-- ---- messages (rule 2)

-- the message with these own numbers and arguments
abbrev pub message_with : Item → Args → Out
message_with item (refused k) = fault k
message_with item (args kept used) = one item kept used

-- the type text, then the data
abbrev pub types_then : ℕ → Item → List ℕ → ℕ → Text → Out
types_then base item l p (Err lack) = fault (fault_in TypeText p lack)
types_then base item l p (Ok text) = after text.used (message_with item (read_args base (tags_in (take text.length l)) (drop text.used l) (p + text.used)))

-- what follows the address of the message with these own numbers
unfoldable pub read_message : ℕ → Item → List ℕ → ℕ → Out
read_message base item l p = types_then base item l p (read_text l p)

-- ---- bundles (rule 5)

-- the bundle with these own numbers and elements
abbrev pub bundle_with : Item → Elements → Out
bundle_with item (upto inside used) = one item inside (8 + used)

-- what follows the "#bundle" at offset `start`: an 8-byte time tag, then elements
unfoldable pub bundle_by : ℕ → (List ℕ → ℕ → Elements) → List ℕ → ℕ → Out
bundle_by start elements l p = cond (leb 8 (length l)) (bundle_with (bundle_item start l) (elements (drop 8 l) (p + 8))) (fault (Short Head p))

-- an element's packet: it takes the whole element, and bytes left inside are dropped
abbrev pub filling : ℕ → Out → Out
filling n (fault k) = fault k
filling n (one item inside used) = one item inside n

-- the bytes of an element hold one packet
abbrev pub held_by : (List ℕ → ℕ → Out) → List ℕ → ℕ → ElementSize → Out
held_by packet l p (Some n) = filling n (packet (take n (drop 4 l)) (p + 4))
held_by packet l p None = fault (Short Head p)

-- an element: a size and that many bytes; `used` is the size
unfoldable pub element_by : (List ℕ → ℕ → Out) → List ℕ → ℕ → Out
element_by packet l p = held_by packet l p (size_of l)

-- an element before others
abbrev pub joined : Item → Forest → ℕ → Elements → Elements
joined item inside n (upto rest used) = upto (node item inside rest) (4 + n + used)

-- the first element that fails, for any fault, ends the bundle with success
abbrev pub go_on : (List ℕ → ℕ → Elements) → List ℕ → ℕ → Out → Elements
go_on elements l p (fault k) = upto nil 0
go_on elements l p (one item inside n) = joined item inside n (elements (drop (4 + n) l) (p + (4 + n)))

-- the elements of a bundle
unfoldable pub elements_by : (List ℕ → ℕ → Out) → (List ℕ → ℕ → Elements) → List ℕ → ℕ → Elements
elements_by packet elements l p = go_on elements l p (element_by packet l p)

-- ---- packets

-- the packet that starts so
abbrev pub started_by : ℕ → (List ℕ → ℕ → Elements) → List ℕ → ℕ → Start → Out
started_by base elements l p (start.Message n used) = after used (read_message base (message_item (base + p) n) (drop used l) (p + used))
started_by base elements l p (start.Bundle used) = after used (bundle_by (base + p) elements (drop used l) (p + used))
started_by base elements l p (Err k) = fault k

-- a packet
unfoldable pub packet_by : ℕ → (List ℕ → ℕ → Elements) → List ℕ → ℕ → Out
packet_by base elements l p = started_by base elements l p (start_of l p)

-- "A packet reads an element and an element reads a packet": at most n deep, and a part has no more levels than bytes. The lines for 0
-- are met only where no byte is left, and say there what the rules say (proofs/Knot.antt: packet-eq, elements-eq).
unfoldable mutual
  pub packet_at : ℕ → ℕ → List ℕ → ℕ → Out
  packet_at base zero l p = fault Empty
  packet_at base (suc n) l p = packet_by base (λ m q. elements_at base n m q) l p

  -- the elements of a bundle, at most n deep
  pub elements_at : ℕ → ℕ → List ℕ → ℕ → Elements
  elements_at base zero l p = upto nil 0
  elements_at base (suc n) l p = elements_by (λ m q. packet_at base n m q) (λ m q. elements_at base n m q) l p

-- a packet; proofs/Knot.antt: read_packet base l p ≡ packet_by base (read_elements base) l p
unfoldable pub read_packet : ℕ → List ℕ → ℕ → Out
read_packet base l p = packet_at base (length l) l p

-- the elements of a bundle; proofs/Knot.antt: read_elements base l p ≡ elements_by (read_packet base) (read_elements base) l p
unfoldable pub read_elements : ℕ → List ℕ → ℕ → Elements
read_elements base l p = elements_at base (length l) l p

-- a bundle after its "#bundle", which stands at offset `start`
unfoldable pub read_bundle : ℕ → ℕ → List ℕ → ℕ → Out
read_bundle base start l p = bundle_by start (λ m q. read_elements base m q) l p

-- an element of a bundle
unfoldable pub read_element : ℕ → List ℕ → ℕ → Out
read_element base l p = element_by (λ m q. read_packet base m q) l p

-- ---- the two parts of what the elements of a bundle are read as

-- how many bytes they take
abbrev pub used_by : Elements → ℕ
used_by (upto inside used) = used

-- their trees
abbrev pub trees_in : Elements → Forest
trees_in (upto inside used) = inside
