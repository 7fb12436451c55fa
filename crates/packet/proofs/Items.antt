-- The own numbers of a packet: a message's and a bundle's, and where it begins.
use mathlib.Core.Path.{◌≡◌, refl, ap, sym, subst}
use mathlib.Core.List.{List}
use Prim.Native.Nat.{ℕ, ◌+◌}
use lib.ListN.{length, take, drop}
use Rattle.wire.proofs.Choices.{by_le}
use Rattle.node.specs.Forest.{Forest}
use Rattle.node.specs.declared.record.Item.{Item}
use Rattle.text.specs.Text.{read_text}
use Rattle.packet.specs.Results.{Start}
use Rattle.std.specs.Prelude.{Err, Ok}
use Rattle.text.specs.Results.{Text}
use Rattle.packet.specs.Results as start
use Rattle.arguments.specs.Arguments.{Args, refused, args, read_args}
use Rattle.heads.specs.Heads.{tags_in, message_item, bundle_item}
use Rattle.packet.specs.FirstText.{start_of}
use Rattle.packet.specs.Packet.{Out, fault, one, Elements, upto, after, message_with, types_then, read_message, bundle_with, bundle_by}
use Rattle.packet.specs.Packet.{started_by, packet_by, read_packet, read_elements, read_bundle}
use Rattle.packet.proofs.Knot.{packet-eq}

-- a packet that is accepted has these own numbers
abbrev pub HasItem : Item → Out → Type 0
HasItem item (fault k) = Unit {0}
HasItem item (one item' f u) = item' ≡ item

item-after : (item : Item) (n : ℕ) (o : Out) → HasItem item o → HasItem item (after n o)
item-after item n (fault k) w = tt
item-after item n (one item' f u) w = w

item-with : (item : Item) (o : Args) → HasItem item (message_with item o)
item-with item (refused k) = tt
item-with item (args f u) = refl

-- a message has the own numbers that it is given
pub message-item : (base : ℕ) (item : Item) (l : List ℕ) (p : ℕ) → HasItem item (read_message base item l p)
unfolding read_message
message-item base item l p = by-text (read_text l p)
  where
    by-text : (t : Text) → HasItem item (types_then base item l p t)
    by-text (Err k) = tt
    by-text (Ok text) =
        let o = read_args base (tags_in (take text.length l)) (drop text.used l) (p + text.used) in
        item-after item text.used (message_with item o) (item-with item o)

item-elements : (item : Item) (k : Elements) → HasItem item (bundle_with item k)
item-elements item (upto f u) = refl

-- a bundle those of its time tag
pub bundle-item : (base start : ℕ) (l : List ℕ) (p : ℕ) → HasItem (bundle_item start l) (read_bundle base start l p)
unfolding read_bundle bundle_by
bundle-item base start l p =
    by_le (HasItem (bundle_item start l)) 8 (length l)
    (λ _. item-elements (bundle_item start l) (read_elements base (drop 8 l) (p + 8))) (λ _. tt)

-- a packet that is accepted begins at this offset
abbrev pub HasStart : ℕ → Out → Type 0
HasStart o (fault k) = Unit {0}
HasStart o (one item f u) = item.start ≡ o

start_there : (item : Item) (o : Out) → HasItem item o → HasStart item.start o
start_there item (fault k) w = tt
start_there item (one item' f u) w = ap (λ (i : Item). i.start) w

start-after : (o n : ℕ) (x : Out) → HasStart o x → HasStart o (after n x)
start-after o n (fault k) w = tt
start-after o n (one item f u) w = w

-- a packet begins where it is read
pub packet-starts : (base : ℕ) (l : List ℕ) (p : ℕ) → HasStart (base + p) (read_packet base l p)
unfolding packet_by read_bundle
packet-starts base l p = subst (HasStart (base + p)) (sym (packet-eq base l p)) (by-start (start_of l p))
  where
    by-start : (s : Start) → HasStart (base + p) (started_by base (λ m q. read_elements base m q) l p s)
    by-start (Err k) = tt
    by-start (start.Message n used) =
        let item = message_item (base + p) n in
        start-after (base + p) used (read_message base item (drop used l) (p + used))
        (start_there item (read_message base item (drop used l) (p + used)) (message-item base item (drop used l) (p + used)))
    by-start (start.Bundle used) =
        let o = bundle_by (base + p) (λ m q. read_elements base m q) (drop used l) (p + used) in
        start-after (base + p) used o
        (start_there (bundle_item (base + p) (drop used l)) o (bundle-item base (base + p) (drop used l) (p + used)))

-- the same of one that is accepted
pub packet-start : {item : Item} {f : Forest} {used : ℕ} (base : ℕ) (l : List ℕ) (p : ℕ) → read_packet base l p ≡ one item f used
    → item.start ≡ base + p
packet-start base l p e = subst (HasStart (base + p)) e (packet-starts base l p)
