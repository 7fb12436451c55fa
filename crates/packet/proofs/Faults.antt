-- The place of a fault: it begins in the packet or right after it (Ticket 2).
use mathlib.Core.Path.{◌≡◌, refl, sym, subst}
use mathlib.Core.List.{List}
use Prim.Native.Nat.{ℕ, ◌+◌, ◌≤◌}
use native.Mathlib.Omega.{arith}
use lib.Dec.{eqb}
use lib.ListN.{length, get_or, take, drop, length-drop}
use Rattle.refusal.specs.Refusal.{fault_offset}
use Rattle.refusal.specs.declared.Fault.{Fault}
use Rattle.refusal.specs.declared.Field.TheVariants.{Address, TypeText}
use Rattle.wire.specs.Same.{same_bytes}
use Rattle.wire.proofs.Choices.{by-test, by_le}
use Rattle.node.specs.Tags.{message_kind}
use Rattle.node.specs.declared.record.Item.{Item}
use Rattle.text.specs.Text.{read_text}
use Rattle.packet.specs.Results.{Start}
use Rattle.std.specs.Prelude.{Err, Ok}
use Rattle.text.specs.Results.{Text}
use Rattle.packet.specs.Results as start
use Rattle.text.proofs.Within.{found_in, lacks-low}
use Rattle.arguments.specs.Arguments.{Args, refused, args, read_args}
use Rattle.arguments.proofs.Faults.{args_low}
use Rattle.heads.specs.Heads.{tags_in, message_item}
use Rattle.packet.specs.FirstText.{bundle_word, start_by, start_of}
use Rattle.packet.specs.Packet.{Out, fault, one, Elements, upto, after, message_with, types_then, read_message, bundle_with, bundle_by}
use Rattle.packet.specs.Packet.{started_by, packet_by, read_packet, read_elements}
use Rattle.packet.proofs.FirstText.{message-start-in, bundle-start-in}
use Rattle.packet.proofs.Knot.{packet-eq}

-- a fault begins no later than m
abbrev pub OutLow : ℕ → Out → Type 0
OutLow m (fault k) = fault_offset k ≤ m
OutLow m (one item inside used) = Unit {0}

-- bytes before a packet leave its fault where it is
pub low-after : (n m : ℕ) (o : Out) → OutLow m o → OutLow m (after n o)
low-after n m (fault k) w = w
low-after n m (one item inside used) w = tt

low-with : (item : Item) (m : ℕ) (o : Args) → ((k : Fault) → refused k ≡ o → fault_offset k ≤ m) → OutLow m (message_with item o)
low-with item m (refused k) h = h k refl
low-with item m (args kept used) h = tt

message-low : (base : ℕ) (item : Item) (l : List ℕ) (p : ℕ) → OutLow (p + length l) (read_message base item l p)
unfolding read_message
message-low base item l p = by-text (read_text l p) refl
  where
    by-text : (t : Text) → t ≡ read_text l p → OutLow (p + length l) (types_then base item l p t)
    by-text (Err lack) e = lacks-low TypeText l p e
    by-text (Ok text) e =
        let tags = tags_in (take text.length l) in
        let same : p + text.used + length (drop text.used l) ≡ p + length l = omega (arith, length-drop text.used l, found_in l p e) in
        low-after text.used (p + length l) (message_with item (read_args base tags (drop text.used l) (p + text.used)))
        (low-with item (p + length l) (read_args base tags (drop text.used l) (p + text.used))
        (λ k g. subst (λ (n : ℕ). fault_offset k ≤ n) same (args_low base tags (drop text.used l) (p + text.used) g)))

low-elements : (item : Item) (m : ℕ) (k : Elements) → OutLow m (bundle_with item k)
low-elements item m (upto inside used) = tt

bundle-low : (start : ℕ) (es : List ℕ → ℕ → Elements) (l : List ℕ) (p : ℕ) → OutLow (p + length l) (bundle_by start es l p)
unfolding bundle_by
bundle-low start es l p =
    by_le (OutLow (p + length l)) 8 (length l) (λ h. low-elements _ (p + length l) (es (drop 8 l) (p + 8))) (λ h. omega arith)

-- what a packet starts with
abbrev StartLow : ℕ → Start → Type 0
StartLow m (start.Message n used) = Unit {0}
StartLow m (start.Bundle used) = Unit {0}
StartLow m (Err k) = fault_offset k ≤ m

start-low : (l : List ℕ) (p : ℕ) → StartLow (p + length l) (start_of l p)
unfolding start_of
start-low l p = by-test (StartLow (p + length l)) (eqb (length l) 0) (λ _. omega arith) (λ _. by-text (read_text l p) refl)
  where
    by-text : (t : Text) → t ≡ read_text l p → StartLow (p + length l) (start_by l p t)
    by-text (Err lack) e = lacks-low Address l p e
    by-text (Ok text) e =
        by-test (StartLow (p + length l)) (eqb (get_or l 0 0) message_kind) (λ _. tt)
        (λ _. by-test (StartLow (p + length l)) (same_bytes (take text.length l) bundle_word) (λ _. tt) (λ _. omega arith))

-- the fault of a packet begins in it or right after it
pub packet-low : (base : ℕ) (l : List ℕ) (p : ℕ) → OutLow (p + length l) (read_packet base l p)
unfolding packet_by
packet-low base l p = subst (OutLow (p + length l)) (sym (packet-eq base l p)) (by-start (start_of l p) refl (start-low l p))
  where
    es : List ℕ → ℕ → Elements
    es = λ m q. read_elements base m q

    by-start : (s : Start) → s ≡ start_of l p → StartLow (p + length l) s → OutLow (p + length l) (started_by base es l p s)
    by-start (Err k) e w = w
    by-start (start.Message n used) e w =
        let same : p + used + length (drop used l) ≡ p + length l = omega (arith, length-drop used l, message-start-in l p e) in
        low-after used (p + length l) (read_message base (message_item (base + p) n) (drop used l) (p + used))
        (subst (λ (m : ℕ). OutLow m (read_message base (message_item (base + p) n) (drop used l) (p + used))) same
        (message-low base (message_item (base + p) n) (drop used l) (p + used)))
    by-start (start.Bundle used) e w =
        let same : p + used + length (drop used l) ≡ p + length l = omega (arith, length-drop used l, bundle-start-in l p e) in
        low-after used (p + length l) (bundle_by (base + p) es (drop used l) (p + used))
        (subst (λ (m : ℕ). OutLow m (bundle_by (base + p) es (drop used l) (p + used))) same
        (bundle-low (base + p) es (drop used l) (p + used)))
