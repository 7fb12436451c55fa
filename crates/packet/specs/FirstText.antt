-- What a packet starts with: document 01, "How bytes are read", rules 2 and 5. A rule reads at the front of l, which stands at position p
-- of its frame.
use Rattle.std.specs.Prelude.{cond, List, [], ◌∷◌, ℕ, eqb, length, get_or, take, Err, Ok}
use Rattle.refusal.specs.declared.Fault.TheVariants as fault
use Rattle.refusal.specs.declared.Field.TheVariants.{Address}
use Rattle.wire.specs.Same.{same_bytes}
use Rattle.node.specs.Tags.{message_kind, bundle_kind}
use Rattle.text.specs.Text.{read_text, fault_in}
use Rattle.packet.specs.Results.{Bundle, Message, Start}
use Rattle.text.specs.Results.{Text}

-- "#bundle": its first character is also the kind of a bundle
abbrev pub bundle_word : List ℕ
bundle_word = bundle_kind ∷ 98 ∷ 117 ∷ 110 ∷ 100 ∷ 108 ∷ 101 ∷ []

-- the first text of a packet decides: '/'-led a message, "#bundle" a bundle, any other refusal 5; it is the address until it is known
-- (Ticket 2)
abbrev pub start_by : List ℕ → ℕ → Text → Start
start_by l p (Err lack) = Err (fault_in Address p lack)
start_by l p (Ok text) =
    cond (eqb (get_or l 0 0) message_kind) (Message text.length text.used) (cond (same_bytes (take text.length l) bundle_word) (Bundle text.used) (Err fault.BadStart))

-- what a packet starts with; a packet of no bytes is refusal 2
unfoldable pub start_of : List ℕ → ℕ → Start
start_of l p = cond (eqb (length l) 0) (Err fault.Empty) (start_by l p (read_text l p))
