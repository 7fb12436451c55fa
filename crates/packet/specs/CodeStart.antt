-- Describes code, and no part of the document: what is known of the start of a packet that was accepted before.
use Rattle.packet.specs.Results.{Bundle, Message, Start}
use Rattle.std.specs.Prelude.{Err}

-- a message or a bundle starts so
abbrev pub StartAccepted : Start → Type 0
StartAccepted (Message n used) = Unit {0}
StartAccepted (Bundle used) = Unit {0}
StartAccepted (Err k) = ⊥
