-- What stands at the front of a type text, of an element of a bundle, and of a frame of a TCP stream, and the own numbers of a message and
-- of a bundle: document 01, "How bytes are read", rules 2, 5 and 6, and document 02, Ticket 1. A rule reads at the front of l.
use Rattle.std.specs.Prelude.{cond, List, [], ◌∷◌, ℕ, ◌-◌, ◌%◌, eqb, leb, length, drop, None, Some}
use Rattle.wire.specs.Limits.{longest_framed}
use Rattle.wire.specs.Number.{number}
use Rattle.utf8.specs.Lead.{lead_of}
use Rattle.node.specs.Tags.{message_kind, bundle_kind}
use Rattle.node.specs.declared.record.Item.{Item}
use Rattle.heads.specs.Results.{Cuts, ElementSize, Length, Odd, Over, Waiting}
use Rattle.heads.specs.declared.Prefix.{Prefix}
use Rattle.heads.specs.declared.Prefix.TheVariants as prefix

-- the tags of a type text (rule 2): none of an empty one; else its first character is skipped, whatever it is and however many
-- bytes it has
abbrev pub tags_in : List ℕ → List ℕ
tags_in [] = []
tags_in (x ∷ text) = drop (lead_of x) (x ∷ text)

-- the size of an element (rule 5): 4 bytes, and that many bytes follow it
unfoldable pub size_of : List ℕ → ElementSize
size_of l = cond (leb 4 (length l)) (cond (leb (number 4 l) (length l - 4)) (Some (number 4 l)) None) None

-- the prefix of a frame (rule 6): 4 bytes; a length greater than the whole input, prefix included, waits
unfoldable pub prefix_of : List ℕ → Prefix
prefix_of l = cond (leb 4 (length l)) (cond (leb (number 4 l) (length l)) prefix.Ready prefix.Waiting) prefix.RunsOut

-- a length n where so many bytes follow it (Ticket 1): "1 (length over 65,531), 16 (length not a multiple of 4), Waiting"
abbrev pub length_in : ℕ → ℕ → Length
length_in there n = cond (leb n longest_framed) (cond (eqb (n % 4) 0) (cond (leb n there) (Cuts n) Waiting) Odd) Over

-- the prefix of a frame of edition 2 (Ticket 1): fewer than 4 bytes wait
unfoldable pub length_of : List ℕ → Length
length_of l = cond (leb 4 (length l)) (length_in (length l - 4) (number 4 l)) Waiting

-- the own numbers of a message whose address of n bytes stands at `offset`, where the message begins (Ticket 10)
abbrev pub message_item : ℕ → ℕ → Item
message_item offset n = record { kind = message_kind; a = offset; b = n; start = offset }

-- the own numbers of a bundle whose "#bundle" stands at offset `start` (Ticket 10) and whose time tag stands at the front of l: seconds
-- and fractional
abbrev pub bundle_item : ℕ → List ℕ → Item
bundle_item start l = record { kind = bundle_kind; a = number 4 l; b = number 4 (drop 4 l); start = start }
