-- An example of document 01, "Proved examples", or of Ticket 1, as data: a call, what it answers and the records that it writes. The table
-- that is lent has 160 bytes, none of them zero, and so room for 8 records, and the depth limit is 64, where nothing else is said.
use Rattle.std.specs.Prelude.{◌≡◌, List, [], ◌∷◌, ◌++◌, ℕ, length, drop, replicate, Err}
use Rattle.refusal.specs.Refusal.{number_of, offset_of}
use Rattle.wire.specs.Number.{bytes}
use Rattle.node.specs.Records.{capacity}
use Rattle.framing.specs.Framing.{rule_of}
use Rattle.answering.specs.Limits.{Decodes}
use Rattle.edition.specs.declared.Framing.{Framing}
use Rattle.edition.specs.declared.Framing.TheVariants.{Tcp, TcpVec}
use Rattle.edition.specs.declared.Edition.TheVariants.{Rosc, Standard}
use Rattle.results.specs.Results.{DecodeAnswer}
use Rattle.results.specs.Results as decodes

-- bytes, four to a number, as document 01 writes them
abbrev pub hex : List ℕ → List ℕ
hex [] = []
hex (x ∷ l) = bytes 4 x ++ hex l

-- an answer as document 01 writes it: records, bytes left over and dirty padding; Waiting; the number of a refusal, and of a field that was
-- short its offset, 0 of every other; of a list of edition 2 that stops, the first three, the next two and the frame's offset
pub data Reply : Type 0 where
  packets : (count left dirty : ℕ) → Reply
  waiting : Reply
  refused : (number offset : ℕ) → Reply
  stopped : (count left dirty number offset frame : ℕ) → Reply

-- the answer of a decoder, in these words
abbrev pub reply_of : DecodeAnswer → Reply
reply_of (decodes.Packets count left dirty) = packets count left dirty
reply_of decodes.Waiting = waiting
reply_of (Err r) = refused (number_of r) (offset_of r)
reply_of (decodes.Stopped count left dirty r at) = stopped count left dirty (number_of r) (offset_of r) at

-- a call by its framing, its input, the bytes that the table has and the depth limit, with its answer and the records that it writes
pub data Case : Type 0 where
  call : (framing : Framing) (msg : List ℕ) (room limit : ℕ) (answer : Reply) (records : List ℕ) → Case

-- packets: the records that are written, and the bytes left over; with so much dirty padding, or none
abbrev pub soils : Framing → List ℕ → ℕ → ℕ → List ℕ → Case
soils framing msg left dirty records = call framing msg 160 64 (packets (capacity records) left dirty) records

abbrev pub gives : Framing → List ℕ → ℕ → List ℕ → Case
gives framing msg left records = soils framing msg left 0 records

-- a refusal by its number
abbrev pub rejects : Framing → List ℕ → ℕ → Case
rejects framing msg n = call framing msg 160 64 (refused n 0) []

-- a field that was short, by its number and its offset
abbrev pub lacks : Framing → List ℕ → ℕ → ℕ → Case
lacks framing msg n at = call framing msg 160 64 (refused n at) []

-- Waiting
abbrev pub waits : Framing → List ℕ → Case
waits framing msg = call framing msg 160 64 waiting []

-- the table that is lent
abbrev pub lent : ℕ → List ℕ
lent room = replicate room 0xAA

-- whatever the call answers and leaves is so: the answer, and the whole table, whose bytes after the records are unchanged
abbrev pub CaseEnds : Case → Type 0
CaseEnds (call framing msg room limit answer records) =
    (r : DecodeAnswer) (after : List ℕ) → Decodes (rule_of framing limit) msg (lent room) limit r after
    → (reply_of r ≡ answer) × (after ≡ records ++ drop (length records) (lent room))

-- all of them end so
infixr 67 ◌and◌
pub data Each : List Case → Type 0 where
  none : Each []
  ◌and◌ : {c : Case} {cs : List Case} → CaseEnds c → Each cs → Each (c ∷ cs)

-- the framings of each edition
abbrev pub tcp1 : Framing
tcp1 = Tcp Rosc

abbrev pub vec1 : Framing
vec1 = TcpVec Rosc

abbrev pub cut2 : Framing
cut2 = Tcp Standard

abbrev pub vec2 : Framing
vec2 = TcpVec Standard
