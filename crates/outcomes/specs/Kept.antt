-- What a command keeps of an answer.
use Rattle.std.specs.Prelude.{Bool, true, false, List, ℕ, ◌+◌, Err, Ok}
use Rattle.node.specs.Forest.{Forest, nil, node}
use Rattle.results.specs.Results.{DecodeAnswer, Encoded}
use Rattle.results.specs.Results as decoded
use Rattle.encoder.specs.Outcome.{unframed, framed_by}
use Rattle.commands.specs.declared.Writing.{Writing}
use Rattle.commands.specs.declared.Writing.TheVariants.{Alone, Stream}

-- how many trees stand side by side: each is a packet
unfoldable pub roots_of : Forest → ℕ
roots_of nil = 0
roots_of (node item inside rest) = 1 + roots_of rest

-- a table is kept of packets alone: of all that there are, or of those before the frame at which a list stopped (Ticket 1)
abbrev pub has_table : DecodeAnswer → Bool
has_table (decoded.Packets count left dirty) = true
has_table decoded.Waiting = false
has_table (Err refusal) = false
has_table (decoded.Stopped count left dirty refusal frame) = true

-- the trees that are kept of those that were read
abbrev pub kept_trees : DecodeAnswer → Forest → Forest
kept_trees (decoded.Packets count left dirty) f = f
kept_trees decoded.Waiting f = nil
kept_trees (Err refusal) f = nil
kept_trees (decoded.Stopped count left dirty refusal frame) f = f

-- how many records they have
abbrev pub kept_count : DecodeAnswer → ℕ
kept_count (decoded.Packets count left dirty) = count
kept_count decoded.Waiting = 0
kept_count (Err refusal) = 0
kept_count (decoded.Stopped count left dirty refusal frame) = count

-- a packet is kept where one was written
abbrev pub is_written : Encoded → Bool
is_written (Ok n) = true
is_written (Err refusal) = false

-- and so many bytes of it
abbrev pub written_count : Encoded → ℕ
written_count (Ok n) = n
written_count (Err refusal) = 0

-- how the bytes of a packet are written: alone, or as a stream of an edition has them
abbrev pub writing_of : Writing → ℕ → List ℕ → List ℕ
writing_of Alone = unframed
writing_of (Stream edition) = framed_by edition
