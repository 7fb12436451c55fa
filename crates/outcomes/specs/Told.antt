-- What a command keeps, as the first bytes of a lent slice, and what it says, as those of another.
use Rattle.std.specs.Prelude.{◌≡◌, List, ℕ, min, length, take}
use Rattle.io.specs.Counts.{IsPrefixLen}
use Rattle.node.specs.Records.{records_of, most_records, capacity}
use Rattle.node.specs.Forest.{Forest}
use Rattle.framing.specs.Framing.{rule_of}
use Rattle.answering.specs.Limits.{decoded, forest_of}
use Rattle.results.specs.Results.{DecodeAnswer, Encoded}
use Rattle.edition.specs.declared.Framing.{Framing}
use Rattle.encoder.specs.Outcome.{Encodes}
use Rattle.telling.specs.Forms.{Says}
use Rattle.telling.specs.Replies.{decoded_line, encoded_line}
use Rattle.commands.specs.declared.Writing.{Writing}
use Rattle.commands.specs.declared.options.Options.{Options}
use Rattle.commands.specs.Options.{depth_for, records_for}
use Rattle.outcomes.specs.Kept.{roots_of, has_table, kept_trees, is_written, written_count, writing_of}
use Rattle.outcomes.specs.declared.Told.{Told}

-- what the library answers with the limits that the options say; a table has at most 65,535 records
abbrev pub decoded_with : Framing → Options → List ℕ → DecodeAnswer
decoded_with framing options msg =
    decoded (rule_of framing (depth_for options)) (min (records_for options) most_records) (depth_for options) msg

-- the trees that it reads
abbrev pub trees_with : Framing → Options → List ℕ → Forest
trees_with framing options msg = forest_of (rule_of framing (depth_for options) msg)

-- decode: the records of the packets are kept, all of them and nothing else; of Waiting and a refusal nothing; the line is the answer's
pub record DecodeTold (framing : Framing) (options : Options) (msg table line : List ℕ) (told : Told) : Type 0 where
  pub kept : told.is_kept ≡ has_table (decoded_with framing options msg)
  pub counts : IsPrefixLen told.bytes table
  pub bytes : take told.bytes table ≡ records_of 0 (kept_trees (decoded_with framing options msg) (trees_with framing options msg))
  pub says : Says (decoded_line (roots_of (trees_with framing options msg)) (length msg) (decoded_with framing options msg)) line told.line

-- encode: the bytes that the encoder wrote are kept, and of a refusal nothing; the line is the answer's
pub record EncodeTold (writing : Writing) (table source out₀ out line : List ℕ) (told : Told) : Type 0 where
  pub answer : Encoded
  pub encodes : Encodes (writing_of writing) table (capacity table) source out₀ (record { answer = answer; out = out })
  pub kept : told.is_kept ≡ is_written answer
  pub bytes : told.bytes ≡ written_count answer
  pub says : Says (encoded_line answer) line told.line
