-- Demand 1's public calls: what each is handed, and its contract, by the definitions that the call's own contract cites.
-- crates/demands/src/entry_points.rt shows that each call meets what stands here.
use Rattle.std.specs.Prelude.{false, List, [], ◌∷◌, ℕ, ℤ, Err, Ok}
use Rattle.clock.specs.Clock.{tag_for, unix_for}
use Rattle.clock.specs.Shift.{shifted, difference_of}
use Rattle.clock.specs.declared.Rule.{Rule}
use Rattle.clock.specs.Results.{Tagged, Unix}
use Rattle.results.specs.Results.{Checked, CueAnswer, DecodeAnswer, Encoded, IndexAnswer, PortionAnswer}
use Rattle.values.specs.Results.{Looked, Started}
use Rattle.wire.specs.Results.{Padded}
use Rattle.edition.specs.declared.Edition.{Edition}
use Rattle.edition.specs.declared.Edition.TheVariants.{Standard}
use Rattle.edition.specs.declared.Framing.{Framing}
use Rattle.edition.specs.declared.Framing.TheVariants.{TcpVec}
use Rattle.results.specs.Differs.{index_differs}
use Rattle.wire.specs.Pad.{pad_of}
use Rattle.values.specs.Look.{look_at, started_at, text_named}
use Rattle.values.specs.declared.value.OscType.{OscType}
use Rattle.framing.specs.Framing.{rule_of}
use Rattle.answering.specs.Limits.{order_of, stops_by, waits_by, Decodes}
use Rattle.portions.specs.Portions.{Steps}
use Rattle.cues.specs.Cues.{Indexes, cue_in}
use Rattle.cues.specs.Checks.{compared}
use Rattle.cues.specs.Refusals.{cue_order}
use Rattle.encoder.specs.Outcome.{encode_order, string_order, Encodes, unframed, framed_by, EncodesString}
use Rattle.contract.specs.Endings.{Ending, result, refuses, by_decoded, by_portion, by_indexed, by_checked, by_cue_at, by_encoded}
use Rattle.contract.specs.Endings.{by_tagged, by_unix}
use Rattle.contract.specs.Contract.{Contract, answers, reads, writes}

-- how the answer of `pad` ends it
abbrev pub by_padded : Padded → Ending
by_padded (Ok pos) = result
by_padded (Err r) = refuses r

-- of `look`
abbrev pub by_looked : Looked → Ending
by_looked (Ok v) = result
by_looked (Err r) = refuses r

-- of `start_of`
abbrev pub by_started : Started → Ending
by_started (Ok start) = result
by_started (Err r) = refuses r

-- the contract of a decoder, by its framing
abbrev pub decoding : Framing → List ℕ → List ℕ → ℕ → Contract
decoding framing msg table depth =
    reads DecodeAnswer table (Decodes (rule_of framing depth) msg table depth)
    by_decoded (order_of framing) (waits_by framing) (stops_by framing)

-- the contract of an encoder, by its frame
abbrev pub encoding : (ℕ → List ℕ → List ℕ) → List ℕ → ℕ → List ℕ → List ℕ → Contract
encoding frame table count source out =
    writes Encoded out (λ r after. Encodes frame table count source out (record { answer = r; out = after })) by_encoded encode_order

-- every public call, with what it is handed: any bytes, any table, any limits. Beside it stands its contract, with the refusals that
-- documents 01 and 02 have for it
pub data Call : Contract → Type 1 where
  -- the decoders: document 01, and Ticket 1 for edition 2
  decode : (framing : Framing) (msg table : List ℕ) (depth : ℕ) → Call (decoding framing msg table depth)
  -- a step over a stream: Ticket 14
  read_portion : (bytes table : List ℕ) (depth : ℕ)
      → Call (reads PortionAnswer table (Steps bytes table depth)
      by_portion (order_of (TcpVec Standard)) false (stops_by (TcpVec Standard)))
  -- a cue index: Ticket 5
  index_step : (bytes : List ℕ) (base : ℕ) (out : List ℕ)
      → Call (reads IndexAnswer out (Indexes bytes base out) by_indexed (1 ∷ 12 ∷ []) false cue_order)
  compare : (fresh index : List ℕ) → Call (answers Checked (compared fresh index) by_checked (index_differs ∷ []))
  cue_at : (index : List ℕ) (k : ℕ) → Call (answers CueAnswer (cue_in index k) by_cue_at (11 ∷ []))
  -- the encoders: document 01, and Ticket 1 for edition 2
  encode : (table : List ℕ) (count : ℕ) (source out : List ℕ) → Call (encoding unframed table count source out)
  encode_tcp : (edition : Edition) (table : List ℕ) (count : ℕ) (source out : List ℕ)
      → Call (encoding (framed_by edition) table count source out)
  encode_string : (text out : List ℕ)
      → Call (writes Encoded out (λ r after. EncodesString text out (record { answer = r; out = after })) by_encoded string_order)
  -- a table's tags, shifted: Ticket 13
  shift_table : (table : List ℕ) (count by : ℕ) → Call (Rattle.shifts.specs.Call.shifting table count by)
  -- padding, and looking at a record: document 01, and Ticket 10
  pad : (pos : ℕ) → Call (answers Padded (pad_of pos) by_padded (14 ∷ []))
  look : (table : List ℕ) (index : ℕ) → Call (answers Looked (look_at table index) by_looked (11 ∷ []))
  start_of : (table : List ℕ) (index : ℕ) → Call (answers Started (started_at table index) by_started (11 ∷ []))
  text_of : (value : OscType) (packet label : List ℕ) → Call (answers (List ℕ) (text_named value packet label) (λ r. result) [])
  -- clock conversion, and shifts and differences of tags, which are never refused: Ticket 7
  tag_of : (rule : Rule) (seconds : ℤ) (nanos : ℕ) → Call (answers Tagged (tag_for rule seconds nanos) by_tagged (26 ∷ 27 ∷ 28 ∷ []))
  unix_of : (rule : Rule) (tag : ℕ) → Call (answers Unix (unix_for rule tag) by_unix (28 ∷ []))
  shift : (tag by : ℕ) → Call (answers ℕ (shifted tag by) (λ r. result) [])
  difference : (tag old : ℕ) → Call (answers ℤ (difference_of tag old) (λ r. result) [])

-- the contract of a call
abbrev pub contract_of : {c : Contract} → Call c → Contract
contract_of {c} call = c

-- what a call promises of its answer and of what it was lent
abbrev pub Meets : {c : Contract} → Call c → c.Answer → c.Lent → Type 0
Meets {c} call = c.Meets

-- a statement of every call's contract: demand 1 is `Every Settled`, `Every Met`, `Every AnswersListed` and `Every NothingChanged`
abbrev pub Every : (Contract → Type 0) → Type 1
Every P = (c : Contract) → Call c → P c
