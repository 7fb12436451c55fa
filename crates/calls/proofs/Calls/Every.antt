-- Demand 1 of every call: a line for each, and the four theorems.
use Rattle.encoder.specs.Outcome.{unframed, framed_by}
use Rattle.contract.specs.Contract.{Settled, Met, AnswersListed, NothingChanged, Demand1}
use Rattle.calls.specs.Calls as call
use Rattle.calls.specs.Calls.{Every}
use Rattle.contract.proofs.OneEnding.{answers-demand}
use Rattle.calls.proofs.Calls.Decoders.{decode-demand, portion-demand}
use Rattle.calls.proofs.Calls.Cues.{index-demand, compare-demand, cue-demand}
use Rattle.calls.proofs.Calls.Encoders.{encoder-demand, string-demand}
use Rattle.calls.proofs.Calls.Lookups.{pad-demand, look-listed, start-listed}
use Rattle.calls.proofs.Calls.Clock.{tag-listed, unix-listed}

pub every_call : Every Demand1
every_call c (call.decode framing msg table depth) = decode-demand framing msg table depth
every_call c (call.read_portion bytes table depth) = portion-demand bytes table depth
every_call c (call.index_step bytes base out) = index-demand bytes base out
every_call c (call.compare fresh index) = compare-demand fresh index
every_call c (call.cue_at index k) = cue-demand index k
every_call c (call.encode table count source out) = encoder-demand unframed table count source out
every_call c (call.encode_tcp edition table count source out) = encoder-demand (framed_by edition) table count source out
every_call c (call.encode_string text out) = string-demand text out
every_call c (call.shift_table table count by) = Rattle.shifts.proofs.Demand.shift-demand table count by
every_call c (call.pad pos) = pad-demand pos
every_call c (call.look table index) = answers-demand (look-listed table index)
every_call c (call.start_of table index) = answers-demand (start-listed table index)
every_call c (call.text_of value packet label) = answers-demand tt
every_call c (call.tag_of rule seconds nanos) = answers-demand (tag-listed rule seconds nanos)
every_call c (call.unix_of rule tag) = answers-demand (unix-listed rule tag)
every_call c (call.shift tag by) = answers-demand tt
every_call c (call.difference tag old) = answers-demand tt

-- no two endings of a call meet its contract
pub settled : Every Settled
settled c k = (every_call c k).settled

-- no call is without an ending
pub met : Every Met
met c k = (every_call c k).met

-- every answer is a result, Waiting from `decode_tcp`, a refusal that documents 01 and 02 list for the call, with 25 a record's number, or
-- of a list or an index of edition 2 what comes before a refused frame, whose refusal they list
pub listed : Every AnswersListed
listed c k = (every_call c k).listed

-- an ending without a result leaves every lent byte as it was
pub nothing_changed : Every NothingChanged
nothing_changed c k = (every_call c k).unchanged
