-- What is told of each answer: its record, and where one has no room for it, its number.
use Rattle.std.specs.Prelude.{cond, ℕ, ◌+◌, ◌*◌, ltb, Err, Ok}
use Rattle.refusal.specs.Refusal.{number_of, offset_of, moved_refusal}
use Rattle.refusal.specs.declared.Refusal.{Refusal}
use Rattle.refusal.specs.declared.Refusal.TheVariants.{BadTable}
use Rattle.results.specs.Differs.{index_differs}
use Rattle.results.specs.Results.{Checked, CueAnswer, DecodeAnswer, Encoded, IndexAnswer, PortionAnswer}
use Rattle.values.specs.Results.{Looked, Started}
use Rattle.wire.specs.Results.{Padded}
use Rattle.results.specs.Results as answers
use Rattle.results.specs.declared.End.{End}
use Rattle.results.specs.declared.End.TheVariants as end
use Rattle.node.specs.Tags.{message_kind, bundle_kind, array_kind}
use Rattle.values.specs.declared.value.OscType.{OscType}
use Rattle.values.specs.declared.value.OscType.TheVariants as value
use Rattle.told.specs.declared.Told.{Told}

-- an answer: a count, the low number, and dirty padding beside them
abbrev pub told_answer : ℕ → ℕ → ℕ → Told
told_answer count low dirty = record { number = 0; count = count; low = low; dirty = dirty; field = 0; frame = 0 }

-- a refused call: its number, and the offset of a field that was short (Ticket 2)
abbrev pub told_refusal : Refusal → Told
told_refusal r = record { number = number_of r; count = 0; low = 0; dirty = 0; field = offset_of r; frame = 0 }

-- a refused call whose refusals have no offset: its number alone
abbrev pub told_number : Refusal → Told
told_number r = record { number = number_of r; count = 0; low = 0; dirty = 0; field = 0; frame = 0 }

-- a decoder's answer to n bytes: the count of records, the bytes left and dirty padding (Ticket 8); Waiting is count 0 with the whole input
-- left; where a list stops (Ticket 1), all stand beside the number of the frame's refusal, its field's offset and the frame's
abbrev pub decoded_told : ℕ → DecodeAnswer → Told
decoded_told n (answers.Packets count left dirty) = told_answer count left dirty
decoded_told n answers.Waiting = told_answer 0 n 0
decoded_told n (Err r) = told_refusal r
decoded_told n (answers.Stopped count left dirty r frame) =
    record { number = number_of r; count = count; low = left; dirty = dirty; field = offset_of r; frame = frame }

-- a step's answer (Ticket 14): the count of records, the bytes used and dirty padding; where a refused frame ends the stream, its field's
-- offset, and the number of its refusal in the frame's part
abbrev pub portion_told : PortionAnswer → Told
portion_told (answers.Read count used dirty) = told_answer count used dirty
portion_told (answers.Ended count used dirty r) =
    record { number = 0; count = count; low = used; dirty = dirty; field = offset_of r; frame = number_of r }
portion_told (Err r) = told_number r

-- the answer of a step that writes an index (Ticket 5): the records written and the bytes used; beside them 1 where the next frame is not
-- all there; where it is refused, its field's offset from the call's first byte (Ticket 2), and the refusal's number in the frame's part
abbrev pub ended_told : ℕ → ℕ → End → Told
ended_told records used end.Whole = told_answer records used 0
ended_told records used end.Waiting = told_answer records used 1
ended_told records used (end.Refused r) =
    record { number = 0; count = records; low = used; dirty = 0; field = offset_of (moved_refusal used r); frame = number_of r }

-- and where the call is refused, its number alone
abbrev pub indexed_told : IndexAnswer → Told
indexed_told (Ok indexed) = ended_told indexed.records indexed.used indexed.end
indexed_told (Err r) = told_number r

-- an encoder's answer: the bytes written
abbrev pub encoded_told : Encoded → Told
encoded_told (Ok n) = told_answer 0 n 0
encoded_told (Err r) = told_number r

-- `start_of`: the start
abbrev pub started_told : Started → Told
started_told (Ok start) = told_answer 0 start 0
started_told (Err r) = told_number r

-- the kind of a value: document 01's table of kinds
abbrev pub kind_of : OscType → ℕ
kind_of (value.Message offset n) = message_kind
kind_of (value.Bundle t) = bundle_kind
kind_of (value.Int n) = 105
kind_of (value.Float x v) = 102
kind_of (value.String offset n) = 115
kind_of (value.Blob offset n) = 98
kind_of (value.Time t) = 116
kind_of (value.Long n) = 104
kind_of (value.Double x v) = 100
kind_of (value.Char x) = 99
kind_of (value.Color x) = 114
kind_of (value.Midi x) = 109
kind_of (value.Bool truth) = cond truth 84 70
kind_of value.Nil = 78
kind_of value.Inf = 73
kind_of value.Array = array_kind

-- `look`: the kind
abbrev pub looked_told : Looked → Told
looked_told (Ok v) = told_answer 0 (kind_of v) 0
looked_told (Err r) = told_number r

-- a cue as it is told: 11 also where its records have no room in 24 bits, as in no index that was checked
abbrev pub cue_told_as : CueAnswer → CueAnswer
cue_told_as (Ok cue) = cond (ltb cue.records 0x100_0000) (answers.At cue.offset cue.size cue.records) (Err BadTable)
cue_told_as (Err r) = Err r

-- a cue looked up: the records of its table, and its length without the prefix
abbrev pub cue_told : CueAnswer → Told
cue_told (Ok cue) = told_answer cue.records cue.size 0
cue_told (Err r) = told_number r

-- ---- forms of their own

-- beside a cue all 64 bits are the offset of its prefix, and 0 where there is none
abbrev pub cue_beside : CueAnswer → ℕ
cue_beside (Ok cue) = cue.offset
cue_beside (Err r) = 0

-- "25 index differs; beside it one more number": 25 in bits 56 to 63, and the record's number below it
abbrev pub differs_number : ℕ → ℕ
differs_number k = index_differs * 0x100_0000_0000_0000 + k

-- a check of an index: the number of the next record in bits 0 to 55, or 25 with that of the first that differs
abbrev pub checked_number : Checked → ℕ
checked_number (Ok k) = k
checked_number (Err differs) = differs_number differs.at

-- `pad`: the position, which may have all 64 bits, or 14
abbrev pub padded_number : Padded → ℕ
padded_number (Ok pos) = pos
padded_number (Err r) = number_of r
