-- Which answer the numbers tell that C is given: each is read back from them.
use Rattle.std.specs.Prelude.{◌≡◌, true, List, ℕ, ◌+◌, ◌^◌, ◌≤◌, ◌<◌, length, get_or, ℤ, Err, Ok}
use Rattle.clock.specs.Clock.{clock_number, tag_for, unix_for}
use Rattle.clock.specs.Shift.{signed_of, difference_of}
use Rattle.clock.specs.declared.Rule.{Rule}
use Rattle.clock.specs.declared.OutOfRange.{OutOfRange}
use Rattle.clock.specs.declared.OutOfRange.TheVariants.{TooEarly}
use Rattle.clock.specs.Results.{Tagged, Unix}
use Rattle.results.specs.Results.{CueAnswer, DecodeAnswer, Encoded, IndexAnswer, PortionAnswer}
use Rattle.clock.specs.Results as unix
use Rattle.results.specs.Results as results
use Rattle.refusal.specs.Refusal.{number_of, offset_of, moved_refusal}
use Rattle.refusal.specs.declared.Refusal.{Refusal}
use Rattle.refusal.specs.declared.Refusal.TheVariants.{BadTable}
use Rattle.wire.specs.Pad.{pad_of}
use Rattle.node.specs.Records.{capacity}
use Rattle.node.specs.Tags.{among}
use Rattle.edition.specs.declared.Edition.{Edition}
use Rattle.edition.specs.declared.Edition.TheVariants.{Standard}
use Rattle.edition.specs.declared.Framing.{Framing}
use Rattle.edition.specs.declared.Framing.TheVariants.{Udp, Tcp, TcpVec}
use Rattle.framing.specs.Framing.{rule_of}
use Rattle.answering.specs.Limits.{order_of, stops_by, waits_by, decoded}
use Rattle.cues.specs.Cues.{cue_in}
use Rattle.results.specs.declared.End.TheVariants as end
use Rattle.told.specs.Told.{unpack, refusal_in, count_in, low_in, offset_in, frame_in}
use Rattle.told.specs.Answers.{decoded_told, portion_told, encoded_told, padded_number, cue_told_as}
use Rattle.apart.specs.CContracts.{HasOffset}
use Rattle.apart.specs.Boundary.{osc_decode, osc_read_portion, osc_index_step, osc_cue, osc_encode, osc_encode_string, CMeets}
use Rattle.apart.specs.Boundary.{osc_tag, osc_unix, osc_difference}

-- ---- the parts of an answer's numbers are what was answered

-- of a decoder's
abbrev pub DecodedApart : Type 0
DecodedApart =
    (framing : Framing) (msg table : List ℕ) (depth told more : ℕ) (after : List ℕ)
    → (t : CMeets (osc_decode framing msg table depth) told more after) → unpack told more ≡ decoded_told (length msg) t.answer

-- of a step's
abbrev pub PortionApart : Type 0
PortionApart =
    (bytes table : List ℕ) (depth told more : ℕ) (after : List ℕ) → (t : CMeets (osc_read_portion bytes table depth) told more after)
    → unpack told more ≡ portion_told t.answer

-- of an encoder's
abbrev pub EncodedApart : Type 0
EncodedApart =
    (frame : ℕ → List ℕ → List ℕ) (table : List ℕ) (count : ℕ) (source out : List ℕ) (told more : ℕ) (after : List ℕ)
    → (t : CMeets (osc_encode frame table count source out) told more after) → unpack told more ≡ encoded_told t.answer

abbrev pub StringApart : Type 0
StringApart =
    (text out : List ℕ) (told more : ℕ) (after : List ℕ) → (t : CMeets (osc_encode_string text out) told more after)
    → unpack told more ≡ encoded_told t.answer

-- ---- which answer a decoder's number tells

-- the fewest records of an answer: a packet has one at least, and a list may have no packet (rule 7: "no records if Waiting comes first")
abbrev pub fewest : Framing → ℕ
fewest Udp = 1
fewest (Tcp edition) = 1
fewest (TcpVec edition) = 0

-- the answers that a decoder may give to n bytes: `decode_tcp` alone may wait; where a list stops, the bytes left have the frame's prefix,
-- and are all from there on
abbrev pub Answerable : Framing → ℕ → DecodeAnswer → Type 0
Answerable framing n (results.Packets count left dirty) = fewest framing ≤ count
Answerable framing n results.Waiting = waits_by framing ≡ true
Answerable framing n (Err r) = among (number_of r) (order_of framing) ≡ true
Answerable framing n (results.Stopped count left dirty r frame) =
    (among (number_of r) (stops_by framing) ≡ true) × (4 ≤ left) × (frame + left ≡ n)

-- a decoder does not tell two answers by one number and what is told beside it
abbrev pub ToldOnce : Type 0
ToldOnce =
    (framing : Framing) (msg msg' table table' : List ℕ) (depth depth' told more : ℕ) (after after' : List ℕ)
    → (t : CMeets (osc_decode framing msg table depth) told more after)
    → (t' : CMeets (osc_decode framing msg' table' depth') told more after') → t.answer ≡ t'.answer

-- nor two refusals by one number alone, but 17 to 21; of a list of edition 2 those with no bytes left, since where it stops its dirty
-- padding is told beside the number
abbrev pub ToldAlone : Type 0
ToldAlone =
    (framing : Framing) (msg msg' table table' : List ℕ) (depth depth' told more more' : ℕ) (after after' : List ℕ)
    → 1 ≤ refusal_in told → (HasOffset (refusal_in told) → ⊥) → (framing ≡ TcpVec Standard → low_in told ≡ 0)
    → (t : CMeets (osc_decode framing msg table depth) told more after)
    → (t' : CMeets (osc_decode framing msg' table' depth') told more' after') → t.answer ≡ t'.answer

-- what it is that `osc_decode_tcp` or `osc_decode_tcp2` answered Waiting: the whole input is left, nothing is told beside it, and the
-- table is as it was
pub record WaitingTold (edition : Edition) (msg table : List ℕ) (limit told more : ℕ) (after : List ℕ) : Type 0 where
  pub answer : decoded (rule_of (Tcp edition) limit) (capacity table) limit msg ≡ results.Waiting
  pub whole : told ≡ length msg
  pub beside : more ≡ 0
  pub left : after ≡ table

-- count 0 without a refusal is Waiting, where one of them tells it
abbrev pub NoneWaits : Type 0
NoneWaits =
    (edition : Edition) (msg table : List ℕ) (limit told more : ℕ) (after : List ℕ)
    → CMeets (osc_decode (Tcp edition) msg table limit) told more after
    → refusal_in told ≡ 0 → count_in told ≡ 0 → WaitingTold edition msg table limit told more after

-- ---- what a refusal's number tells: with no bytes left it is the call's, and with some a frame's

-- the refusal that both numbers name, by its number and the offset of its field
pub record Named (r : Refusal) (told more : ℕ) : Type 0 where
  pub number : number_of r ≡ refusal_in told
  pub offset : offset_of r ≡ offset_in more

-- the answer, read back from both numbers
pub data ReadBack (answer : DecodeAnswer) (told more : ℕ) : Type 0 where
  of_call : (r : Refusal) → Named r told more → low_in told ≡ 0 → answer ≡ Err r → ReadBack answer told more
  of_frame : (r : Refusal) → Named r told more → 4 ≤ low_in told
      → answer ≡ results.Stopped (count_in told) (low_in told) (low_in more) r (frame_in more) → ReadBack answer told more

-- so is every answer of a decoder with a refusal's number: a list that stops is told from a refused call by the 64 bits alone
abbrev pub RefusalTold : Type 0
RefusalTold =
    (framing : Framing) (msg table : List ℕ) (depth told more : ℕ) (after : List ℕ) → 1 ≤ refusal_in told
    → (t : CMeets (osc_decode framing msg table depth) told more after) → ReadBack t.answer told more

-- ---- which answer a step tells: one that reads on, one that a refused frame ends and a refused call are told apart

-- a step's answer, read back from both numbers: `osc_refusal` is not 0 exactly if the call is refused, and `osc_ended` is not 0 exactly if
-- a frame is
pub data StepBack (answer : PortionAnswer) (told more : ℕ) : Type 0 where
  reads_on : refusal_in told ≡ 0 → frame_in more ≡ 0 → answer ≡ results.Read (count_in told) (low_in told) (low_in more)
      → StepBack answer told more
  ended_by : (r : Refusal) → refusal_in told ≡ 0 → 1 ≤ frame_in more → number_of r ≡ frame_in more → offset_of r ≡ offset_in more
      → answer ≡ results.Ended (count_in told) (low_in told) (low_in more) r → StepBack answer told more
  refused_by : (r : Refusal) → 1 ≤ refusal_in told → frame_in more ≡ 0 → number_of r ≡ refusal_in told → answer ≡ Err r
      → StepBack answer told more

-- so is every answer of a step
abbrev pub StepTold : Type 0
StepTold =
    (bytes table : List ℕ) (depth told more : ℕ) (after : List ℕ) → (t : CMeets (osc_read_portion bytes table depth) told more after)
    → StepBack t.answer told more

-- and a step does not tell two answers by one number and what is told beside it
abbrev pub StepOnce : Type 0
StepOnce =
    (bytes bytes' table table' : List ℕ) (depth depth' told more : ℕ) (after after' : List ℕ)
    → (t : CMeets (osc_read_portion bytes table depth) told more after)
    → (t' : CMeets (osc_read_portion bytes' table' depth') told more after') → t.answer ≡ t'.answer

-- ---- a cue index (Ticket 5)

-- the answer of a step that writes an index, read back from both numbers: `osc_refusal` is not 0 exactly if the call is refused,
-- `osc_ended` is not 0 exactly if a frame is, and `osc_waits` is 1 exactly if one is not all there; `osc_field` counts from the call's
-- first byte, and so by the bytes used more than the refusal does
pub data IndexBack (answer : IndexAnswer) (told more : ℕ) : Type 0 where
  all_used : refusal_in told ≡ 0 → more ≡ 0 → answer ≡ results.Written (count_in told) (low_in told) end.Whole → IndexBack answer told more
  frame_waits : refusal_in told ≡ 0 → more ≡ 1 → answer ≡ results.Written (count_in told) (low_in told) end.Waiting
      → IndexBack answer told more
  frame_ends : (r : Refusal) → refusal_in told ≡ 0 → 1 ≤ frame_in more → number_of r ≡ frame_in more
      → offset_of (moved_refusal (low_in told) r) ≡ offset_in more
      → answer ≡ results.Written (count_in told) (low_in told) (end.Refused r) → IndexBack answer told more
  call_ends : (r : Refusal) → 1 ≤ refusal_in told → number_of r ≡ refusal_in told → more ≡ 0 → answer ≡ Err r
      → IndexBack answer told more

-- so is every answer of such a step
abbrev pub IndexTold : Type 0
IndexTold =
    (bytes : List ℕ) (base : ℕ) (out : List ℕ) (told more : ℕ) (after : List ℕ)
    → (t : CMeets (osc_index_step bytes base out) told more after) → IndexBack t.answer told more

-- and a step does not tell two answers by one number and what is told beside it: those that differ in a field's offset alone are two
abbrev pub IndexOnce : Type 0
IndexOnce =
    (bytes bytes' : List ℕ) (base base' : ℕ) (out out' : List ℕ) (told more : ℕ) (after after' : List ℕ)
    → (t : CMeets (osc_index_step bytes base out) told more after)
    → (t' : CMeets (osc_index_step bytes' base' out') told more after') → t.answer ≡ t'.answer

-- a cue, read back from both numbers: `osc_refusal` is not 0 exactly if there is none
pub data CueBack (answer : CueAnswer) (told offset : ℕ) : Type 0 where
  there : refusal_in told ≡ 0 → answer ≡ results.At offset (low_in told) (count_in told) → CueBack answer told offset
  nowhere : refusal_in told ≡ 11 → offset ≡ 0 → answer ≡ Err BadTable → CueBack answer told offset

-- so is every cue of an index of bytes
abbrev pub CueTold : Type 0
CueTold =
    (index : List ℕ) (bytes : (i : ℕ) → get_or index i 0 < 256) (k told offset : ℕ) (after : List ℕ)
    → CMeets (osc_cue index bytes k) told offset after → CueBack (cue_told_as (cue_in index k)) told offset

-- ---- clock conversion (Ticket 7)

-- a tag, read back from the number and what was written: `osc_refusal` is not 0 exactly if there is none
pub data TagBack (answer : Tagged) (told tag : ℕ) : Type 0 where
  tag_there : refusal_in told ≡ 0 → answer ≡ Ok tag → TagBack answer told tag
  no_tag : (r : OutOfRange) → refusal_in told ≡ clock_number r → tag ≡ 0 → answer ≡ Err r → TagBack answer told tag

-- so is every tag
abbrev pub TagTold : Type 0
TagTold =
    (rule : Rule) (seconds : ℤ) (nanos told tag : ℕ) (after : List ℕ) → CMeets (osc_tag rule seconds nanos) told tag after
    → TagBack (tag_for rule seconds nanos) told tag

-- a Unix time, read back from the number and the 64 bits that were written
pub data UnixBack (answer : Unix) (told seconds : ℕ) : Type 0 where
  time_there : refusal_in told ≡ 0 → answer ≡ unix.At (signed_of seconds) (low_in told) → UnixBack answer told seconds
  no_time : refusal_in told ≡ 28 → seconds ≡ 0 → answer ≡ Err TooEarly → UnixBack answer told seconds

-- so is every time of a tag
abbrev pub UnixTold : Type 0
UnixTold =
    (rule : Rule) (tag : ℕ) (fits : tag < 2 ^ 64) (told seconds : ℕ) (after : List ℕ) → CMeets (osc_unix rule tag fits) told seconds after
    → UnixBack (unix_for rule tag) told seconds

-- a difference is its 64 bits, read as signed
abbrev pub DifferenceTold : Type 0
DifferenceTold =
    (tag old told more : ℕ) (after : List ℕ) → CMeets (osc_difference tag old) told more after → signed_of told ≡ difference_of tag old

-- ---- an encoder, and `osc_pad`

-- two answers of an encoder that have the parts of one number are one; its refusals (`encode_order`, `string_order`) have no offset
abbrev pub EncodedOnce : Type 0
EncodedOnce =
    (told more : ℕ) (a b : Encoded) → (HasOffset (refusal_in told) → ⊥) → unpack told more ≡ encoded_told a
    → unpack told more ≡ encoded_told b → a ≡ b

-- `osc_pad` does not tell two answers by one number: 14 is no multiple of 4
abbrev pub PadOnce : Type 0
PadOnce = (x y : ℕ) → padded_number (pad_of x) ≡ padded_number (pad_of y) → pad_of x ≡ pad_of y
