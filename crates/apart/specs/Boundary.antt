-- Demand 1 at the C boundary: the functions of include/osc.h, each as one contract.
use Rattle.std.specs.Prelude.{◌≡◌, true, cond, List, [], ◌∷◌, ℕ, ◌+◌, ◌*◌, ◌%◌, ◌^◌, ◌≤◌, ◌<◌, ltb, length, get_or, ℤ}
use Rattle.clock.specs.Clock.{tag_for, unix_for}
use Rattle.clock.specs.Shift.{shifted, difference_of, bits_of}
use Rattle.clock.specs.declared.Rule.{Rule}
use Rattle.refusal.specs.declared.Refusal.TheVariants.{TooLong}
use Rattle.wire.specs.Limits.{longest}
use Rattle.wire.specs.Pad.{pad_of}
use Rattle.node.specs.Tags.{among}
use Rattle.values.specs.Look.{look_at, started_at}
use Rattle.edition.specs.declared.Edition.TheVariants.{Standard}
use Rattle.edition.specs.declared.Framing.{Framing}
use Rattle.edition.specs.declared.Framing.TheVariants.{TcpVec}
use Rattle.framing.specs.Framing.{rule_of}
use Rattle.answering.specs.Limits.{order_of, stops_by, Decodes}
use Rattle.portions.specs.Portions.{Steps}
use Rattle.cues.specs.Cues.{Indexes, cue_in}
use Rattle.cues.specs.Checks.{compared, numbered_from}
use Rattle.cues.specs.Refusals.{cue_order}
use Rattle.encoder.specs.Outcome.{Outcome, encode_order, string_order, Encodes, EncodesString}
use Rattle.results.specs.Results.{Encoded}
use Rattle.told.specs.Told.{answer_of, refusal_in, low_in, offset_in, frame_in}
use Rattle.told.specs.Answers.{told_number, decoded_told, portion_told, indexed_told, encoded_told, started_told, looked_told, cue_told_as, cue_told}
use Rattle.told.specs.Answers.{cue_beside, differs_number, checked_number, padded_number}
use Rattle.told.specs.Times.{tagged_number, tagged_beside, unix_number, unix_beside}
use Rattle.shifts.specs.Call.{shifted_told, ShiftsTold}
use Rattle.apart.specs.CContracts.{CContract, in_high_bits, below56, nothing, never, numbers, tells, lends, HasOffset, CEnds, CDemand}

-- ---- how a call stops

-- how a list of n bytes is told that stops at a refused frame: the number is one of such a frame; the bytes left have its prefix, and are
-- all from there on; a field's offset stands only beside 17 to 21
pub record StopTold (framing : Framing) (n told more : ℕ) : Type 0 where
  pub listed : among (refusal_in told) (stops_by framing) ≡ true
  pub left : 4 ≤ low_in told
  pub from : frame_in more + low_in told ≡ n
  pub field : (HasOffset (refusal_in told) → ⊥) → offset_in more ≡ 0

-- how a step over n bytes is told that a refused frame ends: the number of the frame's refusal stands beside it, and none of the call's in
-- it; the frame's prefix is there after the bytes used; a field's offset stands only beside 17 to 21
pub record EndTold (n told more : ℕ) : Type 0 where
  pub listed : among (frame_in more) (stops_by (TcpVec Standard)) ≡ true
  pub accepted : told < 0x100_0000_0000_0000
  pub used : low_in told + 4 ≤ n
  pub field : (HasOffset (frame_in more) → ⊥) → offset_in more ≡ 0

-- how a step over n bytes is told at which a refused frame ends an index: as that of a stream, by the refusals of one frame, and with no
-- dirty padding; the field of 17 to 21 begins in the call's bytes from that frame on, or right after them
pub record IndexEndTold (n told more : ℕ) : Type 0 where
  pub listed : among (frame_in more) cue_order ≡ true
  pub clean : low_in more ≡ 0
  pub accepted : told < 0x100_0000_0000_0000
  pub used : low_in told + 4 ≤ n
  pub field : (HasOffset (frame_in more) → ⊥) → offset_in more ≡ 0
  pub place : HasOffset (frame_in more) → (low_in told ≤ offset_in more) × (offset_in more ≤ n)

-- how an index is told that differs, where the first record that was compared is number `from`: by 25, and a record's number below it
pub record DiffersTold (from told more : ℕ) : Type 0 where
  pub place : ℕ
  pub number : told ≡ differs_number place
  pub low : place < 0x100_0000_0000_0000
  pub here : from ≤ place
  pub alone : more ≡ 0

-- ---- the functions

-- numbers and lengths from 2^55 on are refused, so that a record's number has its bits
abbrev pub most_checked : ℕ
most_checked = 0x80_0000_0000_0000

-- what `osc_index_check_step` tells: 1, or the number of the check's answer, whose first record is number n
abbrev pub check_number : List ℕ → List ℕ → ℕ → ℕ
check_number fresh given n =
    cond (ltb n most_checked)
    (cond (ltb (length fresh) most_checked)
    (cond (ltb (length given) most_checked) (checked_number (numbered_from n (compared fresh given))) (answer_of (told_number TooLong)))
    (answer_of (told_number TooLong)))
    (answer_of (told_number TooLong))

-- an encoder's contract, of its answer and the output afterwards
abbrev pub Leaves : (Outcome → Type 0) → Encoded → List ℕ → Type 0
Leaves Outcomes answer out = Outcomes (record { answer = answer; out = out })

-- an encoder: it tells up to 65,535 bytes, has no `more` and does not stop
abbrev pub encodes_to : (Outcome → Type 0) → List ℕ → List ℕ → CContract
encodes_to Outcomes out refusals = lends encoded_told (Leaves Outcomes) out refusals (λ told. told ≤ longest) nothing never

-- a step's answer: it tells no more bytes used than it was given
abbrev pub used_within : List ℕ → ℕ → Type 0
used_within bytes told = below56 told × (low_in told ≤ length bytes)

-- a call from C and what it is handed: the five decoders by their framing, the step over a stream of edition 2, the two steps and the
-- lookup of a cue index, the three encoders of packets by their frame, the conversions by their rule; `osc_start` and `osc_cue` tell bytes
-- as they stand, so that they are bytes is said; and so that a tag has 64 bits. `osc_version` is handed nothing, and stands here for a
-- library of any version, whose number has 48 bits
pub data CCall : Type 0 where
  osc_decode : (framing : Framing) (msg table : List ℕ) (depth : ℕ) → CCall
  osc_read_portion : (bytes table : List ℕ) (depth : ℕ) → CCall
  osc_index_step : (bytes : List ℕ) (base : ℕ) (out : List ℕ) → CCall
  osc_index_check_step : (fresh given : List ℕ) (from : ℕ) → CCall
  osc_cue : (index : List ℕ) (bytes : (i : ℕ) → get_or index i 0 < 256) (k : ℕ) → CCall
  osc_encode : (frame : ℕ → List ℕ → List ℕ) (table : List ℕ) (count : ℕ) (source out : List ℕ) → CCall
  osc_encode_string : (text out : List ℕ) → CCall
  osc_shift_table : (table : List ℕ) (count by : ℕ) → CCall
  osc_pad : (pos : ℕ) → CCall
  osc_look : (table : List ℕ) (index : ℕ) → CCall
  osc_start : (table : List ℕ) (bytes : (i : ℕ) → get_or table i 0 < 256) (index : ℕ) → CCall
  osc_version : (version : ℕ) (bits : version < 0x1_0000_0000_0000) → CCall
  osc_tag : (rule : Rule) (seconds : ℤ) (nanos : ℕ) → CCall
  osc_unix : (rule : Rule) (tag : ℕ) (fits : tag < 2 ^ 64) → CCall
  osc_shift : (tag by : ℕ) → CCall
  osc_difference : (tag old : ℕ) → CCall

-- its contract. Beside an answer stands dirty padding, 1 where a frame of an index waits, or all of a cue's offset; `osc_pad`
-- tells a multiple of 4, or 14 as it is, since a position may have bits 56 to 63. What a conversion writes through its pointer stands
-- beside its number; a signed number is told by its 64 bits
abbrev pub c_contract_of : CCall → CContract
c_contract_of (osc_decode framing msg table depth) =
    lends (decoded_told (length msg)) (Decodes (rule_of framing depth) msg table depth) table (order_of framing) below56
    (λ more. more ≡ low_in more) (StopTold framing (length msg))
c_contract_of (osc_read_portion bytes table depth) =
    lends portion_told (Steps bytes table depth) table (order_of (TcpVec Standard)) (used_within bytes) (λ more. more ≡ low_in more)
    (EndTold (length bytes))
c_contract_of (osc_index_step bytes base out) =
    lends indexed_told (Indexes bytes base out) out (1 ∷ 12 ∷ []) (used_within bytes) (λ more. more ≤ 1) (IndexEndTold (length bytes))
c_contract_of (osc_index_check_step fresh given from) =
    numbers (check_number fresh given from) 0 (1 ∷ []) in_high_bits (λ told. below56 told × (from ≤ told)) nothing (DiffersTold from)
c_contract_of (osc_cue index bytes k) =
    numbers (answer_of (cue_told (cue_told_as (cue_in index k)))) (cue_beside (cue_told_as (cue_in index k))) (11 ∷ []) in_high_bits below56
    (λ more. more < 2 ^ 64) never
c_contract_of (osc_encode frame table count source out) = encodes_to (Encodes frame table count source out) out encode_order
c_contract_of (osc_encode_string text out) = encodes_to (EncodesString text out) out string_order
c_contract_of (osc_shift_table table count by) =
    lends shifted_told (ShiftsTold table count by) table (11 ∷ []) (λ told. told < 0x1_0000_0000) nothing never
c_contract_of (osc_pad pos) = numbers (padded_number (pad_of pos)) 0 (14 ∷ []) (λ n. n) (λ told. told % 4 ≡ 0) nothing never
c_contract_of (osc_look table index) = tells (looked_told (look_at table index)) (11 ∷ []) 256
c_contract_of (osc_start table bytes index) = tells (started_told (started_at table index)) (11 ∷ []) 0x1_0000_0000
c_contract_of (osc_version version bits) = numbers version 0 [] in_high_bits (λ told. told < 0x1_0000_0000_0000) nothing never
c_contract_of (osc_tag rule seconds nanos) =
    numbers (tagged_number (tag_for rule seconds nanos)) (tagged_beside (tag_for rule seconds nanos)) (26 ∷ 27 ∷ 28 ∷ []) in_high_bits
    (λ told. told ≡ 0) (λ more. more < 2 ^ 64) never
c_contract_of (osc_unix rule tag fits) =
    numbers (unix_number (unix_for rule tag)) (bits_of (unix_beside (unix_for rule tag))) (28 ∷ []) in_high_bits (λ told. told < 1_000_000_000)
    (λ more. more < 2 ^ 63) never
c_contract_of (osc_shift tag by) = numbers (shifted tag by) 0 [] in_high_bits (λ told. told < 2 ^ 64) nothing never
c_contract_of (osc_difference tag old) = numbers (bits_of (difference_of tag old)) 0 [] in_high_bits (λ told. told < 2 ^ 64) nothing never

-- what its number, `more` and the lent bytes afterwards are held to
abbrev pub CMeets : CCall → ℕ → ℕ → List ℕ → Type 0
CMeets c = (c_contract_of c).Meets

-- ---- demand 1 for all of them

-- every one meets it
abbrev pub EveryFunction : Type 0
EveryFunction = (c : CCall) → CDemand (c_contract_of c)

-- a contract settles the number that is told, what is told beside it and every lent byte: no second outcome meets it
abbrev pub CSettled : Type 0
CSettled =
    (c : CCall) (told told' more more' : ℕ) (after after' : List ℕ) → CMeets c told more after → CMeets c told' more' after'
    → (told ≡ told') × (more ≡ more') × (after ≡ after')

-- whatever meets the contract ends as listed
abbrev pub EndsListed : Type 0
EndsListed = (c : CCall) (told more : ℕ) (after : List ℕ) → CMeets c told more after → CEnds (c_contract_of c) told more after

-- and no refusal of a call is told as an answer of it is
abbrev pub ToldApart : Type 0
ToldApart = (c : CCall) (n : ℕ) → among n (c_contract_of c).refusals ≡ true → (c_contract_of c).Answered ((c_contract_of c).refused n) → ⊥

-- nor is a list that stops told as an answer or as a refusal is; no other decoder does
abbrev pub StopsApart : Type 0
StopsApart =
    (framing : Framing) (n told more : ℕ) → StopTold framing n told more → (below56 told → ⊥) × ((m : ℕ) → told ≡ in_high_bits m → ⊥)

-- nor is a step that a refused frame ends: beside an answer stands no number of a refusal, and none of the call's stands in it
abbrev pub EndsApart : Type 0
EndsApart = (n told more : ℕ) → EndTold n told more → (more ≡ low_in more → ⊥) × ((m : ℕ) → 1 ≤ m → told ≡ in_high_bits m → ⊥)

-- nor is a step at which a refused frame ends an index: beside an answer stands 1 at most
abbrev pub IndexEndsApart : Type 0
IndexEndsApart = (n told more : ℕ) → IndexEndTold n told more → (more ≤ 1 → ⊥) × ((m : ℕ) → 1 ≤ m → told ≡ in_high_bits m → ⊥)

-- nor an index that differs: 25 is no part of an answer, nor a refusal of the call
abbrev pub DiffersApart : Type 0
DiffersApart =
    (from told more : ℕ) → DiffersTold from told more
    → (below56 told → ⊥) × ((m : ℕ) → among m (1 ∷ []) ≡ true → told ≡ in_high_bits m → ⊥)
