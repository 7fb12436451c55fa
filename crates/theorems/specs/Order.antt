-- The order's three demands, a sentence to a row. A row is its words, the edits that make it false, and its statements as types;
-- proofs/Order.antt names the theorem that has each type. .ci/table says how a row is written.
use Rattle.std.specs.Prelude.{◌≡◌, Bool, List, ℕ, ◌≤◌}
use Rattle.refusal.specs.Refusal.{number_of, offset_of}
use Rattle.refusal.specs.declared.Refusal.{Refusal}
use Rattle.edition.specs.declared.Edition.{Edition}
use Rattle.edition.specs.declared.Edition.TheVariants.{Standard}
use Rattle.edition.specs.declared.Framing.{Framing}
use Rattle.edition.specs.declared.Framing.TheVariants.{Tcp, TcpVec}
use Rattle.utf8.specs.Utf8.{Octets, Decides}
use Rattle.utf8.specs.Derive.{utf8}
use Rattle.node.specs.Forest.{Forest}
use Rattle.node.specs.declared.record.Item.{Item}
use Rattle.framing.specs.Framing.{udp, tcp, tcp_vec}
use Rattle.encoder.specs.Outcome.{Outcome, Encodes, unframed, framed_by, string_outcome, InFours}
use Rattle.osc10.specs.Osc10.{Packet, Allowed, StandsFor}
use Rattle.osc10.specs.Strict.{Strict, StrictTree}
use Rattle.standards.specs.Standards.{Osc10Accepted, Osc10Seen, FrameAccepted, FrameSeen}
use Rattle.standards.specs.Standards.{Osc10Written, StrictWritten, FrameWritten, StrictFrameWritten}
use Rattle.standards.specs.Trip.{RoundTrip}
use Rattle.contract.specs.Contract.{Settled, Met, AnswersListed, NothingChanged}
use Rattle.calls.specs.Calls.{Every}
use Rattle.calls.specs.Demands.{MoreRoom, MoreBytes, PacketsStay, FaultsStay, RecordsHold}

-- Demand 1: any bytes, any table and any limits may be handed to any public entry point
pub record FirstDemand : Type 1 where
  -- Every public call takes any bytes, any table and any limits: it requires nothing, and its contract can always be met.
  -- definitions: calls/Call
  -- code: decoder/decode, portions/read_portion, cues/index_step, cues/compare, cues/cue_at, encoder/encode, encoder/encode_tcp
  -- code: encoder/encode_string, values/look, values/start_of, values/text_of, wire/pad, clock/tag_of, clock/unix_of, clock/shift
  -- code: clock/difference, shifts/shift_table
  -- edits: wire/pad_wraps, table/end_past_the_count, values/record_past_the_end
  pub met : Every Met
  -- Each call ends in an answer of documents 01 and 02, or in one of the refusals that they list for it. A list of edition 2 and a step
  -- over a stream or a recording may also stop at a refused frame, with a number that is listed for it (Tickets 1, 14 and 5). The check of
  -- an index may answer 25, with the number of a record beside it (Ticket 5). 26 to 28 are a conversion's (Ticket 7).
  -- edits: calls/string_never_gives_4, calls/ten_never_ends_an_index, calls/tag_never_too_early
  pub listed : Every AnswersListed
  -- A refusal gives only its number. 17 to 21 alone have an offset beside it (Ticket 2).
  -- edits: refusal/two_of_one_number, theorems/seventeen_tells_alone
  pub number_tells : (r s : Refusal) → number_of r ≡ number_of s → offset_of r ≡ offset_of s → r ≡ s
  pub number_alone : (r s : Refusal) → number_of r ≡ number_of s → number_of r ≤ 16 → r ≡ s
  -- A refusal changes no byte of any lent buffer.
  -- edits: contract/a_result_changes_nothing, contract/a_refusal_changes_bytes, decoder/refusal_after_a_write
  pub nothing_changed : Every NothingChanged
  -- These theorems speak of the calls themselves: for each of them there is a function that only calls it, and whose contract is
  -- the statement's own, `Meets`.
  -- definitions: calls/Meets
  -- code: demands/decode_udp, demands/decode_tcp, demands/decode_tcp_vec, demands/read_portion, demands/index_step, demands/compare
  -- code: demands/cue_at, demands/encode, demands/encode_tcp, demands/encode_string, demands/pad, demands/look, demands/start_of
  -- code: demands/text_of, demands/tag_of, demands/unix_of, demands/shift, demands/difference, demands/shift_table
  -- edits: demands/stream_met_as_a_packet, demands/index_without_its_base

  -- A contract settles the answer and every lent byte: two endings that meet it are the same.
  -- edits: calls/table_left_open
  pub settled : Every Settled

-- Demand 2: what the crate gives, and what OSC 1.0 and RFC 3629 define
pub record SecondDemand : Type 0 where
  -- The port decodes and encodes as rosc 0.11.4 does. This is tested and not proved: the definitions follow rosc's source, the comparison
  -- runs both, and `replay_all` compares with recorded answers.
  -- code: recorded_runs/replay_all
  -- edits: recorded_runs/later_bytes_unseen, recorded_runs/number_a_byte_early

  -- Every packet that OSC 1.0 allows is accepted, as the packet that it is.
  -- edits: osc10/accepted_without_null, osc10/accepted_blob_with_padding, osc10/accepted_symbol, osc10/accepted_surrogate
  -- edits: osc10/arrays_add_no_depth
  pub osc10_accepted : Osc10Accepted
  -- What is decoded is seen as OSC 1.0 says: `look` at each record, and `text_of`, give the value of each address, time tag and argument.
  -- edits: standards/seen_low_half_first
  pub osc10_seen : Osc10Seen
  pub frame_seen : FrameSeen
  -- What `encode` writes is a packet of the wider grammar `Allowed`, the one that the table's tree is, if every address begins with '/' and
  -- no text or address holds a NUL.
  -- edits: standards/written_over_the_table, writers/comma_missing
  pub osc10_written : Osc10Written
  -- It is a packet of OSC 1.0 itself, `Strict`, if the table has only what OSC 1.0 has: addresses of printable ASCII without the reserved
  -- characters, ASCII text and `c`, and no enclosed bundle that is earlier. Every `Strict` packet is `Allowed`, and the trees of `Strict`
  -- packets are exactly such trees.
  -- edits: osc10/strict_with_any_time
  pub strict_written : StrictWritten
  pub strict_allowed : (packet : Packet) → Strict packet → Allowed packet
  pub strict_packet : (source : List ℕ) (packet : Packet) (item : Item) (inside : Forest) → Allowed packet
      → StandsFor source packet item inside → StrictTree source item inside → Strict packet
  pub strict_tree : (source : List ℕ) (packet : Packet) (item : Item) (inside : Forest) → StandsFor source packet item inside
      → Strict packet → StrictTree source item inside
  -- On a stream, `encode_tcp` of a message writes its length and such a packet. `decode_tcp` of the frame of any allowed packet, as the
  -- whole input, gives that packet.
  -- edits: standards/frame_counts_itself
  pub frame_written : FrameWritten
  pub strict_frame_written : StrictFrameWritten
  pub frame_accepted : FrameAccepted
  -- Text is accepted exactly if RFC 3629's grammar has it. `is_utf8` answers true exactly then, and no other answer meets its contract.
  -- definitions: utf8/Octets, utf8/Decides
  -- code: utf8/is_utf8
  -- edits: utf8/surrogates_read, utf8/overlong_let_in, utf8/surrogates_let_in, utf8/beyond_unicode_let_in, utf8/cut_accepted
  pub octets : (s : List ℕ) → Decides (utf8 s) (Octets s)
  pub is_utf8_only : (s : List ℕ) (a b : Bool) → Decides a (Octets s) → Decides b (Octets s) → a ≡ b
  -- What is encoded has a multiple of four bytes.
  -- edits: encoder/written_in_eights, standards/trip_in_eights, strings/one_nul_too_few
  pub encode_fours : (table : List ℕ) (count : ℕ) (source out : List ℕ) (r : Outcome) → Encodes unframed table count source out r
      → InFours r
  pub encode_tcp_fours : (edition : Edition) (table : List ℕ) (count : ℕ) (source out : List ℕ) (r : Outcome)
      → Encodes (framed_by edition) table count source out r → InFours r
  pub encode_string_fours : (text out : List ℕ) → InFours (string_outcome text out)
  -- What is encoded decodes to the same tree, with nothing left over. The same is the contract of a function that encodes and decodes over
  -- lent buffers.
  -- definitions: demands/Returns
  -- code: demands/there_and_back
  -- edits: standards/trip_65_deep, osc10/trip_of_any_address, osc10/trip_of_text_with_nul, standards/trip_keeps_offsets
  -- edits: demands/comes_back_with_bytes_left
  pub round_trip : RoundTrip
  -- A float comes back bit for bit: both of its numbers are the same (`SameItem`), and they are its bits (`value_of`).
  -- definitions: standards/SameItem, values/value_of
  -- edits: argument/high_half_twice, values/nan_is_infinite
  pub floats_trip : RoundTrip

-- Demand 3: more room never takes back an answer, and more bytes never a packet
pub record ThirdDemand : Type 0 where
  -- More room never takes back an answer. (A depth limit over 64 is still refused with 13.)
  -- edits: calls/room_with_a_lower_limit, calls/room_with_a_limit_of_65
  pub more_room : MoreRoom
  -- In edition 2, with more bytes and a depth limit no lower, every record that was given stays in its place, unless 1, 10 or 13 refuses
  -- the call. The number of dirty padding bytes does not fall, and of one frame it stays, with the number of records. More room is as
  -- above, where a list that stops with 9 counts as 9 (`NotFull`).
  -- definitions: calls/NotFull, calls/Stay
  -- edits: calls/stays_at_a_lower_limit, calls/nine_of_a_frame_stays, calls/frames_dirt_falls
  pub frame_stays : PacketsStay (Tcp Standard)
  pub list_stays : PacketsStay (TcpVec Standard)
  -- More bytes never take back a packet.
  -- edits: calls/bundle_loses_elements, calls/bundle_keeps_its_table, calls/one_record_more, calls/bytes_over_the_limit
  -- edits: theorems/list_keeps_its_packets
  pub more_bytes_udp : MoreBytes udp
  pub more_bytes_tcp : MoreBytes tcp
  -- Of a call for one packet, appended bytes change no refusal of reading but 2 and 17 to 21: 4 to 8 stay, unless 13 or 1 comes first. Of a
  -- list this is false.
  -- edits: calls/short_fields_stay, calls/refused_over_the_limit
  pub faults_stay_udp : FaultsStay udp
  pub faults_stay_tcp : FaultsStay tcp
  pub lists_may_mend : FaultsStay tcp_vec → ⊥
  -- n records always hold what n bytes decode to.
  -- edits: calls/a_record_for_16_bytes
  pub records_hold : (framing : Framing) → RecordsHold framing
