-- Document 02's tickets, a sentence to a row.
use Rattle.std.specs.Prelude.{◌≡◌, Bool, true, List, [], ◌∷◌, ◌++◌, ℕ, ◌+◌, ◌-◌, ◌*◌, ◌^◌, ◌≤◌, ◌<◌, length, take}
use Rattle.edition.specs.declared.Edition.{Edition}
use Rattle.edition.specs.declared.Framing.{Framing}
use Rattle.refusal.specs.Refusal.{number_of}
use Rattle.refusal.specs.declared.Refusal.{Refusal}
use Rattle.wire.specs.Limits.{longest, deepest}
use Rattle.utf8.specs.Utf8.{Octets, Decides}
use Rattle.utf8.specs.Automaton.{RunPasses}
use Rattle.clock.specs.Nearest.{FractionNearest, NanosNearest}
use Rattle.clock.specs.Clock.{clock_number}
use Rattle.clock.specs.Shift.{OppositeLowest, DifferenceShifts}
use Rattle.clock.specs.Promises.{ReturnsUnchanged, MovedLittle, TwoReached, NoCarry, Carries, Stays, CarriesPast, TagDomains, UnixDomains}
use Rattle.clock.specs.Promises.{NeverLate, TimesNormal, TagsAgree, TimesAgree, OrderKept, LaterHigher}
use Rattle.clock.specs.declared.Rule.{Rule}
use Rattle.clock.specs.declared.OutOfRange.{OutOfRange}
use Rattle.node.specs.Forest.{Forest, nil, node}
use Rattle.node.specs.Tags.{among}
use Rattle.node.specs.declared.record.Item.{Item}
use Rattle.argument.specs.Dirt.{TextPadded, BlobPadded, dirty_in}
use Rattle.packet.specs.Packet.{one, read_packet}
use Rattle.framing.specs.Framing.{udp, tcp, tcp2, read, read_frame, cut_frame}
use Rattle.answering.specs.Limits.{decoded}
use Rattle.cues.specs.Results.{Given}
use Rattle.results.specs.Results.{Packets, Written}
use Rattle.results.specs.declared.End.{End}
use Rattle.decoder.specs.Cases.{Each}
use Rattle.decoder.specs.Examples.{standard, misread}
use Rattle.decoder.specs.Offsets.{OffsetsLow}
use Rattle.cues.specs.Cues.{most_in_a_cue, cue_of, entry_size, most_entries, index, index_of, written_of, Indexes, KeptIsShort}
use Rattle.cues.specs.Checks.{FitsExactly, DiffersFirst, CheckInParts}
use Rattle.writers.specs.Osc.{longest_element}
use Rattle.survey.specs.Surveys.{Surveys}
use Rattle.encoder.specs.Outcome.{Outcome, Encodes, unframed, framed_by}
use Rattle.encoder.specs.AfterNo.{AfterNo, NoOutcome}
use Rattle.clock.specs.Sums.{ByZero, ByTwo, AndBack, DifferenceOfShift, ImmediateShifted}
use Rattle.shifts.specs.Sums.{TagsShifted, TableByZero, TableByTwo, CallsAndBack}
use Rattle.shifted_packets.specs.Packets.{StaysFormed, EncodesAlike}
use Rattle.slides.specs.Laws.{FrameSlides, SameLong, StopsAsIndex, ThereAndBack, SlideByZero, SameCues, SlideAnyBuffers, SlideKeepsRoom}
use Rattle.slide_steps.specs.Steps.{EverySlide, SlideInParts, OneSlide}
use Rattle.osc10.specs.Osc10.{Packet, Allowed, Spells}
use Rattle.calls.specs.Demands.{MoreRoom, MoreBytes, DirtLow, CleanOnly}
use Rattle.calls.specs.Fields.{PacketShort, FrameShort, CutShort, FieldsShort, ListFieldsShort, CutFieldsShort, CutFrameShort}
use Rattle.calls.specs.Fields.{OneField, OneInList}
use Rattle.given.specs.Starts.{GivesStarts}
use Rattle.cutting.specs.Cutting.{EveryCut, AnyPortions}
use Rattle.recordings.specs.Recordings.{CutIndex, AnyBuffers, EveryWalk, EveryCheck, WalkChecks, WhereCuesLie, CheckedCue, EveryCue}
use Rattle.check_walk.specs.Chain.{WalkTells}
use Rattle.tool_walks.specs.Runs.{RunWrites, RunChecks}
use Rattle.tool_recordings.specs.Loops.{LoopWrites}
use Rattle.standards.specs.Ignored.{IgnoresStarts}
use Rattle.standards.specs.Trip.{RoundTrip}
use Rattle.standards.specs.Streams.{CutAccepted, CutSeen, StreamAccepted, CutWritten, StrictCutWritten, CutTrip, FramesTrip}

-- Ticket 1: Framing as the standard has it (edition 2)
pub record Ticket1 : Type 0 where
  -- An OSC 1.0 stream, each packet after its int32 size, is accepted as those packets: one frame, and a list of any length.
  -- edits: standards/stream_without_sizes, framing/packet_past_its_frame
  pub cut_accepted : CutAccepted
  pub cut_seen : CutSeen
  pub stream_accepted : StreamAccepted
  -- What `encode_tcp` writes is such a frame, of a bundle too. `decode_tcp` reads it back as the same table, and `decode_tcp_vec` reads
  -- frames written one after another as the same trees.
  -- edits: encoder/bundle_without_a_length, standards/trip_with_dirt
  pub cut_written : CutWritten
  pub strict_cut_written : StrictCutWritten
  pub cut_trip : CutTrip
  pub frames_trip : FramesTrip
  -- The readings that the ticket names, 24 cases as calls with the whole table afterwards. If a list stops, what is left begins with the
  -- refused frame and has at least the 4 bytes of its prefix.
  -- definitions: decoder/WholeLow
  -- edits: standard_inputs/frame_told_by_its_records, heads/three_bytes_are_refused, framing/fifteen_before_four
  -- edits: standard_inputs/nine_told_as_fifteen, answering/stopped_list_never_full
  pub editions : Each standard
  pub whole_low : OffsetsLow

-- Ticket 2: Tell us which field was short
pub record Ticket2 : Type 0 where
  -- 17 to 21 say which field is cut short, and the offset says where it begins. Fields stand one after another: a frame's prefix; the
  -- address and its padding; the type text and its padding; the data of each tag, with padding after a text or a blob; after `#bundle` the
  -- time tag. The field that is told is the first that needs more bytes than follow: a text all up to its NUL, a blob its size and its
  -- bytes, padding all up to a multiple of 4, a prefix 4 bytes, a time tag 8. In a list it is a field of a frame that the list reads.
  -- definitions: calls/needs, calls/data_fields, calls/packet_fields, calls/ShortIn, calls/ListShort
  -- edits: text/padding_at_the_text, measure/type_text_at_the_start, measure/elements_fault_told, packet/address_told_as_type_text
  -- edits: argument/blobs_padding_at_its_bytes, rosc_inputs/frame_offset_left_out, standard_inputs/field_from_its_frame
  -- edits: calls/time_tag_of_four_bytes, calls/type_text_after_the_nul
  pub fields_short_udp : FieldsShort udp PacketShort
  pub fields_short_tcp : FieldsShort tcp FrameShort
  pub frame_field_short : ListFieldsShort
  -- In edition 2 the field is cut short within its frame, whatever follows the frame. Padding is never short there, nor is a prefix. A list
  -- tells the field of the frame at which it stops.
  -- definitions: calls/CutShort
  -- edits: calls/frame_cut_a_word_later
  pub cut_fields_short : CutFieldsShort
  pub cut_frame_short : CutFrameShort
  -- No second number or offset fits the same bytes, nor, in a list, a second frame.
  -- definitions: calls/ShortIn, calls/Reaches
  -- edits: calls/two_fields_short
  pub one_field_udp : OneField PacketShort
  pub one_field_tcp : OneField FrameShort
  pub one_field_list : OneInList (λ b l. read_frame b l) FrameShort
  pub one_field_cut : OneField CutShort
  pub one_field_cut_list : (limit : ℕ) → OneInList (λ b l. cut_frame limit b l) CutShort

-- Ticket 4: Nesting counts arrays too
pub record Ticket4 : Type 0 where
  -- Depth counts bundles and arrays together, along any path of the tree that is returned. A message adds none, and what an unclosed
  -- bracket loses does not count. The contracts and refusal 9 go by the definition `depth`; five of the misread inputs show it.
  -- definitions: node/depth, answering/decoded, encoder/Encodes
  -- edits: scan/lost_tags_counted, scan/arrays_side_by_side_add_up, measure/arrays_beside_bundles, measure/message_adds_a_level
  -- edits: table/arrays_not_counted, table/siblings_add_up, survey/array_takes_no_level, encoder/too_deep_is_one
  -- edits: osc10/arrays_add_no_depth
  pub depth_cases : Each misread
  -- The survey says "yes" exactly if the table is well formed, at most 64 deep, and its packet at most 65,535 bytes. It has one answer.
  -- definitions: survey/Surveys
  -- code: survey/survey
  -- edits: survey/never_sure, survey/unsure_of_17_levels, survey/sure_of_65_levels, survey/array_takes_no_level
  -- edits: survey/message_takes_levels
  pub survey_only : (t : List ℕ) (count : ℕ) (source : List ℕ) (r s : ℕ) → Surveys t count source r → Surveys t count source s → r ≡ s
  -- If it says "no", `encode` and `encode_tcp` both refuse with 11, 9 or 1, in that order, and write nothing.
  -- laws: encoder/no-leads
  -- definitions: encoder/AfterNo, encoder/NoOutcome
  -- edits: encoder/nine_before_eleven, encoder/too_deep_is_one, encoder/too_long_is_nine, encoder/twelve_before_one, encoder/depth_63
  pub encode_no : (t : List ℕ) (count : ℕ) (source out : List ℕ) (n : ℕ) (r : Outcome) → Surveys t count source n → longest_element < n
      → Encodes unframed t count source out r → NoOutcome t count source out r
  pub encode_tcp_no : (t : List ℕ) (count : ℕ) (source out : List ℕ) (n : ℕ) (r : Outcome) → Surveys t count source n
      → longest_element < n → (edition : Edition) → Encodes (framed_by edition) t count source out r → NoOutcome t count source out r
  pub no_number : (t : List ℕ) (count : ℕ) (source : List ℕ) (x : Refusal) → AfterNo t count source x
      → among (number_of x) (11 ∷ 9 ∷ 1 ∷ []) ≡ true

-- Ticket 5: A cue index
pub record Ticket5 : Type 0 where
  -- The index of a recording is one record for each accepted frame, in order, of 16 bytes, big-endian: the offset of the prefix, the length
  -- without the prefix, and the records of its table. It goes up to the first frame that is not accepted (depth 64, 3,276 records, or
  -- Waiting), and says where that is and why. A frame is judged as the decoder of one frame answers it.
  -- definitions: cues/index_of, cues/cue_of, cues/entry_of, cues/Indexes
  -- code: cues/index_step
  -- edits: cues/low_half_first, cues/length_with_its_prefix, cues/cue_of_3277_records
  pub answer_judges : (msg : List ℕ) (count left dirty : ℕ) → length msg ≤ longest
      → decoded (tcp2 deepest) most_in_a_cue deepest msg ≡ Packets count left dirty → cue_of msg ≡ Given (length msg - left) count
  -- An index written through any row of buffers, each holding the unread remainder and what follows, is the index of the whole, for a
  -- recording of any length below 2^63. Whatever the portions and outputs of a program that repeats the step, it writes the index of the
  -- whole, and stops where and why that does.
  -- definitions: folding/Walk
  -- edits: folding/walk_keeps_a_byte_less, folding/walk_stops_where_it_waits, recordings/recording_of_2_63_bytes
  pub cut_index : CutIndex
  pub any_buffers : AnyBuffers
  pub every_walk : EveryWalk
  -- The bytes of an unfinished frame leave room in a buffer of 65,535 bytes. An output of 5,461 records is never too short for the index of
  -- a buffer, because an accepted frame has at least 12 bytes. A step's answer and output are the index of its bytes.
  -- edits: cues/room_for_5460_records
  pub kept_is_short : KeptIsShort
  pub written_fits : (base : ℕ) (l : List ℕ) → length l ≤ longest → length (written_of (index_of base l)) ≤ entry_size * most_entries
  pub frame_long : (limit base : ℕ) (l : List ℕ) (item : Item) (inside : Forest) (used : ℕ)
      → cut_frame limit base l ≡ read (one item inside used) → 12 ≤ used
  pub stepped : (l : List ℕ) (base : ℕ) (out after : List ℕ) (n used : ℕ) (why : End) → Indexes l base out (Written n used why) after
      → index_of base l ≡ index (take (entry_size * n) after) (base + used) why
  -- The check accepts exactly if the bytes equal a freshly written index. Otherwise it answers 25 and the number, from 0, of the first
  -- record that differs, is missing or is extra; a part of a record counts as one.
  -- code: cues/compare
  -- edits: cues/differing_record_told_late, cues/extra_part_accepted
  pub fits_exactly : (fresh given : List ℕ) → FitsExactly fresh given
  pub differs_first : (fresh given : List ℕ) → DiffersFirst fresh given
  -- A check in parts, each part of the fresh index against as many bytes of the other, and at the end against what that still has, says the
  -- same.
  -- edits: recordings/part_counted_from_0, outcomes/record_numbered_in_its_part
  pub check_in_parts : CheckInParts
  pub every_check : EveryCheck
  -- A walk over a recording that checks what each step has written, each check going on from the number that the last one answered, answers
  -- in the end as the check of the whole does: how many records the index has, or 25 and the number of the first record that differs.
  -- definitions: recordings/checked_in_parts, check_walk/chained
  -- edits: check_walk/each_part_from_0, check_walk/given_from_its_start
  pub walk_checks : WalkChecks
  pub walk_tells : WalkTells
  -- Whatever portions are read, a row of the steps that the program `osc` repeats writes the index of the whole recording, with where and
  -- why it ends; and where their records are checked part by part, the answer is that of the check of the whole. The program's loop makes
  -- such a row: where it comes to the end of a recording, the records that it handed on, buffer by buffer, are the index of all that was
  -- read.
  -- definitions: tool_walks/Run, tool_walks/CheckRun, walks/WalkStep, tool_recordings/Looped
  -- code: walks/walk_step, tool_recordings/walk_over
  -- edits: walks/byte_kept_too_few, walks/reads_on_after_a_refused_frame, tool_walks/portion_alone_in_the_buffer
  -- edits: tool_recordings/records_numbered_afresh
  pub run_writes : RunWrites
  pub run_checks : RunChecks
  pub loop_writes : LoopWrites
  -- The index determines where each cue lies: the first at 0, each next one where the frame before it ends, and the last ends where writing
  -- stopped.
  -- definitions: recordings/EndToEnd
  -- edits: recordings/frames_without_their_prefix
  pub where_cues_lie : WhereCuesLie
  -- A lookup in an index that was checked against a recording gives, for a number below that of its records, a place where the recording
  -- has a frame that `decode_tcp` decodes to that many records, with nothing left over; and 11 for every other number.
  -- definitions: recordings/CueFound, recordings/CueThere
  -- code: cues/cue_at
  -- edits: recordings/cue_with_bytes_left, cues/part_of_a_record_found, outcomes/cue_n_of_n_records
  pub checked_cue : CheckedCue
  pub every_cue : EveryCue

-- Ticket 6: Plain text faster
pub record Ticket6 : Type 0 where
  -- The UTF-8 test steps over runs of bytes below 128 without table lookups: at the front of a text by blocks of 256 and 64 bytes
  -- (`skip`), of at most 64 bytes by their two ends (`high_in_few`), and after a longer character by blocks of 32, where no character is
  -- open (`across`). Bytes of a run that fill no such block are looked up. A run that is passed over changes no answer on what follows
  -- it. That no table is looked up there stands in the code; no theorem says it.
  -- code: utf8/skip, utf8/high_in_few, utf8/across
  -- edits: utf8/passed_while_open, utf8/c1_taken_for_ascii, utf8/middle_byte_unseen, utf8/lowest_for_highest, utf8/letters_not_passed
  -- edits: utf8/run_of_80
  pub run_passes : RunPasses
  -- Its promise stays as it is, and no caller changes: the contract of `is_utf8` says, as before the ticket, that the answer is true
  -- exactly if the bytes are in RFC 3629's grammar, and one answer meets it. The times before and after stand in the note of landing 13.
  -- definitions: utf8/Octets, utf8/Decides
  -- code: utf8/is_utf8
  -- edits: utf8/cut_accepted, utf8/passed_while_open
  pub same_promise : (s : List ℕ) (a b : Bool) → Decides a (Octets s) → Decides b (Octets s) → a ≡ b

-- Ticket 7: Clock conversion, and the year 2036
pub record Ticket7 : Type 0 where
  -- Nanoseconds become the nearest of the 2^32 fractions of a second, and a fraction the nearest of 0 to 10^9 nanoseconds. None is nearer,
  -- of two that are equally near the upper is taken, and no other number is meant by that; nor where the range goes on. No nanoseconds lie
  -- halfway between two fractions, so that halves go up on the way back alone.
  -- laws: clock/no-half
  -- definitions: clock/Nearest, clock/fraction_of, clock/nanos_of
  -- edits: clock/halves_down, clock/half_goes_down
  pub fraction_nearest : FractionNearest
  pub nanos_nearest : NanosNearest
  -- Every time that has a tag comes back from it unchanged: by both rules, for every second that is allowed and every nanosecond value.
  -- code: clock/there_and_back
  -- edits: clock/wrap_one_second_late
  pub returns_unchanged : ReturnsUnchanged
  -- A tag that goes to Unix time and back is moved by at most 2 fractions, around the wrap, and 2 are reached on both sides. The rule's two
  -- last tags alone do not come back: their time is carried past the last second, which is 27 on the way back.
  -- definitions: clock/Again
  -- edits: clock/moved_by_one
  pub moved_little : MovedLittle
  pub two_reached : (rule : Rule) → TwoReached rule
  -- A fraction that rounds to a full second carries. On the way to a tag none does; on the way to Unix time exactly the two highest do,
  -- also past the rule's last second.
  -- edits: clock/carry_lost
  pub no_carry : NoCarry
  pub carries : Carries
  pub stays : Stays
  pub carries_past : CarriesPast
  -- `tag_of` refuses nanoseconds of 10^9 or more with 26, then seconds after the rule's last (2,085,978,495 and 4,233,462,143) with 27,
  -- then seconds before 1970 with 28, and gives a tag otherwise. `unix_of` refuses with 28 exactly the tags that stay before 1970 after
  -- the carry, and never with 27 or 26; a time that it gives is of 1970 or later, with fewer than 10^9 nanoseconds. Each number is one
  -- refusal.
  -- definitions: clock/TagCase, clock/Before1970, clock/tag_for, clock/unix_for
  -- code: clock/tag_of, clock/unix_of
  -- edits: clock/late_before_nanoseconds, clock/carry_does_not_reach_1970, clock/refused_before_the_carry, clock/last_second_too_late
  pub tag_domains : TagDomains
  pub unix_domains : UnixDomains
  pub never_late : NeverLate
  pub times_normal : TimesNormal
  pub clock_number_tells : (r s : OutOfRange) → clock_number r ≡ clock_number s → r ≡ s
  -- The rules agree where both speak: a tag or a time that rule A gives, rule B gives too.
  -- edits: clock/rule_b_taken_for_a
  pub tags_agree : TagsAgree
  pub times_agree : TimesAgree
  -- Order is kept within an era, which by rule B is that of the tag's top bit: a higher tag never has an earlier time, and a later time has
  -- a higher tag.
  -- definitions: clock/era_of
  -- edits: clock/order_across_the_wrap
  pub order_kept : OrderKept
  pub later_higher : LaterHigher
  -- A tag is shifted modulo 2^64, and a difference is taken around the wrap as a signed number: it is what the old tag is to be shifted by
  -- to give the new one. Tags exactly 2^63 apart give the lowest number.
  -- definitions: clock/shifted, clock/difference_of
  -- code: clock/shift, clock/difference
  -- edits: clock/opposite_is_the_highest, clock/difference_turned_round, clock/shift_turned_round
  pub difference_shifts : DifferenceShifts
  pub opposite_lowest : OppositeLowest

-- Ticket 8: Dirty padding is to be seen
pub record Ticket8 : Type 0 where
  -- Reading text or a blob also answers how many padding bytes are not zero: for an argument `pass_arg`, beside how many bytes it takes;
  -- for an address, a type text and `#bundle` the call of `dirty_in` that follows its reading (docs/DECISIONS.md, 57). What is counted is
  -- the padding: after the ending NUL of a text, or after a blob's bytes, up to where it ends.
  -- definitions: text/non_zero, argument/text_padding, argument/arg_padding
  -- code: scan/pass_arg, text/dirty_in, measure/measure_packet, measure/measure_message
  -- edits: argument/nul_counted_as_padding, text/third_byte_unseen, scan/blobs_dirt_from_its_size, measure/type_texts_dirt_left_out
  pub text_padded : TextPadded
  pub blob_padded : BlobPadded
  -- Every accepted packet comes with the number of its padding bytes that are not zero, counted over all that is kept; a list with the sum.
  -- `decoded` goes by the definition `dirty_in`; five of the misread inputs show it.
  -- definitions: argument/dirty_in, answering/decoded
  -- edits: argument/nul_counted_as_padding, text/third_byte_unseen, arguments/lost_dirt_counted, measure/type_texts_dirt_left_out
  -- edits: measure/elements_dirt_left_out, answering/left_told_as_dirt
  pub dirt_cases : Each misread
  -- It is at most three for each text, blob and `#bundle` that is kept (a message has two texts of its own), and 0 exactly if every padding
  -- byte of what is kept is 0. This holds for every framing.
  -- edits: calls/two_dirty_bytes_to_a_text, scan/blobs_dirt_from_its_size
  pub dirt_low : DirtLow
  pub clean_only : CleanOnly
  -- What `encode` writes decodes with 0, and so does every packet that OSC 1.0 allows. With appended bytes the number stays the same for a
  -- message and does not fall for a bundle (`GoesOn`). More room does not change it (`Unchanged`).
  -- definitions: calls/GoesOn, calls/Unchanged
  -- edits: standards/trip_with_dirt, calls/bundle_never_dirtier
  pub trip_clean : RoundTrip
  pub call_clean : (packet : Packet) (l : List ℕ) → Spells packet l → Allowed packet → length l < 256 ^ 4
      → (item : Item) (inside : Forest) (used : ℕ) → read_packet 0 l 0 ≡ one item inside used → dirty_in l (node item inside nil) ≡ 0
  pub dirt_of_more_udp : MoreBytes udp
  pub dirt_of_more_tcp : MoreBytes tcp
  pub dirt_of_room : MoreRoom

-- Ticket 10: Where each item began
pub record Ticket10 : Type 0 where
  -- The fifth numbers of a decoder's table lie in the input and do not fall in preorder. At a bundle's stands `#bundle`; a message's and a
  -- text's is its `a`; at a blob's stands its size, and its `a` is 4 bytes on; at a number's stand the bytes of its `a` (and `b`). Each
  -- argument begins where the data of the argument before it ends, with its padding, so that an array, and a tag without data, begin where
  -- the next data does; the first argument of a message begins where the message's data does, unless arguments before it were lost with an
  -- unclosed array. This holds for every framing.
  -- definitions: given/StartsHold, given/OwnStart, given/number_bytes, given/data_end, given/data_at
  -- edits: given/number_a_word_late, given/array_a_word_early, given/data_at_the_type_text, argument/blob_starts_at_its_bytes
  -- edits: arguments/array_begins_with_the_data, arguments/array_begins_at_its_end, fill/bundle_begins_at_its_time
  pub gives_starts : (framing : Framing) → GivesStarts framing
  -- The encoders ignore them: tables that differ in their fifth numbers alone give the same answer and the same output, in `encode` and in
  -- both editions of `encode_tcp`.
  -- definitions: standards/StartsDiffer
  -- edits: standards/encoder_ignores_b
  pub encode_ignores : IgnoresStarts unframed
  pub encode_tcp_ignores : (edition : Edition) → IgnoresStarts (framed_by edition)

-- Ticket 13: Shifts must add up
pub record Ticket13 : Type 0 where
  -- For the shifts of Ticket 7, on all 2^64 values: by zero changes nothing; by x then y equals by x + y modulo 2^64; by x and then its
  -- opposite returns the tag; the difference of the shifted tag from the old one is x read as signed. The functions named here say the same
  -- of the public calls.
  -- definitions: clock/shifted, clock/signed_of, clock/difference_of
  -- code: clock/by_zero, clock/by_two, clock/and_back, clock/difference_of_shift
  -- edits: clock/carry_between_halves_lost, clock/opposite_is_the_complement
  pub by_zero : ByZero
  pub by_two : ByTwo
  pub and_back : AndBack
  pub difference_of_shift : DifferenceOfShift
  -- The immediate tag (0, 1) is a plain number and is shifted like the rest.
  -- code: clock/immediate
  -- edits: clock/carry_between_halves_lost
  pub immediate_shifted : ImmediateShifted
  -- Sliding a whole act: `shift_table` shifts the tag of each `#` and each `t` of a table's first records, and no other byte; 11, and
  -- nothing changed, where one of these records does not exist or breaks its own rules, as `look` tests them. By zero a table is the same;
  -- by x then y equals by x + y; two calls, by x and then its opposite, leave the table as it was. The functions named here say it of
  -- the calls.
  -- definitions: shifts/shifted_record, shifts/shifted_table, shifts/time_tags, shifts/lookable, shifts/Shifts
  -- code: shifts/shift_table, shifts/by_zero, shifts/and_back
  -- edits: shifts/long_shifted, shifts/nested_tag_left, shifts/later_record_looked_at, shifts/shifted_halfway
  -- edits: clock/carry_between_halves_lost
  pub tags_shifted : TagsShifted
  pub table_by_zero : TableByZero
  pub table_by_two : TableByTwo
  pub calls_and_back : CallsAndBack
  -- A well-formed table stays well formed over the same source. `encode`, and `encode_tcp` in both editions, give a shifted table the same
  -- answer as before and, where bytes are written, as many, which differ in the eight bytes of each of its tags alone: those hold the
  -- shifted tag.
  -- definitions: shifted_packets/Retagged, shifted_packets/EncodedAlike
  -- edits: shifted_packets/tags_written_as_they_were, shifted_packets/well_formed_over_no_source
  pub stays_formed : StaysFormed
  pub encode_alike : EncodesAlike unframed
  pub encode_tcp_alike : (edition : Edition) → EncodesAlike (framed_by edition)
  -- Sliding a recording: a frame that is accepted, with the tag of each `#` and `t` of its tree replaced where it stands, is read as the same
  -- tree with these tags shifted. It has the same length and the same dirty padding, and its bytes differ in tags alone. The recording stops
  -- where its index stops.
  -- definitions: slides/time_place, slides/slid_forest, slides/slid_bytes, slides/slide_of, slides/SlidFrame
  -- code: slides/slide_records
  -- edits: slides/nested_tag_left, slides/carry_lost, slides/lost_tag_shifted, slides/h_shifted, slides/tag_read_at_bundle_word
  pub frame_slides : FrameSlides
  pub same_long : SameLong
  pub stops_as_index : StopsAsIndex
  -- Slid by x and then by its opposite, a recording is the same file, byte for byte; by zero too. Its cues lie where they lay.
  -- edits: slides/nested_tag_left, slides/carry_lost
  pub there_and_back : ThereAndBack
  pub slide_by_zero : SlideByZero
  pub same_cues : SameCues
  -- Through any row of buffers it is the slide of the whole: of the steps of `slide_step`, which is settled and refuses with 1 and 12 alone,
  -- every walk gives it, and what its steps leave, end to end, are its bytes.
  -- definitions: slide_steps/Slides
  -- code: slide_steps/slide_step
  -- edits: slide_steps/short_table_accepted, slide_steps/frame_slid_without_its_end, slide_steps/refused_frame_told_whole
  pub slide_any_buffers : SlideAnyBuffers
  pub slide_keeps_room : SlideKeepsRoom
  pub every_slide : EverySlide
  pub slide_in_parts : SlideInParts
  pub one_slide : OneSlide

-- Ticket 14: Cutting the stream changes nothing
pub record Ticket14 : Type 0 where
  -- A stream is cut in two, and the call for all of it gives records, for which the other tables have room. Then the list from its
  -- beginning is the first part of the list from all of it. A frame refused there is refused again, at the same offset, with the same
  -- number and field. If none was, the unread remainder followed by the later bytes yields the rest: counts and dirty padding add up; the
  -- list ends in the same way; offsets (the frame's, the field's, `a` of `/`, `s` and `b`, and the fifth number) are moved by the bytes
  -- consumed, and each record's end by the records given before.
  -- laws: cutting/cut_list, cutting/rest-moved
  -- definitions: cutting/CutChangesNothing, cutting/FirstPart, cutting/RefusedAgain, cutting/YieldsRest
  -- edits: cutting/offsets_not_moved, cutting/a_of_an_i_moved, cutting/ends_not_moved, cutting/frame_told_from_the_remainder
  -- edits: cutting/field_told_from_the_remainder, cutting/dirt_of_the_rest_alone, cutting/refused_frame_with_fewer_left
  pub every_cut : EveryCut
  -- A stream read in any portions by `read_portion`, keeping the unread remainder each time, gives the packets of the whole stream, portion
  -- by portion, each record moved to its place, and ends as the whole does.
  -- definitions: cutting/Recorded, portions/Steps
  -- code: portions/read_portion
  -- edits: cutting/remainder_one_byte_short, portions/remainder_one_byte_short, portions/refused_frame_read_over
  pub any_portions : AnyPortions
