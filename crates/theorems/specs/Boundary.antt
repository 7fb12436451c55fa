-- The C boundary: what the functions of include/osc.h answer in numbers.
use Rattle.told.specs.Told.{Unpacks, KindsApart}
use Rattle.apart.specs.Boundary.{CSettled, EndsListed, ToldApart, StopsApart, EndsApart, IndexEndsApart, DiffersApart}
use Rattle.apart.specs.ReadBack.{DecodedApart, PortionApart, EncodedApart, StringApart, ToldOnce, ToldAlone, NoneWaits, RefusalTold}
use Rattle.apart.specs.ReadBack.{StepTold, StepOnce, IndexTold, IndexOnce, CueTold, EncodedOnce, PadOnce}
use Rattle.apart.specs.ReadBack.{TagTold, UnixTold, DifferenceTold}

-- The C boundary
pub record CBoundary : Type 1 where
  -- Demand 1: each function ends in an answer; or in a refusal that is listed for it and leaves every lent byte; or it stops at a refused
  -- frame that is listed; or, for an index that differs, at a record. These four can be told apart.
  -- definitions: apart/CCall, apart/CMeets
  -- edits: apart/positions_are_even, osc/refused_record_told_as_0, osc/start_refused_by_0
  -- edits: osc/records_told_for_tags, osc/count_of_33_bits_shifted, apart/tags_of_16_bits
  pub ends_listed : EndsListed
  pub refusals_apart : ToldApart
  pub stops_apart : StopsApart
  pub ends_apart : EndsApart
  pub index_ends_apart : IndexEndsApart
  pub differs_apart : DiffersApart
  -- An answer is packed into 64 bits, and 64 bits more beside them. All of its parts are read back, and two kinds of answers that no answer
  -- is both of never have the same bits.
  -- edits: told/frame_in_the_place_of_the_field, told/stop_without_its_refusal, told/offset_in_the_low_bits
  pub read_back : Unpacks
  pub kinds_apart : KindsApart
  -- A decoder's number, with what is written beside it, stands for one answer. Alone it stands for every refusal but 17 to 21, which have
  -- an offset; packets have their dirty padding beside it. Count 0 of `osc_decode_tcp` is Waiting. The number alone tells a list that
  -- stops from a refused call, and all parts of such an answer are read back (Ticket 1).
  -- edits: apart/list_has_a_packet, apart/seventeen_tells_alone, told/waiting_told_as_nothing_left
  pub decoded_once : ToldOnce
  pub decoded_alone : ToldAlone
  pub tcp_none_waits : NoneWaits
  pub refusal_told : RefusalTold
  -- The number of a step over a stream, with what is written beside it, stands for one answer. A step that reads on, one that a refused
  -- frame ends, and a refused call can be told apart, and all parts are read back (Ticket 14).
  -- edits: told/kept_bytes_one_short, told/end_without_its_refusal
  pub step_told : StepTold
  pub step_once : StepOnce
  pub portion_apart : PortionApart
  -- Of a step that writes an index, and of a cue that is looked up, every part of the answer is read back from the number and what is
  -- written beside it (Ticket 5); of a refused frame that ends an index also where the field began that was short (Ticket 2). Two answers
  -- of such a step never have the same numbers.
  -- definitions: apart/IndexBack, apart/CueBack
  -- edits: told/refused_frame_of_an_index_waits, told/field_of_an_index_counted_from_its_frame, told/field_of_an_index_left_out
  -- edits: osc/record_counted_within_its_part, told/offset_left_of_no_cue
  pub index_told : IndexTold
  pub index_once : IndexOnce
  pub told_cue : CueTold
  -- Of a clock conversion the tag, or the seconds and nanoseconds, are read back from the number and what is written through the pointer,
  -- and so is the refusal, beside which 0 is written; of a difference, its 64 bits read as signed (Ticket 7).
  -- definitions: apart/TagBack, apart/UnixBack
  -- edits: told/tag_beside_a_refusal, told/seconds_beside_a_refusal, told/refused_time_in_the_low_bits, osc/rule_b_read_as_a
  pub tag_told : TagTold
  pub unix_told : UnixTold
  pub difference_told : DifferenceTold
  -- The parts of an answer's number are what was answered. The number of an encoder and of `osc_pad` stands for one answer.
  -- edits: told/count_with_the_refusal, told/count_in_the_low_bits, told/refusal_in_the_low_bits, told/half_of_the_bytes_told
  pub decoded_apart : DecodedApart
  pub told_apart : EncodedApart
  pub string_told_apart : StringApart
  pub encoded_once : EncodedOnce
  pub pad_once : PadOnce
  -- The number that `osc_version` tells has the major, the minor and the patch of the version in bits 32 to 47, 16 to 31 and 0 to 15, and
  -- each part is read back.
  -- definitions: version/version_number
  -- code: version/number
  -- laws: version/versions-read-back
  -- edits: version/minor_and_patch_swapped
  -- A contract settles the number and every lent byte.
  -- edits: apart/bytes_left_open, osc/text_measured_only, osc/stream_without_a_length
  pub c_settled : CSettled
