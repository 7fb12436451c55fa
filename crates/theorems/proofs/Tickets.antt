-- The theorem of each row of specs/Tickets.antt.
use mathlib.Core.Path.{refl, sym, subst, ap, ◌∙◌}
use Rattle.theorems.specs.Tickets.{Ticket1, Ticket2, Ticket4, Ticket5, Ticket6, Ticket7, Ticket8, Ticket10, Ticket13, Ticket14}

pub ticket1 : Ticket1
ticket1 =
    record {
      cut_accepted = Rattle.standards.proofs.Streams.Frames.cut_accepted;
      cut_seen = Rattle.standards.proofs.Streams.Frames.cut_seen;
      stream_accepted = Rattle.standards.proofs.Streams.Lists.stream_accepted;
      cut_written = Rattle.standards.proofs.Streams.Frames.cut_written;
      strict_cut_written = Rattle.standards.proofs.Streams.Frames.strict_cut_written;
      cut_trip = Rattle.standards.proofs.Streams.Frames.cut_trip;
      frames_trip = Rattle.standards.proofs.Streams.Lists.frames_trip;
      editions = Rattle.decoder.proofs.Examples.editions;
      whole_low = Rattle.decoder.proofs.Offsets.whole_low;
    }

pub ticket2 : Ticket2
ticket2 =
    record {
      fields_short_udp = Rattle.calls.proofs.Fields.Told.fields_short_udp;
      fields_short_tcp = Rattle.calls.proofs.Fields.Told.fields_short_tcp;
      frame_field_short = Rattle.calls.proofs.Fields.Told.frame_field_short;
      cut_fields_short = Rattle.calls.proofs.Fields.Cut.cut_fields_short;
      cut_frame_short = Rattle.calls.proofs.Fields.Cut.cut_frame_short;
      one_field_udp = Rattle.calls.proofs.Fields.One.one_field_udp;
      one_field_tcp = Rattle.calls.proofs.Fields.One.one_field_tcp;
      one_field_list = Rattle.calls.proofs.Fields.One.one_field_list;
      one_field_cut = Rattle.calls.proofs.Fields.One.one_field_cut;
      one_field_cut_list = Rattle.calls.proofs.Fields.One.one_field_cut_list;
    }

pub ticket4 : Ticket4
ticket4 =
    record {
      depth_cases = Rattle.decoder.proofs.Examples.traps;
      survey_only = Rattle.survey.proofs.Only.survey_only;
      encode_no = λ t count source out n r w h. Rattle.encoder.proofs.NoLeads.encode_no w h;
      encode_tcp_no = λ t count source out n r w h. Rattle.encoder.proofs.NoLeads.encode_tcp_no w h;
      no_number = λ t count source x. Rattle.encoder.proofs.NoLeads.no_number;
    }

pub ticket5 : Ticket5
ticket5 =
    record {
      answer_judges = λ msg count left dirty h e. sym (Rattle.cues.proofs.Cues.answer_judges msg h (sym e)).same;
      cut_index = Rattle.recordings.proofs.Walks.cut_index;
      any_buffers = Rattle.recordings.proofs.AnyBuffers.any_buffers;
      every_walk = Rattle.recordings.proofs.Walks.every_walk;
      kept_is_short = Rattle.cues.proofs.Kept.kept_is_short;
      written_fits = Rattle.cues.proofs.Indexes.written_fits;
      frame_long = λ limit base l item inside used e.
          subst Rattle.cues.proofs.Shortest.FrameLong e (Rattle.cues.proofs.Shortest.frame_long limit base l);
      stepped = λ l base out after n used why w. (Rattle.cues.proofs.Steps.stepped w).is;
      fits_exactly = Rattle.cues.proofs.Checks.fits_exactly;
      differs_first = Rattle.cues.proofs.Checks.differs_first;
      check_in_parts = Rattle.cues.proofs.Checks.check_in_parts;
      every_check = Rattle.recordings.proofs.Parts.every_check;
      walk_checks = Rattle.recordings.proofs.Walks.walk_checks;
      walk_tells = Rattle.check_walk.proofs.Chain.walk_tells;
      run_writes = Rattle.tool_walks.proofs.Runs.run_writes;
      run_checks = Rattle.tool_walks.proofs.Checks.run_checks;
      loop_writes = Rattle.tool_recordings.proofs.Ends.loop_writes;
      where_cues_lie = Rattle.recordings.proofs.Lookup.where_cues_lie;
      checked_cue = Rattle.recordings.proofs.Lookup.checked_cue;
      every_cue = Rattle.recordings.proofs.Lookup.every_cue;
    }

pub ticket6 : Ticket6
ticket6 = record { run_passes = Rattle.utf8.proofs.Plain.run_passes; same_promise = Rattle.utf8.proofs.Only.is_utf8_only }

pub ticket7 : Ticket7
ticket7 =
    record {
      fraction_nearest = Rattle.clock.proofs.Nearest.fraction_nearest;
      nanos_nearest = Rattle.clock.proofs.Nearest.nanos_nearest;
      returns_unchanged = Rattle.clock.proofs.Returns.returns_unchanged;
      moved_little = Rattle.clock.proofs.Moved.moved-at-most-two;
      two_reached = Rattle.clock.proofs.Moved.two_reached;
      no_carry = Rattle.clock.proofs.Nearest.no_carry;
      carries = Rattle.clock.proofs.Moved.carries;
      stays = Rattle.clock.proofs.Moved.stays;
      carries_past = Rattle.clock.proofs.Moved.carries_past;
      tag_domains = Rattle.clock.proofs.Domains.tag_domains;
      unix_domains = Rattle.clock.proofs.Domains.unix_domains;
      never_late = Rattle.clock.proofs.Domains.never-27;
      times_normal = Rattle.clock.proofs.Domains.times_normal;
      clock_number_tells = Rattle.clock.proofs.Only.number_tells;
      tags_agree = Rattle.clock.proofs.Agree.tags_agree;
      times_agree = Rattle.clock.proofs.Agree.times_agree;
      order_kept = Rattle.clock.proofs.Order.order_kept;
      later_higher = Rattle.clock.proofs.Order.later_higher;
      difference_shifts = Rattle.clock.proofs.Shifts.difference_shifts;
      opposite_lowest = Rattle.clock.proofs.Shifts.opposite_lowest;
    }

pub ticket8 : Ticket8
ticket8 =
    record {
      text_padded = Rattle.argument.proofs.Dirt.text_padded;
      blob_padded = Rattle.argument.proofs.Dirt.blob_padded;
      dirt_cases = Rattle.decoder.proofs.Examples.traps;
      dirt_low = Rattle.calls.proofs.Soiled.dirt_low;
      clean_only = Rattle.calls.proofs.Soiled.clean_only;
      trip_clean = Rattle.standards.proofs.Trip.RoundTrip.round_trip;
      call_clean = λ packet l w h low item inside used e.
          Rattle.osc10.proofs.Clean.call_clean l 0 packet w h 0 refl (Rattle.osc10.proofs.Placed.at_all l) low e refl;
      dirt_of_more_udp = Rattle.calls.proofs.Longer.MoreBytes.more_bytes_udp;
      dirt_of_more_tcp = Rattle.calls.proofs.Longer.MoreBytes.more_bytes_tcp;
      dirt_of_room = Rattle.calls.proofs.Room.MoreRoom.more_room;
    }

pub ticket10 : Ticket10
ticket10 =
    record {
      gives_starts = Rattle.given.proofs.Starts.Tables.gives_starts;
      encode_ignores = Rattle.standards.proofs.Ignored.encode_ignores;
      encode_tcp_ignores = Rattle.standards.proofs.Ignored.encode_tcp_ignores;
    }

pub ticket13 : Ticket13
ticket13 =
    record {
      by_zero = Rattle.clock.proofs.Adding.by_zero;
      by_two = Rattle.clock.proofs.Adding.by_two;
      and_back = Rattle.clock.proofs.Adding.and_back;
      difference_of_shift = Rattle.clock.proofs.Adding.difference_of_shift;
      immediate_shifted = Rattle.clock.proofs.Adding.immediate_shifted;
      tags_shifted = Rattle.shifts.proofs.Sums.tags_shifted;
      table_by_zero = Rattle.shifts.proofs.Sums.table-zero;
      table_by_two = Rattle.shifts.proofs.Sums.table_by_two;
      calls_and_back = Rattle.shifts.proofs.Sums.calls_and_back;
      stays_formed = Rattle.shifted_packets.proofs.Trees.stays_formed;
      encode_alike = Rattle.shifted_packets.proofs.Encoding.encode_alike;
      encode_tcp_alike = Rattle.shifted_packets.proofs.Encoding.encode_tcp_alike;
      frame_slides = Rattle.slides.proofs.Frames.frame_slides;
      same_long = Rattle.slides.proofs.Files.same_long;
      stops_as_index = Rattle.slides.proofs.Files.stops_as_index;
      there_and_back = Rattle.slides.proofs.Files.there_and_back;
      slide_by_zero = Rattle.slides.proofs.Files.slide_by_zero;
      same_cues = Rattle.slides.proofs.Files.same_cues;
      slide_any_buffers = Rattle.slides.proofs.Files.slide_any_buffers;
      slide_keeps_room = Rattle.slides.proofs.Files.keeps-room;
      every_slide = Rattle.slide_steps.proofs.Walks.every_slide;
      slide_in_parts = Rattle.slide_steps.proofs.Walks.slide_in_parts;
      one_slide = Rattle.slide_steps.proofs.Walks.one_slide;
    }

pub ticket14 : Ticket14
ticket14 =
    record { every_cut = Rattle.cutting.proofs.Calls.every_cut; any_portions = Rattle.cutting.proofs.AnyPortions.any_portions }
