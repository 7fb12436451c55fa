-- The theorem of each row of specs/Order.antt.
use Prim.Native.Nat.{ℕ}
use Rattle.node.specs.Forest.{nil}
use Rattle.theorems.specs.Order.{FirstDemand, SecondDemand, ThirdDemand}

pub first-demand : FirstDemand
first-demand =
    record {
      met = Rattle.calls.proofs.Calls.Every.met;
      listed = Rattle.calls.proofs.Calls.Every.listed;
      number_tells = Rattle.refusal.proofs.Only.number_tells;
      number_alone = Rattle.refusal.proofs.Only.number_alone;
      nothing_changed = Rattle.calls.proofs.Calls.Every.nothing_changed;
      settled = Rattle.calls.proofs.Calls.Every.settled;
    }

pub second-demand : SecondDemand
second-demand =
    record {
      osc10_accepted = Rattle.standards.proofs.Osc10.Accepted.osc10_accepted;
      osc10_seen = Rattle.standards.proofs.Osc10.Seen.osc10_seen;
      frame_seen = Rattle.standards.proofs.Osc10.Seen.frame_seen;
      osc10_written = Rattle.standards.proofs.Osc10.Written.osc10_written;
      strict_written = Rattle.standards.proofs.Osc10.Written.strict_written;
      strict_allowed = Rattle.osc10.proofs.Strict.strict_allowed;
      strict_packet = λ source packet item inside. Rattle.osc10.proofs.Strict.strict_packet source 0 packet nil;
      strict_tree = λ source packet item inside. Rattle.osc10.proofs.Strict.strict_tree source packet;
      frame_written = Rattle.standards.proofs.Osc10.Written.frame_written;
      strict_frame_written = Rattle.standards.proofs.Osc10.Written.strict_frame_written;
      frame_accepted = Rattle.standards.proofs.Osc10.Accepted.frame_accepted;
      octets = Rattle.utf8.proofs.Grammar.octets;
      is_utf8_only = Rattle.utf8.proofs.Only.is_utf8_only;
      encode_fours = Rattle.encoder.proofs.Fours.encode_fours;
      encode_tcp_fours = Rattle.encoder.proofs.Fours.encode_tcp_fours;
      encode_string_fours = Rattle.encoder.proofs.Fours.encode_string_fours;
      round_trip = Rattle.standards.proofs.Trip.RoundTrip.round_trip;
      floats_trip = Rattle.standards.proofs.Trip.RoundTrip.round_trip;
    }

pub third-demand : ThirdDemand
third-demand =
    record {
      more_room = Rattle.calls.proofs.Room.MoreRoom.more_room;
      frame_stays = Rattle.calls.proofs.Longer.Stay.frame_stays;
      list_stays = Rattle.calls.proofs.Longer.Stay.list_stays;
      more_bytes_udp = Rattle.calls.proofs.Longer.MoreBytes.more_bytes_udp;
      more_bytes_tcp = Rattle.calls.proofs.Longer.MoreBytes.more_bytes_tcp;
      faults_stay_udp = Rattle.calls.proofs.Longer.Faults.faults_stay_udp;
      faults_stay_tcp = Rattle.calls.proofs.Longer.Faults.faults_stay_tcp;
      lists_may_mend = Rattle.calls.proofs.Longer.Examples.lists_may_mend;
      records_hold = Rattle.calls.proofs.Room.RecordsHold.records_hold;
    }
