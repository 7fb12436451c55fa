-- The theorem of each row of specs/Boundary.antt.
use Rattle.theorems.specs.Boundary.{CBoundary}

pub c-boundary : CBoundary
c-boundary =
    record {
      ends_listed = Rattle.apart.proofs.Boundary.ends_listed;
      refusals_apart = Rattle.apart.proofs.Boundary.refusals_apart;
      stops_apart = Rattle.apart.proofs.Boundary.stops_apart;
      ends_apart = Rattle.apart.proofs.Boundary.ends_apart;
      index_ends_apart = Rattle.apart.proofs.Boundary.index_ends_apart;
      differs_apart = Rattle.apart.proofs.Boundary.differs_apart;
      read_back = Rattle.told.proofs.Unpacked.read_back;
      kinds_apart = Rattle.told.proofs.Unpacked.kinds_apart;
      decoded_once = Rattle.apart.proofs.Once.decoded_once;
      decoded_alone = Rattle.apart.proofs.Once.decoded_alone;
      tcp_none_waits = Rattle.apart.proofs.Once.tcp_none_waits;
      refusal_told = Rattle.apart.proofs.Once.refusal_told;
      step_told = Rattle.apart.proofs.Once.step_told;
      step_once = Rattle.apart.proofs.Once.step_once;
      portion_apart = Rattle.apart.proofs.Once.portion_apart;
      index_told = Rattle.apart.proofs.IndexTold.index_told;
      index_once = Rattle.apart.proofs.IndexTold.index_once;
      told_cue = Rattle.apart.proofs.IndexTold.told_cue;
      tag_told = Rattle.apart.proofs.ClockTold.tag_told;
      unix_told = Rattle.apart.proofs.ClockTold.unix_told;
      difference_told = Rattle.apart.proofs.ClockTold.difference_told;
      decoded_apart = Rattle.apart.proofs.Once.decoded_apart;
      told_apart = Rattle.apart.proofs.Once.told_apart;
      string_told_apart = Rattle.apart.proofs.Once.string_told_apart;
      encoded_once = Rattle.apart.proofs.Once.encoded_once;
      pad_once = Rattle.apart.proofs.Once.pad_once;
      c_settled = Rattle.apart.proofs.Boundary.c_settled;
    }
