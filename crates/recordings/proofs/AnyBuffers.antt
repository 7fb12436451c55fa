-- Ticket 5, the theorem of a writer that repeats the step: through any row of buffers it writes the index of the whole recording.
use mathlib.Core.Path.{◌≡◌, ap}
use Prim.Native.Nat.{◌+◌, ◌-◌, ◌/◌}
use native.Mathlib.Omega.{arith}
use borrow.Author.Tests.{le-leb}
use lib.ListN.{length}
use Rattle.wire.specs.Limits.{longest}
use Rattle.folding.specs.Walks.{CanStep}
use Rattle.folding.proofs.Walks.{any_walk}
use Rattle.cues.specs.Cues.{longest_recording, entry_size, indexing, written_of, index_of}
use Rattle.cues.proofs.Indexes.{written-length}
use Rattle.cues.proofs.Folds.{indexing-sound}
use Rattle.recordings.specs.Recordings.{WritingStep, AnyBuffers}

-- a step writes the index of its bytes, where the recording is short enough
can_write : CanStep indexing WritingStep longest_recording
can_write base l w used why low e =
    let written : written_of (index_of base l) ≡ w = ap written_of e in
    let there : base + used - base ≡ used = omega arith in (
      length w / entry_size,
      record {
        counted = omega (arith, written-length base l, ap length written);
        meets =
            λ out short room.
            record {
              answers =
                  rw (
                    le-leb (length l) longest short,
                    le-leb (base + length l) longest_recording low,
                    e,
                    le-leb (length w) (length out) room,
                    there,
                  );
              leaves = rw written;
            };
      },
    )

-- Ticket 5: indexing a recording through any row of buffers is the index of the whole
pub any_buffers : AnyBuffers
any_buffers = any_walk indexing indexing-sound WritingStep longest_recording can_write
