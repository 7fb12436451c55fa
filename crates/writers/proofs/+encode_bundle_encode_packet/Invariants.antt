-- The loop keeps which of the bundle's elements are written and which are left. The number of records falls, and a packet stands above
-- the bundle at the same record.
use mathlib.Core.Path.{◌≡◌}
use Prim.Native.Nat.{◌+◌, ◌-◌, ◌*◌}
use Rattle.node.specs.Records.{end_at}
use Rattle.writers.specs.Osc.{write_elements}
use Rattle.writers.specs.CodeWriters.{SoundIn, packet_at}
use Rattle.writers.proofs.Rows.{Going}
use Rattle.writers.proofs.+encode_bundle_encode_packet.Given as goal

abbrev pub decreases-encode_bundle : goal.decreases-encode_bundle
decreases-encode_bundle l = 2 * (end_at l.table.now l.at - l.at)

abbrev pub decreases-encode_packet : goal.decreases-encode_packet
decreases-encode_packet l = 2 * (end_at l.table.now l.at - l.at) + 1

abbrev pub invariant-encode_bundle-loop-next : goal.invariant-encode_bundle-loop-next
invariant-encode_bundle-loop-next l =
    (l.next-iterator.table.now ≡ l.table) × (l.next-iterator.hi ≡ l.end)
    × Going (SoundIn l.source) (packet_at l.source l.table l.at) (write_elements l.source) l.table (l.at + 1) l.end l.initial.out l.out
    l.next-iterator.at l.written
