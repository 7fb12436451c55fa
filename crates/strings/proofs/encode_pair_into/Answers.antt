-- The second number stands after the four bytes of the first.
use lib.ListN.{length-append}
use Rattle.wire.proofs.Numbers.{length-bytes}
use Rattle.wire.proofs.Writers.{wrote-lent}
use Rattle.strings.proofs.encode_pair_into.Goals as goal

pub returns : goal.returns
returns c =
    record {
      count = simp (length-append, length-bytes);
      wrote = wrote-lent 4 c.put_u32.ensures (length-bytes 4 _)
          c.put_u32-2.ensures;
    }
