use mathlib.Core.List.{append_assoc}
use lib.ListN.{length-append}
use Rattle.wire.proofs.Numbers.{length-bytes}
use Rattle.wire.proofs.Writers.{wrote-lent}
use Rattle.cues.proofs.index.put_entry.Goals as goal

pub returns : goal.returns
returns c =
    simp append_assoc at
    (wrote-lent 12 (wrote-lent 8 c.put_u64.ensures (length-bytes 8 _) c.put_u32.ensures)
    (simp (length-append, length-bytes)) c.put_u32-2.ensures)
