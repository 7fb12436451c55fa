-- The size, the content and the zeros stand one after another.
use mathlib.Core.Path.{refl, sym}
use mathlib.Core.List.{append_assoc}
use Rattle.wire.proofs.Numbers.{length-bytes}
use Rattle.wire.proofs.Writers.{filled-lent}
use Rattle.strings.specs.Atomic.{osc_blob}
use Rattle.strings.proofs.encode_blob_into.Goals as goal

pub returns : goal.returns
unfolding osc_blob
returns c =
    let f = filled-lent (record { count = sym (length-bytes 4 _); wrote = c.put_u32.ensures })
    (record { count = refl; wrote = c.copy.ensures }) in
    simp append_assoc at (filled-lent f c.write_zeros.ensures)
