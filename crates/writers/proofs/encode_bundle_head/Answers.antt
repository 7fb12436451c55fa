-- The two numbers of the time tag stand after the mark.
use mathlib.Core.Path.{refl}
use mathlib.Core.List.{append-nil}
use Rattle.wire.proofs.Writers.{filled-lent}
use Rattle.writers.specs.Osc.{write_bundle}
use Rattle.writers.proofs.encode_bundle_head.Goals as goal

pub returns : goal.returns
unfolding write_bundle
returns c =
    rw append-nil (filled-lent (record { count = refl; wrote = c.copy.ensures }) c.encode_pair_into.ensures)
