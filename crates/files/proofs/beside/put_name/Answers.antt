-- `files::beside::put_name` meets its contract: three copies, each after the one before it.
use mathlib.Core.Path.{refl}
use native.Mathlib.Omega.{arith}
use lib.ListN.{length-append}
use Rattle.wire.proofs.Writers.{wrote-lent}
use Rattle.files.proofs.beside.put_name.Goals as goal

pub returns : goal.returns
returns c = record {
  count = simp length-append (omega arith);
  wrote =
      wrote-lent _ (wrote-lent _ c.copy.ensures refl c.copy-2.ensures)
      (simp length-append (omega arith)) c.copy-3.ensures;
}
