-- An answer with records leaves room for them, and only then the second reading writes.
use mathlib.Core.Path.{refl, ap, sym, ◌∙◌}
use Rattle.std.specs.Prelude.{Ok}
use Rattle.results.specs.Results.{Packets, Stopped}
use Rattle.decoder.proofs.Answers.{fillable}
use Rattle.decoder.proofs.decode.Goals as goal

pub write-requires : goal.write-requires
write-requires c =
    let a = c.args in
    let e = rw c.capacity_of.ensures at c.in_ok-answer.ensures in
    fillable {r = Packets c.in-Packets.count c.in-Packets.left c.in-Packets.dirty} a.framing a.depth a.msg.now a.table.now refl
    (ap Ok (sym c.in-Packets.is) ∙ e)

pub write-requires-in-Stopped : goal.write-requires-in-Stopped
write-requires-in-Stopped c =
    let a = c.args in
    let e = rw c.capacity_of.ensures at c.in_ok-answer.ensures in
    fillable {r = Stopped c.in-Stopped.count c.in-Stopped.left c.in-Stopped.dirty c.in-Stopped.refusal c.in-Stopped.frame} a.framing
    a.depth a.msg.now a.table.now refl
    (ap Ok (sym c.in-Stopped.is) ∙ e)
