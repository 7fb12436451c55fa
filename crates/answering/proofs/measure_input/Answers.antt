-- The first reading by each framing.
use mathlib.Core.Path.{◌∙◌}
use Rattle.argument.proofs.Stands.{stands-rest}
use Rattle.answering.proofs.Order.{total-by}
use Rattle.rosc_inputs.proofs.Totals.{udp-total, udp-ends}
use Rattle.answering.proofs.measure_input.Goals as goal

pub measure_one-requires : goal.measure_one-requires
measure_one-requires c =
    let a = c.args in
    udp-ends a.depth a.msg.now (c.measure_packet.ensures 0 a.msg.now (stands-rest a.msg.now 0))

pub returns-in-Udp : goal.returns-in-Udp
returns-in-Udp c =
    let a = c.args in
    total-by c.in-Udp.is a.depth a.msg.now
    (c.measure_one.ensures ∙ udp-total a.depth a.msg.now (c.measure_packet.ensures 0 a.msg.now (stands-rest a.msg.now 0)))
