-- `slide_steps::slide_front` meets its contract: the answer of the decoder of one frame, whose records are those of the frame's tree.
use borrow.Author.Rules.{rules}
use mathlib.Core.Path.{ap, ◌∙◌}
use Rattle.std.specs.Prelude.{Ok}
use Rattle.std.proofs.lemmas.Result.{err_from_is_err_and}
use Prim.Native.Nat.{◌-◌}
use lib.ListN.{length}
use Rattle.wire.proofs.Parts.{tail}
use Rattle.slide_steps.proofs.Fronts.{first_part, front-left, front-can, front-done, front-waits, front-refused, front-never}
use Rattle.slide_steps.proofs.slide_front.Goals as goal

pub overflow_sub-size : goal.overflow_sub-size
overflow_sub-size c =
    front-left c.args.by c.args.bytes.now c.args.table.now c.requires.0 c.requires.1 (tail _ 0) c.decode_tcp.ensures
    (λ i. search rules) (c.in_ok-decoded.was ∙ ap Ok c.in-Packets.is)

pub slide_records-requires : goal.slide_records-requires
slide_records-requires c =
    front-can c.args.by c.args.bytes.now c.args.table.now c.requires.0 c.requires.1 (tail _ 0) c.decode_tcp.ensures
    (λ i. search rules) (c.in_ok-decoded.was ∙ ap Ok c.in-Packets.is)
    (first_part (length c.args.bytes.now - c.in-Packets.left) c.args.bytes.now) (tail _ 0)

pub returns-in-Packets : goal.returns-in-Packets
returns-in-Packets c =
    front-done c.args.by c.args.bytes.now c.args.table.now c.requires.0 c.requires.1 (tail _ 0) c.decode_tcp.ensures
    (λ i. search rules) (c.in_ok-decoded.was ∙ ap Ok c.in-Packets.is)
    (first_part (length c.args.bytes.now - c.in-Packets.left) c.args.bytes.now) (tail _ 0)
    c.slide_records.ensures

pub returns-in-Waiting : goal.returns-in-Waiting
returns-in-Waiting c =
    front-waits c.args.by c.args.bytes.now c.args.table.now c.requires.0 c.requires.1 (tail _ 0) c.decode_tcp.ensures
    (c.in_ok-decoded.was ∙ ap Ok c.in-Waiting.is)

pub returns-in_err-decoded : goal.returns-in_err-decoded
returns-in_err-decoded c =
    let p = err_from_is_err_and c.from_residual.result c.from_residual.ensures.1 in
    rw (p.1, p.2)
    (front-refused c.args.by c.args.bytes.now c.args.table.now c.requires.0 c.requires.1 (tail _ 0) c.decode_tcp.ensures
    c.in_err-decoded.was)

pub returns-in-Stopped : goal.returns-in-Stopped
returns-in-Stopped c =
    front-never c.args.by c.args.bytes.now c.args.table.now c.requires.0 c.requires.1 (tail _ 0) c.decode_tcp.ensures
    (c.in_ok-decoded.was ∙ ap Ok c.in-Stopped.is)
