-- The answer of the decoder of one frame, within a table of 3,276 records.
use Rattle.cues.proofs.Cues.{answer_judges}
use mathlib.Core.Path.{ap, sym, ◌∙◌}
use Rattle.std.specs.Prelude.{Ok}
use Rattle.std.proofs.lemmas.Result.{err_from_is_err_and}
use Rattle.cues.proofs.cue.cue_of.Goals as goal

pub returns-in-Packets : goal.returns-in-Packets
returns-in-Packets c =
    (answer_judges c.args.bytes.now c.requires (ap Ok (sym c.in-Packets.is) ∙ c.in_ok-decoded.ensures)).same

pub returns-in-Waiting : goal.returns-in-Waiting
returns-in-Waiting c =
    (answer_judges c.args.bytes.now c.requires (ap Ok (sym c.in-Waiting.is) ∙ c.in_ok-decoded.ensures)).same

pub returns-in_err-decoded : goal.returns-in_err-decoded
returns-in_err-decoded c =
    let p = err_from_is_err_and c.from_residual.result c.from_residual.ensures.1 in
    rw (p.1, p.2) (answer_judges c.args.bytes.now c.requires c.in_err-decoded.ensures).same

pub returns-in-Stopped : goal.returns-in-Stopped
returns-in-Stopped c =
    (answer_judges c.args.bytes.now c.requires (ap Ok (sym c.in-Stopped.is) ∙ c.in_ok-decoded.ensures)).same

pub overflow_sub-result : goal.overflow_sub-result
overflow_sub-result c =
    (answer_judges c.args.bytes.now c.requires (ap Ok (sym c.in-Packets.is) ∙ c.in_ok-decoded.ensures)).inside
