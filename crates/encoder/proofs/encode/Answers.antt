-- What is refused before a byte is written is refused; where the length is known, the packet is planned and written as it is.
use Rattle.std.proofs.lemmas.Result.{err_from_is_err_and}
use Rattle.encoder.specs.Outcome.{unframed}
use Rattle.encoder.proofs.Answers.{unframed-keeps, refused, planned, encoded-unframed}
use Rattle.encoder.proofs.encode.Goals as goal

pub returns-in_err-n : goal.returns-in_err-n
returns-in_err-n c =
    let a = c.args in
    let p = err_from_is_err_and c.from_residual.result c.from_residual.ensures.1 in
    rw (p.1, p.2) (refused unframed unframed-keeps a.table.now a.count a.source.now a.out.now c.prepare.ensures c.in_err-n.was)

pub returns : goal.returns
returns c = encoded-unframed c.args.out.now (planned _ _ _ c.prepare.ensures c.in_ok-n.was) c.encode_into.ensures
