-- What is refused before a byte is written is refused; a planned packet is written with its length, or without one.
use Rattle.std.proofs.lemmas.Result.{err_from_is_err_and}
use Rattle.encoder.specs.Outcome.{framed_by}
use Rattle.encoder.proofs.Answers.{framed-keeps, refused, planned, root-read, encoded-framed, encoded-bare}
use Rattle.encoder.proofs.encode_tcp.Goals as goal

pub kind_at-requires : goal.kind_at-requires
kind_at-requires c = root-read c.args.out.now (planned _ _ _ c.prepare.ensures c.in_ok-n.was)

pub returns-in_err-n : goal.returns-in_err-n
returns-in_err-n c =
    let a = c.args in
    let p = err_from_is_err_and c.from_residual.result c.from_residual.ensures.1 in
    rw (p.1, p.2)
    (refused (framed_by a.edition) (framed-keeps a.edition) a.table.now a.count a.source.now a.out.now c.prepare.ensures c.in_err-n.was)

pub returns-then-has_length : goal.returns-then-has_length
returns-then-has_length c =
    let p = planned _ _ _ c.prepare.ensures c.in_ok-n.was in
    encoded-framed c.args.out.now p c.args.edition c.kind_at.ensures c.has_length.ensures c.if-has_length.true c.encode_framed.ensures

pub returns-else-has_length : goal.returns-else-has_length
returns-else-has_length c =
    let p = planned _ _ _ c.prepare.ensures c.in_ok-n.was in
    encoded-bare c.args.out.now p c.args.edition c.kind_at.ensures c.has_length.ensures c.if-has_length.false c.encode_into.ensures
