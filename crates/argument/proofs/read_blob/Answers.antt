use Rattle.std.proofs.Common.{sym}
use Rattle.argument.proofs.There.{with-numbers}
use Rattle.argument.proofs.Argued.{blob-short, blob-cut, blob-lacks, blob-given}
use Rattle.argument.proofs.read_blob.Goals as goal

pub returns-then-input-lt4 : goal.returns-then-input-lt4
returns-then-input-lt4 c = blob-short _ _ _ _ c.if-input-lt4.true

pub returns-then-input-end : goal.returns-then-input-end
returns-then-input-end c = blob-cut _ _ _ _ c.if-input-lt4.false c.be_u32-size.ensures c.if-input-end.true

pub returns-then-input-used : goal.returns-then-input-used
returns-then-input-used c =
    blob-lacks _ _ _ _ c.if-input-lt4.false c.be_u32-size.ensures c.if-input-end.false c.if-input-used.true

pub returns : goal.returns
returns c =
    sym
    (with-numbers
    (blob-given _ _ _ _ c.if-input-lt4.false c.be_u32-size.ensures c.if-input-end.false c.if-input-used.false)
    c.given.ensures)
