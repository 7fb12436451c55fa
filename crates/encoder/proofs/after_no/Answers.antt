-- A well-formed table is one row, whose depth is then compared; what passes both tests is too long.
use native.Mathlib.Omega.{arith}
use Rattle.encoder.proofs.Answers.{rooted, too-deep, too_long}
use Rattle.encoder.proofs.after_no.Goals as goal

pub deeper_than-requires : goal.deeper_than-requires
deeper_than-requires c =
    let a = c.args in
    (rooted a.table.now a.count a.source.now c.is_well_formed.ensures c.if-not-is_well_formed.false, omega arith)

pub returns-then-deeper_than : goal.returns-then-deeper_than
returns-then-deeper_than c =
    too-deep _ _ _ c.is_well_formed.ensures c.if-not-is_well_formed.false c.deeper_than.ensures c.if-deeper_than.true

pub returns : goal.returns
returns c =
    too_long _ _ _ c.is_well_formed.ensures c.if-not-is_well_formed.false c.deeper_than.ensures c.if-deeper_than.false
    c.requires
