-- `telling::form::put_piece` meets its contract, by its keys.
use borrow.Author.Tests.{ne_eqb}
use Rattle.telling.specs.Forms.{piece_of}
use Rattle.telling.proofs.Told.{put_as}
use Rattle.telling.proofs.form.put_piece.Goals as goal

pub returns-in-37 : goal.returns-in-37
unfolding piece_of
returns-in-37 c = put_as (rw c.in-37.is) c.put_decimal.ensures

pub returns-in-36 : goal.returns-in-36
unfolding piece_of
returns-in-36 c = put_as (rw c.in-36.is) c.put_eight.ensures

pub returns-in-126 : goal.returns-in-126
unfolding piece_of
returns-in-126 c = put_as (rw c.in-126.is) c.put.ensures

pub returns-in_default : goal.returns-in_default
unfolding piece_of
returns-in_default c =
    let r = c.in_default.in_default-own.rest in
    put_as (rw (ne_eqb _ 37 r.0.0.1, ne_eqb _ 36 r.0.1, ne_eqb _ 126 r.1)) c.put-in_default.ensures
