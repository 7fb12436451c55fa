-- The message's record, then those of its arguments in the later part of the table.
use native.Mathlib.Omega.{arith}
use Rattle.wire.proofs.Parts.{length-lent}
use Rattle.wire.proofs.Writers.{wrote-length}
use Rattle.node.specs.Records.{record_size}
use Rattle.arguments.specs.Arguments.{read_args}
use Rattle.fill.proofs.Messages.{put-room, put-stored}
use Rattle.fill.proofs.put_message.Goals as goal

pub read_osc_args-requires-clause-args_room : goal.read_osc_args-requires-clause-args_room
read_osc_args-requires-clause-args_room c =
    let a = c.args in
    put-room a.item (read_args a.base a.tags.now a.input.now a.pos) c.requires.known c.requires.table_room
    (omega (arith, wrote-length _ _ _ c.put_record.ensures, length-lent c.put_record.new.table record_size))

pub returns : goal.returns
returns c =
    let a = c.args in
    put-stored a.item (read_args a.base a.tags.now a.input.now a.pos) c.requires.known a.index c.put_record.ensures
    c.read_osc_args.ensures
