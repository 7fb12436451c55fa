-- What is written of the input by each framing is what its rule gives.
use mathlib.Core.Path.{◌≡◌, ap, sym, ◌∙◌}
use mathlib.Core.List.{List}
use Prim.Native.Nat.{ℕ}
use Rattle.edition.specs.declared.Framing.{Framing}
use Rattle.edition.specs.declared.Framing.TheVariants.{Tcp}
use Rattle.node.specs.Forest.{Forest}
use Rattle.node.specs.Records.{stored}
use Rattle.framing.specs.Framing.{rule_of}
use Rattle.answering.specs.Limits.{forest_of}
use Rattle.decoder.proofs.Answers.{fillable-by, stored-by, room_for, udp-tree, udp-known, tcp-tree}
use Rattle.decoder.proofs.FrameFills.{tcp2-tree}
use Rattle.decoder.proofs.frames.write.Goals as goal

-- what is stored of one packet or one frame is stored of the whole input
one-stored : {g f : Framing} {T' : List ℕ} {h : Forest} (limit : ℕ) (msg T : List ℕ) → g ≡ f
    → forest_of (rule_of f limit msg) ≡ h → T' ≡ stored 0 h T
    → T' ≡ stored 0 (forest_of (rule_of g limit msg)) T
one-stored limit msg T e t w = stored-by e limit msg T (w ∙ ap (λ (k : Forest). stored 0 k T) (sym t))

pub write_packet-requires-clause-table_room : goal.write_packet-requires-clause-table_room
write_packet-requires-clause-table_room c = room_for (udp-tree _) (fillable-by c.in-Udp.is c.args.depth c.args.msg.now c.requires).room

pub write_packet-requires-clause-known : goal.write_packet-requires-clause-known
write_packet-requires-clause-known c =
    let w = fillable-by c.in-Udp.is c.args.depth c.args.msg.now c.requires in
    udp-known _ w.accepted w.records

pub decode_frame-requires-clause-table_room : goal.decode_frame-requires-clause-table_room
decode_frame-requires-clause-table_room c =
    room_for (tcp-tree _) (fillable-by (c.in-Tcp.is ∙ ap Tcp c.in-Rosc.is) c.args.depth c.args.msg.now c.requires).room

pub decode_cut-requires-clause-table_room : goal.decode_cut-requires-clause-table_room
decode_cut-requires-clause-table_room c =
    let w = fillable-by (c.in-Tcp.is ∙ ap Tcp c.in-Standard.is) c.args.depth c.args.msg.now c.requires in
    room_for (tcp2-tree c.args.depth c.args.msg.now w.accepted) w.room

pub returns-in-Udp : goal.returns-in-Udp
returns-in-Udp c = one-stored c.args.depth c.args.msg.now c.args.table.now c.in-Udp.is (udp-tree _) c.write_packet.ensures

pub returns-in-Rosc : goal.returns-in-Rosc
returns-in-Rosc c =
    one-stored c.args.depth c.args.msg.now c.args.table.now (c.in-Tcp.is ∙ ap Tcp c.in-Rosc.is) (tcp-tree _)
    c.decode_frame.ensures.table

pub returns-in-Standard : goal.returns-in-Standard
returns-in-Standard c =
    let w = fillable-by (c.in-Tcp.is ∙ ap Tcp c.in-Standard.is) c.args.depth c.args.msg.now c.requires in
    one-stored c.args.depth c.args.msg.now c.args.table.now (c.in-Tcp.is ∙ ap Tcp c.in-Standard.is)
    (tcp2-tree c.args.depth c.args.msg.now w.accepted)
    c.decode_cut.ensures.table
