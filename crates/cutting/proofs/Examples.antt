-- Examples, computed, that meet the hypotheses of `every_cut` and `any_portions`: a stream of three frames that is cut inside the second,
-- and one whose second frame is refused.
use mathlib.Core.Path.{◌≡◌, refl}
use mathlib.Core.List.{List, [], ◌∷◌, ◌++◌}
use Prim.Native.Nat.{ℕ}
use native.Mathlib.Omega.{arith}
use Rattle.refusal.specs.declared.Fault.TheVariants.{Short}
use Rattle.refusal.specs.declared.Field.TheVariants.{Address}
use Rattle.refusal.specs.declared.Refusal.TheVariants.{Unreadable}
use Rattle.wire.specs.Number.{number}
use Rattle.node.specs.Forest.{size, depth, snoc}
use Rattle.node.specs.Tags.{class_of, sort_of}
use Rattle.text.specs.Text.{read_text}
use Rattle.argument.specs.Argument.{read_arg}
use Rattle.argument.specs.Dirt.{kept_padding, packets_padding}
use Rattle.arguments.specs.Arguments.{read_tags}
use Rattle.heads.specs.Heads.{length_of}
use Rattle.packet.specs.FirstText.{start_of}
use Rattle.packet.specs.Packet.{read_message, packet_by, packet_at, read_packet}
use Rattle.framing.specs.Framing.{cut_frame, frames_at, tcp_vec2}
use Rattle.answering.specs.Limits.{decoded}
use Rattle.results.specs.Results.{Packets, Stopped}
use Rattle.table.proofs.Examples.{small_bytes}
use Rattle.calls.specs.Words.{Gives}
use Rattle.calls.proofs.Answered.{packets-give}
use Rattle.calls.proofs.Room.Examples.{blank}
use Rattle.folding.specs.Folding.{joined_bytes}
use Rattle.folding.proofs.Examples.{whole-number, text-front, text-rest, short}
use Rattle.cutting.specs.Cutting.{list_answer, list_table, YieldsRest, CutChangesNothing, Recorded}
use Rattle.cutting.proofs.Calls.{every_cut}
use Rattle.cutting.proofs.AnyPortions.{any_portions}

-- ---- three frames, cut inside the second

abbrev front : List ℕ
front = whole-number ++ text-front

abbrev back : List ℕ
back = text-rest ++ whole-number

three : list_answer 64 (front ++ back) (blank 6) ≡ Packets 6 0 1
unfolding number size depth snoc class_of sort_of read_text read_arg read_tags start_of read_message packet_by packet_at read_packet length_of cut_frame
    frames_at tcp_vec2 decoded kept_padding packets_padding
three = refl

front-answer : list_answer 64 front (blank 6) ≡ Packets 2 10 0
unfolding number size depth snoc class_of sort_of read_text read_arg read_tags start_of read_message packet_by packet_at read_packet length_of cut_frame
    frames_at tcp_vec2 decoded kept_padding packets_padding
front-answer = refl

three-cut : CutChangesNothing 64 front back (blank 6) (blank 6) (blank 6) 6
three-cut =
    every_cut 64 front back (blank 6) (blank 6) (blank 6) 6 1 (small_bytes (front ++ back) tt) (packets-give three) (omega arith)
    (omega arith)

-- the last four records of the stream are those of the remainder and the later bytes, 16 bytes further on
three-rest : YieldsRest 64 front back (blank 6) (blank 6) 2 0 16
three-rest = three-cut.yields_rest 2 10 0 front-answer

-- ---- the same stream in portions, one of them empty

three-portions : Recorded 64 6 (list_table 64 (front ++ back) (blank 6)) 0 0 0 []
    (whole-number ∷ [] ∷ text-front ∷ text-rest ∷ whole-number ∷ []) (Packets 6 0 1)
unfolding joined_bytes number size depth snoc class_of sort_of read_text read_arg read_tags start_of read_message packet_by packet_at read_packet
    length_of cut_frame frames_at tcp_vec2 decoded kept_padding packets_padding
three-portions =
    any_portions 64 (whole-number ∷ [] ∷ text-front ∷ text-rest ∷ whole-number ∷ []) (blank 6) 6 1 (small_bytes (front ++ back) tt)
    (packets-give three)

-- ---- a frame that is refused, and what comes after it

refused-answer : list_answer 64 (whole-number ++ short) (blank 4) ≡ Stopped 2 8 0 (Unreadable (Short Address 20)) 16
unfolding number size depth snoc class_of sort_of read_text read_arg read_tags start_of read_message packet_by packet_at read_packet length_of cut_frame
    frames_at tcp_vec2 decoded kept_padding packets_padding
refused-answer = refl

refused-still : Gives (list_answer 64 ((whole-number ++ short) ++ whole-number) (blank 4)) 2 0
unfolding number size depth snoc class_of sort_of read_text read_arg read_tags start_of read_message packet_by packet_at read_packet length_of cut_frame
    frames_at tcp_vec2 decoded kept_padding packets_padding
refused-still = (refl, refl)

refused_again : list_answer 64 ((whole-number ++ short) ++ whole-number) (blank 4) ≡ Stopped 2 24 0 (Unreadable (Short Address 20)) 16
refused_again =
    (every_cut 64 (whole-number ++ short) whole-number (blank 4) (blank 4) (blank 4) 2 0
    (small_bytes ((whole-number ++ short) ++ whole-number) tt) refused-still (omega arith) (omega arith)
    ).refused_again 2 8 0 _ 16 refused-answer
