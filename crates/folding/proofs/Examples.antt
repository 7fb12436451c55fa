-- Frames that examples use, here and in the crates above; and a fold that counts them, computed.
use mathlib.Core.Path.{◌≡◌, refl, ◌∙◌}
use mathlib.Core.Bool.{true}
use mathlib.Core.List.{List, [], ◌∷◌, ◌++◌}
use Prim.Native.Nat.{ℕ, ◌+◌}
use native.Mathlib.Nat.{add_assoc, zero-add, add-zero}
use Rattle.refusal.specs.declared.Fault.TheVariants.{Short}
use Rattle.refusal.specs.declared.Field.TheVariants.{Address}
use Rattle.refusal.specs.declared.Refusal.TheVariants.{Unreadable}
use Rattle.wire.specs.Number.{number}
use Rattle.node.specs.Forest.{depth, snoc}
use Rattle.node.specs.Tags.{class_of, sort_of}
use Rattle.text.specs.Text.{read_text}
use Rattle.argument.specs.Argument.{read_arg}
use Rattle.arguments.specs.Arguments.{read_tags}
use Rattle.heads.specs.Heads.{length_of}
use Rattle.packet.specs.FirstText.{start_of}
use Rattle.packet.specs.Packet.{read_message, packet_by, packet_at, read_packet}
use Rattle.framing.specs.Framing.{cut_frame}
use Rattle.results.specs.declared.End.TheVariants as end
use Rattle.folding.specs.Folding.{Folding, folded, fold_at, fold_of, Sound, joined_bytes, through_buffers}
use Rattle.folding.specs.Frames.{Reading, FrameAdds, over_frames}
use Rattle.folding.proofs.Buffers.{any_buffers}
use Rattle.folding.proofs.Frames.{sound}

-- the frame of a message with the number 7, 16 bytes: 0000000C 2F610000 2C690000 00000007
abbrev pub whole-number : List ℕ
whole-number = 0 ∷ 0 ∷ 0 ∷ 12 ∷ 0x2F ∷ 0x61 ∷ 0 ∷ 0 ∷ 0x2C ∷ 0x69 ∷ 0 ∷ 0 ∷ 0 ∷ 0 ∷ 0 ∷ 7 ∷ []

-- the first ten bytes of the frame of a message with a text, and the rest of it: 0000000C 2F620001 2C73 and 0000 68690000; a byte of the
-- address's padding is not zero
abbrev pub text-front : List ℕ
text-front = 0 ∷ 0 ∷ 0 ∷ 12 ∷ 0x2F ∷ 0x62 ∷ 0 ∷ 1 ∷ 0x2C ∷ 0x73 ∷ []

abbrev pub text-rest : List ℕ
text-rest = 0 ∷ 0 ∷ 0x68 ∷ 0x69 ∷ 0 ∷ 0 ∷ []

-- a frame whose address has no end: 00000004 2F616263
abbrev pub short : List ℕ
short = 0 ∷ 0 ∷ 0 ∷ 4 ∷ 0x2F ∷ 0x61 ∷ 0x62 ∷ 0x63 ∷ []

-- ---- a fold that counts

abbrev reading : Reading
reading = record { limit = 64; from = λ base. base; room = λ inside. true }

abbrev one_more : FrameAdds ℕ
one_more base own item inside = 1

abbrev counting : Folding ℕ
counting = over_frames reading one_more 0 (λ a b. a + b)

counting-sound : Sound counting
counting-sound = sound reading one_more 0 (λ a b. a + b) add_assoc zero-add add-zero

-- two frames, and a third that is refused
stopped-count : fold_of counting 0 (whole-number ++ (text-front ++ (text-rest ++ short)))
    ≡ folded 2 32 (end.Refused (Unreadable (Short Address 36)))
unfolding number depth snoc class_of sort_of read_text read_arg read_tags start_of read_message packet_by packet_at read_packet length_of cut_frame
    fold_at
stopped-count = refl

-- the same through three buffers, of which the second is cut inside a frame
stopped-through : through_buffers counting 0 [] (whole-number ∷ text-front ∷ (text-rest ++ short) ∷ [])
    ≡ folded 2 32 (end.Refused (Unreadable (Short Address 36)))
unfolding joined_bytes
stopped-through = any_buffers counting counting-sound (whole-number ∷ text-front ∷ (text-rest ++ short) ∷ []) ∙ stopped-count
