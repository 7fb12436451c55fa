-- Examples, computed, of the calls of a cue index: P3's packet in a frame, followed by none, by a part of one and by a refused one; and the
-- index of it checked and looked up.
use mathlib.Core.Path.{◌≡◌, refl}
use mathlib.Core.List.{List, [], ◌∷◌, ◌++◌}
use Prim.Native.Nat.{ℕ, ◌<◌}
use native.Mathlib.Omega.{arith}
use lib.ListN.{get_or, replicate}
use Rattle.refusal.specs.declared.Field.TheVariants.{Address}
use Rattle.refusal.specs.declared.Fault.TheVariants.{Empty, Short}
use Rattle.refusal.specs.declared.Refusal.TheVariants.{Unreadable, OutputShort}
use Rattle.wire.specs.Number.{number, bytes}
use Rattle.node.specs.Forest.{size, depth, snoc}
use Rattle.node.specs.Tags.{class_of, sort_of}
use Rattle.text.specs.Text.{read_text}
use Rattle.argument.specs.Argument.{read_arg}
use Rattle.arguments.specs.Arguments.{read_tags}
use Rattle.heads.specs.Heads.{length_of}
use Rattle.packet.specs.FirstText.{start_of}
use Rattle.packet.specs.Packet.{read_message, packet_by, packet_at, read_packet}
use Rattle.framing.specs.Framing.{cut_frame}
use Rattle.folding.specs.Folding.{fold_at}
use Rattle.cues.specs.Checks.{compared_at}
use Rattle.results.specs.declared.End.TheVariants as end
use Rattle.std.specs.Prelude.{Err}
use Rattle.results.specs.Results as results
use Rattle.table.proofs.Examples as p3
use Rattle.apart.specs.Boundary.{osc_index_step, osc_index_check_step, osc_cue, c_contract_of, CMeets, IndexEndTold, DiffersTold}
use Rattle.apart.specs.ReadBack.{IndexBack, CueBack}
use Rattle.apart.proofs.Boundary.{index_ends_apart, differs_apart}
use Rattle.apart.proofs.IndexTold.{index_told, told_cue}

-- the frame, and its record
abbrev frame : List ℕ
frame = 0 ∷ 0 ∷ 0 ∷ 12 ∷ p3.packet

abbrev entry : List ℕ
entry = 0 ∷ 0 ∷ 0 ∷ 0 ∷ 0 ∷ 0 ∷ 0 ∷ 0 ∷ 0 ∷ 0 ∷ 0 ∷ 12 ∷ 0 ∷ 0 ∷ 0 ∷ 2 ∷ []

entry-small : (i : ℕ) → get_or entry i 0 < 256
entry-small = p3.small_bytes entry tt

-- one record for 16 bytes
whole : CMeets (osc_index_step frame 0 (replicate 17 9)) 0x1_0000_0010 0 (entry ++ (9 ∷ []))
unfolding number bytes size depth snoc class_of sort_of read_text read_arg read_tags start_of read_message packet_by packet_at read_packet length_of
    cut_frame fold_at
whole = record { answer = results.Written 1 16 end.Whole; meets = record { answers = refl; leaves = refl }; number = refl; beside = refl }

whole-told : IndexBack (results.Written 1 16 end.Whole) 0x1_0000_0010 0
unfolding whole
whole-told = index_told frame 0 (replicate 17 9) _ _ _ whole

-- a frame after it that is not all there is told beside it
waits : CMeets (osc_index_step (frame ++ (0 ∷ [])) 0 (replicate 16 9)) 0x1_0000_0010 1 entry
unfolding number bytes size depth snoc class_of sort_of read_text read_arg read_tags start_of read_message packet_by packet_at read_packet length_of
    cut_frame fold_at
waits = record { answer = results.Written 1 16 end.Waiting; meets = record { answers = refl; leaves = refl }; number = refl; beside = refl }

-- so is one that is refused, with its number: 2 of a frame of no bytes
ends : CMeets (osc_index_step (frame ++ (0 ∷ 0 ∷ 0 ∷ 0 ∷ [])) 0 (replicate 16 9)) 0x1_0000_0010 0x2_0000_0000_0000 entry
unfolding number bytes size depth snoc class_of sort_of read_text read_arg read_tags start_of read_message packet_by packet_at read_packet length_of
    cut_frame fold_at
ends =
    record {
      answer = results.Written 1 16 (end.Refused (Unreadable Empty));
      meets = record { answers = refl; leaves = refl };
      number = refl;
      beside = refl;
    }

ends-told : IndexEndTold 20 0x1_0000_0010 0x2_0000_0000_0000
ends-told =
    record {
      listed = refl;
      clean = refl;
      accepted = omega arith;
      used = omega arith;
      field = λ none. refl;
      place = λ has. absurd (omega (arith, has.0));
    }

-- and told from an answer with nothing beside it
ends_apart : (c_contract_of (osc_index_step (frame ++ (0 ∷ 0 ∷ 0 ∷ 0 ∷ [])) 0 (replicate 16 9))).Extra 0x2_0000_0000_0000 → ⊥
ends_apart = (index_ends_apart 20 0x1_0000_0010 0x2_0000_0000_0000 ends-told).0

-- 17 of a frame whose address "/a/b" has no NUL: its field begins at 20, four bytes behind the prefix at 16
abbrev short-address : List ℕ
short-address = frame ++ (0 ∷ 0 ∷ 0 ∷ 4 ∷ 47 ∷ 97 ∷ 47 ∷ 98 ∷ [])

ends-short : CMeets (osc_index_step short-address 0 (replicate 16 9)) 0x1_0000_0010 0x11_0014_0000_0000 entry
unfolding number bytes size depth snoc class_of sort_of read_text read_arg read_tags start_of read_message packet_by packet_at read_packet length_of
    cut_frame fold_at
ends-short =
    record {
      answer = results.Written 1 16 (end.Refused (Unreadable (Short Address 4)));
      meets = record { answers = refl; leaves = refl };
      number = refl;
      beside = refl;
    }

short-told : IndexEndTold 24 0x1_0000_0010 0x11_0014_0000_0000
short-told =
    record {
      listed = refl;
      clean = refl;
      accepted = omega arith;
      used = omega arith;
      field = λ none. absurd (none (omega arith, omega arith));
      place = λ has. (omega arith, omega arith);
    }

-- 12, and the output is as it was
short : CMeets (osc_index_step frame 0 (replicate 15 9)) 0xc00_0000_0000_0000 0 (replicate 15 9)
unfolding number bytes size depth snoc class_of sort_of read_text read_arg read_tags start_of read_message packet_by packet_at read_packet length_of
    cut_frame fold_at
short = record { answer = Err OutputShort; meets = record { answers = refl; leaves = refl }; number = refl; beside = refl }

-- the check of record 7 of an index: the next is 8; without it 25 and its number
fits : CMeets (osc_index_check_step entry entry 7) 8 0 []
unfolding compared_at
fits = (refl, refl, refl)

missing : CMeets (osc_index_check_step entry [] 7) 0x1900_0000_0000_0007 0 []
unfolding compared_at
missing = (refl, refl, refl)

missing-told : DiffersTold 7 0x1900_0000_0000_0007 0
missing-told = record { place = 7; number = refl; low = omega arith; here = omega arith; alone = refl }

-- and told from a number of records
missing-apart : (c_contract_of (osc_index_check_step entry [] 7)).Answered 0x1900_0000_0000_0007 → ⊥
missing-apart h = (differs_apart 7 0x1900_0000_0000_0007 0 missing-told).0 h.0

-- cue 0: 2 records, 12 bytes at offset 0; there is no cue 1
first : CMeets (osc_cue entry entry-small 0) 0x2_0000_000c 0 []
unfolding number
first = (refl, refl, refl)

first-told : CueBack (results.At 0 12 2) 0x2_0000_000c 0
unfolding number
first-told = told_cue entry entry-small 0 0x2_0000_000c 0 [] first

second : CMeets (osc_cue entry entry-small 1) 0xb00_0000_0000_0000 0 []
unfolding number
second = (refl, refl, refl)
