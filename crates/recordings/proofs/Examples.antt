-- Examples, computed: a recording of three frames in four portions, one of them empty, which is cut inside the second frame; and one whose
-- second frame is refused.
use mathlib.Core.Path.{◌≡◌, refl, sym}
use mathlib.Core.List.{List, [], ◌∷◌, ◌++◌}
use Prim.Native.Nat.{ℕ, ◌+◌, ◌*◌}
use native.Mathlib.Omega.{arith}
use lib.ListN.{length, take, replicate}
use Rattle.refusal.specs.declared.Fault.TheVariants.{Short}
use Rattle.refusal.specs.declared.Field.TheVariants.{Address}
use Rattle.refusal.specs.declared.Refusal.TheVariants.{Unreadable}
use Rattle.wire.specs.Limits.{deepest}
use Rattle.wire.specs.Number.{number, bytes}
use Rattle.node.specs.Forest.{size, depth, snoc}
use Rattle.node.specs.Tags.{class_of, sort_of}
use Rattle.text.specs.Text.{read_text}
use Rattle.argument.specs.Argument.{read_arg}
use Rattle.argument.specs.Dirt.{kept_padding, packets_padding}
use Rattle.arguments.specs.Arguments.{read_tags}
use Rattle.heads.specs.Heads.{length_of}
use Rattle.packet.specs.FirstText.{start_of}
use Rattle.packet.specs.Packet.{read_message, packet_by, packet_at, read_packet}
use Rattle.framing.specs.Framing.{cut_frame, tcp2}
use Rattle.folding.specs.Folding.{fold_at, joined_bytes}
use Rattle.folding.specs.Walks.{Walk, reads_on, stops}
use Rattle.folding.proofs.Examples.{whole-number, text-front, text-rest, short}
use Rattle.answering.specs.Limits.{decoded}
use Rattle.cues.specs.Cues.{indexing, Index, index, index_of, index_answer, Indexes, IndexStep, cue_of, entry_size, most_in_a_cue}
use Rattle.cues.proofs.Cues.{Judges, answer_judges}
use Rattle.cues.proofs.Steps.{stepped}
use Rattle.cues.specs.Checks.{compared_at, compared, checked_as}
use Rattle.results.specs.Results.{Packets, Written}
use Rattle.std.specs.Prelude.{Ok}
use Rattle.results.specs.Results as found
use Rattle.results.specs.declared.End.TheVariants as end
use Rattle.recordings.specs.Recordings.{WritingStep, EndToEnd, CueThere, checked_in_parts, CueFound}
use Rattle.recordings.proofs.AnyBuffers.{any_buffers}
use Rattle.recordings.proofs.Walks.{every_walk, walk_checks}
use Rattle.recordings.proofs.Parts.{every_check}
use Rattle.recordings.proofs.Lookup.{where_cues_lie, every_cue, checked_cue}

-- a record of an index, of a frame of 12 bytes with 2 records
abbrev pub entry : ℕ → List ℕ
entry offset = 0 ∷ 0 ∷ 0 ∷ 0 ∷ 0 ∷ 0 ∷ 0 ∷ offset ∷ 0 ∷ 0 ∷ 0 ∷ 12 ∷ 0 ∷ 0 ∷ 0 ∷ 2 ∷ []

-- a writer writes this index through these portions
abbrev Through : List (List ℕ) → Index → Type 0
Through portions i = (sums : List (List ℕ)) × Walk indexing WritingStep 0 [] portions sums i

-- ---- three frames

abbrev three : List ℕ
three = whole-number ++ (text-front ++ (text-rest ++ whole-number))

three-index : index_of 0 three ≡ index (entry 0 ++ (entry 16 ++ entry 32)) 48 end.Whole
unfolding number bytes size depth snoc class_of sort_of read_text read_arg read_tags start_of read_message packet_by packet_at read_packet length_of
    cut_frame fold_at
three-index = refl

-- the second frame waits in the third buffer, and is given in the fourth
third-answer : index_answer 16 text-front 0 ≡ Written 0 0 end.Waiting
unfolding number bytes size depth snoc class_of sort_of read_text read_arg read_tags start_of read_message packet_by packet_at read_packet length_of
    cut_frame fold_at
third-answer = refl

fourth-answer : index_answer 16 (text-front ++ (text-rest ++ whole-number)) 32 ≡ Written 2 32 end.Whole
unfolding number bytes size depth snoc class_of sort_of read_text read_arg read_tags start_of read_message packet_by packet_at read_packet length_of
    cut_frame fold_at
fourth-answer = refl

three-buffers : Through (whole-number ∷ [] ∷ text-front ∷ (text-rest ++ whole-number) ∷ [])
    (index (entry 0 ++ (entry 16 ++ entry 32)) 48 end.Whole)
unfolding joined_bytes
three-buffers = rw three-index at (any_buffers (whole-number ∷ [] ∷ text-front ∷ (text-rest ++ whole-number) ∷ []) (omega arith))

three-lie : EndToEnd 0 (entry 0 ++ (entry 16 ++ entry 32)) 48
three-lie = where_cues_lie three _ 48 end.Whole (omega arith) three-index

-- the second cue, looked up
second-cue : CueThere three 16 12 2
unfolding number
second-cue = every_cue three (entry 0 ++ (entry 16 ++ entry 32)) 48 end.Whole (omega arith) three-index 1 (omega arith)

-- a program walks over the three in three portions, with outputs of 16, of no and of 33 bytes
pub first_step : Indexes whole-number 0 (replicate 16 9) (Written 1 16 end.Whole) (entry 0)
unfolding number bytes size depth snoc class_of sort_of read_text read_arg read_tags start_of read_message packet_by packet_at read_packet length_of
    cut_frame fold_at
first_step = record { answers = refl; leaves = refl }

-- what it says is the index of its bytes
first-stepped : index_of 0 whole-number ≡ index (take (entry_size * 1) (entry 0)) (0 + 16) end.Whole
first-stepped = (stepped first_step).is

-- its frame is judged as the decoder of one frame answers it
first-decoded : decoded (tcp2 deepest) most_in_a_cue deepest whole-number ≡ Packets 2 0 0
unfolding number size depth snoc class_of sort_of read_text read_arg read_tags start_of read_message packet_by packet_at read_packet length_of cut_frame
    tcp2 decoded kept_padding packets_padding
first-decoded = refl

first-judged : Judges (length whole-number) (Packets 2 0 0) (cue_of whole-number)
first-judged = answer_judges whole-number (omega arith) (sym first-decoded)

second-step : Indexes text-front 16 [] (Written 0 0 end.Waiting) []
unfolding number bytes size depth snoc class_of sort_of read_text read_arg read_tags start_of read_message packet_by packet_at read_packet length_of
    cut_frame fold_at
second-step = record { answers = refl; leaves = refl }

third-step : Indexes (text-front ++ (text-rest ++ whole-number)) 16 (replicate 33 9) (Written 2 32 end.Whole)
    (entry 16 ++ (entry 32 ++ (9 ∷ [])))
unfolding number bytes size depth snoc class_of sort_of read_text read_arg read_tags start_of read_message packet_by packet_at read_packet length_of
    cut_frame fold_at
third-step = record { answers = refl; leaves = refl }

abbrev pub three-portions : List (List ℕ)
three-portions = whole-number ∷ text-front ∷ (text-rest ++ whole-number) ∷ []

abbrev pub three-parts : List (List ℕ)
three-parts = entry 0 ∷ [] ∷ (entry 16 ++ entry 32) ∷ []

pub three-walk : Walk indexing IndexStep 0 [] three-portions three-parts (index (entry 0 ++ (entry 16 ++ entry 32)) 48 end.Whole)
three-walk =
    reads_on (1, replicate 16 9, entry 0, first_step, refl) tt
    (reads_on (0, [], [], second-step, refl) tt
    (stops (2, replicate 33 9, entry 16 ++ (entry 32 ++ (9 ∷ [])), third-step, refl) tt))

pub three-walked : index (entry 0 ++ (entry 16 ++ entry 32)) 48 end.Whole ≡ index_of 0 (joined_bytes three-portions)
three-walked = every_walk three-portions three-parts _ three-walk

-- and checks its parts against an index whose third record is cut off
three-walk-checks : checked_in_parts three-parts (entry 0 ++ entry 16) ≡ checked_as (joined_bytes three-portions) (entry 0 ++ entry 16)
three-walk-checks = walk_checks three-portions three-parts _ (entry 0 ++ entry 16) three-walk

-- the second cue, looked up after a check
three-checked : checked_as three (entry 0 ++ (entry 16 ++ entry 32)) ≡ Ok 3
unfolding compared_at
three-checked = rw three-index refl

checked-second : CueFound three 3 1 (found.At 16 12 2)
unfolding number
checked-second = checked_cue three (entry 0 ++ (entry 16 ++ entry 32)) 3 1 (omega arith) three-checked

-- the check of an index whose third record is cut off, in two parts
in-two-parts : checked_in_parts (entry 0 ∷ (entry 16 ++ entry 32) ∷ []) (entry 0 ++ entry 16)
    ≡ compared (joined_bytes (entry 0 ∷ (entry 16 ++ entry 32) ∷ [])) (entry 0 ++ entry 16)
in-two-parts = every_check (entry 0 ∷ (entry 16 ++ entry 32) ∷ []) (entry 0 ++ entry 16) (refl, (refl, tt))

-- ---- a frame that is refused, and what comes after it

refused-index : index_of 0 (whole-number ++ (short ++ whole-number)) ≡ index (entry 0) 16 (end.Refused (Unreadable (Short Address 4)))
unfolding number bytes size depth snoc class_of sort_of read_text read_arg read_tags start_of read_message packet_by packet_at read_packet length_of
    cut_frame fold_at
refused-index = refl

refused-buffers : Through (whole-number ∷ short ∷ whole-number ∷ []) (index (entry 0) 16 (end.Refused (Unreadable (Short Address 4))))
unfolding joined_bytes
refused-buffers = rw refused-index at (any_buffers (whole-number ∷ short ∷ whole-number ∷ []) (omega arith))
