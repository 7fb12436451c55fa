-- What is told of a cue index is read back from the numbers.
use mathlib.Core.Path.{◌≡◌, refl, sym, ap, subst, ◌∙◌}
use mathlib.Core.List.{List}
use Prim.Native.Nat.{ℕ, ◌+◌, ◌*◌, ◌/◌, ◌<◌}
use native.Mathlib.Omega.{arith}
use borrow.Author.Tests.{ltb-true}
use lib.Dec.{ltb}
use lib.ListN.{length, get_or, drop}
use Rattle.refusal.specs.Refusal.{offset_of, moved_refusal}
use Rattle.wire.specs.Limits.{longest}
use Rattle.wire.proofs.Choices.{by-test, by_le}
use Rattle.wire.proofs.Numbers.{number_small}
use Rattle.wire.proofs.Parts.{drop-small}
use Rattle.cues.specs.Cues.{longest_recording, entry_size, Index, index, index_of, written_of, indexed_as, index_answer}
use Rattle.cues.specs.Cues.{cue_size, cue_records, cue_in}
use Rattle.results.specs.declared.End.{End}
use Rattle.results.specs.declared.End.TheVariants as end
use Rattle.results.specs.Results.{CueAnswer, IndexAnswer}
use Rattle.std.specs.Prelude.{Err, Ok}
use Rattle.results.specs.Results as results
use Rattle.told.specs.Told.{Bounded, answer_of, more_of, unpack}
use Rattle.told.specs.Answers.{told_answer, told_number, ended_told, indexed_told, cue_told_as, cue_told, cue_beside}
use Rattle.told.proofs.Unpacked.{packed, number_in, answer-bounded, tells-record}
use Rattle.told.proofs.Back.{indexed_back, IndexTelling, indexed-reads}
use Rattle.apart.specs.Boundary.{osc_index_step, CMeets}
use Rattle.apart.specs.ReadBack.{IndexBack, all_used, frame_waits, frame_ends, call_ends, IndexTold, IndexOnce}
use Rattle.apart.specs.ReadBack.{CueBack, there, nowhere, CueTold}
use Rattle.apart.proofs.Bounds.{indexed-fits}

-- by why the index goes no further
ended-back : (n u : ℕ) (why : End) → Bounded (ended_told n u why)
    → IndexBack (results.Written n u why) (answer_of (ended_told n u why)) (more_of (ended_told n u why))
ended-back n u end.Whole h = let p = packed (ended_told n u end.Whole) h in all_used p.number refl (rw (p.count, p.low))
ended-back n u end.Waiting h = let p = packed (ended_told n u end.Waiting) h in frame_waits p.number refl (rw (p.count, p.low))
ended-back n u (end.Refused r) h =
    let p = packed (ended_told n u (end.Refused r)) h in
    frame_ends r p.number (omega (arith, p.frame, (number_in r).0)) (sym p.frame)
    (ap (λ (n : ℕ). offset_of (moved_refusal n r)) p.low ∙ sym p.field) (rw (p.count, p.low))

index_back : (a : IndexAnswer) → Bounded (indexed_told a) → IndexBack a (answer_of (indexed_told a)) (more_of (indexed_told a))
index_back (Ok indexed) h = ended-back indexed.records indexed.used indexed.end h
index_back (Err r) h =
    let p = packed (told_number r) h in call_ends r (omega (arith, p.number, (number_in r).0)) (sym p.number) refl refl

-- every part of a step's answer is told
pub index_told : IndexTold
index_told bytes base out told more after t =
    rw (t.number, t.beside) (index_back t.answer (indexed-fits base bytes (length out) t.meets.answers))

-- a step refuses a call with 1 or 12 alone, which have no offset
index-telling : (base : ℕ) (l : List ℕ) (room : ℕ) → IndexTelling (index_answer base l room)
index-telling base l room =
    by_le IndexTelling (length l) longest
    (λ _. by_le IndexTelling (base + length l) longest_recording
    (λ _. by_le IndexTelling (length (written_of (index_of base l))) room (λ _. by_index (index_of base l)) (λ _. omega arith))
    (λ _. omega arith))
    (λ _. omega arith)
  where
    by_index : (i : Index) → IndexTelling (indexed_as base i)
    by_index (index written at why) = tt

-- the answer is what both numbers are read back as
indexed-back : (bytes : List ℕ) (base : ℕ) (out : List ℕ) (told more : ℕ) (after : List ℕ)
    → (t : CMeets (osc_index_step bytes base out) told more after) → indexed_back (unpack told more) ≡ t.answer
indexed-back bytes base out told more after t =
    ap indexed_back (tells-record t (indexed-fits base bytes (length out) t.meets.answers))
    ∙ indexed-reads t.answer (subst IndexTelling (sym t.meets.answers) (index-telling base bytes (length out)))

-- so a step does not tell two answers by one number and what is told beside it
pub index_once : IndexOnce
index_once bytes bytes' base base' out out' told more after after' t u =
    sym (indexed-back bytes base out told more after t) ∙ indexed-back bytes' base' out' told more after' u

module _ (w : List ℕ) (k : ℕ) (b : (i : ℕ) → get_or w i 0 < 256) where
  abbrev Back : CueAnswer → Type 0
  Back r = CueBack r (answer_of (cue_told r)) (cue_beside r)

  cue-back : Back (cue_told_as (cue_in w k))
  cue-back =
      by-test (λ (r : CueAnswer). Back (cue_told_as r)) (ltb k (length w / entry_size))
      (λ _. by-test Back (ltb (cue_records w k) 0x100_0000)
      (λ h. let p = packed (told_answer (cue_records w k) (cue_size w k) 0)
      (answer-bounded (cue_records w k) (cue_size w k) 0 (ltb-true (cue_records w k) 0x100_0000 h)
      (number_small 4 (drop (entry_size * k + 8) w) (drop-small (entry_size * k + 8) w b)) (omega arith)) in
      there p.number (rw (p.count, p.low)))
      (λ _. nowhere refl refl refl))
      (λ _. nowhere refl refl refl)

-- so is every part of a cue
pub told_cue : CueTold
told_cue w bytes k told offset after t = rw (t.0, t.1) (cue-back w k bytes)
