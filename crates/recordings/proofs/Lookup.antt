-- Ticket 5: the index determines where each cue lies, and a cue looked up in it is there.
use mathlib.Core.Path.{◌≡◌, refl, ap, sym, subst, ◌∙◌}
use mathlib.Core.List.{List, [], ◌++◌}
use Prim.Native.Nat.{ℕ, zero, suc, ◌+◌, ◌-◌, ◌/◌, ◌<◌, ◌≤◌}
use native.Mathlib.Omega.{arith}
use borrow.Author.Tests.{ltb-true, ltb-false}
use lib.Dec.{ltb}
use lib.ListN.{length, take, drop, length-append, length-drop}
use lib.Seq.{drop-drop}
use Rattle.wire.specs.Limits.{longest, deepest}
use Rattle.wire.proofs.Choices.{by-test}
use Rattle.framing.specs.Framing.{tcp2}
use Rattle.answering.specs.Limits.{decoded}
use Rattle.cues.specs.Cues.{longest_recording, cue_of, entry_size, entry_of, indexing, Index, index, index_of, written_of}
use Rattle.cues.specs.Cues.{cue_offset, cue_size, cue_records, cue_in}
use Rattle.cues.specs.Results as cue
use Rattle.results.specs.declared.End.{End}
use Rattle.recordings.specs.Recordings.{EndToEnd, WhereCuesLie, CueThere, EveryCue, CueFound, CheckedCue}
use Rattle.cues.proofs.Shortest.{shortest_frame}
use Rattle.cues.proofs.Cues.{CueIn}
use Rattle.folding.proofs.Framed.{Framed, ends, lacks, fails, frame, framed}
use Rattle.cues.proofs.Indexes.{index-inside, cued, taken-length, written-length}
use Rattle.cues.proofs.Checks.{fits_exactly}
use Rattle.recordings.proofs.Alone.{CueAlone, cue-alone}
use Rattle.recordings.proofs.Fields.{entries-more, first-offset, first-size, first-records, later-offset, later-size, later-records}

-- ---- where the cues lie

no-entries : (base : ℕ) → EndToEnd base [] base
no-entries base =
    record { first = λ h. absurd (omega arith); next = λ k h. absurd (omega arith); last = λ k h. absurd (omega arith); none = λ h. refl }

module _ (base u c at : ℕ) (w : List ℕ) (low : shortest_frame ≤ u) (high : base + u ≤ longest_recording) (short : u ≤ longest)
    (r : EndToEnd (base + u) w at) where
  abbrev all : List ℕ
  all = entry_of base u c ++ w

  starts : cue_offset all 0 ≡ base
  starts = first-offset base u c w (omega arith)

  stops : cue_offset all 0 + 4 + cue_size all 0 ≡ base + u
  stops = let s = first-size base u c w (omega arith) in omega (arith, starts)

  next_of : (k : ℕ) → suc k < length all / entry_size → cue_offset all (suc k) ≡ cue_offset all k + 4 + cue_size all k
  next_of zero h = later-offset base u c w 0 ∙ r.first (omega (arith, entries-more base u c w)) ∙ sym stops
  next_of (suc k) h =
      omega (
        arith,
        later-offset base u c w (suc k),
        later-offset base u c w k,
        later-size base u c w k,
        r.next k (omega (arith, entries-more base u c w)),
      )

  last-of : (k : ℕ) → suc k ≡ length all / entry_size → at ≡ cue_offset all k + 4 + cue_size all k
  last-of zero h = r.none (omega (arith, entries-more base u c w)) ∙ sym stops
  last-of (suc k) h =
      omega (arith, later-offset base u c w k, later-size base u c w k, r.last k (omega (arith, entries-more base u c w)))

  entry_first : EndToEnd base all at
  entry_first =
      record { first = λ h. starts; next = next_of; last = last-of; none = λ h. absurd (omega (arith, entries-more base u c w)) }

frames-lie : {base at : ℕ} {l w : List ℕ} {why : End} → Framed indexing base l (index w at why) → base + length l ≤ longest_recording
    → EndToEnd base w at
frames-lie {base} ends h = no-entries base
frames-lie {base} (lacks some e) h = no-entries base
frames-lie {base} (fails some e) h = no-entries base
frames-lie {base} {at} {l} (frame {u = u} {sum = w} some e s r) h =
    let t = cued base l e in
    subst (λ (a : List ℕ). EndToEnd base (a ++ w) at) (sym t.entry)
    (entry_first base u t.records at w t.inside.0 (omega (arith, s.1)) (cue-alone l u t.records s.1 t.given).short
    (frames-lie r (omega (arith, s.1, length-drop u l))))

-- Ticket 5: the index determines where each cue lies
pub where_cues_lie : WhereCuesLie
where_cues_lie l w at why h e = frames-lie (subst (Framed indexing 0 l) e (framed indexing index-inside 0 l)) (omega arith)

-- ---- a cue looked up

-- a cue that is there, by other names of its numbers
same-there : {l : List ℕ} {o n c : ℕ} (o' n' c' : ℕ) → o' ≡ o → n' ≡ n → c' ≡ c → CueThere l o n c → CueThere l o' n' c'
same-there o' n' c' p q r t = rw (p, q, r) t

-- a cue of what is left after u bytes
there-later : (l : List ℕ) (u o o' n c : ℕ) → o' ≡ u + o → u ≤ length l → CueThere (drop u l) o n c → CueThere l o' n c
there-later l u o o' n c e h t =
    let same : drop o (drop u l) ≡ drop o' l = drop-drop o u l ∙ ap (λ (k : ℕ). drop k l) (sym e) in
    record {
      inside = omega (arith, t.inside, length-drop u l);
      judged = ap (λ (m : List ℕ). cue_of (take (4 + n) m)) (sym same) ∙ t.judged;
      few = t.few;
      dirt = t.dirt;
      decodes =
          λ room k. ap (λ (m : List ℕ). decoded (tcp2 deepest) room deepest (take (4 + n) m)) (sym same) ∙ t.decodes room k;
    }

-- the first cue
there-first : (l : List ℕ) (u c : ℕ) → CueIn (length l) (cue.Given u c) → CueAlone l u c → CueThere l 0 (u - 4) c
there-first l u c s a =
    let n : 4 + (u - 4) ≡ u = omega (arith, s.0) in
    record {
      inside = omega (arith, s.0, s.1);
      judged = rw n a.judged;
      few = s.3;
      dirt = a.dirt;
      decodes = rw n a.decodes;
    }

-- record k of an index of l, which stands at offset `base`, says what is there
abbrev There : ℕ → List ℕ → List ℕ → ℕ → Type 0
There base l w k = (base ≤ cue_offset w k) × CueThere l (cue_offset w k - base) (cue_size w k) (cue_records w k)

module _ (base : ℕ) (l : List ℕ) (u c : ℕ) (w : List ℕ) (given : cue_of l ≡ cue.Given u c) (s : CueIn (length l) (cue.Given u c)) where
  there-now : base ≤ longest_recording → There base l (entry_of base u c ++ w) 0
  there-now h =
      let a = cue-alone l u c s.1 given in
      let o = first-offset base u c w (omega arith) in (
        omega arith,
        same-there _ _ _ (omega arith) (first-size base u c w (omega (arith, a.short))) (first-records base u c w (omega (arith, s.3)))
            (there-first l u c s a),
      )

  there-next : (k : ℕ) → There (base + u) (drop u l) w k → There base l (entry_of base u c ++ w) (suc k)
  there-next k t =
      let o = later-offset base u c w k in
      let low = t.0 in (
        omega arith,
        same-there _ _ _ refl (later-size base u c w k) (later-records base u c w k)
            (there-later l u (cue_offset w k - (base + u)) _ _ _ (omega arith) s.1 t.1),
      )

frames-there : {base at : ℕ} {l w : List ℕ} {why : End} → Framed indexing base l (index w at why) → base + length l ≤ longest_recording
    → (k : ℕ) → k < length w / entry_size → There base l w k
frames-there ends h k g = absurd (omega arith)
frames-there (lacks some e) h k g = absurd (omega arith)
frames-there (fails some e) h k g = absurd (omega arith)
frames-there {base} {at} {l} (frame {u = u} {a = a} {sum = w} some e s r) h zero g =
    let t = cued base l e in
    subst (λ (x : List ℕ). There base l (x ++ w) 0) (sym t.entry)
    (there-now base l u t.records w t.given t.inside (omega arith))
frames-there {base} {at} {l} (frame {u = u} {a = a} {sum = w} some e s r) h (suc k) g =
    let t = cued base l e in
    let few : k < length w / entry_size = omega (arith, length-append a w, taken-length t) in
    subst (λ (x : List ℕ). There base l (x ++ w) (suc k)) (sym t.entry)
    (there-next base l u t.records w t.given t.inside k (frames-there r (omega (arith, s.1, length-drop u l)) k few))

-- Ticket 5: what a record of the index says is there
pub every_cue : EveryCue
every_cue l w at why h e k g =
    let t = frames-there (subst (Framed indexing 0 l) e (framed indexing index-inside 0 l)) (omega arith) k g in
    same-there _ _ _ (omega arith) refl refl t.1

-- ---- a cue looked up in an index that was checked

module _ (l : List ℕ) (n k : ℕ) (h : length l ≤ longest_recording) where
  by_index : (i : Index) → index_of 0 l ≡ i → length (written_of i) / entry_size ≡ n → CueFound l n k (cue_in (written_of i) k)
  by_index (index w at why) e count =
      by-test (CueFound l n k) (ltb k (length w / entry_size))
      (λ g. let low = ltb-true k (length w / entry_size) g in (omega arith, every_cue l w at why h e k low))
      (λ g. (omega (arith, ltb-false k (length w / entry_size) g), refl))

-- Ticket 5: every lookup in an index that was checked gives a cue that is there, or 11
pub checked_cue : CheckedCue
checked_cue recording g n k h e =
    let fresh = written_of (index_of 0 recording) in
    let same : fresh ≡ g = (fits_exactly fresh g).only n e in
    let count = (fits_exactly fresh g).counts n e in
    subst (λ (m : List ℕ). CueFound recording n k (cue_in m k)) same
    (by_index recording n k h (index_of 0 recording) refl (omega (arith, written-length 0 recording, count.0, count.1)))
