-- An index goes by the frame at its front, is whole records, and lies in its bytes.
use mathlib.Core.Path.{◌≡◌, refl, ap, sym, subst, ◌∙◌}
use mathlib.Core.List.{List, [], ◌∷◌, ◌++◌}
use Prim.Native.Nat.{ℕ, ◌+◌, ◌-◌, ◌*◌, ◌/◌, ◌<◌, ◌≤◌}
use native.Mathlib.Omega.{arith}
use lib.Dec.{leb}
use lib.ListN.{length, drop, length-drop, length-append}
use lib.Seq.{length-take-le}
use Rattle.refusal.specs.Refusal.{offset_of}
use Rattle.refusal.specs.declared.Refusal.{Refusal}
use Rattle.wire.specs.Limits.{longest, deepest}
use Rattle.wire.proofs.Choices.{by_both}
use Rattle.wire.proofs.Numbers.{length-bytes}
use Rattle.node.specs.Forest.{size}
use Rattle.packet.specs.Packet.{fault, one}
use Rattle.framing.specs.Framing.{Frame, wait, read, refused, cut_frame}
use Rattle.framing.proofs.FrameKnot.{FrameIn, cut_in}
use Rattle.folding.specs.Folding.{Verdict, takes, waits, refuses, with_sum, by_verdict, Inside}
use Rattle.folding.specs.Frames.{judged}
use Rattle.folding.proofs.Knot.{fold-eq, fold-by}
use Rattle.folding.proofs.Framed.{Framed, ends, lacks, fails, frame, framed}
use Rattle.folding.proofs.Frames as frames
use Rattle.cues.specs.Cues.{recorded, judged_cue, cue_of, entry_size, entry_of, entry_adds, indexing, Index, index, index_of}
use Rattle.cues.specs.Cues.{most_in_a_cue, written_of, entries_of, most_entries}
use Rattle.cues.specs.Results.{Cue}
use Rattle.std.specs.Prelude.{Err, Ok, Some}
use Rattle.cues.specs.Results as cue
use Rattle.results.specs.declared.End.{End}
use Rattle.results.specs.declared.End.TheVariants as end
use Rattle.cues.proofs.Shortest.{shortest_frame}
use Rattle.cues.proofs.Cues.{CueIn, cue-in, cue-prefixed, cue_by}

-- ---- the frame at the front

-- a cue as the fold's judge says it: what it adds is its record
abbrev pub verdict_of : ℕ → Cue → Verdict (List ℕ)
verdict_of base (Ok (Some front)) = takes front.size (entry_of base front.size front.records)
verdict_of base cue.Waiting = waits
verdict_of base (Err k) = refuses k

judged-cue : (base : ℕ) (l : List ℕ) (x : Frame) → FrameIn (length l) x
    → judged recorded entry_adds base l x ≡ verdict_of base (cue_by l x)
judged-cue base l wait w = refl
judged-cue base l (read (fault k)) w = refl
judged-cue base l (read (one item f u)) w =
    by_both (λ (v : Verdict (List ℕ)) (y : Verdict ℕ). v ≡ verdict_of base (judged_cue y)) (leb (1 + size f) most_in_a_cue)
    (ap (λ (n : ℕ). takes u (entry_of base n (1 + size f))) (length-take-le u l w.1)) refl
judged-cue base l (refused k) w = refl

-- it says what the frame is judged as
judge-cue : {x : Cue} (base : ℕ) (l : List ℕ) → x ≡ cue_of l → indexing.judge base l ≡ verdict_of base x
unfolding cue_of
judge-cue base l e = judged-cue base l (cut_frame deepest 0 l) (cut_in deepest 0 l) ∙ ap (verdict_of base) (sym e)

-- a frame lies in its bytes
pub index-inside : (base : ℕ) (l : List ℕ) → Inside (length l) (indexing.judge base l)
index-inside = frames.inside recorded entry_adds

-- where no byte is left, the recording is whole
pub index-none : (base : ℕ) (l : List ℕ) → length l ≤ 0 → index_of base l ≡ index [] base end.Whole
index-none base [] h = fold-eq indexing index-inside base []
index-none base (x ∷ l) h = absurd (omega arith)

-- the index of l, which begins with this cue
abbrev pub index_by : ℕ → List ℕ → Cue → Index
index_by base l x = by_verdict indexing (λ b m. index_of b m) base l (verdict_of base x)

-- where a byte is left, an index goes by the frame there
pub index-by : {x : Cue} (base : ℕ) (l : List ℕ) → 0 < length l → x ≡ cue_of l → index_of base l ≡ index_by base l x
index-by base l some e = fold-by indexing index-inside base l some (judge-cue base l e)

-- what the judge's verdict says of the frame: one that is accepted is a cue, and adds its record
pub record Taken (base : ℕ) (l : List ℕ) (u : ℕ) (a : List ℕ) : Type 0 where
  pub records : ℕ
  pub given : cue_of l ≡ cue.Given u records
  pub entry : a ≡ entry_of base u records
  pub inside : CueIn (length l) (cue.Given u records)

abbrev pub Cued : ℕ → List ℕ → Verdict (List ℕ) → Type 0
Cued base l (takes u a) = Taken base l u a
Cued base l waits = cue_of l ≡ cue.Waiting
Cued base l (refuses k) = cue_of l ≡ Err k

-- every verdict says so
pub cued : {v : Verdict (List ℕ)} (base : ℕ) (l : List ℕ) → indexing.judge base l ≡ v → Cued base l v
cued base l e = subst (Cued base l) (sym (judge-cue base l refl) ∙ e) (by-cue (cue_of l) refl)
  where
    by-cue : (x : Cue) → x ≡ cue_of l → Cued base l (verdict_of base x)
    by-cue (Ok (Some front)) q = record { records = front.records; given = sym q; entry = refl; inside = cue-in l q }
    by-cue cue.Waiting q = sym q
    by-cue (Err k) q = sym q

-- ---- the bytes of an index are records

-- a record is as long as every record
pub length-entry : (offset size records : ℕ) → length (entry_of offset size records) ≡ entry_size
length-entry offset size records = simp (length-append, length-bytes)

-- a record before others is written before them
pub written-more : (entry : List ℕ) (i : Index) → written_of (with_sum indexing entry i) ≡ entry ++ written_of i
written-more entry (index written at why) = refl

-- the bytes that a frame adds are a record
pub taken-length : {base u : ℕ} {l a : List ℕ} → Taken base l u a → length a ≡ entry_size
taken-length {base} {u} t = ap length t.entry ∙ length-entry base u t.records

whole-records : {base at : ℕ} {l w : List ℕ} {why : End} → Framed indexing base l (index w at why)
    → length w ≡ entry_size * (length w / entry_size)
whole-records ends = refl
whole-records (lacks some e) = refl
whole-records (fails some e) = refl
whole-records {base} {l = l} (frame {a = a} {sum = sum} some e h r) =
    omega (arith, whole-records r, length-append a sum, taken-length (cued base l e))

-- an index is as long as its records
pub written-length : (base : ℕ) (l : List ℕ) → length (written_of (index_of base l)) ≡ entry_size * entries_of (index_of base l)
written-length base l = by_index (index_of base l) (framed indexing index-inside base l)
  where
    by_index : (i : Index) → Framed indexing base l i → length (written_of i) ≡ entry_size * entries_of i
    by_index (index w at why) r = whole-records r

-- ---- an index lies in its bytes

-- what S says of the bytes from a refused frame on, and of its refusal
abbrev pub EndIn : (ℕ → Refusal → Type 0) → ℕ → End → Type 0
EndIn S m end.Whole = Unit {0}
EndIn S m end.Waiting = Unit {0}
EndIn S m (end.Refused k) = S m k

-- the index of m bytes at offset `base` ends in them, has a record for 12 bytes before its end at most, and S says so of its end
abbrev pub IndexIn : (ℕ → Refusal → Type 0) → ℕ → ℕ → Index → Type 0
IndexIn S base m (index written at why) =
    (base ≤ at) × (at ≤ base + m) × (shortest_frame * length written ≤ entry_size * (at - base)) × EndIn S (base + m - at) why

module _ (S : ℕ → Refusal → Type 0) (says : (l : List ℕ) (k : Refusal) → cue_of l ≡ Err k → S (length l) k) where
  framed-index : {base : ℕ} {l : List ℕ} {i : Index} → Framed indexing base l i → IndexIn S base (length l) i
  framed-index ends = (omega arith, omega arith, omega arith, tt)
  framed-index (lacks some e) = (omega arith, omega arith, omega arith, tt)
  framed-index {base} {l} (fails {why = k} some e) =
      let all : length l ≡ base + length l - base = omega arith in
      (omega arith, omega arith, omega arith, subst (λ (j : ℕ). S j k) all (says l k (cued base l e)))
  framed-index {base} {l} (frame {u = u} {at = at} {a = a} {sum = sum} {why = why} some e h r) =
      let t = cued base l e in
      let w = framed-index r in
      let left = length-drop u l in
      let low : shortest_frame ≤ u = t.inside.0 in
      let rest : base + u + length (drop u l) - at ≡ base + length l - at = omega arith in (
        omega (arith, w.0),
        omega (arith, w.1, h.1),
        omega (arith, w.0, w.2, length-append a sum, taken-length t),
        subst (λ (j : ℕ). EndIn S j why) rest w.3,
      )

  -- so does every index, where S says so of every refused frame
  pub index_in : (base : ℕ) (l : List ℕ) → IndexIn S base (length l) (index_of base l)
  index_in base l = framed-index (framed indexing index-inside base l)

-- a field that was short begins in the bytes from its frame on, or right after them
abbrev pub FieldIn : ℕ → Refusal → Type 0
FieldIn m k = offset_of k ≤ m

-- so does that of a frame that ends an index
pub field_in : (base : ℕ) (l : List ℕ) → IndexIn FieldIn base (length l) (index_of base l)
field_in = index_in FieldIn (λ l k e. (cue-prefixed l k e).1)

-- the records of the frames of a buffer are 5,461 at most
pub written_fits : (base : ℕ) (l : List ℕ) → length l ≤ longest → length (written_of (index_of base l)) ≤ entry_size * most_entries
written_fits base l short = by_index (index_of base l) (written-length base l) (index_in (λ _ _. Unit {0}) (λ _ _ _. tt) base l)
  where
    by_index : (i : Index) → length (written_of i) ≡ entry_size * entries_of i → IndexIn (λ _ _. Unit {0}) base (length l) i
        → length (written_of i) ≤ entry_size * most_entries
    by_index (index written at why) r w = omega (arith, r, w.1, w.2)
