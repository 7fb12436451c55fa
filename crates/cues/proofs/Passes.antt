-- The two passes over a buffer, frame by frame: one counts what the other writes.
use mathlib.Core.Path.{◌≡◌, refl, ap, sym, ◌∙◌}
use mathlib.Core.List.{List, [], ◌∷◌, ◌++◌, append-nil, append_assoc}
use Prim.Native.Nat.{ℕ, ◌+◌, ◌-◌, ◌*◌, ◌/◌, ◌<◌, ◌≤◌}
use native.Mathlib.Nat.{zero-add, add-zero, add_assoc}
use native.Mathlib.Omega.{arith}
use borrow.Author.Tests.{le-leb, lt-leb}
use borrow.Rule.Slice.PartMut.{mid_of, put_mid}
use lib.ListN.{length, drop, length-drop, length-append, drop_of_length-le}
use lib.Seq.{drop-drop}
use Rattle.refusal.specs.declared.Refusal.{Refusal}
use Rattle.refusal.specs.declared.Refusal.TheVariants.{TooLong, OutputShort}
use Rattle.wire.specs.Limits.{longest}
use Rattle.wire.specs.Wrote.{Wrote, Filled}
use Rattle.wire.proofs.Writers.{wrote_none, same_length, filled-lent}
use Rattle.folding.specs.Folding.{with_sum}
use Rattle.cues.specs.Cues.{longest_recording, cue_of, entry_size, entry_of, indexing, Index, index, index_of, written_of, entries_of}
use Rattle.cues.specs.Cues.{indexed_as, Indexes}
use Rattle.cues.specs.CodeCues.{stretch_by, stretch_of, written_in, CanWrite}
use Rattle.cues.specs.Results.{Cue}
use Rattle.std.specs.Prelude.{Err, Ok, Some}
use Rattle.cues.specs.Results as cue
use Rattle.results.specs.Results as indexed
use Rattle.results.specs.declared.End.TheVariants as end
use Rattle.results.specs.declared.Indexed.{Indexed}
use Rattle.cues.proofs.Shortest.{shortest_frame}
use Rattle.cues.proofs.Cues.{CueIn, cue-in}
use Rattle.cues.proofs.Indexes.{index-none, index_by, index-by, length-entry, written-more, written-length}

-- ---- the first pass

-- the stretch of n records, then those of an index
abbrev stretch_after : ℕ → ℕ → Index → Indexed
stretch_after n base (index written at why) = record { records = n + length written / entry_size; used = at - base; end = why }

after_none : (base : ℕ) (l : List ℕ) → stretch_of base l ≡ stretch_after 0 base (index_of base l)
after_none base l = go (index_of base l)
  where
    go : (i : Index) → stretch_by base i ≡ stretch_after 0 base i
    go (index written at why) = rw (zero-add (length written / entry_size))

after_more : (n base : ℕ) (entry : List ℕ) (i : Index) → length entry ≡ entry_size
    → stretch_after n base (with_sum indexing entry i) ≡ stretch_after (n + 1) base i
after_more n base entry (index written at why) h =
    let more : n + length (entry ++ written) / entry_size ≡ n + 1 + length written / entry_size = simp length-append (omega arith) in
    ap (λ (k : ℕ). record { records = k; used = at - base; end = why }) more

-- n frames of l are accepted so far, and those from `at` on are left, wherever l stands
pub record Counting (l : List ℕ) (at n : ℕ) : Type 0 where
  pub few : n ≤ at
  pub here : at ≤ length l
  pub stretch-is : (base : ℕ) → stretch_of base l ≡ stretch_after n base (index_of (base + at) (drop at l))

-- before the first frame
pub counting-start : (l : List ℕ) → Counting l 0 0
counting-start l = record { few = omega arith; here = omega arith; stretch-is = λ base. rw (add-zero base) (after_none base l) }

module _ (l : List ℕ) (at n : ℕ) (w : Counting l at n) where
  -- after the last frame
  pub counting-end : length l ≤ at → (base : ℕ) → record { records = n; used = at; end = end.Whole } ≡ stretch_of base l
  counting-end h base =
      let used : base + at - base ≡ at = omega arith in
      sym (w.stretch-is base
      ∙ ap (stretch_after n base) (index-none (base + at) (drop at l) (omega (arith, length-drop at l))) ∙ rw (add-zero n, used))

  module _ {rest : List ℕ} {x : Cue} (some : at < length l) (s : rest ≡ drop at l) (f : x ≡ cue_of rest) where
    by_next : {y : Cue} → x ≡ y → (base : ℕ)
        → stretch_of base l ≡ stretch_after n base (index_by (base + at) (drop at l) y)
    by_next z base =
        w.stretch-is base
        ∙ ap (stretch_after n base) (index-by (base + at) (drop at l) (omega (arith, length-drop at l)) (sym z ∙ f ∙ ap cue_of s))

    -- after a frame that is accepted
    pub counting_more : {size records : ℕ} → x ≡ cue.Given size records
        → ((shortest_frame ≤ size) × (at + size ≤ length l)) × Counting l (at + size) (n + 1)
    counting_more {size} {records} z =
        let v = cue-in (drop at l) (sym z ∙ f ∙ ap cue_of s) in (
          (v.0, omega (arith, length-drop at l, v.1)),
          record {
            few = omega (arith, w.few, v.0);
            here = omega (arith, length-drop at l, v.1);
            stretch-is = λ base.
                by_next z base
                ∙ after_more n base (entry_of (base + at) size records) (index_of (base + at + size) (drop size (drop at l)))
                (length-entry (base + at) size records)
                ∙ rw (drop-drop size at l, add_assoc base at size);
          },
        )

    -- at a frame that is not all there
    pub counting-waits : x ≡ cue.Waiting → (base : ℕ) → record { records = n; used = at; end = end.Waiting } ≡ stretch_of base l
    counting-waits z base =
        let used : base + at - base ≡ at = omega arith in
        sym (by_next z base ∙ rw (add-zero n, used))

    -- at a frame that is refused
    pub counting-refused : {k : Refusal} → x ≡ Err k
        → (base : ℕ) → record { records = n; used = at; end = end.Refused k } ≡ stretch_of base l
    counting-refused z base =
        let used : base + at - base ≡ at = omega arith in
        sym (by_next z base ∙ rw (add-zero n, used))

-- ---- the second pass

-- the bytes of an index by its first frame, if there is one
written-by : {x : Cue} (base : ℕ) (l : List ℕ) → x ≡ cue_of l → written_in l base ≡ written_of (index_by base l x)
written-by {x} base [] e = ap written_of (index-none base [] (omega arith)) ∙ by-cue x (cue-in [] e)
  where
    by-cue : (c : Cue) → CueIn 0 c → [] ≡ written_of (index_by base [] c)
    by-cue (Ok (Some front)) w = absurd (omega arith)
    by-cue cue.Waiting w = refl
    by-cue (Err k) w = refl
written-by base (y ∷ l) e = ap written_of (index-by base (y ∷ l) (omega arith) e)

-- n records are written, and after them come those of the frames from `at` on
pub record Writing (l : List ℕ) (base : ℕ) (o₀ : List ℕ) (at n : ℕ) (o : List ℕ) : Type 0 where
  pub front : List ℕ
  pub here : at ≤ length l
  pub same : length o ≡ length o₀
  pub filled : Filled front o₀ o (entry_size * n)
  pub whole : written_in l base ≡ front ++ written_in (drop at l) (base + at)

-- before the first frame
pub writing_start : (l : List ℕ) (base : ℕ) (o : List ℕ) → Writing l base o 0 0 o
writing_start l base o =
    record {
      front = [];
      here = omega arith;
      same = refl;
      filled = record { count = refl; wrote = wrote_none o };
      whole = rw (add-zero base);
    }

module _ (l : List ℕ) (base : ℕ) (o₀ : List ℕ) (at n : ℕ) (o : List ℕ) (w : Writing l base o₀ at n o) where
  -- nothing more is to be written
  writing-whole : written_in (drop at l) (base + at) ≡ [] → Wrote (written_in l base) o₀ o
  writing-whole e = rw (w.whole, e, append-nil w.front) w.filled.wrote

  whole_length : entry_size * n + length (written_in (drop at l) (base + at)) ≡ length (written_in l base)
  whole_length =
      omega (arith, ap length w.whole, length-append w.front (written_in (drop at l) (base + at)), w.filled.count)

  -- after the last record
  pub writing-end : (records : ℕ) → CanWrite l base records o₀ → records ≤ n → Wrote (written_in l base) o₀ o
  writing-end records can h =
      writing-whole
      (drop_of_length-le (written_in (drop at l) (base + at)) {i = 0} (omega (arith, whole_length, written-length base l, can.counted)))

  module _ {rest : List ℕ} {x : Cue} (s : rest ≡ drop at l) (f : x ≡ cue_of rest) where
    -- at a frame that is not all there
    pub writing-waits : x ≡ cue.Waiting → Wrote (written_in l base) o₀ o
    writing-waits z = writing-whole (written-by (base + at) (drop at l) (sym z ∙ f ∙ ap cue_of s))

    -- at a frame that is refused
    pub writing-refused : {k : Refusal} → x ≡ Err k → Wrote (written_in l base) o₀ o
    writing-refused z = writing-whole (written-by (base + at) (drop at l) (sym z ∙ f ∙ ap cue_of s))

    module _ {size count : ℕ} (z : x ≡ cue.Given size count) where
      given-here : cue.Given size count ≡ cue_of (drop at l)
      given-here = sym z ∙ f ∙ ap cue_of s

      -- a frame that is accepted is all there
      pub writing-given : (shortest_frame ≤ size) × (at + size ≤ length l) × (count ≤ size)
      writing-given =
          let v = cue-in (drop at l) given-here in
          (v.0, omega (arith, length-drop at l, v.1, w.here), v.2)

      -- the record of a frame, and those of the frames after it
      entry_more : written_in (drop at l) (base + at)
          ≡ entry_of (base + at) size count ++ written_in (drop (at + size) l) (base + (at + size))
      entry_more =
          written-by (base + at) (drop at l) given-here
          ∙ written-more (entry_of (base + at) size count) (index_of (base + at + size) (drop size (drop at l)))
          ∙ rw (drop-drop size at l, add_assoc base at size)

      -- after its record
      pub writing_more : {p : List ℕ}
          → Wrote (entry_of (base + at) size count) (mid_of (entry_size * n) (length o - entry_size * n) o) p
          → Writing l base o₀ (at + size) (n + 1) (put_mid (entry_size * n) (length o - entry_size * n) o p)
      writing_more {p} g =
          let entry : Filled (entry_of (base + at) size count) (mid_of (entry_size * n) (length o - entry_size * n) o) p entry_size =
          record { count = sym (length-entry (base + at) size count); wrote = g } in
          let count-is : entry_size * n + entry_size ≡ entry_size * (n + 1) = omega arith in
          record {
            front = w.front ++ entry_of (base + at) size count;
            here = writing-given.1;
            same = same_length o (entry_size * n) g ∙ w.same;
            filled = rw (← count-is) (filled-lent w.filled entry);
            whole = w.whole ∙ ap (λ (bs : List ℕ). w.front ++ bs) entry_more ∙ sym (append_assoc w.front _ _);
          }

-- ---- a step

-- 1 of a buffer over the limit
pub step-long : (l : List ℕ) (base : ℕ) (out : List ℕ) → longest < length l → Indexes l base out (Err TooLong) out
step-long l base out h = record { answers = rw (lt-leb _ _ h); leaves = refl }

module _ (l : List ℕ) (base : ℕ) (out : List ℕ) (short : length l ≤ longest) where
  -- 1 of a recording over the limit
  pub step-far : longest_recording < base + length l → Indexes l base out (Err TooLong) out
  step-far h = record { answers = rw (le-leb _ _ short, lt-leb _ _ h); leaves = refl }

  module _ (low : base + length l ≤ longest_recording) {s : Indexed} (e : s ≡ stretch_of base l) where
    counted_is : s.records ≡ entries_of (index_of base l)
    counted_is = ap (λ (x : Indexed). x.records) e ∙ go (index_of base l)
      where
        go : (i : Index) → (stretch_by base i).records ≡ entries_of i
        go (index written at why) = refl

    answer-is : indexed.Written s.records s.used s.end ≡ indexed_as base (index_of base l)
    answer-is = ap (λ (x : Indexed). indexed.Written x.records x.used x.end) e ∙ go (index_of base l)
      where
        go : (i : Index)
            → indexed.Written (stretch_by base i).records (stretch_by base i).used (stretch_by base i).end ≡ indexed_as base i
        go (index written at why) = refl

    -- 12 where the output has room for fewer records
    pub step-short : length out / entry_size < s.records → Indexes l base out (Err OutputShort) out
    step-short h =
        let over : length out < length (written_in l base) = omega (arith, counted_is, written-length base l) in
        record { answers = rw (le-leb _ _ short, le-leb _ _ low, lt-leb _ _ over); leaves = refl }

    module _ (room : s.records ≤ length out / entry_size) where
      -- the second pass has what it needs
      pub step-can : CanWrite l base s.records out
      step-can =
          record { short = short; counted = counted_is; room = omega (arith, counted_is, written-length base l); low = low }

      -- after the second pass
      pub step-written : {after : List ℕ} → Wrote (written_in l base) out after
          → Indexes l base out (indexed.Written s.records s.used s.end) after
      step-written w =
          record { answers = answer-is ∙ rw (le-leb _ _ short, le-leb _ _ low, le-leb _ _ w.room); leaves = w.left }
