-- A step that writes tells the index of its bytes: what a program may take from its answer and from its output.
use mathlib.Core.Path.{◌≡◌, sym, refl, ap, subst, ◌∙◌}
use mathlib.Core.List.{List, ◌++◌}
use Prim.Native.Nat.{ℕ, ◌+◌, ◌*◌, ◌-◌, ◌/◌, ◌<◌, ◌≤◌}
use native.Mathlib.Omega.{arith}
use lib.ListN.{length, take, drop, length-append, length-drop}
use lib.Seq.{take-append-le, take_all}
use Rattle.wire.specs.Limits.{longest}
use Rattle.wire.proofs.Choices.{by_le}
use Rattle.refusal.specs.declared.Refusal.{Refusal}
use Rattle.folding.specs.Walks.{MayContinue}
use Rattle.wire.proofs.Payloads.{ok-is}
use Rattle.results.specs.declared.Indexed.{Indexed}
use Rattle.cues.specs.Cues.{entry_size, most_entries, longest_recording, Index, index, index_of, written_of}
use Rattle.cues.specs.Cues.{indexed_as, Indexes}
use Rattle.results.specs.Ends.{FieldUpTo}
use Rattle.results.specs.declared.End.{End}
use Rattle.results.specs.declared.End.TheVariants as end
use Rattle.results.specs.Results.{IndexAnswer}
use Rattle.std.specs.Prelude.{Err}
use Rattle.results.specs.Results as indexed
use Rattle.cues.proofs.Shortest.{shortest_frame}
use Rattle.cues.proofs.Indexes.{EndIn, IndexIn, FieldIn, field_in, written-length, written_fits}
use Rattle.cues.proofs.Kept.{kept_is_short}

-- n records were written for the first `used` bytes of l, at offset `base`: they are the front of the output
pub record Stepped (l : List ℕ) (base n used : ℕ) (why : End) (out after : List ℕ) : Type 0 where
  pub short : length l ≤ longest
  pub low : base + length l ≤ longest_recording
  pub within : used ≤ length l
  pub few : shortest_frame * n ≤ used
  pub room : entry_size * n ≤ length out
  pub same : length after ≡ length out
  pub is : index_of base l ≡ index (take (entry_size * n) after) (base + used) why
  pub field : FieldUpTo used (length l) why

-- where an index ends in m bytes, a field that was short begins there
field-up-to : (used n m : ℕ) (why : End) → EndIn FieldIn m why → used + m ≡ n → FieldUpTo used n why
field-up-to used n m end.Whole h e = tt
field-up-to used n m end.Waiting h e = tt
field-up-to used n m (end.Refused k) h e = omega (arith, h, e)

module _ {l out after : List ℕ} {base n used : ℕ} {why : End} (w : Indexes l base out (indexed.Written n used why) after) where
  abbrev told : IndexAnswer → Type 0
  told r = indexed.Written n used why ≡ r → Stepped l base n used why out after

  by_index : length l ≤ longest → base + length l ≤ longest_recording → length (written_of (index_of base l)) ≤ length out
      → (i : Index) → index_of base l ≡ i → IndexIn FieldIn base (length l) i → told (indexed_as base i)
  by_index short low room (index written at last) e v p =
      let same : ◌≡◌ {A = Indexed} _ _ = ok-is p in
      let count : n ≡ length written / entry_size = ap (λ (x : Indexed). x.records) same in
      let bytes : used ≡ at - base = ap (λ (x : Indexed). x.used) same in
      let ends : last ≡ why = sym (ap (λ (x : Indexed). x.end) same) in
      let is-written : written_of (index_of base l) ≡ written = ap written_of e in
      let long : length written ≡ entry_size * n = omega (arith, written-length base l, ap length is-written, count) in
      let there : at ≡ base + used = omega (arith, v.0, bytes) in
      let after_is : after ≡ written ++ drop (length written) out
      = w.leaves ∙ ap (λ (x : List ℕ). x ++ drop (length x) out) is-written in
      let front : take (entry_size * n) after ≡ written
      = ap (take (entry_size * n)) after_is ∙ take-append-le (entry_size * n) written (drop (length written) out) (omega (arith, long))
      ∙ take_all (entry_size * n) written (omega (arith, long)) in
      let whole : entry_size * n ≤ length out = omega (arith, long, ap length is-written, room) in
      let rest = length-append written (drop (length written) out) in
      record {
        short = short;
        low = low;
        within = omega (arith, v.1, bytes);
        few = omega (arith, v.0, v.2, bytes, long);
        room = whole;
        same = omega (arith, ap length after_is, rest, length-drop (length written) out, long, whole);
        is = e ∙ rw (front, ← there, ends);
        field = subst (FieldUpTo used (length l)) ends
            (field-up-to used (length l) (base + length l - at) last v.3 (omega (arith, v.0, v.1, bytes)));
      }

  -- a step that writes tells the index of its bytes
  pub stepped : Stepped l base n used why out after
  stepped =
      by_le told (length l) longest
      (λ short. by_le told (base + length l) longest_recording
      (λ low. by_le told (length (written_of (index_of base l))) (length out)
      (λ room. by_index short low room (index_of base l) refl (field_in base l))
      (λ _ p. absurd (not-refused p)))
      (λ _ p. absurd (not-refused p)))
      (λ _ p. absurd (not-refused p))
      w.answers
    where
      not-refused : {k : Refusal} → indexed.Written n used why ≡ Err k → ⊥
      not-refused p = let z : ◌≡◌ {A = ℕ} 0 1 = cc in omega arith

  -- where a buffer is full and no frame was refused, some bytes were used
  pub full-moves : MayContinue why → longest ≤ length l → 0 < used
  full-moves g full =
      let s = stepped in
      omega (arith, kept_is_short base l (take (entry_size * n) after) (base + used) why g s.is, length-drop (base + used - base) l)

module _ {l out after : List ℕ} {base : ℕ} {k : Refusal} (w : Indexes l base out (Err k) after) (short : length l ≤ longest)
    (room : entry_size * most_entries ≤ length out) where
  abbrev far : IndexAnswer → Type 0
  far r = Err k ≡ r → longest_recording < base + length l

  -- a step over a buffer, with room for as many records as a buffer has, is refused only where the recording is too long
  pub only-far : longest_recording < base + length l
  only-far =
      by_le far (length l) longest
      (λ _. by_le far (base + length l) longest_recording
      (λ low. by_le far (length (written_of (index_of base l))) (length out)
      (λ _ p. absurd (not_written (index_of base l) p))
      (λ over _. absurd (omega (arith, written_fits base l short))))
      (λ h _. h))
      (λ long _. absurd (omega arith))
      w.answers
    where
      not_written : (i : Index) → Err k ≡ indexed_as base i → ⊥
      not_written (index written at why) p = let z : ◌≡◌ {A = ℕ} 0 1 = cc in omega arith
