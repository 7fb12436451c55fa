-- Demand 1 at the C boundary, of every function.
use mathlib.Core.Path.{◌≡◌, refl, sym, ap, subst, ◌∙◌}
use mathlib.Core.Bool.{true, false, ◌&&◌, false≢true}
use mathlib.Core.List.{List, [], ◌∷◌}
use mathlib.Core.Logic.{⊎_elim}
use Prim.Native.Nat.{ℕ, ◌+◌, ◌-◌, ◌*◌, ◌/◌, ◌%◌, ◌^◌, ◌≤◌, ◌<◌}
use native.Mathlib.Omega.{arith}
use borrow.Author.Tests.{ne_eqb, ltb-true}
use lib.Dec.{eqb, ltb}
use lib.ListN.{length, get_or, drop}
use Rattle.refusal.specs.Refusal.{number_of, offset_of, moved_refusal}
use Rattle.refusal.specs.declared.Field.TheVariants.{Address, TypeText, Data, Padding, Head}
use Rattle.refusal.specs.declared.Fault.TheVariants.{Empty, Short, NotUtf8, BadStart, NotOpen, UnknownTag, NotScalar}
use Rattle.refusal.specs.declared.Refusal.{Refusal}
use Rattle.refusal.specs.declared.Refusal.TheVariants.{TooLong, Unreadable, TooDeep, TableFull, BadTable, OutputShort, DepthLimit}
use Rattle.refusal.specs.declared.Refusal.TheVariants.{PadOverflow, BytesLeft, OddLength}
use Rattle.refusal.proofs.FurtherOn.{moved-number, moved-place}
use Rattle.wire.specs.Limits.{longest}
use Rattle.wire.specs.Pad.{pad_of}
use Rattle.results.specs.Results.{Checked, CueAnswer, DecodeAnswer, IndexAnswer, PortionAnswer}
use Rattle.shifts.specs.Results.{Shifted}
use Rattle.std.specs.Prelude.{Err, Ok}
use Rattle.values.specs.Results.{Looked, Started}
use Rattle.wire.specs.Results.{Padded}
use Rattle.results.specs.Results as results
use Rattle.wire.proofs.Choices.{by-test, by_le, is-or}
use Rattle.wire.proofs.Numbers.{number_small}
use Rattle.wire.proofs.Only.{one-outcome}
use Rattle.wire.proofs.Parts.{drop-small}
use Rattle.node.specs.Tags.{among}
use Rattle.node.specs.Rules.{own_rules}
use Rattle.node.specs.Records.{record_start, zeros_at, field_at, item_at, capacity}
use Rattle.values.specs.Value.{value_of}
use Rattle.values.specs.Look.{look_at, started_at}
use Rattle.values.specs.declared.value.OscType.{OscType}
use Rattle.values.specs.declared.value.OscType.TheVariants as value
use Rattle.edition.specs.declared.Edition.TheVariants.{Rosc, Standard}
use Rattle.edition.specs.declared.Framing.{Framing}
use Rattle.edition.specs.declared.Framing.TheVariants.{Udp, Tcp, TcpVec}
use Rattle.framing.specs.Framing.{rule_of, tcp_vec2}
use Rattle.answering.specs.Limits.{order_of, stops_by, decoded, forest_of, tabled, Decodes}
use Rattle.decoder.proofs.Only.{decodes-only}
use Rattle.portions.specs.Portions.{portion_of, Steps}
use Rattle.cues.specs.Cues.{cue_of, longest_recording, entry_size, Index, index, index_of, written_of, indexed_as, index_answer, index_leaves}
use Rattle.cues.specs.Cues.{Indexes, cue_records, cue_in}
use Rattle.cues.specs.Refusals.{cue_order}
use Rattle.cues.specs.Checks.{compared, numbered_from}
use Rattle.cues.proofs.Cues.{cue-prefixed}
use Rattle.cues.proofs.Indexes.{IndexIn, index_in}
use Rattle.cues.proofs.Numbers.{refused-among}
use Rattle.cues.proofs.Only.{indexes-only}
use Rattle.encoder.specs.Outcome.{encode_order, string_order, Encodes, EncodesString}
use Rattle.encoder.proofs.Only.{encodes-only}
use Rattle.results.specs.declared.End.TheVariants as end
use Rattle.shifts.specs.Shifts.{shift_leaves}
use Rattle.shifts.specs.Call.{shifted_told, ShiftsTold}
use Rattle.shifts.proofs.Demand.{told-only, by-told}
use Rattle.told.specs.Told.{Bounded, answer_of, more_of, refusal_in, low_in, offset_in, frame_in}
use Rattle.told.specs.Answers.{decoded_told, portion_told, indexed_told, started_told, kind_of, looked_told, cue_told_as, cue_told, cue_beside}
use Rattle.told.specs.Answers.{told_refusal, checked_number, padded_number}
use Rattle.told.proofs.Unpacked.{packed}
use Rattle.apart.specs.CContracts.{below56, nothing, never, Beside, CEnds, told_an_answer, told_a_refusal, told_a_stop, CDemand}
use Rattle.apart.specs.Boundary.{StopTold, EndTold, IndexEndTold, DiffersTold, most_checked, check_number, used_within, c_contract_of}
use Rattle.apart.specs.Boundary.{CCall, osc_decode, osc_read_portion, osc_index_step, osc_index_check_step, osc_cue, osc_encode}
use Rattle.apart.specs.Boundary.{osc_shift_table}
use Rattle.apart.specs.Boundary.{osc_encode_string, osc_pad, osc_look, osc_start, osc_version, EveryFunction, CSettled, EndsListed}
use Rattle.apart.specs.Boundary.{ToldApart, StopsApart, EndsApart, IndexEndsApart, DiffersApart}
use Rattle.apart.specs.ReadBack.{Answerable}
use Rattle.apart.proofs.Bounds.{fits, portion-fits, index-bounded, fits-checked, differs-checked}
use Rattle.apart.proofs.Contracts.{ends_as, alone, in-high-bits, numbers-settled, Plain, answers, refuses, tells-demand}
use Rattle.apart.proofs.Contracts.{some_number, writes-demand, encodes-demand}
use Rattle.apart.proofs.Ended.{encodes-ended, string-ended}
use Rattle.apart.proofs.Once.{answerable}
use Rattle.apart.specs.Boundary.{osc_tag, osc_unix, osc_shift, osc_difference}
use Rattle.apart.proofs.ClockTold.{tag-demand, unix-demand, shift-demand, difference-demand}

-- ---- stops are told apart

-- no decoder has a refusal 0, of the call or of a frame
none-zero : (framing : Framing) → (among 0 (order_of framing) ≡ false) × (among 0 (stops_by framing) ≡ false)
none-zero Udp = (refl, refl)
none-zero (Tcp Rosc) = (refl, refl)
none-zero (Tcp Standard) = (refl, refl)
none-zero (TcpVec Rosc) = (refl, refl)
none-zero (TcpVec Standard) = (refl, refl)

-- what is 0 is none of the numbers of a list without 0
not_listed : (listed : List ℕ) (n : ℕ) → among 0 listed ≡ false → among n listed ≡ true → n ≡ 0 → ⊥
not_listed listed n z a e = false≢true (sym z ∙ subst (λ (m : ℕ). among m listed ≡ true) e a)

-- a list that stops is told as no answer, which has no refusal's number, and as no refusal, with which no bytes are left
pub stops_apart : StopsApart
stops_apart framing n told more w = (
  (λ h. not_listed (stops_by framing) (refusal_in told) (none-zero framing).1 w.listed (omega arith)),
  (λ m e. omega (arith, w.left, e)),
)

-- a step that a refused frame ends is told as no answer, beside which there is no refusal's number, and as no refusal, whose number it does
-- not have
pub ends_apart : EndsApart
ends_apart n told more w = (
  (λ k. not_listed (stops_by (TcpVec Standard)) (frame_in more) refl w.listed (omega arith)),
  (λ m h e. omega (arith, w.accepted, h, e)),
)

-- a step at which a refused frame ends an index is told as no answer and as no refusal
pub index_ends_apart : IndexEndsApart
index_ends_apart n told more w = (
  (λ k. not_listed cue_order (frame_in more) refl w.listed (omega arith)),
  (λ m h e. omega (arith, w.accepted, h, e)),
)

-- nor is an index that differs
pub differs_apart : DiffersApart
differs_apart from told more w = (
  (λ h. omega (arith, w.number, h)),
  (λ m a e. ⊎_elim (λ p. omega (arith, w.number, w.low, e)) (λ p. absurd (false≢true (rw (ne_eqb m 1 p) at a))) (is-or m 1)),
)

-- ---- decoders

-- an offset is told beside a refusal that has one
beside : (n at : ℕ) → 17 ≤ n → n ≤ 21 → at < 0x1_0000 → Beside n (at * 0x1_0000_0000)
beside n at h k l = (omega arith, λ none. absurd (none (h, k)))

-- beside a refusal stands the offset of its field, if it has one
beside-of : (r : Refusal) → offset_of r < 0x1_0000 → Beside (number_of r) (offset_of r * 0x1_0000_0000)
beside-of (Unreadable Empty) h = alone 2
beside-of (Unreadable (Short Address at)) h = beside 17 at (omega arith) (omega arith) h
beside-of (Unreadable (Short TypeText at)) h = beside 18 at (omega arith) (omega arith) h
beside-of (Unreadable (Short Data at)) h = beside 19 at (omega arith) (omega arith) h
beside-of (Unreadable (Short Padding at)) h = beside 20 at (omega arith) (omega arith) h
beside-of (Unreadable (Short Head at)) h = beside 21 at (omega arith) (omega arith) h
beside-of (Unreadable NotUtf8) h = alone 4
beside-of (Unreadable BadStart) h = alone 5
beside-of (Unreadable NotOpen) h = alone 6
beside-of (Unreadable UnknownTag) h = alone 7
beside-of (Unreadable NotScalar) h = alone 8
beside-of TooLong h = alone 1
beside-of TooDeep h = alone 9
beside-of TableFull h = alone 10
beside-of BadTable h = alone 11
beside-of OutputShort h = alone 12
beside-of DepthLimit h = alone 13
beside-of PadOverflow h = alone 14
beside-of BytesLeft h = alone 15
beside-of OddLength h = alone 16

-- a refusal without an offset has 0 there
no_field : (r : Refusal) (n : ℕ) → offset_of r < 0x1_0000 → n ≡ number_of r → ((17 ≤ n) × (n ≤ 21) → ⊥) → offset_of r ≡ 0
no_field r n h e none =
    let z = (beside-of r h).1 (λ k. none (subst (λ (m : ℕ). (17 ≤ m) × (m ≤ 21)) (sym e) k)) in omega arith

module _ (framing : Framing) (msg table : List ℕ) (limit : ℕ) where
  -- how a list is told that stops
  stop-told : (count left dirty : ℕ) (r : Refusal) (frame : ℕ)
      → Bounded (decoded_told (length msg) (results.Stopped count left dirty r frame))
      → Answerable framing (length msg) (results.Stopped count left dirty r frame)
      → StopTold framing (length msg) (answer_of (decoded_told (length msg) (results.Stopped count left dirty r frame)))
      (more_of (decoded_told (length msg) (results.Stopped count left dirty r frame)))
  stop-told count left dirty r frame h a =
      let p = packed (decoded_told (length msg) (results.Stopped count left dirty r frame)) h in
      record {
        listed = subst (λ (n : ℕ). among n (stops_by framing) ≡ true) (sym p.number) a.0;
        left = omega (arith, p.low, a.1);
        from = omega (arith, p.low, p.frame, a.2);
        field = λ none. p.field ∙ no_field r _ h.field p.number none;
      }

  -- how the call ends where this is the answer
  decoding-ends : (d : DecodeAnswer) → Bounded (decoded_told (length msg) d) → Answerable framing (length msg) d
      → CEnds (c_contract_of (osc_decode framing msg table limit)) (answer_of (decoded_told (length msg) d))
      (more_of (decoded_told (length msg) d)) (tabled d (forest_of (rule_of framing limit msg)) table)
  decoding-ends (results.Packets count left dirty) h a = told_an_answer (omega arith) (omega arith)
  decoding-ends results.Waiting h a = told_an_answer (omega arith) refl
  decoding-ends (Err r) h a =
      let e : offset_of r * 0x1_0000_0000 ≡ more_of (told_refusal r) = omega arith in
      told_a_refusal (number_of r) a (omega arith) (subst (Beside (number_of r)) e (beside-of r h.field)) refl
  decoding-ends (results.Stopped count left dirty r frame) h a = told_a_stop (stop-told count left dirty r frame h a)

  decode-demand : CDemand (c_contract_of (osc_decode framing msg table limit))
  decode-demand =
      writes-demand (decoded_told (length msg)) (Decodes (rule_of framing limit) msg table limit) table (order_of framing) below56
      (λ more. more ≡ low_in more) (StopTold framing (length msg))
      (λ a b l l' m n. decodes-only m n)
      (λ a l m. ends_as refl refl m.left
      (decoding-ends a (fits (capacity table) limit framing msg m.answered)
      (subst (Answerable framing (length msg)) (sym m.answered) (answerable framing (capacity table) limit msg))))
      (λ told h. h) (none-zero framing).0 (λ told more s a b. (stops_apart framing (length msg) told more s).0 a)
      (λ told more n s h e. (stops_apart framing (length msg) told more s).1 n e)

-- ---- the step

-- how a step is told that a refused frame ends
end-told : (n count used dirty : ℕ) (r : Refusal) → Bounded (portion_told (results.Ended count used dirty r))
    → among (number_of r) (stops_by (TcpVec Standard)) ≡ true → used + 4 ≤ n
    → EndTold n (answer_of (portion_told (results.Ended count used dirty r))) (more_of (portion_told (results.Ended count used dirty r)))
end-told n count used dirty r h a k =
    let p = packed (portion_told (results.Ended count used dirty r)) h in
    record {
      listed = subst (λ (m : ℕ). among m (stops_by (TcpVec Standard)) ≡ true) (sym p.frame) a;
      accepted = omega arith;
      used = omega (arith, p.low, k);
      field = λ none. p.field ∙ no_field r _ h.field p.frame none;
    }

module _ (bytes table : List ℕ) (limit : ℕ) where
  -- how a step ends where this is the list's answer
  step-ends : (d : DecodeAnswer) → Bounded (portion_told (portion_of (length bytes) d)) → Answerable (TcpVec Standard) (length bytes) d
      → CEnds (c_contract_of (osc_read_portion bytes table limit)) (answer_of (portion_told (portion_of (length bytes) d)))
      (more_of (portion_told (portion_of (length bytes) d))) (tabled d (forest_of (tcp_vec2 limit bytes)) table)
  step-ends (results.Packets count left dirty) h a = told_an_answer (omega arith, omega arith) (omega arith)
  step-ends results.Waiting h a = absurd (false≢true a)
  step-ends (Err r) h a = told_a_refusal (number_of r) a (in-high-bits r) (alone (number_of r)) refl
  step-ends (results.Stopped count left dirty r frame) h a =
      told_a_stop (end-told (length bytes) count frame dirty r h a.0 (omega (arith, a.1, a.2)))

  step-demand : CDemand (c_contract_of (osc_read_portion bytes table limit))
  step-demand =
      writes-demand portion_told (Steps bytes table limit) table (order_of (TcpVec Standard)) (used_within bytes) (λ more. more ≡ low_in more)
      (EndTold (length bytes))
      (λ a b l l' m n. (one-outcome m.answers n.answers, one-outcome m.leaves n.leaves))
      (λ a l m. ends_as (ap (λ (p : PortionAnswer). answer_of (portion_told p)) m.answers)
      (ap (λ (p : PortionAnswer). more_of (portion_told p)) m.answers) m.leaves
      (step-ends (decoded (tcp_vec2 limit) (capacity table) limit bytes) (portion-fits limit bytes table refl)
      (answerable (TcpVec Standard) (capacity table) limit bytes)))
      (λ told h. h.0) refl (λ told more s a b. (ends_apart (length bytes) told more s).0 b)
      (λ told more n s h e. (ends_apart (length bytes) told more s).1 n h e)

-- ---- `osc_pad`, `osc_look` and `osc_start`

pad-demand : (pos : ℕ) → CDemand (c_contract_of (osc_pad pos))
pad-demand pos =
    record {
      settled = numbers-settled;
      ends = λ told more after t. ends_as t.0 t.1 t.2
          (by_le (λ (p : Padded). CEnds (c_contract_of (osc_pad pos)) (padded_number p) 0 []) pos 0xffff_ffff_ffff_fffc
          (λ h. told_an_answer (omega arith) refl) (λ h. told_a_refusal 14 refl refl (alone 14) refl));
      no_answer = λ n e h. ⊎_elim (λ p. omega arith) (λ p. absurd (false≢true (rw (ne_eqb n 14 p) at e))) (is-or n 14);
      no_stop = λ told more s a b. s;
      no_refusal = λ told more n s e q. s;
    }

kind-low : (v : OscType) → kind_of v < 256
kind-low (value.Message offset n) = omega arith
kind-low (value.Bundle t) = omega arith
kind-low (value.Int n) = omega arith
kind-low (value.Float x v) = omega arith
kind-low (value.String offset n) = omega arith
kind-low (value.Blob offset n) = omega arith
kind-low (value.Time t) = omega arith
kind-low (value.Long n) = omega arith
kind-low (value.Double x v) = omega arith
kind-low (value.Char x) = omega arith
kind-low (value.Color x) = omega arith
kind-low (value.Midi x) = omega arith
kind-low (value.Bool true) = omega arith
kind-low (value.Bool false) = omega arith
kind-low value.Nil = omega arith
kind-low value.Inf = omega arith
kind-low value.Array = omega arith

look-plain : (t : List ℕ) (i : ℕ) → Plain (11 ∷ []) 256 (looked_told (look_at t i))
unfolding look_at
look-plain t i =
    let P : Looked → Type 0 = λ r. Plain (11 ∷ []) 256 (looked_told r) in
    by-test P (ltb i (capacity t))
    (λ _. by-test P (eqb (zeros_at t i) 0 && own_rules (item_at t i)) (λ _. answers (omega (arith, kind-low (value_of (item_at t i)))))
    (λ _. refuses BadTable refl refl))
    (λ _. refuses BadTable refl refl)

start_plain : (t : List ℕ) (b : (i : ℕ) → get_or t i 0 < 256) (i : ℕ) → Plain (11 ∷ []) 0x1_0000_0000 (started_told (started_at t i))
unfolding started_at field_at
start_plain t b i =
    let n = record_start i + 16 in
    by-test (λ (r : Started). Plain (11 ∷ []) 0x1_0000_0000 (started_told r)) (ltb i (capacity t))
    (λ _. answers (omega (arith, number_small 4 (drop n t) (drop-small n t b)))) (λ _. refuses BadTable refl refl)

-- ---- `osc_shift_table`

module _ (table : List ℕ) (count by : ℕ) where
  abbrev ShiftTableEnds : Shifted → Type 0
  ShiftTableEnds r =
      CEnds (c_contract_of (osc_shift_table table count by)) (answer_of (shifted_told r)) (more_of (shifted_told r))
      (shift_leaves r table count by)

  shift-table-demand : CDemand (c_contract_of (osc_shift_table table count by))
  shift-table-demand =
      writes-demand shifted_told (ShiftsTold table count by) table (11 ∷ []) (λ told. told < 0x1_0000_0000) nothing never
      (λ a b l l' m n. told-only table count by m n)
      (λ a l m. ends_as refl refl m.leaves
      (by-told table count by ShiftTableEnds (λ n h. told_an_answer (omega arith) refl) (told_a_refusal 11 refl refl (alone 11) refl) m))
      (λ told h. omega arith) refl (λ told more s a b. s) (λ told more n s h q. s)

-- ---- a cue index

-- what is known of a refused frame, and of the bytes from it on
abbrev FrameTold : ℕ → Refusal → Type 0
FrameTold m k = (4 ≤ m) × (offset_of k ≤ m) × (among (number_of k) cue_order ≡ true)

frame-told : (l : List ℕ) (k : Refusal) → cue_of l ≡ Err k → FrameTold (length l) k
frame-told l k e = let p = cue-prefixed l k e in (p.0, p.1, refused-among l k e)

-- how a step is told at which a refused frame ends an index
index-end-told : (n count used : ℕ) (k : Refusal) → Bounded (indexed_told (results.Written count used (end.Refused k)))
    → FrameTold (n - used) k → used ≤ n
    → IndexEndTold n (answer_of (indexed_told (results.Written count used (end.Refused k))))
    (more_of (indexed_told (results.Written count used (end.Refused k))))
index-end-told n count used k h f w =
    let p = packed (indexed_told (results.Written count used (end.Refused k))) h in
    record {
      listed = subst (λ (m : ℕ). among m cue_order ≡ true) (sym p.frame) f.2;
      clean = p.dirty;
      accepted = omega arith;
      used = omega (arith, p.low, f.0, w);
      field = λ none. p.field ∙ no_field (moved_refusal used k) _ h.field (p.frame ∙ sym (moved-number used k)) none;
      place = λ has. let e = moved-place used k (omega (arith, has.0, p.frame)) in
          (omega (arith, p.low, p.field, e), omega (arith, p.field, e, f.1, w));
    }

module _ (l : List ℕ) (base : ℕ) (out : List ℕ) where
  abbrev IndexEnds : IndexAnswer → Type 0
  IndexEnds r =
      CEnds (c_contract_of (osc_index_step l base out)) (answer_of (indexed_told r)) (more_of (indexed_told r))
      (index_leaves r (written_of (index_of base l)) out)

  written-ends : length l ≤ longest → (i : Index) → Bounded (indexed_told (indexed_as base i)) → IndexIn FrameTold base (length l) i
      → IndexEnds (indexed_as base i)
  written-ends h (index written at end.Whole) b w =
      told_an_answer (omega (arith, w.1, w.2), omega (arith, w.1, w.2)) (omega arith)
  written-ends h (index written at end.Waiting) b w =
      told_an_answer (omega (arith, w.1, w.2), omega (arith, w.1, w.2)) (omega arith)
  written-ends h (index written at (end.Refused k)) b w =
      let rest : base + length l - at ≡ length l - (at - base) = omega (arith, w.0, w.1) in
      told_a_stop
      (index-end-told (length l) (length written / entry_size) (at - base) k b (subst (λ (m : ℕ). FrameTold m k) rest w.3)
      (omega (arith, w.0, w.1)))

  -- how a step ends that writes an index
  index-ends : IndexEnds (index_answer base l (length out))
  index-ends =
      by_le IndexEnds (length l) longest
      (λ h. by_le IndexEnds (base + length l) longest_recording
      (λ _. by_le IndexEnds (length (written_of (index_of base l))) (length out)
      (λ _. written-ends h (index_of base l) (index-bounded base l h) (index_in FrameTold frame-told base l))
      (λ _. told_a_refusal 12 refl refl (alone 12) refl))
      (λ _. told_a_refusal 1 refl refl (alone 1) refl))
      (λ _. told_a_refusal 1 refl refl (alone 1) refl)

  index-demand : CDemand (c_contract_of (osc_index_step l base out))
  index-demand =
      writes-demand indexed_told (Indexes l base out) out (1 ∷ 12 ∷ []) (used_within l) (λ more. more ≤ 1) (IndexEndTold (length l))
      (λ a b m m' t u. indexes-only t u)
      (λ a after m. let e = m.answers in
      ends_as (ap (λ (r : IndexAnswer). answer_of (indexed_told r)) e) (ap (λ (r : IndexAnswer). more_of (indexed_told r)) e)
      (m.leaves ∙ ap (λ (r : IndexAnswer). index_leaves r (written_of (index_of base l)) out) e) index-ends)
      (λ told h. h.0) refl (λ told more s a b. (index_ends_apart (length l) told more s).0 b)
      (λ told more n s h e. (index_ends_apart (length l) told more s).1 n h e)

module _ (f g : List ℕ) (n : ℕ) where
  abbrev CheckEnds : ℕ → Type 0
  CheckEnds x = CEnds (c_contract_of (osc_index_check_step f g n)) x 0 []

  checked-ends : n < most_checked → length f < most_checked → length g < most_checked → (r : Checked) → compared f g ≡ r
      → CheckEnds (checked_number (numbered_from n r))
  checked-ends a b c (Ok k) e = told_an_answer (omega (arith, fits-checked f g e), omega arith) refl
  checked-ends a b c (Err differs) e =
      told_a_stop
      (record {
        place = n + differs.at;
        number = refl;
        low = omega (arith, differs-checked f g {k = differs.at} e);
        here = omega arith;
        alone = refl;
      })

  -- how a step ends that checks an index
  check-ends : CheckEnds (check_number f g n)
  check-ends =
      by-test CheckEnds (ltb n most_checked)
      (λ a. by-test CheckEnds (ltb (length f) most_checked)
      (λ b. by-test CheckEnds (ltb (length g) most_checked)
      (λ c. checked-ends (ltb-true n most_checked a) (ltb-true (length f) most_checked b) (ltb-true (length g) most_checked c)
      (compared f g) refl)
      (λ _. told_a_refusal 1 refl refl (alone 1) refl))
      (λ _. told_a_refusal 1 refl refl (alone 1) refl))
      (λ _. told_a_refusal 1 refl refl (alone 1) refl)

  check-demand : CDemand (c_contract_of (osc_index_check_step f g n))
  check-demand =
      record {
        settled = numbers-settled;
        ends = λ told more after t. ends_as t.0 t.1 t.2 check-ends;
        no_answer = λ m e h. omega (arith, some_number (1 ∷ []) refl m e, h.0);
        no_stop = λ told more s a b. (differs_apart n told more s).0 a.0;
        no_refusal = λ told more m s e q. (differs_apart n told more s).1 m e q;
      }

module _ (w : List ℕ) (b : (i : ℕ) → get_or w i 0 < 256) (k : ℕ) where
  abbrev CueEnds : CueAnswer → Type 0
  CueEnds r = CEnds (c_contract_of (osc_cue w b k)) (answer_of (cue_told r)) (cue_beside r) []

  -- how a cue ends that is looked up
  cue-ends : CueEnds (cue_told_as (cue_in w k))
  cue-ends =
      by-test (λ (r : CueAnswer). CueEnds (cue_told_as r)) (ltb k (length w / entry_size))
      (λ _. by-test CueEnds (ltb (cue_records w k) 0x100_0000)
      (λ h. told_an_answer
      (omega (
        arith,
        ltb-true (cue_records w k) 0x100_0000 h,
        number_small 4 (drop (entry_size * k + 8) w) (drop-small (entry_size * k + 8) w b),
      ))
      (number_small 8 (drop (entry_size * k) w) (drop-small (entry_size * k) w b)))
      (λ _. told_a_refusal 11 refl refl (alone 11) refl))
      (λ _. told_a_refusal 11 refl refl (alone 11) refl)

  cue-demand : CDemand (c_contract_of (osc_cue w b k))
  cue-demand =
      record {
        settled = numbers-settled;
        ends = λ told more after t. ends_as t.0 t.1 t.2 cue-ends;
        no_answer = λ m e h. omega (arith, some_number (11 ∷ []) refl m e, h);
        no_stop = λ told more s a b. s;
        no_refusal = λ told more m s e q. s;
      }

-- the version is told, and nothing else: no refusal is listed for it
version-demand : (version : ℕ) (bits : version < 0x1_0000_0000_0000) → CDemand (c_contract_of (osc_version version bits))
version-demand version bits =
    record {
      settled = numbers-settled;
      ends = λ told more after t. ends_as t.0 t.1 t.2 (told_an_answer bits refl);
      no_answer = λ n e h. false≢true e;
      no_stop = λ told more s a b. s;
      no_refusal = λ told more n s e q. s;
    }

-- ---- every function

-- each function meets demand 1
pub every : EveryFunction
every (osc_decode framing msg table limit) = decode-demand framing msg table limit
every (osc_read_portion bytes table limit) = step-demand bytes table limit
every (osc_index_step bytes base out) = index-demand bytes base out
every (osc_index_check_step fresh given from) = check-demand fresh given from
every (osc_cue w bytes k) = cue-demand w bytes k
every (osc_encode frame table count source out) =
    encodes-demand (Encodes frame table count source out) out encode_order (encodes-only frame table count source out)
    (encodes-ended frame table count source out) refl
every (osc_encode_string text out) =
    encodes-demand (EncodesString text out) out string_order (λ o p. one-outcome) (string-ended text out) refl
every (osc_shift_table table count by) = shift-table-demand table count by
every (osc_pad pos) = pad-demand pos
every (osc_look table i) = tells-demand (looked_told (look_at table i)) (11 ∷ []) 256 (omega arith) refl (look-plain table i)
every (osc_start table bytes i) =
    tells-demand (started_told (started_at table i)) (11 ∷ []) 0x1_0000_0000 (omega arith) refl (start_plain table bytes i)
every (osc_version version bits) = version-demand version bits
every (osc_tag rule seconds nanos) = tag-demand rule seconds nanos
every (osc_unix rule tag fits) = unix-demand rule tag fits
every (osc_shift tag by) = shift-demand tag by
every (osc_difference tag old) = difference-demand tag old

-- no second number, nothing else beside it and no other lent bytes meet its contract
pub c_settled : CSettled
c_settled c = (every c).settled

-- it tells an answer, or a refusal that is listed for it, and then every lent byte is as before, or it stops
pub ends_listed : EndsListed
ends_listed c = (every c).ends

-- no refusal is told as an answer: its bits are those that no answer has, and 14 is no multiple of 4
pub refusals_apart : ToldApart
refusals_apart c = (every c).no_answer
