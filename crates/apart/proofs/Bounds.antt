-- What a decoder answers fits the bits that it has at the boundary, since a tree takes at least as many bytes as it has nodes, a node has
-- at most 6 bytes of padding, a field that was short begins in the input or right after it, and a frame at which a list stops in it. So
-- does what a step answers, whose used bytes are of the input, and what a step and a check of an index answer: a field that was short
-- begins in the bytes of the call, or right after them.
use mathlib.Core.Path.{◌≡◌, sym, subst}
use mathlib.Core.List.{List}
use Prim.Native.Nat.{ℕ, ◌+◌, ◌-◌, ◌*◌, ◌<◌, ◌≤◌}
use native.Mathlib.Omega.{arith}
use lib.ListN.{length}
use Rattle.refusal.proofs.FurtherOn.{moved_back}
use Rattle.wire.specs.Limits.{longest}
use Rattle.wire.proofs.Choices.{by_le}
use Rattle.argument.proofs.Pads.{dirty-few}
use Rattle.argument.specs.Dirt.{dirty_in}
use Rattle.node.specs.Forest.{size}
use Rattle.node.specs.Records.{capacity}
use Rattle.edition.specs.declared.Edition.TheVariants.{Standard}
use Rattle.framing.specs.Framing.{Whole, trees, waiting, refusal, stopped, rule_of}
use Rattle.edition.specs.declared.Framing.{Framing}
use Rattle.edition.specs.declared.Framing.TheVariants.{TcpVec}
use Rattle.answering.specs.Limits.{limited, decoded}
use Rattle.results.specs.Results.{DecodeAnswer, IndexAnswer, Packets, PortionAnswer, Stopped, Waiting}
use Rattle.std.specs.Prelude.{Err, Ok}
use Rattle.results.specs.Results as results
use Rattle.decoder.proofs.Chosen.{by-decoded, by-trees, by-bounded}
use Rattle.decoder.proofs.Sizes.{WholeIn, whole_in}
use Rattle.decoder.proofs.Offsets.{WholeLow, whole_low}
use Rattle.portions.specs.Portions.{portion_of, step_of}
use Rattle.cues.specs.Cues.{longest_recording, entry_size, Index, index, index_of, written_of, indexed_as, index_answer}
use Rattle.cues.specs.Checks.{compared}
use Rattle.results.specs.declared.End.TheVariants as end
use Rattle.cues.proofs.Checks.{fits_exactly, differs-in}
use Rattle.cues.proofs.Indexes.{IndexIn, FieldIn, field_in}
use Rattle.told.specs.Told.{Bounded}
use Rattle.told.specs.Answers.{decoded_told, portion_told, indexed_told}
use Rattle.told.proofs.Unpacked.{number_in}

-- the record of a decoder's answer to n bytes has its bits
abbrev DecodedFits : ℕ → DecodeAnswer → Type 0
DecodedFits n d = Bounded (decoded_told n d)

module _ (capacity limit : ℕ) where
  limited-fits : (n : ℕ) (msg : List ℕ) (w : Whole) → n ≤ longest → WholeIn n w → WholeLow n w
      → DecodedFits n (limited capacity limit msg w)
  limited-fits n msg (trees f left) h w v =
      by-trees (DecodedFits n) capacity limit msg f left (λ g. omega arith) (λ g. omega arith) (λ g k. omega (arith, dirty-few msg f))
  limited-fits n msg waiting h w v = omega arith
  limited-fits n msg (refusal k) h w v = omega (arith, number_in k)
  limited-fits n msg (stopped f left k at) h w v =
      by-bounded (DecodedFits n) capacity limit f (Stopped (size f) left (dirty_in msg f) k at) (λ g. omega arith) (λ g. omega arith)
      (λ g i. omega (arith, dirty-few msg f, number_in k))

  -- what a decoder answers to a message fits
  pub fits : (framing : Framing) (msg : List ℕ) {r : DecodeAnswer} → r ≡ decoded (rule_of framing limit) capacity limit msg
      → Bounded (decoded_told (length msg) r)
  fits framing msg e =
      subst (DecodedFits (length msg)) (sym e)
      (by-decoded (DecodedFits (length msg)) (rule_of framing limit) capacity limit msg (λ g. omega arith) (λ g. omega arith)
      (λ g k. limited-fits (length msg) msg (rule_of framing limit msg) k (whole_in framing limit msg) (whole_low framing limit msg)))

-- the record of a step's answer has its bits
abbrev PortionFits : PortionAnswer → Type 0
PortionFits p = Bounded (portion_told p)

-- what a step says of a decoder's answer that fits
step_fits : (n : ℕ) (d : DecodeAnswer) → n ≤ longest → DecodedFits n d → PortionFits (portion_of n d)
step_fits n (Packets count left dirty) h f = omega arith
step_fits n Waiting h f = omega arith
step_fits n (Err r) h f = omega (arith, number_in r)
step_fits n (Stopped count left dirty r frame) h f = omega (arith, number_in r)

-- what a step answers fits
pub portion-fits : (limit : ℕ) (bytes table : List ℕ) {p : PortionAnswer} → p ≡ step_of limit bytes table → Bounded (portion_told p)
portion-fits limit bytes table e =
    let n = length bytes in
    let rule = rule_of (TcpVec Standard) limit in
    subst PortionFits (sym e)
    (by-decoded (λ (d : DecodeAnswer). PortionFits (portion_of n d)) rule (capacity table) limit bytes (λ g. omega arith) (λ g. omega arith)
    (λ g k. step_fits n (limited (capacity table) limit bytes (rule bytes)) k
    (limited-fits (capacity table) limit n bytes (rule bytes) k (whole_in (TcpVec Standard) limit bytes)
    (whole_low (TcpVec Standard) limit bytes))))

-- ---- an index

-- the record of the answer of a step that writes an index has its bits
abbrev IndexedFits : IndexAnswer → Type 0
IndexedFits a = Bounded (indexed_told a)

-- that of a buffer's index, where its output has room
pub index-bounded : (base : ℕ) (l : List ℕ) → length l ≤ longest → Bounded (indexed_told (indexed_as base (index_of base l)))
index-bounded base l h = by_index (index_of base l) (field_in base l)
  where
    by_index : (i : Index) → IndexIn FieldIn base (length l) i → IndexedFits (indexed_as base i)
    by_index (index written at end.Whole) w = omega (arith, w.1, w.2)
    by_index (index written at end.Waiting) w = omega (arith, w.1, w.2)
    by_index (index written at (end.Refused k)) w = omega (arith, w.0, w.1, w.2, w.3, number_in k, moved_back (at - base) k)

-- what such a step answers fits
pub indexed-fits : (base : ℕ) (l : List ℕ) (room : ℕ) {r : IndexAnswer} → r ≡ index_answer base l room → Bounded (indexed_told r)
indexed-fits base l room e =
    subst IndexedFits (sym e)
    (by_le IndexedFits (length l) longest
    (λ h. by_le IndexedFits (base + length l) longest_recording
    (λ _. by_le IndexedFits (length (written_of (index_of base l))) room
    (λ _. index-bounded base l h) (λ _. omega arith)) (λ _. omega arith)) (λ _. omega arith))

-- so does what a check answers: no more records than bytes are compared
pub fits-checked : (f g : List ℕ) {k : ℕ} → compared f g ≡ Ok k → entry_size * k < length f + entry_size
fits-checked f g {k} e = ((fits_exactly f g).counts k e).1

pub differs-checked : (f g : List ℕ) {k : ℕ} → compared f g ≡ results.Differs k → entry_size * k < length f + length g
differs-checked f g {k} e = omega (arith, differs-in f g k e)
