-- Demand 3 for one depth: more room changes no answer but 10.
use mathlib.Core.Path.{◌≡◌, refl, sym, ap, ◌∙◌}
use mathlib.Core.Bool.{Bool, true, false, cond, false≢true}
use mathlib.Core.List.{List}
use Prim.Native.Nat.{ℕ, ◌≤◌, ◌<◌, min}
use native.Mathlib.Omega.{arith}
use lib.Dec.{leb}
use lib.ListN.{length}
use borrow.Author.Tests.{le-leb}
use Rattle.wire.specs.Limits.{longest, deepest}
use Rattle.node.specs.Forest.{Forest, size, depth}
use Rattle.node.specs.Records.{records_of, most_records}
use Rattle.framing.specs.Framing.{Whole, trees, waiting, refusal, stopped, rule_of}
use Rattle.answering.specs.Limits.{bounded, limited, decoded, forest_of}
use Rattle.refusal.specs.declared.Refusal.TheVariants.{TableFull}
use Rattle.results.specs.Results.{DecodeAnswer}
use Rattle.std.specs.Prelude.{Err}
use Rattle.edition.specs.declared.Framing.{Framing}
use Rattle.commands.specs.Options.{depth_for, records_for}
use Rattle.commands.specs.declared.options.Options.{Options}
use Rattle.wire.proofs.Choices.{by_le}
use Rattle.telling.specs.Replies.{decoded_line}
use Rattle.telling.proofs.Told.{says-as}
use Rattle.outcomes.specs.Kept.{roots_of, has_table, kept_trees}
use Rattle.outcomes.specs.Told.{decoded_with, trees_with, DecodeTold}
use Rattle.outcomes.specs.Tried.{is_full}
use Rattle.outcomes.specs.declared.Told.{Told}

-- a choice stays where what is chosen stays
choice-stays : (t : Bool) (x y z : DecodeAnswer) → (is_full x ≡ false → y ≡ x) → is_full (cond t x z) ≡ false → cond t y z ≡ cond t x z
choice-stays true x y z h e = h e
choice-stays false x y z h e = refl

module _ {room more : ℕ} (h : room ≤ more) (limit : ℕ) where
  fit_stays : (n : ℕ) (given : DecodeAnswer) → is_full (cond (leb n room) given (Err TableFull)) ≡ false
      → cond (leb n more) given (Err TableFull) ≡ cond (leb n room) given (Err TableFull)
  fit_stays n given =
      by_le (λ (r : DecodeAnswer). is_full r ≡ false → cond (leb n more) given (Err TableFull) ≡ r) n room
      (λ few _. rw (le-leb n more (omega arith)))
      (λ full e. absurd (false≢true (sym e)))

  bounded-stays : (f : Forest) (given : DecodeAnswer) → is_full (bounded room limit f given) ≡ false
      → bounded more limit f given ≡ bounded room limit f given
  bounded-stays f given = choice-stays (leb (depth f) limit) _ _ _ (fit_stays (size f) given)

  limited-stays : (msg : List ℕ) (w : Whole) → is_full (limited room limit msg w) ≡ false
      → limited more limit msg w ≡ limited room limit msg w
  limited-stays msg (trees f left) e = bounded-stays f _ e
  limited-stays msg waiting e = refl
  limited-stays msg (refusal k) e = refl
  limited-stays msg (stopped f left k at) e = bounded-stays f _ e

  -- an answer that is not 10 stays
  pub answer-stays : (rule : List ℕ → Whole) (msg : List ℕ) → is_full (decoded rule room limit msg) ≡ false
      → decoded rule more limit msg ≡ decoded rule room limit msg
  unfolding decoded
  answer-stays rule msg =
      choice-stays (leb limit deepest) _ _ _ (choice-stays (leb (length msg) longest) _ _ _ (limited-stays msg (rule msg)))

-- so what is told with less room is told with the room that is asked for
pub told-stays : {framing : Framing} {o fewer : Options} {msg table line : List ℕ} {told : Told} (room : ℕ) → records_for fewer ≡ room
    → depth_for fewer ≡ depth_for o → room < min (records_for o) most_records
    → is_full (decoded (rule_of framing (depth_for o)) room (depth_for o) msg) ≡ false
    → DecodeTold framing fewer msg table line told
    → DecodeTold framing o msg table line told
told-stays {framing} {o} {fewer} {msg} room r e h n d =
    let few : min (records_for fewer) most_records ≡ room = omega arith in
    let less : room ≤ min (records_for o) most_records = omega arith in
    let trees : trees_with framing fewer msg ≡ trees_with framing o msg = ap (λ (m : ℕ). forest_of (rule_of framing m msg)) e in
    let same : decoded_with framing fewer msg ≡ decoded_with framing o msg
    = ap (λ (m : ℕ). decoded (rule_of framing m) (min (records_for fewer) most_records) m msg) e
    ∙ ap (λ (m : ℕ). decoded (rule_of framing (depth_for o)) m (depth_for o) msg) few
    ∙ sym (answer-stays less (depth_for o) (rule_of framing (depth_for o)) msg n) in
    record {
      kept = d.kept ∙ ap has_table same;
      counts = d.counts;
      bytes = d.bytes
          ∙ ap (λ (f : Forest). records_of 0 (kept_trees (decoded_with framing fewer msg) f)) trees
          ∙ ap (λ (y : DecodeAnswer). records_of 0 (kept_trees y (trees_with framing o msg))) same;
      says = says-as
          (ap (λ (f : Forest). decoded_line (roots_of f) (length msg) (decoded_with framing fewer msg)) trees
          ∙ ap (decoded_line (roots_of (trees_with framing o msg)) (length msg)) same)
          d.says;
    }

-- whether it is 10 is seen by the answer that was given
pub full-seen : {d e : DecodeAnswer} {r t : Bool} → d ≡ e → r ≡ is_full d → r ≡ t → is_full e ≡ t
full-seen given seen is = ap is_full (sym given) ∙ sym seen ∙ is
