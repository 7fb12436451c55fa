-- Which refusal a "no" of the survey leads to, for `encode` and `encode_tcp` both (Ticket 4): 11, then 9, then 1.
use mathlib.Core.Path.{◌≡◌, refl, sym, ◌∙◌}
use mathlib.Core.Bool.{true}
use mathlib.Core.Logic.{⊎_elim}
use mathlib.Core.List.{List, [], ◌∷◌}
use Prim.Native.Nat.{ℕ, ◌<◌}
use Rattle.refusal.specs.Refusal.{number_of}
use Rattle.refusal.specs.declared.Refusal.{Refusal}
use Rattle.refusal.specs.declared.Refusal.TheVariants.{TooLong, TooDeep, BadTable}
use Rattle.wire.specs.Limits.{deepest}
use Rattle.wire.proofs.Choices.{lt-or-le}
use Rattle.node.specs.Forest.{Forest, nil, node, depth}
use Rattle.node.specs.Tags.{among}
use Rattle.node.specs.Records.{item_at}
use Rattle.table.specs.Tree.{Spans, IsTree}
use Rattle.writers.specs.Osc.{longest_element}
use Rattle.survey.specs.Surveys.{ShallowTree, Surveys}
use Rattle.edition.specs.declared.Edition.{Edition}
use Rattle.encoder.specs.Outcome.{Outcome, unframed, framed_by, tree_outcome, Encodes, malformed, formed}
use Rattle.encoder.specs.AfterNo.{AfterNo, NoOutcome}
use Rattle.encoder.specs.AfterNo as after_no
use Rattle.encoder.proofs.Answers.{Keeps, unframed-keeps, framed-keeps, outcome-deep, outcome-long, survey-no}

-- its number is one of three
pub no_number : {t : List ℕ} {count : ℕ} {source : List ℕ} {x : Refusal} → AfterNo t count source x
    → among (number_of x) (11 ∷ 9 ∷ 1 ∷ []) ≡ true
no_number (after_no.malformed n e) = rw e
no_number (after_no.deep inside tree h e) = rw e
no_number (after_no.long inside w h e) = rw e

module _ (frame : ℕ → List ℕ → List ℕ) (k : Keeps frame) {t : List ℕ} {count : ℕ} {source out : List ℕ} {n : ℕ}
    (w : Surveys t count source n) (h : longest_element < n) where
  tree-no : (inside : Forest) → IsTree t count source (item_at t 0) inside → {r : Outcome}
      → r ≡ tree_outcome frame source out (item_at t 0) inside → NoOutcome t count source out r
  tree-no inside tree e =
      ⊎_elim
      (λ d. record {
        refusal = TooDeep;
        after = after_no.deep inside tree d refl;
        is = e ∙ sym (outcome-deep frame k t count source out inside d);
      })
      (λ d.
      let s : ShallowTree t count source inside = record { tree = tree; shallow = d } in
      let l = survey-no w h inside s in
      record {
        refusal = TooLong;
        after = after_no.long inside s l refl;
        is = e ∙ sym (outcome-long frame k t count source out inside s l);
      })
      (lt-or-le deepest (depth (node (item_at t 0) inside nil)))

  -- where the survey is not sure, an encoder refuses the table with 11, 9 or 1, in that order
  pub no-leads : {r : Outcome} → Encodes frame t count source out r → NoOutcome t count source out r
  unfolding Spans
  no-leads (malformed m e) = record { refusal = BadTable; after = after_no.malformed m refl; is = e }
  no-leads (formed item inside tree e) =
      let i : item ≡ item_at t 0 = sym tree.spans.0 in
      tree-no inside (rw i at tree) (rw i at e)

module _ {t : List ℕ} {count : ℕ} {source out : List ℕ} {n : ℕ} {r : Outcome} (w : Surveys t count source n) (h : longest_element < n) where
  -- `encode` does
  pub encode_no : Encodes unframed t count source out r → NoOutcome t count source out r
  encode_no = no-leads unframed unframed-keeps w h

  -- and so does `encode_tcp`
  pub encode_tcp_no : (edition : Edition) → Encodes (framed_by edition) t count source out r → NoOutcome t count source out r
  encode_tcp_no edition = no-leads (framed_by edition) (framed-keeps edition) w h
