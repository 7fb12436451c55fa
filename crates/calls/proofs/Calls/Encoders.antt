-- Demand 1 of the encoders.
use mathlib.Core.Path.{◌≡◌, refl, sym, ap, subst}
use mathlib.Core.Bool.{true}
use mathlib.Core.List.{List}
use Prim.Native.Nat.{ℕ}
use lib.ListN.{length}
use Rattle.utf8.specs.Derive.{utf8}
use Rattle.wire.specs.Limits.{longest, deepest}
use Rattle.node.specs.Forest.{nil, node, depth}
use Rattle.node.specs.Tags.{among}
use Rattle.results.specs.Results.{Encoded}
use Rattle.strings.specs.Atomic.{osc_string}
use Rattle.writers.specs.Osc.{write_packet}
use Rattle.encoder.specs.Outcome.{encode_order, Outcome, bytes_outcome, tree_outcome, Encodes, malformed, formed, string_outcome}
use Rattle.contract.specs.Endings.{by_encoded}
use Rattle.contract.specs.Contract.{Contract, writes, Demand1}
use Rattle.calls.specs.Calls.{encode_string, encoding, contract_of}
use Rattle.contract.proofs.OneEnding.{WellEnded, one-ending}
use Rattle.wire.proofs.Choices.{by-test, by_le}
use Rattle.table.proofs.Theorem.{formed_tree}
use Rattle.encoder.proofs.Only.{encodes-only}

-- one outcome is one answer and one output
outcome-one : {r r' : Outcome} → r ≡ r' → (r.answer ≡ r'.answer) × (r.out ≡ r'.out)
outcome-one e = (ap (λ (o : Outcome). o.answer) e, ap (λ (o : Outcome). o.out) e)

module _ (Meets : Encoded → List ℕ → Type 0) (numbers out : List ℕ) where
  abbrev Ended : Outcome → Type 0
  Ended r = WellEnded (writes Encoded out Meets by_encoded numbers) r.answer r.out

  write-ends : (bs : List ℕ) → among 1 numbers ≡ true → among 12 numbers ≡ true → Ended (bytes_outcome bs out)
  unfolding bytes_outcome
  write-ends bs p q =
      by_le Ended (length bs) longest
      (λ _. by_le Ended (length bs) (length out) (λ _. (tt, λ n. absurd n)) (λ _. (q, λ _. refl)))
      (λ _. (p, λ _. refl))

module _ (frame : ℕ → List ℕ → List ℕ) (t : List ℕ) (count : ℕ) (source out : List ℕ) where
  abbrev TreeEnded : Outcome → Type 0
  TreeEnded = Ended (λ r after. Encodes frame t count source out (record { answer = r; out = after })) encode_order out

  encodes-end : {r : Outcome} → Encodes frame t count source out r → TreeEnded r
  unfolding tree_outcome
  encodes-end (malformed n e) = subst TreeEnded (sym e) (refl, λ _. refl)
  encodes-end (formed item inside w e) =
      subst TreeEnded (sym e)
      (by_le TreeEnded (depth (node item inside nil)) deepest
      (λ _. write-ends (λ r after. Encodes frame t count source out (record { answer = r; out = after })) encode_order out (frame item.kind (write_packet source item inside)) refl refl) (λ _. (refl, λ _. refl)))

  -- no table is without an outcome
  encodes-met : ((r : Outcome) → Encodes frame t count source out r → ⊥) → ⊥
  encodes-met n = n _ (malformed (λ w. let x = formed_tree t count source w in n _ (formed _ x.0 x.1 refl)) refl)

  pub encoder-demand : Demand1 (encoding frame t count source out)
  encoder-demand =
      record {
        settled = λ r r' l l' m m'. outcome-one (encodes-only frame _ _ _ _ _ _ m m');
        met = λ n. encodes-met (λ r m. n r.answer r.out m);
        listed = λ r l m. (encodes-end m).0;
        unchanged = λ r l m. (encodes-end m).1;
      }

module _ (text out : List ℕ) where
  abbrev string : Contract
  string = contract_of (encode_string text out)

  abbrev TextEnded : Outcome → Type 0
  TextEnded = Ended string.Meets string.numbers out

  string-ends : TextEnded (string_outcome text out)
  unfolding string_outcome
  string-ends = by-test TextEnded (utf8 text) (λ _. write-ends string.Meets string.numbers out (osc_string text) refl refl) (λ _. (refl, λ _. refl))

  pub string-demand : Demand1 string
  string-demand =
      let r = string_outcome text out in one-ending string r.answer r.out refl (λ a l m. outcome-one m) string-ends
