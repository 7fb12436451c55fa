-- An outcome of an encoder writes at most 65,535 bytes, or has a refusal that is listed for the call and leaves the output as it was.
use mathlib.Core.Path.{◌≡◌, refl, sym, subst}
use mathlib.Core.Bool.{true}
use mathlib.Core.List.{List}
use Prim.Native.Nat.{ℕ, ◌≤◌}
use lib.ListN.{length}
use Rattle.refusal.specs.Refusal.{number_of}
use Rattle.wire.specs.Limits.{longest, deepest}
use Rattle.wire.proofs.Choices.{by-test, by_le}
use Rattle.utf8.specs.Derive.{utf8}
use Rattle.node.specs.Forest.{nil, node, depth}
use Rattle.node.specs.Tags.{among}
use Rattle.strings.specs.Atomic.{osc_string}
use Rattle.writers.specs.Osc.{write_packet}
use Rattle.encoder.specs.Outcome.{Outcome, encode_order, string_order, bytes_outcome, tree_outcome, Encodes, malformed, formed, string_outcome}
use Rattle.results.specs.Results.{Encoded}
use Rattle.std.specs.Prelude.{Err, Ok}

-- few bytes are written; or one of these numbers refuses, and the bytes after are those before
abbrev pub Ended : List ℕ → List ℕ → Encoded → List ℕ → Type 0
Ended numbers before (Ok n) after = n ≤ longest
Ended numbers before (Err r) after = (among (number_of r) numbers ≡ true) × (after ≡ before)

-- the same of an outcome
abbrev OutcomeEnded : List ℕ → List ℕ → Outcome → Type 0
OutcomeEnded numbers before o = Ended numbers before o.answer o.out

bytes-ended : (numbers bs out : List ℕ) → among 1 numbers ≡ true → among 12 numbers ≡ true
    → OutcomeEnded numbers out (bytes_outcome bs out)
unfolding bytes_outcome
bytes-ended numbers bs out p q =
    by_le (OutcomeEnded numbers out) (length bs) longest
    (λ h. by_le (OutcomeEnded numbers out) (length bs) (length out) (λ k. h) (λ k. (q, refl)))
    (λ h. (p, refl))

-- an outcome of `encode` and of `encode_tcp`
pub encodes-ended : (frame : ℕ → List ℕ → List ℕ) (table : List ℕ) (count : ℕ) (source out : List ℕ) (r : Outcome)
    → Encodes frame table count source out r → Ended encode_order out r.answer r.out
unfolding tree_outcome
encodes-ended frame table count source out r (malformed n e) = subst (OutcomeEnded encode_order out) (sym e) (refl, refl)
encodes-ended frame table count source out r (formed item inside tree e) =
    subst (OutcomeEnded encode_order out) (sym e)
    (by_le (OutcomeEnded encode_order out) (depth (node item inside nil)) deepest
    (λ h. bytes-ended encode_order (frame item.kind (write_packet source item inside)) out refl refl) (λ h. (refl, refl)))

-- an outcome of `encode_string`
pub string-ended : (text out : List ℕ) (r : Outcome) → r ≡ string_outcome text out → Ended string_order out r.answer r.out
unfolding string_outcome
string-ended text out r e =
    subst (OutcomeEnded string_order out) (sym e)
    (by-test (OutcomeEnded string_order out) (utf8 text) (λ h. bytes-ended string_order (osc_string text) out refl refl) (λ h. (refl, refl)))
