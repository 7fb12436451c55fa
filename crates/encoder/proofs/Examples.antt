-- Examples, computed, that meet the hypotheses of `encode_fours`, `encode_tcp_fours` and `encode_string_fours`, and those of
-- `encode_no` and `encode_tcp_no`: what the encoders answer by their contracts for the tables of crates/table/proofs/Examples.antt, for 65
-- arrays and for a text.
use mathlib.Core.Path.{◌≡◌, refl, ap}
use mathlib.Core.List.{[], ◌∷◌}
use Prim.Native.Nat.{ℕ, zero, suc, ◌%◌}
use native.Mathlib.Omega.{arith}
use lib.ListN.{replicate}
use Rattle.wire.specs.Number.{bytes}
use Rattle.node.specs.Forest.{Forest, nil, node, size, depth}
use Rattle.node.specs.Tags.{array_kind, sort_of, class_of}
use Rattle.strings.specs.Atomic.{osc_string, osc_blob}
use Rattle.writers.specs.Osc.{write_data, write_tags, write_message, write_bundle, write_elements, write_packet}
use Rattle.edition.specs.declared.Edition.TheVariants.{Rosc, Standard}
use Rattle.encoder.specs.Outcome.{malformed, formed, refuse, bytes_outcome, tree_outcome, string_outcome}
use Rattle.refusal.specs.declared.Refusal.TheVariants.{TooDeep, BadTable}
use Rattle.node.specs.Rules.{own_rules}
use Rattle.node.specs.Records.{records_of}
use Rattle.table.specs.Formed.{range_ok, allowed}
use Rattle.table.specs.Tree.{IsTree}
use Rattle.table.proofs.Spanned.{spans_unique}
use Rattle.table.proofs.Examples as example
use Rattle.survey.specs.Surveys.{unsure, Surveys}
use Rattle.survey.proofs.Exact.{no_length}
use Rattle.survey.proofs.Examples as survey
use Rattle.encoder.specs.AfterNo.{NoOutcome}
use Rattle.encoder.proofs.NoLeads.{encode_no, encode_tcp_no}
use Rattle.encoder.proofs.Fours.{encode_fours, encode_tcp_fours, encode_string_fours}

-- a bundle in a bundle, with a text, a blob, a character and a double that is no number: 76 bytes, where the output has as many
nested : 76 % 4 ≡ 0
unfolding depth bytes sort_of class_of osc_string osc_blob write_data write_tags write_message write_bundle write_elements write_packet bytes_outcome
    tree_outcome
nested =
    encode_fours example.nested-table 7 example.nested (replicate 76 0) _
    (formed (example.once 0) (example.within 0) example.nested-tree refl) 76 refl

-- P3 behind its length: 16 bytes
stream : 16 % 4 ≡ 0
unfolding depth bytes sort_of class_of osc_string write_data write_tags write_message write_packet bytes_outcome tree_outcome
stream =
    encode_tcp_fours Rosc (example.table 2 2) 2 example.packet (replicate 16 0) _
    (formed example.message example.five example.p3-tree refl) 16 refl

-- the bundles behind their length, in edition 2: 80 bytes
standard : 80 % 4 ≡ 0
unfolding depth bytes sort_of class_of osc_string osc_blob write_data write_tags write_message write_bundle write_elements write_packet bytes_outcome
    tree_outcome
standard =
    encode_tcp_fours Standard example.nested-table 7 example.nested (replicate 80 0) _
    (formed (example.once 0) (example.within 0) example.nested-tree refl) 80 refl

-- the text é: 4 bytes
text : 4 % 4 ≡ 0
unfolding osc_string bytes_outcome string_outcome
text = encode_string_fours (0xC3 ∷ 0xA9 ∷ []) (replicate 4 0) 4 refl

-- ---- where the survey is not sure

-- a table whose last record ends after the table's end: 11
wrong-end : NoOutcome (example.table 2 3) 2 example.packet (replicate 16 0) (refuse BadTable (replicate 16 0))
wrong-end = encode_no survey.wrong-end-unsure (omega arith) (malformed example.wrong-end refl)

-- arrays in each other
abbrev arrays : ℕ → Forest
arrays zero = nil
arrays (suc n) = node (record { kind = array_kind; a = 0; b = 0; start = 8 }) (arrays n) nil

-- P3's message with 65 of them in place of its integer, and its table
abbrev deep : Forest
deep = node example.message (arrays 65) nil

deep-tree : IsTree (records_of 0 deep) 66 example.packet example.message (arrays 65)
unfolding size own_rules range_ok allowed sort_of class_of
deep-tree = example.by_tests example.packet example.message (arrays 65) tt tt (omega arith)

-- of these the survey is not sure
deep-unsure : Surveys (records_of 0 deep) 66 example.packet unsure
unfolding depth
deep-unsure =
    record {
      exact = no_length (omega arith) (λ F w h.
          let e = spans_unique (records_of 0 deep) 0 66 _ deep w.tree.spans deep-tree.spans in
          omega (arith, ap depth e, w.shallow));
      most = omega arith;
    }

-- so both encoders refuse them, here with 9
deep-refused : NoOutcome (records_of 0 deep) 66 example.packet (replicate 16 0) (refuse TooDeep (replicate 16 0))
unfolding depth tree_outcome
deep-refused = encode_tcp_no deep-unsure (omega arith) Rosc (formed example.message (arrays 65) deep-tree refl)
