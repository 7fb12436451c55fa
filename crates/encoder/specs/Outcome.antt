-- What the encoders answer and leave in the output: document 01, "Refusal numbers" (the encode order) and "How bytes are written"; document
-- 02, Ticket 1, for edition 2.
use Rattle.std.specs.Prelude.{◌≡◌, Bool, true, cond, List, [], ◌∷◌, ◌++◌, ℕ, ◌%◌, eqb, leb, length, drop, Err, Ok}
use Rattle.edition.specs.declared.Edition.{Edition}
use Rattle.edition.specs.declared.Edition.TheVariants.{Rosc, Standard}
use Rattle.refusal.specs.declared.Refusal.{Refusal}
use Rattle.refusal.specs.declared.Refusal.TheVariants.{TooLong, Unreadable, TooDeep, BadTable, OutputShort}
use Rattle.refusal.specs.declared.Fault.TheVariants.{NotUtf8}
use Rattle.utf8.specs.Derive.{utf8}
use Rattle.node.specs.Forest.{Forest, nil, node, depth}
use Rattle.table.specs.Formed.{WellFormed}
use Rattle.table.specs.Tree.{IsTree}
use Rattle.strings.specs.Atomic.{osc_string}
use Rattle.writers.specs.Osc.{write_element, write_packet}
use Rattle.results.specs.Results.{Encoded}
use Rattle.node.specs.Tags.{message_kind}
use Rattle.wire.specs.Limits.{longest, deepest}
use Rattle.node.specs.declared.record.Item.{Item}

-- the refusals of `encode` and `encode_tcp` by their numbers: "Encode order: 11, 9 (limit 64), 1, 12"
abbrev pub encode_order : List ℕ
encode_order = 11 ∷ 9 ∷ 1 ∷ 12 ∷ []

-- those of `encode_string`: "`encode_string` takes bytes: 4, 1, 12"
abbrev pub string_order : List ℕ
string_order = 4 ∷ 1 ∷ 12 ∷ []

-- an answer, and what the output then holds
pub record Outcome : Type 0 where
  pub answer : Encoded
  pub out : List ℕ

-- a refusal leaves every byte of the output as it was
abbrev pub refuse : Refusal → List ℕ → Outcome
refuse r out = record { answer = Err r; out = out }

-- these bytes over the output's first ones: 1 where they are over 65,535, then 12 where the output is shorter; later bytes are unchanged
unfoldable pub bytes_outcome : List ℕ → List ℕ → Outcome
bytes_outcome bs out =
    cond (leb (length bs) longest)
    (cond (leb (length bs) (length out)) (record { answer = Ok (length bs); out = bs ++ drop (length bs) out })
    (refuse OutputShort out))
    (refuse TooLong out)

-- the bytes of a packet as `encode` frames it: as they are
abbrev pub unframed : ℕ → List ℕ → List ℕ
unframed kind bs = bs

-- whether a length stands before a packet of this kind: in edition 1 before a message and not before a bundle, in edition 2 before both
abbrev pub length_before : Edition → ℕ → Bool
length_before Rosc kind = eqb kind message_kind
length_before Standard kind = true

-- as `encode_tcp` frames it in an edition
abbrev pub framed_by : Edition → ℕ → List ℕ → List ℕ
framed_by edition kind bs = cond (length_before edition kind) (write_element bs) bs

-- as `encode_tcp` frames it in edition 1
abbrev pub prefixed : ℕ → List ℕ → List ℕ
prefixed = framed_by Rosc

-- what the encoder gives for a tree: 9 (limit 64) before 1 and 12
unfoldable pub tree_outcome : (ℕ → List ℕ → List ℕ) → List ℕ → List ℕ → Item → Forest → Outcome
tree_outcome frame source out item inside =
    cond (leb (depth (node item inside nil)) deepest)
    (bytes_outcome (frame item.kind (write_packet source item inside)) out)
    (refuse TooDeep out)

-- the contract of an encoder, by its frame: 11 for a table that is not well formed; else what its tree gives
pub data Encodes (frame : ℕ → List ℕ → List ℕ) (t : List ℕ) (count : ℕ) (source out : List ℕ) (r : Outcome) : Type 0 where
  malformed : (WellFormed t count source → ⊥) → r ≡ refuse BadTable out → Encodes frame t count source out r
  formed : (item : Item) (inside : Forest) → IsTree t count source item inside → r ≡ tree_outcome frame source out item inside
      → Encodes frame t count source out r

-- the outcome of `encode_string`: 4, then 1, then 12
unfoldable pub string_outcome : List ℕ → List ℕ → Outcome
string_outcome text out = cond (utf8 text) (bytes_outcome (osc_string text) out) (refuse (Unreadable NotUtf8) out)

-- the contract of `encode_string`
abbrev pub EncodesString : List ℕ → List ℕ → Outcome → Type 0
EncodesString text out r = r ≡ string_outcome text out

-- demand 2, "encodes to a multiple of four bytes": an outcome that answers a count answers a multiple of four
abbrev pub InFours : Outcome → Type 0
InFours r = (n : ℕ) → r.answer ≡ Ok n → n % 4 ≡ 0
