-- Describes code, and no part of the document: what one reading of a table finds. The words are those of Formed.antt and Tree.antt of
-- `table`, and of Osc.antt of `writers`.
use Rattle.std.specs.Prelude.{◌≡◌, Bool, true, false, cond, List, ℕ, ◌*◌, ◌≤◌, ◌<◌, eqb, leb, ltb, length}
use Rattle.node.specs.Forest.{Forest, depth}
use Rattle.node.specs.Tags.{message_kind, bundle_kind}
use Rattle.node.specs.Records.{record_size, most_records, zeros_at, end_at}
use Rattle.node.specs.Rules.{leaf_rules}
use Rattle.node.specs.declared.tags.Class.{Class}
use Rattle.node.specs.declared.tags.Class.TheVariants.{Four, Eight, Bare, Text, Blob, Scalar, Unknown}
use Rattle.wire.specs.Part.{inside}
use Rattle.table.specs.Formed.{text_ok}
use Rattle.table.specs.Tree.{Spans, Obeys}
use Rattle.strings.specs.CodeStrings.{string_length, blob_length}
use Rattle.writers.specs.Osc.{write_tags, write_data, write_elements, longest_element}
use Rattle.node.specs.declared.record.Item.{Item}
use Rattle.survey.specs.declared.Tally.{Tally}
use Rattle.survey.specs.Surveys.{unsure, Exactly}

-- ---- a record by itself

-- record `at` has its three zeros, and ends after itself and no later than hi ("The node table")
abbrev pub placed : List ℕ → ℕ → ℕ → Bool
placed t at hi = cond (eqb (zeros_at t at) 0) (cond (ltb at (end_at t at)) (leb (end_at t at) hi) false) false

-- record `at` is placed, and it and what it contains are records of a table that may be encoded
pub record InTable (t : List ℕ) (at : ℕ) : Type 0 where
  pub zeros : zeros_at t at ≡ 0
  pub on : at < end_at t at
  pub low : end_at t at ≤ most_records
  pub table : record_size * end_at t at ≤ length t

-- the range of an argument that is no array is right ("The node table"); a class without a range passes
abbrev pub leaf_range : List ℕ → Class → Item → Bool
leaf_range source Four item = true
leaf_range source Eight item = true
leaf_range source Bare item = true
leaf_range source Text item = text_ok source item.a item.b
leaf_range source Blob item = inside source item.a item.b
leaf_range source Scalar item = true
leaf_range source Unknown item = true

-- an argument that is no array obeys its own rules and its range's ("The node table", the rules for a well-formed table)
abbrev pub leaf_ok : List ℕ → Class → Item → Bool
leaf_ok source class item = cond (leaf_rules class item) (leaf_range source class item) false

-- how many bytes the data of an argument takes whose second number is b ("How bytes are written")
abbrev pub argument_length : Class → ℕ → ℕ
argument_length Four b = 4
argument_length Eight b = 8
argument_length Bare b = 0
argument_length Text b = string_length b
argument_length Blob b = blob_length b
argument_length Scalar b = 4
argument_length Unknown b = 0

-- what is answered of an argument that is no array
abbrev pub leaf_content : List ℕ → Class → Item → ℕ
leaf_content source class item = cond (leaf_ok source class item) (argument_length class item.b) unsure

-- ---- rows of records, and the table

-- the records lo to hi - 1 are a forest that obeys the rules of a container and is no deeper than `levels`, and have their zeros: what a
-- reading of them has to find ("The node table", and refusal 9 as Ticket 4 has it)
pub record SurveyedRow (t source : List ℕ) (container lo hi levels : ℕ) (F : Forest) : Type 0 where
  pub spans : Spans t lo hi F
  pub obeys : Obeys source container F
  pub zeros : (i : ℕ) → lo ≤ i → i < hi → zeros_at t i ≡ 0
  pub shallow : depth F ≤ levels

-- a reading of the records lo to hi - 1 as arguments: their bytes of data exactly, and where it is sure of these, their tags
pub record SurveysArguments (t source : List ℕ) (lo hi levels : ℕ) (r : Tally) : Type 0 where
  pub exact : Exactly (SurveyedRow t source message_kind lo hi levels) (λ F. length (write_data source F)) r.content
  pub tagged : r.content ≤ longest_element → (F : Forest) → Spans t lo hi F → length (write_tags F) ≡ r.tags

-- a reading of the records lo to hi - 1 as elements of a bundle: their bytes exactly
abbrev pub SurveysPackets : List ℕ → List ℕ → ℕ → ℕ → ℕ → ℕ → Type 0
SurveysPackets t source lo hi levels r =
    Exactly (SurveyedRow t source bundle_kind lo hi levels) (λ F. length (write_elements source F)) r
