-- Document 01: its examples, its rule of unclosed arrays, the UTF-8 automaton, and the node table.
use Rattle.std.specs.Prelude.{◌≡◌, List, ℕ, ◌*◌, ◌<◌, take, get_or}
use Rattle.edition.specs.declared.Framing.{Framing}
use Rattle.utf8.specs.Automaton.{ClassRule, StepRule}
use Rattle.node.specs.Forest.{Forest, nil, node}
use Rattle.node.specs.Records.{record_size, item_at, records_of}
use Rattle.node.specs.declared.record.Item.{Item}
use Rattle.arguments.specs.Arguments.{KeptSinceLast, EndsSo}
use Rattle.decoder.specs.Cases.{Each}
use Rattle.decoder.specs.Examples.{examples, misread}
use Rattle.table.specs.Formed.{WellFormed}
use Rattle.table.specs.Tree.{Spans, IsTree}
use Rattle.given.specs.Encodable.{Encodable, GivesTrees}

-- Document 01
pub record Document01 : Type 0 where
  -- The examples P1 to P14, and 41 further inputs that are easily misread, as calls with a table of 160 bytes, none of them zero: the
  -- answer, and the whole table afterwards.
  -- edits: answering/ten_before_nine, rosc_inputs/tcp_cut_at_its_length, heads/no_comma_rejected
  pub proved : Each examples
  pub traps : Each misread
  -- Rule 3: if arrays are still open at the end, only what was read since the last unclosed `[` is kept; all outside it is lost, and its
  -- data is consumed. Accepted tags either close every array that they open or have such a `[`.
  -- edits: arguments/lost_data_not_consumed, arguments/refused_tags_end_so
  pub kept_since_last : KeptSinceLast
  pub ends_so : EndsSo
  -- UTF-8 is judged by a small automaton. Its table of classes has for each of the 256 byte values its class: how many of the limits of the
  -- grammar's ranges are at or below it. Proved by one computed test over the whole table.
  -- definitions: utf8/byte_class, utf8/classes
  -- code: utf8/walk
  -- edits: utf8/c0_classed_with_c2, utf8/class_limit_moved
  pub class_rule : ClassRule
  -- Its table of next states is indexed by state and class, and each byte does one step of RFC 3629's grammar: in each of the 9 states
  -- and on each byte value, the entry is the state that waits for what the grammar's step leaves. Proved by one computed test over the
  -- whole table.
  -- definitions: utf8/next_of, utf8/nexts, utf8/wants, utf8/step
  -- code: utf8/advance, utf8/walk
  -- edits: utf8/surrogate_entry, utf8/c0_classed_with_c2, utf8/f5_begins_a_character, utf8/first_state_kept, utf8/surrogates_let_in
  pub step_rule : StepRule
  -- A well-formed table is the records of one tree, byte for byte.
  -- edits: table/zeros_after_the_last_record, table/root_end_not_compared, table/child_past_its_container
  -- edits: table/zero_bytes_not_looked_at
  pub formed_tree : (t : List ℕ) (count : ℕ) (source : List ℕ) → WellFormed t count source
      → (inside : Forest) × IsTree t count source (item_at t 0) inside
  pub tree_formed : (t : List ℕ) (count : ℕ) (source : List ℕ) (item : Item) (inside : Forest) → IsTree t count source item inside
      → WellFormed t count source
  pub tree_bytes : (t : List ℕ) (count : ℕ) (source : List ℕ) (item : Item) (inside : Forest) → ((i : ℕ) → get_or t i 0 < 256)
      → IsTree t count source item inside → take (record_size * count) t ≡ records_of 0 (node item inside nil)
  pub spans_unique : (t : List ℕ) (lo hi : ℕ) (F G : Forest) → Spans t lo hi F → Spans t lo hi G → F ≡ G
  -- What is decoded, one packet or a list of any length, is trees that obey document 01's rules over the input, and its records can be read
  -- without a test (`Reliable`). This holds for every framing.
  -- definitions: given/Reliable
  -- edits: given/blob_short_of_the_end, given/zeros_after_the_last
  pub gives_trees : (framing : Framing) → GivesTrees framing
  -- What is decoded can be encoded, for every framing.
  -- edits: given/encodable_over_the_table, given/encodable_twice_as_many
  pub encodable : (framing : Framing) → Encodable framing
