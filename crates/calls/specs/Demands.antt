-- The order's demand 3, over the definitions that the contracts cite.
use Rattle.std.specs.Prelude.{◌≡◌, List, ◌++◌, ℕ, ◌-◌, ◌*◌, ◌≤◌, length, take, drop, Err}
use Rattle.refusal.specs.declared.Fault.{Fault}
use Rattle.refusal.specs.declared.Refusal.TheVariants.{Unreadable, TableFull}
use Rattle.wire.specs.Limits.{longest, deepest}
use Rattle.node.specs.Forest.{size}
use Rattle.node.specs.Tags.{message_kind}
use Rattle.node.specs.Records.{record_size, kind_at, item_at, capacity}
use Rattle.argument.specs.Dirt.{packets_padding, pads, AllZero}
use Rattle.edition.specs.declared.Edition.TheVariants.{Standard}
use Rattle.framing.specs.Framing.{Whole, rule_of}
use Rattle.edition.specs.declared.Framing.{Framing}
use Rattle.edition.specs.declared.Framing.TheVariants.{Tcp, TcpVec}
use Rattle.answering.specs.Limits.{decoded, forest_of, tabled}
use Rattle.results.specs.Results.{DecodeAnswer, Packets}
use Rattle.calls.specs.Words.{Continues, Mendable, Gives, NotFull, Unlimited, Allowed}

-- the table after a decoder's call, by its rule, limit and message
abbrev pub table_after : (List ℕ → Whole) → ℕ → List ℕ → List ℕ → List ℕ
table_after rule limit msg table = tabled (decoded rule (capacity table) limit msg) (forest_of (rule msg)) table

-- the answer of a decoder's call
abbrev pub answer_to : (List ℕ → Whole) → ℕ → List ℕ → List ℕ → DecodeAnswer
answer_to rule limit msg table = decoded rule (capacity table) limit msg

-- ---- demand 3: more room

-- with another depth limit and another table, a call's answer is the same, and so are the table's records
pub record Unchanged (framing : Framing) (msg : List ℕ) (limit limit' : ℕ) (table table' : List ℕ) : Type 0 where
  pub answers : answer_to (rule_of framing limit') limit' msg table' ≡ answer_to (rule_of framing limit) limit msg table
  pub records : (count dirty : ℕ) → Gives (answer_to (rule_of framing limit) limit msg table) count dirty
      → take (record_size * count) (table_after (rule_of framing limit') limit' msg table')
      ≡ take (record_size * count) (table_after (rule_of framing limit) limit msg table)

-- no answer but 9 and 10 is taken back, of any decoder; a limit of at most 64 stays so, since above it the answer is 13
abbrev pub MoreRoom : Type 0
MoreRoom =
    (framing : Framing) (msg : List ℕ) (limit limit' : ℕ) (table table' : List ℕ)
    → limit ≤ limit' → (limit ≤ deepest → limit' ≤ deepest) → capacity table ≤ capacity table'
    → NotFull (answer_to (rule_of framing limit) limit msg table) → Unchanged framing msg limit limit' table table'

-- ---- demand 3: more bytes

-- on the table: record 0 keeps its kind and numbers, and the records after it begin with the same ones
pub record TableContinues (t t' : List ℕ) (count : ℕ) : Type 0 where
  pub item : item_at t' 0 ≡ item_at t 0
  pub rest : take (record_size * count - record_size) (drop record_size t') ≡ take (record_size * count - record_size) (drop record_size t)

-- a packet that was given goes on: on the tree and on the table; a message's whole table is the same. Its dirty padding "stays for a
-- message, and does not fall for a bundle" (Ticket 8)
pub record GoesOn (rule : List ℕ → Whole) (msg more : List ℕ) (limit limit' : ℕ) (table table' : List ℕ) (count dirty : ℕ) : Type 0 where
  pub tree : Continues (forest_of (rule msg)) (forest_of (rule (msg ++ more)))
  pub left : ℕ
  pub dirt : ℕ
  pub answers : answer_to rule limit' (msg ++ more) table' ≡ Packets (size (forest_of (rule (msg ++ more)))) left dirt
  pub no_less : dirty ≤ dirt
  pub stays : kind_at (table_after rule limit msg table) 0 ≡ message_kind → dirt ≡ dirty
  pub continues : TableContinues (table_after rule limit msg table) (table_after rule limit' (msg ++ more) table') count
  pub message : kind_at (table_after rule limit msg table) 0 ≡ message_kind
      → take (record_size * count) (table_after rule limit' (msg ++ more) table') ≡ take (record_size * count)
      (table_after rule limit msg table)

-- a single-packet call that accepts some bytes, with bytes appended and limits no lower, unless 1, 9, 10 or 13 is given
abbrev pub MoreBytes : (List ℕ → Whole) → Type 0
MoreBytes rule =
    (msg more : List ℕ) (limit limit' : ℕ) (table table' : List ℕ) (count left dirty : ℕ)
    → limit ≤ limit' → capacity table ≤ capacity table'
    → answer_to rule limit msg table ≡ Packets count left dirty
    → Unlimited (answer_to rule limit' (msg ++ more) table')
    → GoesOn rule msg more limit limit' table table' count dirty

-- ---- demand 3: more bytes, in edition 2

-- the packets that were given stay: the same records at the same places of the table. The dirty padding does not fall (Ticket 8); one
-- frame has one packet, so that there both numbers stay
pub record Stay (framing : Framing) (msg more : List ℕ) (limit limit' : ℕ) (table table' : List ℕ) (count dirty : ℕ) : Type 0 where
  pub many : ℕ
  pub dirt : ℕ
  pub answers : Gives (answer_to (rule_of framing limit') limit' (msg ++ more) table') many dirt
  pub no_fewer : count ≤ many
  pub no_cleaner : dirty ≤ dirt
  pub one_frame : framing ≡ Tcp Standard → (many ≡ count) × (dirt ≡ dirty)
  pub records : take (record_size * count) (table_after (rule_of framing limit') limit' (msg ++ more) table')
      ≡ take (record_size * count) (table_after (rule_of framing limit) limit msg table)

-- "with more bytes and limits no lower, a given packet stays unless 1, 10 or 13 refuses the call" (Ticket 1)
abbrev pub PacketsStay : Framing → Type 0
PacketsStay framing =
    (msg more : List ℕ) (limit limit' : ℕ) (table table' : List ℕ) (count dirty : ℕ) → limit ≤ limit'
    → Gives (answer_to (rule_of framing limit) limit msg table) count dirty
    → Allowed (answer_to (rule_of framing limit') limit' (msg ++ more) table')
    → Stay framing msg more limit limit' table table' count dirty

-- of both decoders of edition 2
abbrev pub StandardStays : Type 0
StandardStays = PacketsStay (Tcp Standard) × PacketsStay (TcpVec Standard)

-- ---- beside demand 3: bytes appended change no refusal of reading but 2 and 17 to 21

-- a single-packet call that refuses some bytes with 4 to 8 (document 01, "Refusal numbers") refuses them so with bytes appended, whatever
-- its table and limit, unless 13 or 1 comes first. Of a list it is false; the shortest that shows it, 00000010 2362756E646C6500
-- 0000000000000001 00000011 2F000000 00000000 00000000 00000000, gives 5 for its third frame, and with a byte appended its bundle takes
-- all of the rest
abbrev pub FaultsStay : (List ℕ → Whole) → Type 0
FaultsStay rule =
    (msg more : List ℕ) (limit limit' : ℕ) (table table' : List ℕ) (k : Fault)
    → (Mendable k → ⊥) → limit' ≤ deepest → length (msg ++ more) ≤ longest
    → answer_to rule limit msg table ≡ Err (Unreadable k)
    → answer_to rule limit' (msg ++ more) table' ≡ Err (Unreadable k)

-- ---- demand 3: n records always hold what n bytes decode to
abbrev pub RecordsHold : Framing → Type 0
RecordsHold framing =
    (msg : List ℕ) (limit room : ℕ) → length msg ≤ room → decoded (rule_of framing limit) room limit msg ≡ Err TableFull → ⊥

-- ---- Ticket 8: what the count of dirty padding says, of any rule, so of each of the calls

-- it is at most three for each text, blob and "#bundle" that is kept
abbrev pub DirtLow : Type 0
DirtLow =
    (rule : List ℕ → Whole) (msg table : List ℕ) (limit count dirty : ℕ) → Gives (answer_to rule limit msg table) count dirty
    → dirty ≤ 3 * pads (forest_of (rule msg))

-- it is 0 exactly if every padding byte of what is kept is 0
abbrev pub CleanOnly : Type 0
CleanOnly =
    (rule : List ℕ → Whole) (msg table : List ℕ) (limit count dirty : ℕ) → Gives (answer_to rule limit msg table) count dirty
    → (dirty ≡ 0 → AllZero (packets_padding msg (forest_of (rule msg)))) × (AllZero (packets_padding msg (forest_of (rule msg))) → dirty ≡ 0)
