-- The words in which demand 3 speaks of trees, faults and answers.
use Rattle.std.specs.Prelude.{◌≡◌, ℕ, Err}
use Rattle.refusal.specs.declared.Fault.{Fault}
use Rattle.refusal.specs.declared.Fault.TheVariants.{Empty, Short, NotUtf8, BadStart, NotOpen, UnknownTag, NotScalar}
use Rattle.refusal.specs.declared.Refusal.TheVariants.{TooLong, TooDeep, TableFull, DepthLimit}
use Rattle.node.specs.Forest.{Forest, nil, node}
use Rattle.node.specs.Tags.{message_kind, bundle_kind}
use Rattle.node.specs.declared.record.Item.{Item}
use Rattle.results.specs.Results.{DecodeAnswer, Packets, Stopped, Waiting}

-- a forest begins with the nodes of another
pub data BeginsSame : Forest → Forest → Type 0 where
  none : {g : Forest} → BeginsSame nil g
  also : {item : Item} {inside f g : Forest} → BeginsSame f g → BeginsSame (node item inside f) (node item inside g)

-- "a message is the same message, and a bundle keeps its time tag and begins with the same elements"
pub data Continues : Forest → Forest → Type 0 where
  message : {item : Item} {inside : Forest} → item.kind ≡ message_kind → Continues (node item inside nil) (node item inside nil)
  bundle : {item : Item} {inside inside' : Forest} → item.kind ≡ bundle_kind → BeginsSame inside inside'
      → Continues (node item inside nil) (node item inside' nil)

-- a fault that bytes appended may mend: 2, a packet of no bytes, and 17 to 21, a field that is short (document 01, "Refusal numbers", and
-- document 02, Ticket 2); 4 to 8 are met in bytes that are there
abbrev pub Mendable : Fault → Type 0
Mendable Empty = Unit {0}
Mendable (Short field at) = Unit {0}
Mendable NotUtf8 = ⊥
Mendable BadStart = ⊥
Mendable NotOpen = ⊥
Mendable UnknownTag = ⊥
Mendable NotScalar = ⊥

-- an answer with records: so many, with so much dirty padding; those of packets, or of the packets before a refused frame (Ticket 1)
abbrev pub Gives : DecodeAnswer → ℕ → ℕ → Type 0
Gives (Packets n left dirt) count dirty = (n ≡ count) × (dirt ≡ dirty)
Gives (Stopped n left dirt k at) count dirty = (n ≡ count) × (dirt ≡ dirty)
Gives Waiting count dirty = ⊥
Gives (Err k) count dirty = ⊥

-- an answer that is neither 9 nor 10; a list that stops at a frame with 9 counts as 9 (Ticket 1)
pub record NotFull (r : DecodeAnswer) : Type 0 where
  pub not_9 : r ≡ Err TooDeep → ⊥
  pub not_9_there : (count left dirty at : ℕ) → r ≡ Stopped count left dirty TooDeep at → ⊥
  pub not_10 : r ≡ Err TableFull → ⊥

-- an answer that is none of 1, 9, 10 and 13: no limit refuses the call
pub record Unlimited (r : DecodeAnswer) : Type 0 where
  pub not_1 : r ≡ Err TooLong → ⊥
  pub not_9 : r ≡ Err TooDeep → ⊥
  pub not_10 : r ≡ Err TableFull → ⊥
  pub not_13 : r ≡ Err DepthLimit → ⊥

-- an answer that is none of 1, 10 and 13, by which a call of edition 2 may take back a packet (Ticket 1)
pub record Allowed (r : DecodeAnswer) : Type 0 where
  pub no_1 : r ≡ Err TooLong → ⊥
  pub no_10 : r ≡ Err TableFull → ⊥
  pub no_13 : r ≡ Err DepthLimit → ⊥
