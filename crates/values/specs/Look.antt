-- Looking at a record, at the text that its value names and at where its data begins: document 01, "Looking at a record", and Ticket 10.
use Rattle.std.specs.Prelude.{cond, ◌&&◌, List, ℕ, eqb, ltb, Err, Ok}
use Rattle.refusal.specs.declared.Refusal.TheVariants.{BadTable}
use Rattle.wire.specs.Part.{part, inside}
use Rattle.node.specs.Records.{zeros_at, item_at, start_at, capacity}
use Rattle.node.specs.Rules.{own_rules}
use Rattle.values.specs.Value.{value_of}
use Rattle.values.specs.declared.value.OscType.{OscType}
use Rattle.values.specs.declared.value.OscType.TheVariants.{Message, Bundle, Int, Float, String, Blob, Time, Long, Double, Char}
use Rattle.values.specs.declared.value.OscType.TheVariants.{Color, Midi, Bool, Nil, Inf, Array}
use Rattle.values.specs.Results.{Looked, Started}

-- what `look` answers: the value, where the record exists and its own rules hold; else 11
unfoldable pub look_at : List ℕ → ℕ → Looked
look_at t i =
    cond (ltb i (capacity t))
    (cond (eqb (zeros_at t i) 0 && own_rules (item_at t i)) (Ok (value_of (item_at t i))) (Err BadTable))
    (Err BadTable)

-- what `start_of` answers: the fifth number of a record that exists, which no rule tests; else 11 (Ticket 10)
unfoldable pub started_at : List ℕ → ℕ → Started
started_at t i = cond (ltb i (capacity t)) (Ok (start_at t i)) (Err BadTable)

-- a part of the packet, where its range is inside the packet; otherwise the whole label
abbrev pub part_or : List ℕ → List ℕ → ℕ → ℕ → List ℕ
part_or packet label offset n = cond (inside packet offset n) (part packet offset n) label

-- what `text_of` hands back: for an s, b or / that part of the packet; otherwise the whole label
abbrev pub text_named : OscType → List ℕ → List ℕ → List ℕ
text_named (Message offset n) packet label = part_or packet label offset n
text_named (String offset n) packet label = part_or packet label offset n
text_named (Blob offset n) packet label = part_or packet label offset n
text_named (Bundle t) packet label = label
text_named (Int n) packet label = label
text_named (Float x v) packet label = label
text_named (Time t) packet label = label
text_named (Long n) packet label = label
text_named (Double x v) packet label = label
text_named (Char x) packet label = label
text_named (Color x) packet label = label
text_named (Midi x) packet label = label
text_named (Bool x) packet label = label
text_named Nil packet label = label
text_named Inf packet label = label
text_named Array packet label = label
