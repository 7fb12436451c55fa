-- A record as a value: document 01, "The node table" and "Looking at a record".
use Rattle.std.specs.Prelude.{true, false, cond, ℕ, ◌+◌, ◌*◌, ◌/◌, ◌%◌, eqb}
use Rattle.std.specs.Int.{w32, w64}
use Rattle.std.proofs.Common.{to_z}
use Rattle.std.specs.Float.{binary32, binary64}
use Rattle.std.specs.Float.Ieee.{of_bits}
use Rattle.node.specs.Tags.{message_kind, bundle_kind}
use Rattle.node.specs.declared.record.Item.{Item}
use Rattle.values.specs.declared.value.OscTime.{OscTime}
use Rattle.values.specs.declared.value.OscColor.{OscColor}
use Rattle.values.specs.declared.value.OscMidiMessage.{OscMidiMessage}
use Rattle.values.specs.declared.value.OscType.{OscType}
use Rattle.values.specs.declared.value.OscType.TheVariants as value

-- ---- the value of a record, one row of the table of kinds to a line

-- two fields as a time
abbrev pub time_of : ℕ → ℕ → OscTime
time_of a b = record { seconds = a; fractional = b }

-- two fields as one number of 64 bits: the high half first
abbrev pub joined_of : ℕ → ℕ → ℕ
joined_of a b = a * 0x1_0000_0000 + b

-- "the four bytes in order", of r
abbrev pub color_of : ℕ → OscColor
color_of x = record { red = x / 0x100_0000; green = x / 0x1_0000 % 256; blue = x / 256 % 256; alpha = x % 256 }

-- "the four bytes in order", of m
abbrev pub midi_of : ℕ → OscMidiMessage
midi_of x = record { port = x / 0x100_0000; status = x / 0x1_0000 % 256; data1 = x / 256 % 256; data2 = x % 256 }

-- T F N I, and [
unfoldable pub bare_of : ℕ → OscType
bare_of k =
    cond (eqb k 84) (value.Bool true)
    (cond (eqb k 70) (value.Bool false)
    (cond (eqb k 78) value.Nil
    (cond (eqb k 73) value.Inf value.Array)))

-- i f c r m, and those that have no field; "floats are fixed by their bits"
unfoldable pub narrow_of : ℕ → ℕ → OscType
narrow_of k a =
    cond (eqb k 105) (value.Int (to_z w32 a))
    (cond (eqb k 102) (value.Float a (of_bits binary32 a))
    (cond (eqb k 99) (value.Char a)
    (cond (eqb k 114) (value.Color (color_of a))
    (cond (eqb k 109) (value.Midi (midi_of a)) (bare_of k)))))

-- / # s b t h d, and those whose second field is 0
unfoldable pub value_by : ℕ → ℕ → ℕ → OscType
value_by k a b =
    cond (eqb k message_kind) (value.Message a b)
    (cond (eqb k bundle_kind) (value.Bundle (time_of a b))
    (cond (eqb k 115) (value.String a b)
    (cond (eqb k 98) (value.Blob a b)
    (cond (eqb k 116) (value.Time (time_of a b))
    (cond (eqb k 104) (value.Long (to_z w64 (joined_of a b)))
    (cond (eqb k 100) (value.Double (joined_of a b) (of_bits binary64 (joined_of a b))) (narrow_of k a)))))))

-- the value of what a record says of its node
abbrev pub value_of : Item → OscType
value_of item = value_by item.kind item.a item.b
