-- The numbers of document 01's "Refusal numbers", one to each case; 3 is five, by what was short, with the offset at which that field
-- began (document 02, Ticket 2).
use Rattle.std.specs.Prelude.{ℕ, ◌+◌}
use Rattle.refusal.specs.declared.Field.{Field}
use Rattle.refusal.specs.declared.Field.TheVariants.{Address, TypeText, Data, Padding, Head}
use Rattle.refusal.specs.declared.Fault.{Fault}
use Rattle.refusal.specs.declared.Fault.TheVariants.{Empty, Short, NotUtf8, BadStart, NotOpen, UnknownTag, NotScalar}
use Rattle.refusal.specs.declared.Refusal.{Refusal}
use Rattle.refusal.specs.declared.Refusal.TheVariants.{TooLong, Unreadable, TooDeep, TableFull, BadTable, OutputShort, DepthLimit}
use Rattle.refusal.specs.declared.Refusal.TheVariants.{PadOverflow, BytesLeft, OddLength}

-- what was short: "17 address, 18 type text, 19 argument data, 20 padding, 21 prefix or a bundle's time tag"
abbrev pub field_number : Field → ℕ
field_number Address = 17
field_number TypeText = 18
field_number Data = 19
field_number Padding = 20
field_number Head = 21

-- the refusals that bytes alone give: 2, 17 to 21 in the place of 3, and 4 to 8
abbrev pub fault_number : Fault → ℕ
fault_number Empty = 2
fault_number (Short field at) = field_number field
fault_number NotUtf8 = 4
fault_number BadStart = 5
fault_number NotOpen = 6
fault_number UnknownTag = 7
fault_number NotScalar = 8

-- every refusal, in the table's order; 15 and 16 are of frames of edition 2 (Ticket 1)
abbrev pub number_of : Refusal → ℕ
number_of TooLong = 1
number_of (Unreadable fault) = fault_number fault
number_of TooDeep = 9
number_of TableFull = 10
number_of BadTable = 11
number_of OutputShort = 12
number_of DepthLimit = 13
number_of PadOverflow = 14
number_of BytesLeft = 15
number_of OddLength = 16

-- "the offset at which that field began"; no other fault has one
abbrev pub fault_offset : Fault → ℕ
fault_offset Empty = 0
fault_offset (Short field at) = at
fault_offset NotUtf8 = 0
fault_offset BadStart = 0
fault_offset NotOpen = 0
fault_offset UnknownTag = 0
fault_offset NotScalar = 0

-- the offset that is told with a refusal's number
abbrev pub offset_of : Refusal → ℕ
offset_of TooLong = 0
offset_of (Unreadable fault) = fault_offset fault
offset_of TooDeep = 0
offset_of TableFull = 0
offset_of BadTable = 0
offset_of OutputShort = 0
offset_of DepthLimit = 0
offset_of PadOverflow = 0
offset_of BytesLeft = 0
offset_of OddLength = 0

-- the fault of a part that begins so many bytes further on: its field begins there
abbrev pub moved_by : ℕ → Fault → Fault
moved_by by Empty = Empty
moved_by by (Short field at) = Short field (by + at)
moved_by by NotUtf8 = NotUtf8
moved_by by BadStart = BadStart
moved_by by NotOpen = NotOpen
moved_by by UnknownTag = UnknownTag
moved_by by NotScalar = NotScalar

-- a refusal k bytes further on: the offset of a field that was short is moved, and no other refusal has one (Ticket 2)
abbrev pub moved_refusal : ℕ → Refusal → Refusal
moved_refusal k TooLong = TooLong
moved_refusal k (Unreadable fault) = Unreadable (moved_by k fault)
moved_refusal k TooDeep = TooDeep
moved_refusal k TableFull = TableFull
moved_refusal k BadTable = BadTable
moved_refusal k OutputShort = OutputShort
moved_refusal k DepthLimit = DepthLimit
moved_refusal k PadOverflow = PadOverflow
moved_refusal k BytesLeft = BytesLeft
moved_refusal k OddLength = OddLength
