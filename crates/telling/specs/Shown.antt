-- The line for a record that is looked at.
use Rattle.std.specs.Prelude.{List, [], ◌∷◌, ◌++◌ as ◌+++◌, ℕ, ◌/◌, ◌%◌, ℤ, pos, negsuc, nat_abs, Err, Ok}
use Prim.Native.String.{String, ◌++◌}
use Rattle.node.specs.Records.{kind_at, end_at}
use Rattle.values.specs.Look.{look_at, started_at}
use Rattle.values.specs.Results.{Looked, Started}
use Rattle.values.specs.declared.value.OscType.{OscType}
use Rattle.values.specs.declared.value.OscType.TheVariants as value
use Rattle.telling.specs.Forms.{line}
use Rattle.telling.specs.Refusals.{refused_line}

-- a record: its index, the letter of its kind, the words for what it holds, and its end
abbrev pub record_form : String → String
record_form words = "record %: ~" ++ (words ++ ", end %\n")

-- the same with the numbers of what it holds
abbrev pub shown_as : ℕ → ℕ → ℕ → String → List ℕ → List ℕ
shown_as index kind end words numbers = line (record_form words) (index ∷ (numbers +++ (end ∷ []))) (kind ∷ [])

-- the words for a number with its sign
abbrev pub sign_words : ℤ → String
sign_words (pos n) = " %"
sign_words (negsuc n) = " -%"

-- what each kind of value holds
abbrev pub value_line : ℕ → ℕ → ℕ → OscType → List ℕ
value_line i k e (value.Message offset n) = shown_as i k e " offset % length %" (offset ∷ n ∷ [])
value_line i k e (value.Bundle t) = shown_as i k e " seconds % fraction %" (t.seconds ∷ t.fractional ∷ [])
value_line i k e (value.Int z) = shown_as i k e (sign_words z) (nat_abs z ∷ [])
value_line i k e (value.Float bits x) = shown_as i k e " bits 0x$" (bits ∷ [])
value_line i k e (value.String offset n) = shown_as i k e " offset % length %" (offset ∷ n ∷ [])
value_line i k e (value.Blob offset n) = shown_as i k e " offset % length %" (offset ∷ n ∷ [])
value_line i k e (value.Time t) = shown_as i k e " seconds % fraction %" (t.seconds ∷ t.fractional ∷ [])
value_line i k e (value.Long z) = shown_as i k e (sign_words z) (nat_abs z ∷ [])
value_line i k e (value.Double bits x) = shown_as i k e " bits 0x$$" (bits / 0x1_0000_0000 ∷ bits % 0x1_0000_0000 ∷ [])
value_line i k e (value.Char x) = shown_as i k e " %" (x ∷ [])
value_line i k e (value.Color c) = shown_as i k e " % % % %" (c.red ∷ c.green ∷ c.blue ∷ c.alpha ∷ [])
value_line i k e (value.Midi m) = shown_as i k e " % % % %" (m.port ∷ m.status ∷ m.data1 ∷ m.data2 ∷ [])
value_line i k e (value.Bool x) = shown_as i k e "" []
value_line i k e value.Nil = shown_as i k e "" []
value_line i k e value.Inf = shown_as i k e "" []
value_line i k e value.Array = shown_as i k e "" []

-- the value, or the refusal
abbrev pub looked_line : ℕ → ℕ → ℕ → Looked → List ℕ
looked_line i k e (Ok x) = value_line i k e x
looked_line i k e (Err refusal) = refused_line refusal

-- record i of a table
unfoldable pub record_line : List ℕ → ℕ → List ℕ
record_line table i = looked_line i (kind_at table i) (end_at table i) (look_at table i)

-- where the data of a record begins, on a line of its own
abbrev pub start_form : String
start_form = "start %\n"

-- the start, or the refusal
abbrev pub started_line : Started → List ℕ
started_line (Ok start) = line start_form (start ∷ []) []
started_line (Err refusal) = refused_line refusal

-- it is said of a record that is shown; after a refusal nothing more is said
abbrev pub after_look : Started → Looked → List ℕ
after_look s (Ok x) = started_line s
after_look s (Err refusal) = []

-- of record i of a table
unfoldable pub start_line : List ℕ → ℕ → List ℕ
start_line table i = after_look (started_at table i) (look_at table i)
