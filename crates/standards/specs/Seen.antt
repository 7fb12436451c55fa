-- What a caller sees of a packet that was decoded, by `look` at each record and by `text_of`, in OSC 1.0's words.
use Rattle.std.specs.Prelude.{◌≡◌, true, false, List, [], ◌∷◌, ◌++◌, ℕ, ◌+◌, Ok}
use Rattle.std.specs.Int.{w32, w64}
use Rattle.std.proofs.Common.{to_z}
use Rattle.std.specs.Float.{binary32, binary64}
use Rattle.std.specs.Float.Ieee.{of_bits}
use Rattle.values.specs.Value.{time_of, joined_of}
use Rattle.values.specs.Look.{look_at, text_named}
use Rattle.values.specs.declared.value.OscColor.{OscColor}
use Rattle.values.specs.declared.value.OscMidiMessage.{OscMidiMessage}
use Rattle.values.specs.declared.value.OscType.{OscType}
use Rattle.values.specs.declared.value.OscType.TheVariants.{Message, Bundle, Int, Float, String, Blob, Time, Long, Double, Char}
use Rattle.values.specs.declared.value.OscType.TheVariants.{Color, Midi, Bool, Nil, Inf, Array}
use Rattle.osc10.specs.Osc10.{Atom, word, long, bare, string, blob, char, OscArguments, end, atom, array, Packet, message, bundle, Packets}
use Rattle.osc10.specs.Osc10.{none, also, osc_int32}

-- what one record of a packet's table stands for: an OSC Address Pattern, an OSC Time Tag, an array, or any other argument
pub data Entry : Type 0 where
  address : (text : List ℕ) → Entry
  time : (seconds fractional : ℕ) → Entry
  brackets : Entry
  argument : Atom → Entry

-- arguments in the order of their records: an array before what it contains
unfoldable pub argument_entries : OscArguments → List Entry
argument_entries end = []
argument_entries (atom value rest) = argument value ∷ argument_entries rest
argument_entries (array within rest) = brackets ∷ (argument_entries within ++ argument_entries rest)

unfoldable mutual
  -- a packet in the order of its records: an address before its arguments, a time tag before the bundle's elements
  pub entries_of : Packet → List Entry
  entries_of (message text arguments) = address text ∷ argument_entries arguments
  entries_of (bundle seconds fractional elements) = time seconds fractional ∷ element_entries elements

  -- packets one after another
  pub element_entries : Packets → List Entry
  element_entries none = []
  element_entries (also packet rest) = entries_of packet ++ element_entries rest

-- `text_of` hands back these bytes for a value
abbrev pub Names : List ℕ → OscType → List ℕ → Type 0
Names l value text = (label : List ℕ) → text_named value l label ≡ text

-- the value of a record over the bytes l, as OSC 1.0 describes what it stands for
pub data Seen (l : List ℕ) : Entry → OscType → Type 0 where
  -- "32-bit big-endian two's complement integer"
  as_i : {x : ℕ} → Seen l (argument (word 105 x)) (Int (to_z w32 x))
  -- "32-bit big-endian IEEE 754 floating point number": the bits, and the number that has them
  as_f : {x : ℕ} → Seen l (argument (word 102 x)) (Float x (of_bits binary32 x))
  -- "32 bit RGBA color"
  as_r : {x : ℕ} {c : OscColor} → osc_int32 x ≡ c.red ∷ c.green ∷ c.blue ∷ c.alpha ∷ [] → Seen l (argument (word 114 x)) (Color c)
  -- "4 byte MIDI message. Bytes from MSB to LSB are: port id, status byte, data1, data2"
  as_m : {x : ℕ} {m : OscMidiMessage} → osc_int32 x ≡ m.port ∷ m.status ∷ m.data1 ∷ m.data2 ∷ []
      → Seen l (argument (word 109 x)) (Midi m)
  -- "64 bit big-endian two's complement integer"
  as_h : {high low : ℕ} → Seen l (argument (long 104 high low)) (Long (to_z w64 (joined_of high low)))
  -- "OSC-timetag": seconds, and fractions of a second
  as_t : {high low : ℕ} → Seen l (argument (long 116 high low)) (Time (time_of high low))
  -- "64 bit ("double") IEEE 754 floating point number"
  as_d : {high low : ℕ} → Seen l (argument (long 100 high low)) (Double (joined_of high low) (of_bits binary64 (joined_of high low)))
  -- "True"
  as_T : Seen l (argument (bare 84)) (Bool true)
  -- "False"
  as_F : Seen l (argument (bare 70)) (Bool false)
  -- "Nil"
  as_N : Seen l (argument (bare 78)) Nil
  -- "Infinitum"
  as_I : Seen l (argument (bare 73)) Inf
  -- "OSC-string": `text_of` hands back its characters
  as_s : {text : List ℕ} {offset n : ℕ} → Names l (String offset n) text → Seen l (argument (string text)) (String offset n)
  -- "OSC-blob": `text_of` hands back its bytes
  as_b : {content : List ℕ} {offset n : ℕ} → Names l (Blob offset n) content → Seen l (argument (blob content)) (Blob offset n)
  -- "an ascii character, sent as 32 bits"
  as_c : {x : ℕ} → Seen l (argument (char x)) (Char x)
  -- an array
  as_array : Seen l brackets Array
  -- an OSC Address Pattern: `text_of` hands back its characters
  as_address : {text : List ℕ} {offset n : ℕ} → Names l (Message offset n) text → Seen l (address text) (Message offset n)
  -- an OSC Time Tag
  as_time : {seconds fractional : ℕ} → Seen l (time seconds fractional) (Bundle (time_of seconds fractional))

-- `look` at record i answers a value of this entry
pub record LooksAs (l t : List ℕ) (i : ℕ) (entry : Entry) : Type 0 where
  pub value : OscType
  pub looked : look_at t i ≡ Ok value
  pub seen : Seen l entry value

-- the records from i on are looked at as these entries, one after another
unfoldable pub LookAs : List ℕ → List ℕ → ℕ → List Entry → Type 0
LookAs l t i [] = Unit {0}
LookAs l t i (entry ∷ entries) = LooksAs l t i entry × LookAs l t (i + 1) entries
