-- The line for trouble with a word or a file.
use Rattle.std.specs.Prelude.{List, [], ◌∷◌, ℕ}
use Prim.Native.String.{String}
use Rattle.telling.specs.Forms.{line}
use Rattle.troubles.specs.declared.Trouble.{Trouble}
use Rattle.troubles.specs.declared.Trouble.TheVariants.{NoCommand, DecodeWords, EncodeWords, LookWords, NoFraming}
use Rattle.troubles.specs.declared.Trouble.TheVariants.{OnePacket, NoOption, Twice, NoNumber, ManyRecords, NoName}
use Rattle.troubles.specs.declared.Trouble.TheVariants.{LongName, NoFile, OneFile, TooLarge, NoTable}
use Rattle.troubles.specs.declared.Trouble.TheVariants.{IndexWords, CheckWords, CueWords, Shorter}
use Rattle.troubles.specs.declared.Trouble.TheVariants.{NoReplace, IndexLength, IndexFront, TableLength, TableFront, Exists, TwoNames}
use Rattle.troubles.specs.declared.Trouble.TheVariants.{TimeWords, NoRule, NoTime, ShiftWords, NoAmount}

-- what each trouble is, of a word or the name of a file and a number of bytes
abbrev pub trouble_form : Trouble → String
trouble_form NoCommand = "osc: the first word is not decode, encode, look, index, check, cue, time, shift, help or --version: ~\n"
trouble_form DecodeWords = "osc: decode takes udp|tcp|tcp-vec|tcp2|tcp2-vec INPUT TABLE [--depth N] [--records N] [--replace]\n"
trouble_form EncodeWords = "osc: encode takes udp|tcp|tcp2 TABLE SOURCE OUTPUT [--replace]\n"
trouble_form LookWords = "osc: look takes TABLE INDEX [--rule a|b]\n"
trouble_form NoFraming = "osc: not udp, tcp, tcp-vec, tcp2 or tcp2-vec: ~\n"
trouble_form OnePacket = "osc: encode writes one packet: udp, tcp or tcp2, not ~\n"
trouble_form NoOption = "osc: not --depth or --records: ~\n"
trouble_form Twice = "osc: given twice: ~\n"
trouble_form NoNumber = "osc: not a number of at most nine digits: ~\n"
trouble_form ManyRecords = "osc: more than 65535 for --records: ~\n"
trouble_form NoName = "osc: the name of a file is empty\n"
trouble_form LongName = "osc: ~: the name of the file is too long\n"
trouble_form NoFile = "osc: ~: not a file that can be replaced\n"
trouble_form OneFile = "osc: ~: the output is the same file, or cannot be told from it\n"
trouble_form TooLarge = "osc: ~: the file is too large: it has at least % bytes\n"
trouble_form NoTable = "osc: ~: a table has a multiple of 20 bytes, and this has % bytes\n"
trouble_form IndexWords = "osc: index takes RECORDING INDEX [--replace]\n"
trouble_form CheckWords = "osc: check takes RECORDING INDEX\n"
trouble_form CueWords = "osc: cue takes RECORDING INDEX K TABLE PACKET [--replace]\n"
trouble_form Shorter = "osc: ~: the file became shorter while it was read\n"
trouble_form NoReplace = "osc: only decode, encode, index, cue and shift take --replace\n"
trouble_form IndexLength =
    "osc: ~: this file is not an index (% bytes, not a multiple of 16); nothing was changed. To replace it anyway, add --replace.\n"
trouble_form IndexFront =
    "osc: ~: this file is not an index (8 bytes at offset 0 are not zero); nothing was changed. To replace it anyway, add --replace.\n"
trouble_form TableLength =
    "osc: ~: this file is not a table (% bytes, not a multiple of 20); nothing was changed. To replace it anyway, add --replace.\n"
trouble_form TableFront =
    "osc: ~: this file is not a table (no / or # and three zeros at offset 0); nothing was changed. To replace it anyway, add --replace.\n"
trouble_form Exists = "osc: ~: this file exists; nothing was changed. To replace it, add --replace.\n"
trouble_form TwoNames = "osc: ~: the other output has the same name\n"
trouble_form TimeWords = "osc: time takes a|b TAG, or a|b SECONDS\n"
trouble_form NoRule = "osc: the rule is a or b, not ~\n"
trouble_form NoTime = "osc: neither a tag of 16 hexadecimal digits nor seconds, with at most 9 digits after a dot: ~\n"
trouble_form ShiftWords = "osc: shift takes RECORDING OUT BY [--replace]\n"
trouble_form NoAmount = "osc: BY is neither seconds, with at most 9 digits after a dot, nor hex: and 16 hexadecimal digits: ~\n"

-- the same with its word and its number
abbrev pub trouble_line : Trouble → ℕ → List ℕ → List ℕ
trouble_line trouble number word = line (trouble_form trouble) (number ∷ []) word
