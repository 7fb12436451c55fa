-- What the words of a command ask: how many there are, the program's name among them, and those that are no names of files.
use Rattle.std.specs.Prelude.{cond, List, ℕ, eqb, Option, Some, None, Result, Ok, Err}
use Rattle.edition.specs.declared.Framing.{Framing}
use Rattle.edition.specs.declared.Framing.TheVariants.{Udp, Tcp, TcpVec}
use Rattle.troubles.specs.Blames.{wrong}
use Rattle.troubles.specs.declared.Blame.{Blame}
use Rattle.troubles.specs.declared.Trouble.TheVariants.{DecodeWords, EncodeWords, LookWords, NoFraming, OnePacket, NoNumber}
use Rattle.troubles.specs.declared.Trouble.TheVariants.{IndexWords, CheckWords, CueWords}
use Rattle.commands.specs.Words.{framing_of, number_of_word}
use Rattle.commands.specs.Options.{no_options, chosen_by}
use Rattle.commands.specs.declared.options.Options.{Options}
use Rattle.commands.specs.declared.Decoding.{Decoding}
use Rattle.commands.specs.declared.Writing.{Writing}
use Rattle.commands.specs.declared.Writing.TheVariants.{Alone, Stream}

-- a second option after what the first gave
abbrev pub one_more_option : ℕ → List ℕ → List ℕ → Result Options Blame → Result Options Blame
one_more_option at name word (Ok o) = chosen_by at name word o
one_more_option at name word (Err blame) = Err blame

-- decode has four words and up to two options, each of two words: osc decode udp INPUT TABLE [--depth N] [--records N]
unfoldable pub options_of : ℕ → List ℕ → List ℕ → List ℕ → List ℕ → Result Options Blame
options_of count name word name' word' =
    cond (eqb count 5) (Ok no_options)
    (cond (eqb count 7) (chosen_by 5 name word no_options)
    (cond (eqb count 9) (one_more_option 7 name' word' (chosen_by 5 name word no_options)) (wrong DecodeWords 0)))

-- the options, and the framing that word 2 names
abbrev pub decode_with : Result Options Blame → Option Framing → Result Decoding Blame
decode_with (Err blame) x = Err blame
decode_with (Ok o) (Some x) = Ok (record { framing = x; options = o })
decode_with (Ok o) None = wrong NoFraming 2

-- encode has five words: osc encode udp TABLE SOURCE OUTPUT; it writes one packet, alone or as a stream of an edition has it
abbrev pub encode_with : Option Framing → Result Writing Blame
encode_with (Some Udp) = Ok Alone
encode_with (Some (Tcp edition)) = Ok (Stream edition)
encode_with (Some (TcpVec edition)) = wrong OnePacket 2
encode_with None = wrong NoFraming 2

abbrev pub encode_asked : ℕ → List ℕ → Result Writing Blame
encode_asked count word = cond (eqb count 6) (encode_with (framing_of word)) (wrong EncodeWords 0)

-- look has three words: osc look TABLE INDEX
abbrev pub look_with : Option ℕ → Result ℕ Blame
look_with (Some x) = Ok x
look_with None = wrong NoNumber 3

abbrev pub look_asked : ℕ → List ℕ → Result ℕ Blame
look_asked count word = cond (eqb count 4) (look_with (number_of_word word)) (wrong LookWords 0)

-- index and check have three words: osc index RECORDING INDEX, osc check RECORDING INDEX
abbrev pub index_asked : ℕ → Result Unit Blame
index_asked count = cond (eqb count 4) (Ok tt) (wrong IndexWords 0)

abbrev pub check_asked : ℕ → Result Unit Blame
check_asked count = cond (eqb count 4) (Ok tt) (wrong CheckWords 0)

-- cue has six words: osc cue RECORDING INDEX K TABLE PACKET
abbrev pub cue_with : Option ℕ → Result ℕ Blame
cue_with (Some x) = Ok x
cue_with None = wrong NoNumber 4

abbrev pub cue_asked : ℕ → List ℕ → Result ℕ Blame
cue_asked count word = cond (eqb count 7) (cue_with (number_of_word word)) (wrong CueWords 0)
