-- What single words mean.
use Rattle.std.specs.Prelude.{Bool, true, false, cond, List, [], ◌∷◌, ℕ, ◌-◌, ltb, Option, Some, None, Result, Ok}
use Prim.Native.String.{String}
use Rattle.words.specs.Tables.{paired_with, is_word}
use Rattle.words.specs.Numeral.{numeral_of}
use Rattle.edition.specs.declared.Edition.TheVariants.{Rosc, Standard}
use Rattle.edition.specs.declared.Framing.{Framing}
use Rattle.edition.specs.declared.Framing.TheVariants.{Udp, Tcp, TcpVec}
use Rattle.commands.specs.declared.Command.{Command}
use Rattle.commands.specs.declared.Command.TheVariants as command
use Rattle.troubles.specs.Blames.{wrong}
use Rattle.troubles.specs.declared.Blame.{Blame}
use Rattle.troubles.specs.declared.Trouble.TheVariants.{NoReplace}
use Rattle.commands.specs.declared.Worded.{Worded}

-- the words of the commands, and the command that each names
abbrev pub command_words : List (String × Option Command)
command_words =
    ("decode", Some command.Decode)
    ∷ ("encode", Some command.Encode)
    ∷ ("look", Some command.Look)
    ∷ ("index", Some command.Index)
    ∷ ("check", Some command.Check)
    ∷ ("cue", Some command.Cue)
    ∷ ("time", Some command.Time)
    ∷ ("shift", Some command.Shift)
    ∷ ("help", Some command.Help)
    ∷ ("--help", Some command.Help)
    ∷ ("-h", Some command.Help)
    ∷ ("--version", Some command.Version)
    ∷ []

-- the command that stands beside the word; of another word none
unfoldable pub command_of : List ℕ → Option Command
command_of word = paired_with (is_word word) None command_words

-- the words of the framings: a stream is of edition 1, the crate's, where the word has no 2
abbrev pub framing_words : List (String × Option Framing)
framing_words =
    ("udp", Some Udp)
    ∷ ("tcp", Some (Tcp Rosc))
    ∷ ("tcp-vec", Some (TcpVec Rosc))
    ∷ ("tcp2", Some (Tcp Standard))
    ∷ ("tcp2-vec", Some (TcpVec Standard))
    ∷ []

-- the framing that stands beside the word, likewise
unfoldable pub framing_of : List ℕ → Option Framing
framing_of word = paired_with (is_word word) None framing_words

-- a number of at most nine digits; of a greater one none
abbrev pub nine_digits : Option ℕ → Option ℕ
nine_digits None = None
nine_digits (Some x) = cond (ltb 999999999 x) None (Some x)

-- a word as such a number
abbrev pub number_of_word : List ℕ → Option ℕ
number_of_word word = nine_digits (numeral_of word)

-- the commands that write a file, whose last word may be --replace; of a word that is no command that is said, and nothing of --replace
abbrev pub may_replace : Option Command → Bool
may_replace (Some command.Decode) = true
may_replace (Some command.Encode) = true
may_replace (Some command.Look) = false
may_replace (Some command.Index) = true
may_replace (Some command.Check) = false
may_replace (Some command.Cue) = true
may_replace (Some command.Time) = false
may_replace (Some command.Shift) = true
may_replace (Some command.Help) = false
may_replace (Some command.Version) = false
may_replace None = true

-- so many words, and whether files are to be replaced
abbrev pub worded : ℕ → Bool → Worded
worded count is_replacing = record { count = count; is_replacing = is_replacing }

-- how many words there are without --replace, and whether that is the last of them
abbrev pub worded_as : Option Command → ℕ → List ℕ → Result Worded Blame
worded_as command count last =
    cond (is_word last "--replace") (cond (may_replace command) (Ok (worded (count - 1) true)) (wrong NoReplace 0))
    (Ok (worded count false))
