-- The options of decode: --depth and --records, each with a number and at most once.
use Rattle.std.specs.Prelude.{cond, List, ℕ, ◌+◌, ltb, Option, Some, None, Result, Ok}
use Rattle.wire.specs.Limits.{deepest}
use Rattle.node.specs.Records.{most_records}
use Rattle.troubles.specs.Blames.{wrong}
use Rattle.troubles.specs.declared.Blame.{Blame}
use Rattle.troubles.specs.declared.Trouble.TheVariants.{NoOption, Twice, NoNumber, ManyRecords}
use Rattle.words.specs.Tables.{is_word}
use Rattle.commands.specs.Words.{number_of_word}
use Rattle.commands.specs.declared.options.Options.{Options}

-- what holds where no option is given
abbrev pub no_options : Options
no_options = record { depth = None; records = None }

-- a number that is given, or another
abbrev pub or_else : ℕ → Option ℕ → ℕ
or_else other None = other
or_else other (Some x) = x

-- the highest limit where no depth is given
abbrev pub depth_for : Options → ℕ
depth_for o = or_else deepest o.depth

-- the most records where no number of them is given
abbrev pub records_for : Options → ℕ
records_for o = or_else most_records o.records

-- the depth is this number; the word after the option's name is to blame where it is none
abbrev pub depth_set : ℕ → Options → Option ℕ → Result Options Blame
depth_set at o None = wrong NoNumber (at + 1)
depth_set at o (Some x) = Ok (record { depth = Some x; records = o.records })

-- the table has room for so many records, of which there are at most 65,535
abbrev pub records_set : ℕ → Options → Option ℕ → Result Options Blame
records_set at o None = wrong NoNumber (at + 1)
records_set at o (Some x) = cond (ltb most_records x) (wrong ManyRecords (at + 1)) (Ok (record { depth = o.depth; records = Some x }))

-- an option that was not given before
abbrev pub once : ℕ → Option ℕ → Result Options Blame → Result Options Blame
once at None set = set
once at (Some x) set = wrong Twice at

-- the options with one more, whose name is word `at` of the command
unfoldable pub chosen_by : ℕ → List ℕ → List ℕ → Options → Result Options Blame
chosen_by at name word o =
    cond (is_word name "--depth") (once at o.depth (depth_set at o (number_of_word word)))
    (cond (is_word name "--records") (once at o.records (records_set at o (number_of_word word))) (wrong NoOption at))
