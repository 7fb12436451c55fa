-- What the words of `osc time` ask, and the option --rule of `osc look`.
use Rattle.std.specs.Prelude.{cond, List, [], ◌∷◌, ℕ, eqb, Option, Some, None, Result, Ok}
use Prim.Native.String.{String}
use Rattle.clock.specs.declared.Rule.{Rule}
use Rattle.clock.specs.declared.Rule.TheVariants.{A, B}
use Rattle.words.specs.Tables.{paired_with, is_word}
use Rattle.troubles.specs.Blames.{wrong}
use Rattle.troubles.specs.declared.Blame.{Blame}
use Rattle.troubles.specs.declared.Trouble.TheVariants.{TimeWords, NoRule, NoTime}
use Rattle.time_words.specs.Tags.{tag_in}
use Rattle.time_words.specs.Seconds.{seconds_in}
use Rattle.time_words.specs.declared.seconds.Moment.{Moment}
use Rattle.time_words.specs.declared.seconds.Moment.TheVariants.{Tag}
use Rattle.time_words.specs.declared.Timing.{Timing}

-- the words of the rules
abbrev pub rule_words : List (String × Option Rule)
rule_words = ("a", Some A) ∷ ("b", Some B) ∷ []

-- the rule that stands beside the word; of another word none
unfoldable pub rule_named : List ℕ → Option Rule
rule_named word = paired_with (is_word word) None rule_words

-- a tag, or else seconds
abbrev pub tag_or : Option Moment → Option ℕ → Option Moment
tag_or seconds (Some tag) = Some (Tag tag)
tag_or seconds None = seconds

-- the time that a word says
unfoldable pub moment_of : List ℕ → Option Moment
moment_of word = tag_or (seconds_in word) (tag_in word)

-- a rule and a time, or the word that is wrong
abbrev pub time_with : Option Rule → Option Moment → Result Timing Blame
time_with None t = wrong NoRule 2
time_with (Some rule) None = wrong NoTime 3
time_with (Some rule) (Some moment) = Ok (record { rule = rule; moment = moment })

-- time has three words: osc time a|b TAG, osc time a|b SECONDS
abbrev pub time_asked : ℕ → List ℕ → List ℕ → Result Timing Blame
time_asked count rule word = cond (eqb count 4) (time_with (rule_named rule) (moment_of word)) (wrong TimeWords 0)

-- a rule that stands after --rule
abbrev pub ruled_by : Option Rule → Result (Option Rule) Blame
ruled_by (Some rule) = Ok (Some rule)
ruled_by None = wrong NoRule 5

-- look has two words more where it is given a rule: osc look TABLE INDEX --rule a|b
abbrev pub look_ruled : ℕ → List ℕ → List ℕ → Result (Option Rule) Blame
look_ruled count name word = cond (eqb count 6) (cond (is_word name "--rule") (ruled_by (rule_named word)) (Ok None)) (Ok None)
