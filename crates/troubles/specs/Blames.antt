-- A trouble with a word of a command.
use Rattle.std.specs.Prelude.{ℕ, Result, Err}
use Rattle.troubles.specs.declared.Trouble.{Trouble}
use Rattle.troubles.specs.declared.Blame.{Blame}

-- a trouble, and the word that is to blame
abbrev pub blame : Trouble → ℕ → Blame
blame trouble word = record { trouble = trouble; word = word }

-- a command that cannot be done for that
abbrev pub wrong : {A : Type 0} → Trouble → ℕ → Result A Blame
wrong trouble word = Err (blame trouble word)
