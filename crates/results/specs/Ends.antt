-- Why an index goes no further, and the place of a field that was short (document 02, Tickets 2 and 5).
use Rattle.std.specs.Prelude.{ℕ, ◌+◌, ◌≤◌}
use Rattle.refusal.specs.Refusal.{offset_of}
use Rattle.results.specs.declared.End.{End}
use Rattle.results.specs.declared.End.TheVariants.{Whole, Waiting, Refused}

-- a refused frame stands at `at`, and its field that was short begins at `most` at most
abbrev pub FieldUpTo : (at most : ℕ) → End → Type 0
FieldUpTo at most Whole = Unit {0}
FieldUpTo at most Waiting = Unit {0}
FieldUpTo at most (Refused k) = at + offset_of k ≤ most
