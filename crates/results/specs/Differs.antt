-- The one refusal that no case of `Refusal` stands for: the number of a record stands beside it (document 02, Ticket 5).
use Rattle.std.specs.Prelude.{ℕ}

-- "25 index differs"
abbrev pub index_differs : ℕ
index_differs = 25
