-- The refusals of a frame that ends an index, by their numbers: document 02, Ticket 1, "in order per frame".
use Rattle.std.specs.Prelude.{List, [], ◌∷◌, ◌++◌, ℕ}
use Rattle.answering.specs.Limits.{frame_order}

-- those of a frame of edition 2, then 10 for one with more records than a table of 64 KiB has
abbrev pub cue_order : List ℕ
cue_order = frame_order ++ (10 ∷ [])
