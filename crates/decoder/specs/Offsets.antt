-- Where the offsets of a refusal lie: of a field in the input or right after it (Ticket 2), of a frame at which a list stops in the input
-- (Ticket 1).
use Rattle.std.specs.Prelude.{◌≡◌, List, ℕ, ◌+◌, ◌≤◌, length}
use Rattle.refusal.specs.Refusal.{offset_of}
use Rattle.framing.specs.Framing.{Whole, trees, waiting, refusal, stopped, rule_of}
use Rattle.edition.specs.declared.Framing.{Framing}

-- a refused field begins no later than m; a list stops at a frame whose prefix is there, and what is left begins with that frame
abbrev pub WholeLow : ℕ → Whole → Type 0
WholeLow m (trees f left) = Unit {0}
WholeLow m waiting = Unit {0}
WholeLow m (refusal k) = offset_of k ≤ m
WholeLow m (stopped f left k at) = (offset_of k ≤ m) × (at + left ≡ m) × (4 ≤ left)

-- so it is for every input, by every decoder
abbrev pub OffsetsLow : Type 0
OffsetsLow = (framing : Framing) (limit : ℕ) (msg : List ℕ) → WholeLow (length msg) (rule_of framing limit msg)
