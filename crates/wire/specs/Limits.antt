-- The limits of document 01, "Refusal numbers": what the calls take at most.
use Rattle.std.specs.Prelude.{ℕ}

-- the most bytes of a decode input or of an encoded result (refusal 1)
abbrev pub longest : ℕ
longest = 65535

-- the most bytes of a packet that stands after a prefix of 4 (refusal 1, "prefix included")
abbrev pub longest_framed : ℕ
longest_framed = 65531

-- the highest depth limit, and the encoders' (refusals 13 and 9)
abbrev pub deepest : ℕ
deepest = 64
