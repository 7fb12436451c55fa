-- Padding to a multiple of 4: document 01, `pad` and refusal 14.
use Rattle.std.specs.Prelude.{cond, ℕ, ◌+◌, ◌*◌, ◌/◌, leb, Err, Ok}
use Rattle.refusal.specs.declared.Refusal.TheVariants.{PadOverflow}
use Rattle.wire.specs.Results.{Padded}

-- the next multiple of 4 ("padding: next multiple of 4"); proofs/Multiples.antt shows that it is the lowest one not below x
abbrev pub padded : ℕ → ℕ
padded x = (x + 3) / 4 * 4

-- what `pad` answers: 14 for a position over 2^64 - 4 (refusal 14)
abbrev pub pad_of : ℕ → Padded
pad_of x = cond (leb x 0xffff_ffff_ffff_fffc) (Ok (padded x)) (Err PadOverflow)
