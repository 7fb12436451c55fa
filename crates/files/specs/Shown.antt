-- A name as it is shown.
use Rattle.std.specs.Prelude.{cond, ℕ, eqb, ltb}

-- a byte that ends a line, begins an escape or shows nothing, below 32 or 127, is shown as ? (63); another as itself
unfoldable pub shown_byte : ℕ → ℕ
shown_byte b = cond (ltb b 32) 63 (cond (eqb b 127) 63 b)
