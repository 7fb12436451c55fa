-- The values that have no time.
use Rattle.std.specs.Prelude.{None}
use mathlib.Core.Path.{◌≡◌, refl}
use mathlib.Core.List.{List, [], ◌∷◌}
use Prim.Native.Nat.{ℕ}
use types.Run.{OneOf, miss}
use denote.Enum.Declared.{tag_of}
use Rattle.values.specs.declared.value.OscType.{OscType}
use Rattle.values.specs.declared.value.OscType.TheVariants as value
use Rattle.values.specs.contracts.value.OscType as kinds
use Rattle.time_lines.specs.TimeLines.{time_in}

-- their cases in the enum, by their places
abbrev untimed : List ℕ
untimed = 0 ∷ 2 ∷ 3 ∷ 4 ∷ 5 ∷ 7 ∷ 8 ∷ 9 ∷ 10 ∷ 11 ∷ 12 ∷ 13 ∷ 14 ∷ 15 ∷ []

-- a value of such a case has no time
pub no_time : (v : OscType) → OneOf untimed (tag_of kinds.the_type v) → None ≡ time_in v
no_time (value.Message x y) h = refl
no_time (value.Bundle x) h = absurd (miss untimed 1 tt h)
no_time (value.Int x) h = refl
no_time (value.Float x y) h = refl
no_time (value.String x y) h = refl
no_time (value.Blob x y) h = refl
no_time (value.Time x) h = absurd (miss untimed 6 tt h)
no_time (value.Long x) h = refl
no_time (value.Double x y) h = refl
no_time (value.Char x) h = refl
no_time (value.Color x) h = refl
no_time (value.Midi x) h = refl
no_time (value.Bool x) h = refl
no_time value.Nil h = refl
no_time value.Inf h = refl
no_time value.Array h = refl
