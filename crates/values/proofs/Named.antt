-- A value of a kind that is no text, blob or address names no text.
use mathlib.Core.Path.{◌≡◌, refl}
use mathlib.Core.List.{List, [], ◌∷◌}
use Prim.Native.Nat.{ℕ}
use types.Run.{OneOf, miss}
use denote.Enum.Declared.{tag_of}
use Rattle.values.specs.declared.value.OscType.{OscType}
use Rattle.values.specs.declared.value.OscType.TheVariants.{Message, Bundle, Int, Float, String, Blob, Time, Long, Double, Char}
use Rattle.values.specs.declared.value.OscType.TheVariants.{Color, Midi, Bool, Nil, Inf, Array}
use Rattle.values.specs.Look.{text_named}
use Rattle.values.specs.contracts.value.OscType as kinds

-- the cases of the enum that have no range, by their place in it
abbrev others : List ℕ
others = 1 ∷ 2 ∷ 3 ∷ 6 ∷ 7 ∷ 8 ∷ 9 ∷ 10 ∷ 11 ∷ 12 ∷ 13 ∷ 14 ∷ 15 ∷ []

-- a value of such a case names no text: the label is handed back
pub unnamed : (v : OscType) (packet label : List ℕ) → OneOf others (tag_of kinds.the_type v) → text_named v packet label ≡ label
unnamed (Message x y) packet label h = absurd (miss others 0 tt h)
unnamed (Bundle x) packet label h = refl
unnamed (Int x) packet label h = refl
unnamed (Float x y) packet label h = refl
unnamed (String x y) packet label h = absurd (miss others 4 tt h)
unnamed (Blob x y) packet label h = absurd (miss others 5 tt h)
unnamed (Time x) packet label h = refl
unnamed (Long x) packet label h = refl
unnamed (Double x y) packet label h = refl
unnamed (Char x) packet label h = refl
unnamed (Color x) packet label h = refl
unnamed (Midi x) packet label h = refl
unnamed (Bool x) packet label h = refl
unnamed Nil packet label h = refl
unnamed Inf packet label h = refl
unnamed Array packet label h = refl
