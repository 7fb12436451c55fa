-- What the last arm of a `match` on a class says: which classes the arms before it left over. A class is known there by its place
-- among the seven.
use mathlib.Core.Path.{◌≡◌, refl}
use mathlib.Core.List.{List, [], ◌∷◌}
use Prim.Native.Nat.{ℕ}
use types.Run.{OneOf, miss}
use denote.Enum.Declared.{tag_of}
use Rattle.refusal.specs.declared.Fault.TheVariants.{UnknownTag}
use Rattle.node.specs.declared.tags.Class.{Class}
use Rattle.node.specs.declared.tags.Class.TheVariants.{Four, Eight, Bare, Text as String, Blob, Scalar, Unknown}
use Rattle.node.specs.contracts.tags.Class.{the_type}
use Rattle.argument.specs.Argument.{read_arg}
use Rattle.argument.specs.CodeClasses.{Checked}
use Rattle.std.specs.Prelude.{Err}

-- of the classes that `read_checked` reads, after the three that are known only the unknown tags are left
pub unknown-left : (tag : ℕ) (class : Class) (base : ℕ) (l : List ℕ) (p : ℕ) → OneOf (0 ∷ 1 ∷ 2 ∷ 6 ∷ []) (tag_of the_type class)
    → Checked class → Err UnknownTag ≡ read_arg tag class base l p
unfolding read_arg
unknown-left tag Four base l p h k = absurd k
unknown-left tag Eight base l p h k = absurd k
unknown-left tag Bare base l p h k = absurd k
unknown-left tag String base l p h k = absurd (miss (0 ∷ 1 ∷ 2 ∷ 6 ∷ []) 3 tt h)
unknown-left tag Blob base l p h k = absurd (miss (0 ∷ 1 ∷ 2 ∷ 6 ∷ []) 4 tt h)
unknown-left tag Scalar base l p h k = absurd (miss (0 ∷ 1 ∷ 2 ∷ 6 ∷ []) 5 tt h)
unknown-left tag Unknown base l p h k = refl
