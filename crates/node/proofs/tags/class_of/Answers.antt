use mathlib.Core.Path.{refl}
use mathlib.Core.List.{[], ◌∷◌}
use borrow.Author.Tests.{ne_eqb}
use Rattle.node.specs.Tags.{class_of}
use Rattle.node.specs.declared.tags.Class.TheVariants.{Four, Eight, Bare, Text, Blob, Scalar}
use Rattle.node.proofs.Keys.{by-keys, not-among}
use Rattle.node.proofs.tags.class_of.Goals as goal

pub returns-in-105 : goal.returns-in-105
unfolding class_of
returns-in-105 c = by-keys class_of Four (102 ∷ 105 ∷ 109 ∷ 114 ∷ []) (refl, (refl, (refl, (refl, tt)))) _ c.in-105.is

pub returns-in-104 : goal.returns-in-104
unfolding class_of
returns-in-104 c = by-keys class_of Eight (100 ∷ 104 ∷ 116 ∷ []) (refl, (refl, (refl, tt))) _ c.in-104.is

pub returns-in-84 : goal.returns-in-84
unfolding class_of
returns-in-84 c = by-keys class_of Bare (70 ∷ 73 ∷ 78 ∷ 84 ∷ []) (refl, (refl, (refl, (refl, tt)))) _ c.in-84.is

pub returns-in-115 : goal.returns-in-115
unfolding class_of
returns-in-115 c = by-keys class_of Text (115 ∷ []) (refl, tt) _ c.in-115.is

pub returns-in-98 : goal.returns-in-98
unfolding class_of
returns-in-98 c = by-keys class_of Blob (98 ∷ []) (refl, tt) _ c.in-98.is

pub returns-in-99 : goal.returns-in-99
unfolding class_of
returns-in-99 c = by-keys class_of Scalar (99 ∷ []) (refl, tt) _ c.in-99.is

pub returns-in_default : goal.returns-in_default
unfolding class_of
returns-in_default c =
    let t = c.args.tag in
    let r = c.in_default.in_default-own.rest in
    rw (
      not-among (102 ∷ 105 ∷ 109 ∷ 114 ∷ []) t r.0.0.0.0.0.1,
      not-among (100 ∷ 104 ∷ 116 ∷ []) t r.0.0.0.0.1,
      not-among (70 ∷ 73 ∷ 78 ∷ 84 ∷ []) t r.0.0.0.1,
      ne_eqb t 115 r.0.0.1,
      ne_eqb t 98 r.0.1,
      ne_eqb t 99 r.1,
    )
