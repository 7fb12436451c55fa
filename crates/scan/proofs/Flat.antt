-- Tags of which none is a bracket: each is one record.
use mathlib.Core.Path.{◌≡◌, refl, sym, ap, ◌∙◌}
use mathlib.Core.Bool.{Bool, true, false, ◌||◌, true≢false}
use mathlib.Core.List.{List, [], ◌∷◌}
use Prim.Native.Nat.{ℕ}
use lib.Dec.{eqb}
use lib.ListN.{length}
use Rattle.node.specs.Tags.{array_kind, class_of, sort_of}
use Rattle.node.specs.declared.tags.Sort.{Sort}
use Rattle.node.specs.declared.tags.Sort.TheVariants.{Leaf}
use Rattle.scan.specs.CodeScans.{tag_before, back, bracket, brackets}
use Rattle.scan.specs.declared.Back.TheVariants.{Uncut}

-- ---- what flat tags keep

first-false : (x y : Bool) → x || y ≡ false → x ≡ false
first-false true y e = absurd (true≢false e)
first-false false y e = refl

second-false : (x y : Bool) → x || y ≡ false → y ≡ false
second-false true y e = absurd (true≢false e)
second-false false y e = e

leaf : (tag : ℕ) → bracket tag ≡ false → sort_of tag ≡ Leaf (class_of tag)
unfolding sort_of
leaf tag e =
    let n : eqb tag array_kind ≡ false = first-false (eqb tag array_kind) (eqb tag 93 || false) e in
    let m : eqb tag 93 ≡ false = first-false (eqb tag 93) false (second-false (eqb tag array_kind) (eqb tag 93 || false) e) in
    rw (n, m)

-- they are all kept
pub flat : (tags : List ℕ) → brackets tags ≡ false → Uncut 0 (length tags) 0 ≡ back tags
unfolding back
flat [] e = refl
flat (tag ∷ tags) e =
    let s = leaf tag (first-false (bracket tag) (brackets tags) e) in
    let r = flat tags (second-false (bracket tag) (brackets tags) e) in
    sym (ap (λ (x : Sort). tag_before x (back tags)) s ∙ ap (tag_before (Leaf (class_of tag))) (sym r))
