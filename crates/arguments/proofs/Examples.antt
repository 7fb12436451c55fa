-- Examples, computed, that meet the hypotheses of `kept_since_last` and `ends_so`: document 01's P6, and arrays before the last unclosed '[' and
-- after it.
use mathlib.Core.Path.{◌≡◌}
use mathlib.Core.List.{List, [], ◌∷◌}
use Prim.Native.Nat.{ℕ}
use native.Mathlib.Omega.{arith}
use Rattle.wire.specs.Number.{number}
use Rattle.node.specs.Forest.{nil, node, snoc}
use Rattle.node.specs.Tags.{class_of, sort_of}
use Rattle.argument.specs.Argument.{arg_item, read_arg}
use Rattle.arguments.specs.Arguments.{args, array_item, read_tags, read_args, Balanced, nothing, another, matched, AtEnd}
use Rattle.arguments.proofs.Unclosed.{kept_since_last, ends_so}

-- the integers 1 and 2
abbrev two : List ℕ
two = 0 ∷ 0 ∷ 0 ∷ 1 ∷ 0 ∷ 0 ∷ 0 ∷ 2 ∷ []

-- the tag i closes all that it opens
one_tag : Balanced (105 ∷ [])
one_tag = another 105 (λ e. omega arith) (λ e. omega arith) nothing

-- P6, i[i: the second integer is kept, and the bytes of both are consumed
p6 : read_args 0 (105 ∷ 91 ∷ 105 ∷ []) two 12 ≡ args (node (arg_item 105 16 2 0) nil nil) 8
unfolding number snoc class_of sort_of read_arg read_tags
p6 = kept_since_last 0 (105 ∷ []) (105 ∷ []) two 12 one_tag

-- [i[T[i]: what stands before the last unclosed '[' has an open array, and what stands after it a closed one
nested : read_args 0 (91 ∷ 105 ∷ 91 ∷ 84 ∷ 91 ∷ 105 ∷ 93 ∷ []) two 12
    ≡ args (node (arg_item 84 16 0 0) nil (node (array_item 16) (node (arg_item 105 16 2 0) nil nil) nil)) 8
unfolding number snoc class_of sort_of read_arg read_tags
nested =
    kept_since_last 0 (91 ∷ 105 ∷ []) (84 ∷ 91 ∷ 105 ∷ 93 ∷ []) two 12
    (another 84 (λ e. omega arith) (λ e. omega arith) (matched one_tag nothing))

-- both are accepted, so they end as `ends_so` says
ends : AtEnd (105 ∷ 91 ∷ 105 ∷ [])
ends = ends_so 0 _ two 12 _ 8 p6
