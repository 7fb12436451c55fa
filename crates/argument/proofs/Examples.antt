-- Examples, computed, that meet the hypotheses of `text_padded` and `blob_padded`: at position 4 of a frame whose prefix stands at offset
-- 4, a text of two bytes whose padding is AA, and a blob of one byte whose padding is 00 BB 00.
use mathlib.Core.Path.{◌≡◌, refl}
use mathlib.Core.List.{List, [], ◌∷◌}
use Prim.Native.Nat.{ℕ}
use Rattle.wire.specs.Number.{number}
use Rattle.text.specs.Text.{read_text}
use Rattle.node.specs.declared.tags.Class.TheVariants.{Blob}
use Rattle.argument.specs.Argument.{arg_item, read_arg}
use Rattle.argument.specs.Dirt.{text_padding, arg_padding}
use Rattle.argument.proofs.Dirt.{text_padded, blob_padded}

abbrev text : List ℕ
text = 0x61 ∷ 0x62 ∷ 0 ∷ 0xAA ∷ []

abbrev blob : List ℕ
blob = 0 ∷ 0 ∷ 0 ∷ 1 ∷ 0x61 ∷ 0 ∷ 0xBB ∷ 0 ∷ []

-- after the 8 bytes before it
abbrev placed : List ℕ → List ℕ
placed l = 0 ∷ 0 ∷ 0 ∷ 0 ∷ 0 ∷ 0 ∷ 0 ∷ 0 ∷ l

the-text : text_padding 4 (placed text) 8 2 ≡ 0xAA ∷ []
unfolding read_text
the-text = text_padded 4 4 (placed text) text [] 2 4 refl refl

the-blob : arg_padding 4 (placed blob) Blob (arg_item 0x62 8 12 1) ≡ 0 ∷ 0xBB ∷ 0 ∷ []
unfolding read_arg number
the-blob = blob_padded 0x62 4 4 (placed blob) blob [] (arg_item 0x62 8 12 1) 8 refl refl
