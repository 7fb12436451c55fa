-- Frames that slide, as bytes: document 02, Ticket 13.
use Rattle.std.specs.Prelude.{◌≡◌, List, [], ◌∷◌, ℕ}
use Rattle.results.specs.declared.End.TheVariants as end
use Rattle.folding.specs.Folding.{folded}
use Rattle.slides.specs.Slides.{slide_of}

-- the message /a with the tags t[ and this last byte of its t: an array stays open, so the t before it is lost, its data consumed (rule 3)
abbrev pub lost_time : ℕ → List ℕ
lost_time last =
    0 ∷ 0 ∷ 0 ∷ 16 ∷ 0x2F ∷ 0x61 ∷ 0 ∷ 0 ∷ 0x2C ∷ 0x74 ∷ 0x5B ∷ 0 ∷ 0 ∷ 0 ∷ 0 ∷ 0 ∷ 0 ∷ 0 ∷ 0 ∷ last ∷ []

-- a t that is lost is not shifted
abbrev pub LostStays : Type 0
LostStays = slide_of 1 0 (lost_time 1) ≡ folded (lost_time 1) 20 end.Whole

-- a bundle in a bundle: the halves of the outer tag, then those of the inner one
abbrev pub nested_times : ℕ → ℕ → ℕ → ℕ → List ℕ
nested_times high low high₂ low₂ =
    0 ∷ 0 ∷ 0 ∷ 36 ∷ 0x23 ∷ 0x62 ∷ 0x75 ∷ 0x6E ∷ 0x64 ∷ 0x6C ∷ 0x65 ∷ 0 ∷ 0 ∷ 0 ∷ 0 ∷ high ∷ low ∷ low ∷ low ∷ low
    ∷ 0 ∷ 0 ∷ 0 ∷ 16 ∷ 0x23 ∷ 0x62 ∷ 0x75 ∷ 0x6E ∷ 0x64 ∷ 0x6C ∷ 0x65 ∷ 0 ∷ 0 ∷ 0 ∷ 0 ∷ high₂ ∷ low₂ ∷ low₂ ∷ low₂ ∷ low₂ ∷ []

-- both are shifted, and a carry goes from the lower half to the upper
abbrev pub NestedSlides : Type 0
NestedSlides = slide_of 1 0 (nested_times 0 255 7 255) ≡ folded (nested_times 1 0 8 0) 40 end.Whole
