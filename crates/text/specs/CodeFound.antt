-- Describes code, and no part of the document: a text that was found before.
use Rattle.std.specs.Prelude.{◌≡◌, List, ℕ}
use Rattle.text.specs.Text.{read_text}
use Rattle.text.specs.Results.{Found}

-- a text stands at the front of l, which stands at position p
abbrev pub TextFound : List ℕ → ℕ → Type 0
TextFound l p = (n used : ℕ) × (read_text l p ≡ Found n used)
