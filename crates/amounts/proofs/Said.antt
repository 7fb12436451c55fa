-- What the code answers of a word is what Amounts.antt says of it.
use Rattle.std.specs.Str.{bytes_eq}
use Rattle.std.proofs.Common.{◌≡◌, ℕ, Bool, true, false, List, [], ◌∷◌, take, drop, sym, ap, ◌∙◌}
use Rattle.wire.specs.Same.{same_bytes}
use Rattle.words.proofs.Beside.{equal-same}
use Rattle.time_words.specs.Tags.{tag_in}
use Rattle.time_words.specs.Seconds.{plain_of}
use Rattle.amounts.specs.Amounts.{joined_as, opposite_of, amount_of}

abbrev hex_word : List ℕ
hex_word = 104 ∷ 101 ∷ 120 ∷ 58 ∷ []

-- what a test of a word's first bytes says
begins : (front text : List ℕ) {t : Bool} → bytes_eq front text ≡ t → same_bytes front text ≡ t
begins front text e = sym (equal-same front text) ∙ e

-- two tests decide
pub amount-hex : (word : List ℕ) {rest : List ℕ} → bytes_eq (take 4 word) hex_word ≡ true → rest ≡ drop 4 word → tag_in rest ≡ amount_of word
unfolding amount_of
amount-hex word t d = ap tag_in d ∙ rw (begins (take 4 word) hex_word t)

module _ (word : List ℕ) (no : bytes_eq (take 4 word) hex_word ≡ false) where
  pub amount-minus : {rest : List ℕ} → bytes_eq (take 1 word) (45 ∷ []) ≡ true → rest ≡ drop 1 word
      → opposite_of (joined_as (plain_of rest)) ≡ amount_of word
  unfolding amount_of
  amount-minus t d =
      ap (λ (l : List ℕ). opposite_of (joined_as (plain_of l))) d
      ∙ rw (begins (take 4 word) hex_word no, begins (take 1 word) (45 ∷ []) t)

  pub amount-plain : bytes_eq (take 1 word) (45 ∷ []) ≡ false → joined_as (plain_of word) ≡ amount_of word
  unfolding amount_of
  amount-plain t = rw (begins (take 4 word) hex_word no, begins (take 1 word) (45 ∷ []) t)
