-- The parts of a word that says a Unix time.
use Rattle.std.specs.Prelude.{Option, None}
use mathlib.Core.Path.{◌≡◌, refl, ap, ap₂, ◌∙◌}
use mathlib.Core.List.{List, [], ◌∷◌}
use Prim.Native.Nat.{ℕ, ◌+◌, ◌-◌, ◌<◌}
use native.Mathlib.Nat.{zero-add, sub-zero}
use native.Mathlib.Omega.{arith}
use lib.ListN.{length, take, drop, get_or}
use borrow.Author.Tests.{eq-eqb, ne_eqb}
use Rattle.wire.proofs.Parts.{tail}
use Rattle.words.specs.Tables.{until_byte}
use Rattle.words.specs.Numeral.{numeral_of}
use Rattle.time_words.specs.Seconds.{nanos_after, together, plain_of, since_it, before_it, seconds_in}
use Rattle.time_words.specs.declared.seconds.Plain.{Plain}

module _ (word : List ℕ) (dot : ℕ) (found : dot ≡ 0 + length (until_byte 46 (drop 0 word))) where
  -- what stands before the dot, and what stands from there on
  pub plain_by : {x y : Option ℕ} → x ≡ numeral_of (take (dot - 0) (drop 0 word))
      → y ≡ nanos_after (take (length word - dot) (drop dot word)) → together x y ≡ plain_of word
  unfolding plain_of
  plain_by {x} {y} p q =
      let d : dot ≡ length (until_byte 46 word) = found ∙ zero-add _ in
      let p' : x ≡ numeral_of (take (length (until_byte 46 word)) word) = p ∙ ap (λ (n : ℕ). numeral_of (take n word)) (sub-zero dot ∙ d) in
      let q' : y ≡ nanos_after (drop (length (until_byte 46 word)) word) =
      q ∙ ap nanos_after (tail word dot) ∙ ap (λ (n : ℕ). nanos_after (drop n word)) d
      in
      ap₂ together p' q'

-- a word of no bytes
pub no_word : (word : List ℕ) → length word ≡ 0 → None ≡ seconds_in word
unfolding seconds_in
no_word [] h = refl
no_word (c ∷ word) h = absurd (omega arith)

-- a minus, and what stands after it
pub minus : (word : List ℕ) → 0 < length word → get_or word 0 0 ≡ 45
    → before_it (plain_of (take (length word - 1) (drop 1 word))) ≡ seconds_in word
unfolding seconds_in
minus [] h e = absurd (omega arith)
minus (c ∷ word) h e = rw (tail (c ∷ word) 1, eq-eqb c 45 e)

-- no minus
pub no_minus : (word : List ℕ) → 0 < length word → (get_or word 0 0 ≡ 45 → ⊥) → since_it (plain_of word) ≡ seconds_in word
unfolding seconds_in
no_minus [] h e = absurd (omega arith)
no_minus (c ∷ word) h e = rw (ne_eqb c 45 e)

-- what has no number has no time
pub since_none : {p : Option Plain} → p ≡ None → since_it p ≡ None
unfolding since_it
since_none e = rw e

pub before_none : {p : Option Plain} → p ≡ None → before_it p ≡ None
unfolding before_it
before_none e = rw e
