-- No second outcome, answer and table, satisfies the contract of a decoder, and one does.
use mathlib.Core.Path.{◌≡◌, refl, ap, sym, ◌∙◌}
use mathlib.Core.List.{List}
use Prim.Native.Nat.{ℕ}
use Rattle.node.specs.Records.{capacity}
use Rattle.framing.specs.Framing.{Whole}
use Rattle.answering.specs.Limits.{decoded, forest_of, tabled, Decodes}
use Rattle.results.specs.Results.{DecodeAnswer}

module _ {rule : List ℕ → Whole} {msg table : List ℕ} {limit : ℕ} where
  -- two outcomes are one, by whatever rule: so of `decode`, `decode_udp`, `decode_tcp` and `decode_tcp_vec`
  pub decodes-only : {r s : DecodeAnswer} {after after' : List ℕ} → Decodes rule msg table limit r after → Decodes rule msg table limit s after'
      → (r ≡ s) × (after ≡ after')
  decodes-only v w =
      let e = v.answered ∙ sym w.answered in
      (e, v.left ∙ ap (λ (x : DecodeAnswer). tabled x (forest_of (rule msg)) table) e ∙ sym w.left)

  -- what the definitions give meets the contract
  pub decodes-met : Decodes rule msg table limit (decoded rule (capacity table) limit msg)
      (tabled (decoded rule (capacity table) limit msg) (forest_of (rule msg)) table)
  decodes-met = record { answered = refl; left = refl }
