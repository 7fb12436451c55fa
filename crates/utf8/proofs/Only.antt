-- No second outcome meets the contract of `utf8::is_utf8`, nor that of `utf8::lead`.
use mathlib.Core.Path.{◌≡◌, sym, ◌∙◌}
use mathlib.Core.Bool.{Bool}
use mathlib.Core.List.{List}
use Prim.Native.Nat.{ℕ}
use Rattle.utf8.specs.Utf8.{Octets, Decides}
use Rattle.utf8.specs.Lead.{lead_of}
use Rattle.utf8.proofs.Grammar.{same_answer}

-- two answers that meet the contract of `is_utf8` on the same bytes are equal
pub is_utf8_only : (s : List ℕ) (a b : Bool) → Decides a (Octets s) → Decides b (Octets s) → a ≡ b
is_utf8_only s a b p q = same_answer p q

-- two answers that meet the contract of `lead` on the same byte are equal
pub lead-only : (first a b : ℕ) → a ≡ lead_of first → b ≡ lead_of first → a ≡ b
lead-only first a b p q = p ∙ sym q
