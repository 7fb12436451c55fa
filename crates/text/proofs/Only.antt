-- No second outcome satisfies the contract of `read_osc_string`.
use mathlib.Core.Path.{◌≡◌}
use mathlib.Core.List.{List}
use Prim.Native.Nat.{ℕ}
use Rattle.text.specs.Text.{read_text}
use Rattle.text.specs.Results.{Text}
use Rattle.wire.proofs.Only.{one-outcome}

-- no second answer satisfies the contract of `read_osc_string`
pub read-osc-string-only : (input : List ℕ) (pos : ℕ) (r s : Text) → r ≡ read_text input pos → s ≡ read_text input pos → r ≡ s
read-osc-string-only input pos r s = one-outcome
