-- No second outcome satisfies a contract of this crate.
use mathlib.Core.Path.{◌≡◌, sym, ◌∙◌}
use Prim.Native.Nat.{ℕ}
use Rattle.wire.specs.Results.{Padded}
use Rattle.wire.specs.Pad.{pad_of}

-- an outcome that is a function of the input is the only one
pub one-outcome : {A : Type 0} {x r s : A} → r ≡ x → s ≡ x → r ≡ s
one-outcome e f = e ∙ sym f

-- no second answer satisfies the contract of `pad`
pub pad-only : (pos : ℕ) (r s : Padded) → r ≡ pad_of pos → s ≡ pad_of pos → r ≡ s
pad-only pos r s = one-outcome
