-- Each answer is a case of `start_of`.
use Rattle.packet.proofs.FirstText.{start-empty, start-message, start-bundle, start-other, start-lacks, is_word}
use Rattle.std.specs.Prelude.{Err}
use Rattle.text.proofs.Within.{found_in}
use native.Mathlib.Omega.{arith}
use borrow.Author.Rules.{rules}
use Prim.Native.Nat.{ℕ}
use lib.ListN.{length-take}
use mathlib.Core.Path.{ap, sym, ◌∙◌}
use Rattle.packet.proofs.read_start.Goals as goal

pub returns-then-input-eq0 : goal.returns-then-input-eq0
returns-then-input-eq0 c = start-empty _ _ c.if-input-eq0.true

pub returns-then-input-eq-MESSAGE : goal.returns-then-input-eq-MESSAGE
returns-then-input-eq-MESSAGE c =
    start-message _ _ c.if-input-eq0.false (sym c.in-Ok.is ∙ c.read_osc_string.ensures) c.if-input-eq-MESSAGE.true

pub returns-in-Err : goal.returns-in-Err
returns-in-Err c =
    ap Err c.fault_in.ensures ∙ start-lacks _ _ c.if-input-eq0.false (sym c.in-Err.is ∙ c.read_osc_string.ensures)

pub slice_bounds-eq-end : goal.slice_bounds-eq-end
slice_bounds-eq-end c = omega (arith, found_in _ _ (sym c.in-Ok.is ∙ c.read_osc_string.ensures), length-take {A = ℕ})

pub returns-then-eq : goal.returns-then-eq
returns-then-eq c =
    start-bundle _ _ c.if-input-eq0.false (sym c.in-Ok.is ∙ c.read_osc_string.ensures) c.if-input-eq-MESSAGE.false
    (is_word _ c.as_slice.result.now (search rules) c.eq.ensures ∙ c.if-eq.true)

pub returns-else-eq : goal.returns-else-eq
returns-else-eq c =
    start-other _ _ c.if-input-eq0.false (sym c.in-Ok.is ∙ c.read_osc_string.ensures) c.if-input-eq-MESSAGE.false
    (is_word _ c.as_slice.result.now (search rules) c.eq.ensures ∙ c.if-eq.false)
