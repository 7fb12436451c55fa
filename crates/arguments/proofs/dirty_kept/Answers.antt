use mathlib.Core.Path.{◌≡◌, refl, sym, ◌∙◌}
use mathlib.Core.List.{List}
use Prim.Native.Nat.{ℕ, ◌+◌}
use native.Mathlib.Omega.{arith}
use Rattle.argument.specs.CodeParts.{StandsAt, dirt_of}
use Rattle.scan.specs.CodeScans.{back}
use Rattle.scan.specs.declared.Back.{Back}
use Rattle.scan.specs.declared.Back.TheVariants.{Uncut, Cut}
use Rattle.arguments.specs.Arguments.{read_args}
use Rattle.arguments.specs.CodeReadings.{kept_of, Scans}
use Rattle.arguments.proofs.Dirt.{closed-dirt, cut-dirt}
use Rattle.arguments.proofs.Kept.{all_closed}
use Rattle.arguments.proofs.dirty_kept.Goals as goal

none_kept : {all : ℕ} (base : ℕ) (msg ts l : List ℕ) (p : ℕ) → Scans all ts l p → StandsAt msg (base + p) l → all ≡ 0
    → 0 ≡ dirt_of base msg (kept_of (read_args base ts l p))
none_kept base msg ts l p s w z = by-back (back ts) refl
  where
    by-back : (k : Back) → k ≡ back ts → 0 ≡ dirt_of base msg (kept_of (read_args base ts l p))
    by-back (Uncut n c d) e = omega (arith, closed-dirt base msg ts l p w s.1 (all_closed (back ts) e))
    by-back (Cut n c d) e = omega (arith, cut-dirt base msg ts l p w s.1 e)

pub returns-then-all-eq0 : goal.returns-then-all-eq0
returns-then-all-eq0 c = λ base msg w.
    let a = c.args in
    none_kept base msg a.tags.now a.input.now a.pos c.requires.1 w c.if-all-eq0.true

pub returns-in-Uncut : goal.returns-in-Uncut
returns-in-Uncut c = λ base msg w.
    let a = c.args in
    closed-dirt base msg a.tags.now a.input.now a.pos w c.requires.1.1
    (all_closed _ (sym c.in-Uncut.is ∙ c.look_back.ensures))
