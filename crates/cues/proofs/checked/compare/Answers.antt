-- The first record that differs is told; where none does, all of them fit.
use Rattle.std.proofs.Common.{◌≡◌, ◌<◌, ◌≤◌, ◌*◌, length, max, sym, ◌∙◌, arith}
use Rattle.std.proofs.lemmas.Grind.{common_steps}
use Rattle.std.specs.Cmp.Lexicographic.{same_text, other_text}
use Rattle.cues.specs.Cues.{entry_size}
use Rattle.cues.proofs.Checks.{differs_at, passed-at, all_fit}
use Rattle.cues.proofs.checked.compare.Goals as goal

pub returns-then-ne : goal.returns-then-ne
returns-then-ne c =
    let f = c.args.fresh.now in
    let g = c.args.given.now in
    let within : entry_size * c.loop-k.k < max (length f) (length g) = omega arith in
    let differ : (c.entry_at.result.now ≡ c.entry_at-in-loop-k.result.now → ⊥) = grind (arith, common_steps, other_text) in
    differs_at f g c.loop-k.k c.loop-k.invariant within (λ z. differ (c.entry_at.ensures ∙ z ∙ sym c.entry_at-in-loop-k.ensures))

pub loop-k-preserved : goal.loop-k-preserved
loop-k-preserved c =
    let f = c.args.fresh.now in
    let g = c.args.given.now in
    let within : entry_size * c.loop-k.k < max (length f) (length g) = omega arith in
    let same : c.entry_at.result.now ≡ c.entry_at-in-loop-k.result.now = grind (arith, common_steps, same_text) in
    passed-at f g c.loop-k.k c.loop-k.invariant within (sym c.entry_at.ensures ∙ same ∙ c.entry_at-in-loop-k.ensures)

pub returns : goal.returns
returns c =
    let f = c.args.fresh.now in
    let g = c.args.given.now in
    let e : c.loop-k.k ≡ c.div_ceil-count.result = omega arith in
    let beyond : max (length f) (length g) ≤ entry_size * c.loop-k.k = omega arith in
    rw (sym e) (all_fit f g c.loop-k.k c.loop-k.invariant beyond)
