-- What `copy_within` pastes over the front of the buffer is what stood from `from` up to `to`.
use Rattle.std.proofs.Common.{◌≡◌, ℕ, ◌+◌, ◌-◌, ◌≤◌, List, length, take, drop, refl, sym, ◌∙◌, ap, arith}
use Rattle.std.proofs.lemmas.List.{drop-take, length-drop}
use Rattle.std.proofs.lemmas.List.Edits.{take-paste}
use Rattle.std.specs.List.{copy_within}
use Rattle.walks.proofs.rest.keep_rest.Goals as goal

moved : (buf : List ℕ) (from to : ℕ) → from ≤ to → to ≤ length buf → take (to - from) (copy_within buf from to 0) ≡ drop from (take to buf)
moved buf from to h i =
    let n = to - from in
    let e : to ≡ from + n = omega arith in
    let z : n ≡ 0 + n = omega arith in
    ap (λ (k : ℕ). take k (copy_within buf from to 0)) z
    ∙ take-paste buf 0 (drop from buf) n (omega arith) (omega (arith, length-drop from buf))
    ∙ sym (drop-take from n buf) ∙ ap (λ (k : ℕ). drop from (take k buf)) (sym e)

pub returns : goal.returns
returns c =
    let a = c.args in
    record { count = refl; bytes = rw c.copy_within.ensures.after (moved a.buf.now a.from a.to c.requires.0 c.requires.1) }
