-- A nanosecond value returns unchanged through the calls. `tag_of` is handed what the machine reads back from the bits of `seconds`.
use Rattle.std.proofs.Common.{ℤ, sym, ap, ◌∙◌, to_z-of_z}
use Rattle.clock.specs.Clock.{tag_for}
use Rattle.clock.proofs.Returns.{returned-tag}
use Rattle.clock.proofs.laws.there_and_back.Goals as goal

pub returns : goal.returns
returns c =
    let a = c.args in
    c.unix_of.ensures
    ∙ returned-tag a.rule a.seconds a.nanos _
    (sym (c.in_ok-tag.ensures ∙ ap (λ (z : ℤ). tag_for a.rule z a.nanos) (to_z-of_z c.ranges.seconds)))
