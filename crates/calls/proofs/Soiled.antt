-- Ticket 8: what the count of dirty padding says of any call that gives packets.
use mathlib.Core.Path.{sym, ◌∙◌}
use native.Mathlib.Omega.{arith}
use Rattle.argument.specs.Dirt.{packets_padding}
use Rattle.argument.proofs.Pads.{padding-low, clean-bytes, bytes-clean}
use Rattle.answering.specs.Limits.{forest_of}
use Rattle.calls.specs.Demands.{DirtLow, CleanOnly}
use Rattle.calls.proofs.Answered.{held}

-- it is at most three for each text, blob and "#bundle" that is kept
pub dirt_low : DirtLow
dirt_low rule msg table limit count dirty e =
    omega (arith, (held count dirty rule _ limit msg e).soils, padding-low msg (forest_of (rule msg)))

-- it is 0 exactly if every padding byte of what is kept is 0
pub clean_only : CleanOnly
clean_only rule msg table limit count dirty e =
    let s = (held count dirty rule _ limit msg e).soils in
    let l = packets_padding msg (forest_of (rule msg)) in
    (λ z. clean-bytes l (s ∙ z), λ a. sym s ∙ bytes-clean l a)
