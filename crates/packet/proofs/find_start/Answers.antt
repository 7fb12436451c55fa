-- A packet that was accepted has a first text, which tells what it is.
use mathlib.Core.Path.{sym}
use native.Mathlib.Omega.{arith}
use Rattle.packet.proofs.FirstText.{start-message, accepted-some, accepted-text, accepted-bundle}
use Rattle.packet.proofs.find_start.Goals as goal

pub find_osc_string-first-requires-clause-text_found : goal.find_osc_string-first-requires-clause-text_found
find_osc_string-first-requires-clause-text_found c = accepted-text c.args.input.now c.args.pos c.requires.start_accepted

pub bounds-input-0 : goal.bounds-input-0
bounds-input-0 c =
    let some = accepted-some c.args.input.now c.args.pos c.requires.start_accepted in
    omega (arith, some)

pub returns-then-input-eq-MESSAGE : goal.returns-then-input-eq-MESSAGE
returns-then-input-eq-MESSAGE c =
    let l = c.args.input.now in
    start-message l c.args.pos (accepted-some l c.args.pos c.requires.start_accepted) (sym c.find_osc_string-first.ensures) c.if-input-eq-MESSAGE.true

pub returns : goal.returns
returns c =
    accepted-bundle c.args.input.now c.args.pos c.requires.start_accepted (sym c.find_osc_string-first.ensures) c.if-input-eq-MESSAGE.false
