-- `words::line::until` meets its contract.
use mathlib.Core.Path.{◌≡◌, ap, ◌∙◌}
use mathlib.Core.List.{List}
use Prim.Native.Nat.{ℕ, ◌-◌}
use native.Mathlib.Omega.{arith}
use lib.ListN.{length, take, drop, length-drop}
use Rattle.std.specs.Prelude.{Option, unwrap_or}
use Rattle.wire.proofs.Parts.{tail}
use Rattle.words.specs.Tables.{until_byte}
use Rattle.words.proofs.Tables.{place_before, until-le}
use Rattle.words.proofs.line.until.Goals as goal

-- how far the byte is from the start
found : (c : goal.After-unwrap_or) → c.unwrap_or.result ≡ length (until_byte c.args.byte (drop c.args.from c.args.s.now))
found c =
    let rest = take (length c.args.s.now - c.args.from) (drop c.args.from c.args.s.now) in
    c.unwrap_or.ensures
    ∙ ap (λ (o : Option ℕ). unwrap_or o (length rest)) c.first.ensures
    ∙ place_before c.args.byte rest
    ∙ ap (λ (s : List ℕ). length (until_byte c.args.byte s)) (tail c.args.s.now c.args.from)

pub overflow_add-result : goal.overflow_add-result
overflow_add-result c =
    let h = found c in
    let s = drop c.args.from c.args.s.now in
    record { fits = omega (arith, until-le c.args.byte s, length-drop c.args.from c.args.s.now) }

pub returns : goal.returns
returns c =
    let h = found c in
    let s = drop c.args.from c.args.s.now in
    (omega arith, omega (arith, until-le c.args.byte s, length-drop c.args.from c.args.s.now), omega arith)
