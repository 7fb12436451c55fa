-- `words::numeral::decimal` meets its contract.
use mathlib.Core.Path.{◌∙◌, sym, ap}
use Prim.Native.Nat.{◌+◌}
use native.Mathlib.Omega.{arith}
use lib.ListN.{drop}
use Rattle.std.specs.Prelude.{Some}
use Rattle.words.specs.Numeral.{all_more}
use Rattle.words.proofs.Numerals.{none_read, some_read, still_none, byte-read, all_read}
use Rattle.words.proofs.numeral.decimal.Goals as goal

pub returns-then-is_empty : goal.returns-then-is_empty
returns-then-is_empty c = grind (arith, none_read)

pub loop-byte-init : goal.loop-byte-init
loop-byte-init c = grind (arith, some_read)

pub returns-in_err-x : goal.returns-in_err-x
returns-in_err-x c =
    let word = c.args.word.now in
    let i = c.loop-byte.byte-index in
    c.from_residual.ensures
    ∙ sym (c.loop-byte.invariant ∙ byte-read word i (Some c.loop-byte.x) (omega arith)
    ∙ ap (all_more (drop (i + 1) word)) (sym c.appended.ensures ∙ c.in_err-x.was)
    ∙ still_none (drop (i + 1) word))

pub loop-byte-preserved : goal.loop-byte-preserved
loop-byte-preserved c =
    let word = c.args.word.now in
    let i = c.loop-byte.byte-index in
    c.loop-byte.invariant ∙ byte-read word i (Some c.loop-byte.x) (omega arith)
    ∙ ap (all_more (drop (i + 1) word)) (sym c.appended.ensures ∙ c.in_ok-x.was)

pub returns : goal.returns
returns c =
    let i = c.loop-byte.byte-index in
    sym (c.loop-byte.invariant ∙ all_read c.args.word.now i (Some c.loop-byte.x) (omega arith))
