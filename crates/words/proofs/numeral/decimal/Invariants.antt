-- `words::numeral::decimal` meets its contract. The invariant: the number so far and the bytes that are left make the word's number.
use mathlib.Core.Path.{◌≡◌}
use Rattle.std.specs.Prelude.{Some, drop}
use Rattle.words.specs.Numeral.{all_more, numeral_of}
use Rattle.words.proofs.numeral.decimal.Given as goal

abbrev pub invariant-loop-byte : goal.invariant-loop-byte
invariant-loop-byte l = numeral_of l.word ≡ all_more (drop l.byte-index l.word) (Some l.x)
