-- `time_words::tags::tag_in` meets its contract.
use mathlib.Core.Path.{sym, ◌∙◌}
use native.Mathlib.Omega.{arith}
use borrow.Author.Tests.{eq-eqb, ne_eqb}
use Rattle.time_words.specs.Tags.{tag_in}
use Rattle.time_words.proofs.Digits.{one_more, digit-fits, no-hex, hex-all}
use Rattle.time_words.proofs.tags.tag_in.Goals as goal

pub returns-then-word-ne16 : goal.returns-then-word-ne16
unfolding tag_in
returns-then-word-ne16 c = rw (ne_eqb _ 16 c.if-word-ne16.true)

pub loop-byte-init : goal.loop-byte-init
unfolding tag_in
loop-byte-init c =
    let l = c.if-word-ne16.false in
    record { sixteen = l; within = omega arith; fits = omega arith; rest = rw (eq-eqb _ 16 l) }

pub returns-then-value-eq16 : goal.returns-then-value-eq16
returns-then-value-eq16 c =
    let v = c.hex_value-value in
    let word = c.args.word.now in
    sym (c.loop-byte.invariant.rest ∙ no-hex word c.loop-byte.byte-index c.loop-byte.tag (omega arith) (sym v.ensures.0 ∙ c.if-value-eq16.true))

pub loop-byte-preserved : goal.loop-byte-preserved
loop-byte-preserved c =
    let v = c.hex_value-value in
    one_more c.loop-byte.invariant (omega arith) v.ensures.0 v.ensures.1 c.if-value-eq16.false

pub returns : goal.returns
returns c =
    let s = c.loop-byte.invariant in
    let word = c.args.word.now in
    sym (s.rest ∙ hex-all word c.loop-byte.byte-index c.loop-byte.tag (omega (arith, s.sixteen, s.within)))

pub overflow_mul-tag : goal.overflow_mul-tag
overflow_mul-tag c =
    let s = c.loop-byte.invariant in
    let fit = digit-fits c.loop-byte.tag 0 c.loop-byte.byte-index s.fits (omega arith) (omega (arith, s.sixteen)) in
    record { fits = omega arith }

pub overflow_add-tag : goal.overflow_add-tag
overflow_add-tag c =
    let s = c.loop-byte.invariant in
    let fit = digit-fits c.loop-byte.tag c.hex_value-value.result c.loop-byte.byte-index s.fits (omega arith) (omega (arith, s.sixteen)) in
    record { fits = omega arith }
