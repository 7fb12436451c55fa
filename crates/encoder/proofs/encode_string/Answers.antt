-- A text that is not UTF-8 is refused, and any other is the outcome of its bytes.
use native.Mathlib.Omega.{arith}
use Rattle.strings.specs.Atomic.{osc_string}
use Rattle.strings.proofs.Lengths.{length-string}
use Rattle.encoder.proofs.Answers.{bytes-long, bytes-short, bytes-written, not-text, text-outcome}
use Rattle.encoder.proofs.encode_string.Goals as goal

pub returns-then-not-is_utf8 : goal.returns-then-not-is_utf8
returns-then-not-is_utf8 c = not-text c.args.text.now c.args.out.now c.is_utf8.ensures c.if-not-is_utf8.true

pub returns-then-n-gt-LONGEST_TEXT : goal.returns-then-n-gt-LONGEST_TEXT
returns-then-n-gt-LONGEST_TEXT c =
    let t = c.args.text.now in
    text-outcome t c.args.out.now c.is_utf8.ensures c.if-not-is_utf8.false
    (bytes-long (osc_string t) c.args.out.now (omega (arith, length-string t)))

pub returns-then-out-n : goal.returns-then-out-n
returns-then-out-n c =
    let t = c.args.text.now in
    text-outcome t c.args.out.now c.is_utf8.ensures c.if-not-is_utf8.false
    (bytes-short (osc_string t) c.args.out.now (omega (arith, length-string t)) (omega (arith, length-string t)))

pub returns : goal.returns
returns c =
    let t = c.args.text.now in
    text-outcome t c.args.out.now c.is_utf8.ensures c.if-not-is_utf8.false
    (bytes-written (osc_string t) c.args.out.now (omega (arith, length-string t)) c.encode_string_into.ensures)
