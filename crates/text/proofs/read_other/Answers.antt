use mathlib.Core.Path.{◌≡◌, ◌∙◌}
use Prim.Native.Nat.{◌+◌, ◌<◌}
use native.Mathlib.Omega.{arith}
use lib.ListN.{length}
use Rattle.text.specs.Text.{until_nul}
use Rattle.text.proofs.Nuls.{nul-le}
use Rattle.text.proofs.Texts.{nul-at, judged, no_nul, no_padding, whole, not-utf8}
use Rattle.text.proofs.read_other.Goals as goal

pub returns-then-length-input : goal.returns-then-length-input
returns-then-length-input c =
    let l = c.args.input.now in
    let m = c.until_nul in
    no_nul l _ _ (nul-at l c.args.plain m.result c.requires.plain_in_bounds.1 m.ensures.1) c.if-length-input.true

pub returns-then-input-used : goal.returns-then-input-used
returns-then-input-used c =
    let l = c.args.input.now in
    let m = c.until_nul in
    let e : c.args.plain + m.result ≡ until_nul l = nul-at l c.args.plain m.result c.requires.plain_in_bounds.1 m.ensures.1 in
    let within : c.args.plain + m.result < length l = omega (arith, nul-le l) in
    no_padding l _ _ e _ c.taken_by-used.ensures within c.if-input-used.true

pub returns-then-is_utf8 : goal.returns-then-is_utf8
returns-then-is_utf8 c =
    let l = c.args.input.now in
    let m = c.until_nul in
    let e : c.args.plain + m.result ≡ until_nul l = nul-at l c.args.plain m.result c.requires.plain_in_bounds.1 m.ensures.1 in
    whole l _ _ e _ c.taken_by-used.ensures c.if-input-used.false
    (judged l c.args.plain m.result c.requires.plain_in_bounds.1 c.is_utf8.ensures ∙ c.if-is_utf8.true)

pub returns : goal.returns
returns c =
    let l = c.args.input.now in
    let m = c.until_nul in
    let e : c.args.plain + m.result ≡ until_nul l = nul-at l c.args.plain m.result c.requires.plain_in_bounds.1 m.ensures.1 in
    not-utf8 l _ _ e _ c.taken_by-used.ensures c.if-input-used.false
    (judged l c.args.plain m.result c.requires.plain_in_bounds.1 c.is_utf8.ensures ∙ c.if-is_utf8.false)
