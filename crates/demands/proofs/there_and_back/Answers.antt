-- The round trip; the other answers are not given where the contract speaks.
use native.Mathlib.Nat.{sub-zero}
use Rattle.demands.proofs.There.{not-refused, within-output, comes_back}
use Rattle.demands.proofs.there_and_back.Goals as goal

pub returns-then-n-out : goal.returns-then-n-out
returns-then-n-out c =
    comes_back _ _ _ _ c.encode.ensures _ _ _ c.in_ok-n.was (rw sub-zero at c.decode_udp.ensures)

pub returns : goal.returns
returns c =
    let a = c.args in
    within-output _ _ _ _ c.encode.ensures a.back.now _ c.in_ok-n.was c.encode.auto.out c.if-n-out.false

pub returns-in_err-n : goal.returns-in_err-n
returns-in_err-n c =
    let a = c.args in
    not-refused _ _ _ _ c.encode.ensures a.back.now _ c.in_err-n.was
