-- Ticket 13, "Shifts must add up", of the definitions; src/sums.rt says it of the calls.
use Rattle.std.proofs.Common.{◌≡◌, ◌+◌, ◌-◌, ◌%◌, ◌^◌, refl, ap, arith}
use Rattle.clock.specs.Shift.{shifted, signed_of}
use Rattle.clock.specs.Sums.{ByZero, ByTwo, AndBack, DifferenceOfShift, ImmediateShifted}

pub by_zero : ByZero
by_zero tag h = omega arith

pub by_two : ByTwo
by_two tag x y = omega arith

pub and_back : AndBack
and_back tag x y h e = omega arith

pub difference_of_shift : DifferenceOfShift
difference_of_shift tag x h k =
    let e : ((tag + x) % 2 ^ 64 + (2 ^ 64 - tag)) % 2 ^ 64 ≡ x = omega arith in
    ap signed_of e

pub immediate_shifted : ImmediateShifted
immediate_shifted x = omega arith

-- examples: the immediate tag by one back is 0, and by a second on has its fraction still
immediate-back : shifted 1 (2 ^ 64 - 1) ≡ 0
immediate-back = refl

immediate-on : shifted 1 (2 ^ 32) ≡ 4_294_967_297
immediate-on = refl
