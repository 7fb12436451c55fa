-- Examples of the readings of Ticket 7: each is what the definitions compute.
use Rattle.std.proofs.Common.{◌≡◌, ◌+◌, ◌-◌, ◌*◌, ◌^◌, pos, negsuc, refl}
use Rattle.clock.specs.Nearest.{fraction_of, nanos_of}
use Rattle.clock.specs.Clock.{tag_for, unix_for}
use Rattle.clock.specs.Shift.{shifted, difference_of}
use Rattle.clock.specs.declared.Rule.TheVariants.{A, B}
use Rattle.clock.specs.declared.OutOfRange.TheVariants.{Nanoseconds, TooLate, TooEarly}
use Rattle.std.specs.Prelude.{Err, Ok}
use Rattle.clock.specs.Results as Unix

-- the highest nanosecond value does not carry
highest : fraction_of 999_999_999 ≡ 4_294_967_292
highest = refl

-- a value just below a half, where floats round up
just-below : fraction_of 500_355_614 ≡ 2_149_010_998
just-below = refl

-- a half on the way back goes up: 2^22 fractions are 976562.5 nanoseconds
half_up : nanos_of (2 ^ 22) ≡ 976_563
half_up = refl

-- 28 after the carry: this tag is 0 seconds, and the fraction below it is refused
reaches-1970 : unix_for A (2_208_988_799 * 2 ^ 32 + (2 ^ 32 - 2)) ≡ Unix.At (pos 0) 0
unfolding unix_for
reaches-1970 = refl

misses-1970 : unix_for A (2_208_988_799 * 2 ^ 32 + (2 ^ 32 - 3)) ≡ Err TooEarly
unfolding unix_for
misses-1970 = refl

-- a carry past the last second is no 27
past_the_last : unix_for A (2 ^ 64 - 1) ≡ Unix.At (pos 2_085_978_496) 0
unfolding unix_for
past_the_last = refl

-- the immediate tag (0, 1) is a plain number
immediate-a : unix_for A 1 ≡ Err TooEarly
unfolding unix_for
immediate-a = refl

immediate-b : unix_for B 1 ≡ Unix.At (pos 2_085_978_496) 0
unfolding unix_for
immediate-b = refl

highest-shifted : shifted 1 (2 ^ 64 - 1) ≡ 0
highest-shifted = refl

-- the last second of each rule, and the one after it
last-a : tag_for A (pos 2_085_978_495) 0 ≡ Ok (4_294_967_295 * 2 ^ 32)
unfolding tag_for
last-a = refl

after-a : tag_for A (pos 2_085_978_496) 0 ≡ Err TooLate
unfolding tag_for
after-a = refl

wrapped-b : tag_for B (pos 2_085_978_496) 0 ≡ Ok 0
unfolding tag_for
wrapped-b = refl

last-b : tag_for B (pos 4_233_462_143) 0 ≡ Ok (2_147_483_647 * 2 ^ 32)
unfolding tag_for
last-b = refl

after-b : tag_for B (pos 4_233_462_144) 0 ≡ Err TooLate
unfolding tag_for
after-b = refl

-- 26 before 27 and 28
first-26 : tag_for A (negsuc 0) 1_000_000_000 ≡ Err Nanoseconds
unfolding tag_for
first-26 = refl

-- tags 2^63 apart give the lowest number, both ways
opposites : difference_of (2 ^ 63) 0 ≡ difference_of 0 (2 ^ 63)
opposites = refl

lowest : difference_of 0 (2 ^ 63) ≡ negsuc (2 ^ 63 - 1)
lowest = refl
