-- Words and the amounts that they say, computed.
use Rattle.std.specs.Prelude.{Some, None}
use Rattle.std.proofs.Common.{◌≡◌, ◌+◌, ◌-◌, ◌*◌, ◌^◌, [], ◌∷◌, refl}
use Rattle.words.specs.Numeral.{digit_of, all_more, numeral_of}
use Rattle.words.specs.Tables.{until_byte}
use Rattle.time_words.specs.Tags.{hex_of, hex_more, tag_in}
use Rattle.time_words.specs.Seconds.{nanos_after, plain_of}
use Rattle.amounts.specs.Amounts.{amount_of}

-- 3.5
three-and-a-half : amount_of (51 ∷ 46 ∷ 53 ∷ []) ≡ Some (3 * 2 ^ 32 + 2 ^ 31)
unfolding digit_of all_more numeral_of until_byte nanos_after plain_of amount_of
three-and-a-half = refl

-- -12
twelve-back : amount_of (45 ∷ 49 ∷ 50 ∷ []) ≡ Some (2 ^ 64 - 12 * 2 ^ 32)
unfolding digit_of all_more numeral_of until_byte nanos_after plain_of amount_of
twelve-back = refl

-- 0.000000001: the nearest of 2^32 fractions to a nanosecond is 4
one-nanosecond : amount_of (48 ∷ 46 ∷ 48 ∷ 48 ∷ 48 ∷ 48 ∷ 48 ∷ 48 ∷ 48 ∷ 48 ∷ 49 ∷ []) ≡ Some 4
unfolding digit_of all_more numeral_of until_byte nanos_after plain_of amount_of
one-nanosecond = refl

-- hex:0000000100000000 is one second
one-second : amount_of
    (104 ∷ 101 ∷ 120 ∷ 58 ∷ 48 ∷ 48 ∷ 48 ∷ 48 ∷ 48 ∷ 48 ∷ 48 ∷ 49 ∷ 48 ∷ 48 ∷ 48 ∷ 48 ∷ 48 ∷ 48 ∷ 48 ∷ 48 ∷ [])
    ≡ Some (2 ^ 32)
unfolding digit_of hex_of hex_more tag_in amount_of
one-second = refl

-- hex:00000000aAbBcCdD: digits in either case
either-case : amount_of
    (104 ∷ 101 ∷ 120 ∷ 58 ∷ 48 ∷ 48 ∷ 48 ∷ 48 ∷ 48 ∷ 48 ∷ 48 ∷ 48 ∷ 97 ∷ 65 ∷ 98 ∷ 66 ∷ 99 ∷ 67 ∷ 100 ∷ 68 ∷ [])
    ≡ Some 0xaabb_ccdd
unfolding digit_of hex_of hex_more tag_in amount_of
either-case = refl

-- no digit after the dot, no amount: 3.
nothing-after : amount_of (51 ∷ 46 ∷ []) ≡ None
unfolding digit_of all_more numeral_of until_byte nanos_after plain_of amount_of
nothing-after = refl
