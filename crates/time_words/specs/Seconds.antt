-- A word as a Unix time: a minus where there is one, digits, and after a dot one to nine digits of a fraction.
use Rattle.std.specs.Prelude.{Option, Some, None, cond, List, [], ◌∷◌, ◌++◌, ℕ, ◌-◌, eqb, ltb, pos, negsuc, neg_ℤ, length, take, drop}
use Rattle.words.specs.Ascii.{ascii}
use Rattle.words.specs.Tables.{until_byte}
use Rattle.words.specs.Numeral.{numeral_of}
use Rattle.time_words.specs.declared.seconds.Moment.TheVariants.{Unix}
use Rattle.time_words.specs.declared.seconds.Moment.{Moment}
use Rattle.time_words.specs.declared.seconds.Plain.{Plain}

-- the digits of a fraction of a second, filled up with zeros: 5 is 500,000,000 nanoseconds
abbrev pub filled_up : List ℕ → List ℕ
filled_up digits = digits ++ drop (length digits) (ascii "000000000")

-- the nanoseconds of what stands after the seconds: nothing, or a dot and one to nine digits
unfoldable pub nanos_after : List ℕ → Option ℕ
nanos_after rest =
    cond (eqb (length rest) 0) (Some 0)
    (cond (eqb (length rest) 1) None
    (cond (ltb 10 (length rest)) None (numeral_of (filled_up (drop 1 rest)))))

-- seconds and nanoseconds, where both are numbers
abbrev pub together : Option ℕ → Option ℕ → Option Plain
together None nanos = None
together (Some s) None = None
together (Some s) (Some n) = Some (record { seconds = s; nanos = n })

-- a word without a sign: what stands before the first dot (46), and what stands from there on
unfoldable pub plain_of : List ℕ → Option Plain
plain_of word = let dot = length (until_byte 46 word) in together (numeral_of (take dot word)) (nanos_after (drop dot word))

-- so much after 1970 began, where the seconds are below 2^63
unfoldable pub since_it : Option Plain → Option Moment
since_it None = None
since_it (Some p) = cond (ltb 0x7fff_ffff_ffff_ffff p.seconds) None (Some (Unix (pos p.seconds) p.nanos))

-- so much before: -1.5 is half a second after the second -2
unfoldable pub before_it : Option Plain → Option Moment
before_it None = None
before_it (Some p) =
    cond (ltb 0x7fff_ffff_ffff_ffff p.seconds) None
    (cond (ltb 0 p.nanos) (Some (Unix (negsuc p.seconds) (1_000_000_000 - p.nanos))) (Some (Unix (neg_ℤ (pos p.seconds)) 0)))

-- the Unix time of a word, by its sign (45 is a minus)
unfoldable pub seconds_in : List ℕ → Option Moment
seconds_in [] = None
seconds_in (c ∷ word) = cond (eqb c 45) (before_it (plain_of word)) (since_it (plain_of (c ∷ word)))
