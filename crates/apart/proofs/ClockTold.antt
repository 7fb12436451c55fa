-- Demand 1 of the clock conversions, and what they tell is read back.
use mathlib.Core.Path.{◌≡◌, refl, ap, sym, ◌∙◌}
use mathlib.Core.Bool.{false≢true}
use mathlib.Core.List.{List, [], ◌∷◌}
use Prim.Native.Nat.{ℕ, ◌+◌, ◌-◌, ◌/◌, ◌%◌, ◌^◌, ◌<◌}
use native.Mathlib.Omega.{arith}
use lib.IntN.{ℤ, pos}
use borrow.Author.Tests.{lt-ltb}
use Rattle.clock.specs.Clock.{epoch, since1900, rounded_of, seconds_of, tag_for, unix_for}
use Rattle.clock.specs.Shift.{signed_of, bits_of}
use Rattle.clock.specs.Promises.{TagCase}
use Rattle.clock.specs.declared.Rule.{Rule}
use Rattle.clock.specs.declared.Rule.TheVariants.{A, B}
use Rattle.clock.specs.declared.OutOfRange.TheVariants.{Nanoseconds, TooLate, TooEarly}
use Rattle.clock.specs.Results.{Tagged, Unix}
use Rattle.clock.proofs.Nearest.{no_carry}
use Rattle.clock.proofs.Times.{seconds-below}
use Rattle.clock.proofs.Shifts.{bits_back}
use Rattle.clock.proofs.Domains.{case-of, TimeCase, time-of}
use Rattle.told.specs.Times.{tagged_number, tagged_beside, unix_number, unix_beside}
use Rattle.apart.specs.CContracts.{CEnds, told_an_answer, told_a_refusal, CDemand}
use Rattle.apart.specs.Boundary.{osc_tag, osc_unix, osc_shift, osc_difference, c_contract_of, CMeets}
use Rattle.apart.specs.ReadBack.{TagBack, tag_there, no_tag, TagTold, UnixBack, time_there, no_time, UnixTold, DifferenceTold}
use Rattle.apart.proofs.Contracts.{ends_as, alone, some_number, numbers-settled}

-- ---- to a tag

module _ (rule : Rule) (z : ℤ) (n : ℕ) where
  tag-ends : {y : ℤ} {m : ℕ} {r : Tagged} → TagCase rule y m r
      → CEnds (c_contract_of (osc_tag rule z n)) (tagged_number r) (tagged_beside r) []
  tag-ends (TagCase.nanoseconds h) = told_a_refusal 26 refl refl (alone 26) refl
  tag-ends (TagCase.late h l) = told_a_refusal 27 refl refl (alone 27) refl
  tag-ends (TagCase.early h) = told_a_refusal 28 refl refl (alone 28) refl
  tag-ends (TagCase.has_tag {s} {n = m} h l) = told_an_answer refl (omega (arith, no_carry m h))

  pub tag-demand : CDemand (c_contract_of (osc_tag rule z n))
  tag-demand =
      record {
        settled = numbers-settled;
        ends = λ told more after t. ends_as t.0 t.1 t.2 (tag-ends (case-of rule z n));
        no_answer = λ m e h. omega (arith, some_number (26 ∷ 27 ∷ 28 ∷ []) refl m e, h);
        no_stop = λ told more s a b. s;
        no_refusal = λ told more m s e q. s;
      }

tag_back : {rule : Rule} {y : ℤ} {m : ℕ} {r : Tagged} → TagCase rule y m r → TagBack r (tagged_number r) (tagged_beside r)
tag_back (TagCase.nanoseconds h) = no_tag Nanoseconds refl refl refl
tag_back (TagCase.late h l) = no_tag TooLate refl refl refl
tag_back (TagCase.early h) = no_tag TooEarly refl refl refl
tag_back (TagCase.has_tag h l) = tag_there refl refl

pub tag_told : TagTold
tag_told rule z n told tag after t = rw (t.0, t.1) (tag_back (case-of rule z n))

-- ---- to Unix time

module _ (rule : Rule) (tag : ℕ) (fits : tag < 2 ^ 64) where
  -- seconds have far fewer than 63 bits
  seconds-low : (s : ℕ) → s + epoch ≡ seconds_of rule tag → s < 2 ^ 63
  seconds-low s q = omega (arith, seconds-below rule tag (since1900 rule (tag / 2 ^ 32)) (rounded_of tag) refl refl fits, q)

  unix-ends : {r : Unix} → TimeCase rule tag r → CEnds (c_contract_of (osc_unix rule tag fits)) (unix_number r) (bits_of (unix_beside r)) []
  unix-ends (TimeCase.before-1970 h) = told_a_refusal 28 refl refl (alone 28) refl
  unix-ends (TimeCase.since-1970 {s} q) = told_an_answer (omega arith) (seconds-low s q)

  pub unix-demand : CDemand (c_contract_of (osc_unix rule tag fits))
  unix-demand =
      record {
        settled = numbers-settled;
        ends = λ told more after t. ends_as t.0 t.1 t.2 (unix-ends (time-of rule tag));
        no_answer = λ m e h. omega (arith, some_number (28 ∷ []) refl m e, h);
        no_stop = λ told more s a b. s;
        no_refusal = λ told more m s e q. s;
      }

  unix-back : {r : Unix} → TimeCase rule tag r → UnixBack r (unix_number r) (bits_of (unix_beside r))
  unix-back (TimeCase.before-1970 h) = no_time refl refl refl
  unix-back (TimeCase.since-1970 {s} q) =
      let n = rounded_of tag % 1_000_000_000 in
      let low : n % 0x1_0000_0000 ≡ n = omega arith in
      let signed : signed_of s ≡ pos s = rw (lt-ltb s (2 ^ 63) (seconds-low s q)) in
      time_there (omega arith) (cc (low, signed))

pub unix_told : UnixTold
unix_told rule tag fits told seconds after t = rw (t.0, t.1) (unix-back rule tag fits (time-of rule tag))

-- ---- shifts and differences

pub shift-demand : (tag by : ℕ) → CDemand (c_contract_of (osc_shift tag by))
shift-demand tag by =
    record {
      settled = numbers-settled;
      ends = λ told more after t. ends_as t.0 t.1 t.2 (told_an_answer (omega arith) refl);
      no_answer = λ m e h. absurd (false≢true e);
      no_stop = λ told more s a b. s;
      no_refusal = λ told more m s e q. s;
    }

pub difference-demand : (tag old : ℕ) → CDemand (c_contract_of (osc_difference tag old))
difference-demand tag old =
    record {
      settled = numbers-settled;
      ends =
          λ told more after t.
          ends_as t.0 t.1 t.2 (told_an_answer (omega (arith, bits_back ((tag + (2 ^ 64 - old)) % 2 ^ 64) (omega arith))) refl);
      no_answer = λ m e h. absurd (false≢true e);
      no_stop = λ told more s a b. s;
      no_refusal = λ told more m s e q. s;
    }

pub difference_told : DifferenceTold
difference_told tag old told more after t =
    ap signed_of (t.0 ∙ bits_back ((tag + (2 ^ 64 - old)) % 2 ^ 64) (omega arith))

-- ---- examples, computed

-- the immediate tag (0, 1): 28 by rule A, and by rule B the first second after the wrap
immediate-a : CMeets (osc_unix A 1 (omega arith)) 0x1C00_0000_0000_0000 0 []
unfolding unix_for
immediate-a = (refl, refl, refl)

immediate-b : CMeets (osc_unix B 1 (omega arith)) 0 2_085_978_496 []
unfolding unix_for
immediate-b = (refl, refl, refl)

-- the second after rule A's last: 27, and a tag by rule B
after-a : CMeets (osc_tag A (pos 2_085_978_496) 1) 0x1B00_0000_0000_0000 0 []
unfolding tag_for
after-a = (refl, refl, refl)

after-b : CMeets (osc_tag B (pos 2_085_978_496) 1) 0 4 []
unfolding tag_for
after-b = (refl, refl, refl)

-- tags 2^63 apart differ by the lowest number, whose 64 bits are 2^63
opposite : CMeets (osc_difference 0 (2 ^ 63)) (2 ^ 63) 0 []
opposite = (refl, refl, refl)
