-- The answers of `read_arg`, each by the tests that lead to it.
use mathlib.Core.Path.{◌≡◌, ap, sym, ◌∙◌}
use mathlib.Core.Bool.{true, false}
use mathlib.Core.List.{List}
use Prim.Native.Nat.{ℕ, ◌+◌, ◌-◌, ◌*◌, ◌/◌, ◌<◌, ◌≤◌}
use native.Mathlib.Omega.{arith}
use borrow.Author.Tests.{le-leb, lt-leb}
use lib.ListN.{length, drop}
use Rattle.refusal.specs.declared.Fault.{Fault}
use Rattle.refusal.specs.declared.Fault.TheVariants.{Short, NotScalar}
use Rattle.refusal.specs.declared.Field.TheVariants.{Data, Padding}
use Rattle.wire.specs.Number.{number}
use Rattle.node.specs.Tags.{is_scalar}
use Rattle.node.specs.declared.tags.Class.{Class}
use Rattle.node.specs.declared.tags.Class.TheVariants.{Four, Eight, Text as String, Blob, Scalar}
use Rattle.text.specs.Text.{reach, read_text, fault_in}
use Rattle.text.specs.declared.Lack.{Lack}
use Rattle.argument.specs.Results.{Arg, Given}
use Rattle.std.specs.Prelude.{Err}
use Rattle.text.specs.Results.{Found}
use Rattle.argument.specs.Argument.{read_arg, having, arg_item}

-- the reach of a blob, as the code computes it
reached : (p n : ℕ) → (p + (4 + n) + 3) / 4 * 4 - p ≡ reach p (4 + n)
reached p n = omega arith

module _ (l : List ℕ) where
  there : (n : ℕ) (k : Fault) (x : Arg) → n ≤ length l → having n l k x ≡ x
  there n k x h = rw (le-leb n (length l) h)

  module _ (tag base p : ℕ) where
    -- an answer for the class that a match found
    pub of-class : {k class : Class} {r : Arg} → class ≡ k → r ≡ read_arg tag k base l p → r ≡ read_arg tag class base l p
    of-class e f = f ∙ ap (λ (c : Class). read_arg tag c base l p) (sym e)

    -- 4 bytes are the first field
    pub four-given : {x : ℕ} → 4 ≤ length l → x ≡ number 4 l → Given (arg_item tag (base + p) x 0) 4 ≡ read_arg tag Four base l p
    unfolding read_arg
    four-given h e = rw (e, there 4 (Short Data p) (Given (arg_item tag (base + p) (number 4 l) 0) 4) h)

    -- of 8 bytes the first field is the high half, the second the low half
    pub eight-given : {x y : ℕ} → 8 ≤ length l → x ≡ number 4 l → y ≡ number 4 (drop 4 l)
        → Given (arg_item tag (base + p) x y) 8 ≡ read_arg tag Eight base l p
    unfolding read_arg
    eight-given h e f = rw (e, f, there 8 (Short Data p) (Given (arg_item tag (base + p) (number 4 l) (number 4 (drop 4 l))) 8) h)

    -- fewer than 4 bytes are no scalar number
    pub scalar-short : length l < 4 → Err (Short Data p) ≡ read_arg tag Scalar base l p
    unfolding read_arg
    scalar-short h = rw (lt-leb 4 (length l) h)

    -- 4 bytes that are a scalar number are the first field
    pub scalar-given : {x : ℕ} → 4 ≤ length l → x ≡ number 4 l → is_scalar x ≡ true
        → Given (arg_item tag (base + p) x 0) 4 ≡ read_arg tag Scalar base l p
    unfolding read_arg
    scalar-given h e s = rw (le-leb 4 (length l) h, ← e, s)

    -- 4 bytes that are no scalar number are refused
    pub not_scalar : {x : ℕ} → 4 ≤ length l → x ≡ number 4 l → is_scalar x ≡ false → Err NotScalar ≡ read_arg tag Scalar base l p
    unfolding read_arg
    not_scalar h e s = rw (le-leb 4 (length l) h, ← e, s)

    -- a text that is found gives its range
    pub text-given : {n used : ℕ} → Found n used ≡ read_text l p
        → Given (arg_item tag (base + p) (base + p) n) used ≡ read_arg tag String base l p
    unfolding read_arg
    text-given e = rw (← e)

    -- a text that lacks something is refused by what it lacks
    pub text-lacks : {lack : Lack} {fault : Fault} → Err lack ≡ read_text l p → fault ≡ fault_in Data p lack
        → Err fault ≡ read_arg tag String base l p
    unfolding read_arg
    text-lacks e f = rw (f, ← e)

    -- a blob without a size is refused
    pub blob-short : length l < 4 → Err (Short Data p) ≡ read_arg tag Blob base l p
    unfolding read_arg
    blob-short h = rw (lt-leb 4 (length l) h)

    -- a blob whose bytes are not all there is refused
    pub blob-cut : {n : ℕ} → 4 ≤ length l → n ≡ number 4 l → length l < 4 + n → Err (Short Data p) ≡ read_arg tag Blob base l p
    unfolding read_arg
    blob-cut {n} h e k = rw (le-leb 4 (length l) h, ← e, lt-leb (4 + n) (length l) k)

    -- a blob whose padding is not all there is refused
    pub blob-lacks : {n : ℕ} → 4 ≤ length l → n ≡ number 4 l → 4 + n ≤ length l → length l < (p + (4 + n) + 3) / 4 * 4 - p
        → Err (Short Padding (p + (4 + n))) ≡ read_arg tag Blob base l p
    unfolding read_arg
    blob-lacks {n} h e j k =
        rw (le-leb 4 (length l) h, ← e, le-leb (4 + n) (length l) j, lt-leb (reach p (4 + n)) (length l) (rw reached at k))

    -- a blob that is all there gives its range
    pub blob-given : {n : ℕ} → 4 ≤ length l → n ≡ number 4 l → 4 + n ≤ length l → (p + (4 + n) + 3) / 4 * 4 - p ≤ length l
        → Given (arg_item tag (base + p + 4 - 4) (base + p + 4) n) ((p + (4 + n) + 3) / 4 * 4 - p) ≡ read_arg tag Blob base l p
    unfolding read_arg
    blob-given {n} h e j k =
        let t : base + p + 4 - 4 ≡ base + p = omega arith in
        let s : base + p + 4 ≡ base + (p + 4) = omega arith in
        rw (
          le-leb 4 (length l) h,
          ← e,
          le-leb (4 + n) (length l) j,
          le-leb (reach p (4 + n)) (length l) (rw reached at k),
          reached p n,
          t,
          s,
        )
