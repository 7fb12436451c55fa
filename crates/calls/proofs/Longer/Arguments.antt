-- Bytes appended to a text or to a message's data: what was accepted is read as it was, and so is a fault that they cannot mend.
use mathlib.Core.Path.{◌≡◌, refl}
use mathlib.Core.Bool.{cond}
use mathlib.Core.List.{List, [], ◌∷◌, ◌++◌}
use Prim.Native.Nat.{ℕ, ◌+◌, ◌<◌, ◌≤◌}
use native.Mathlib.Omega.{arith}
use borrow.Author.Tests.{lt-ltb, le-leb, ltb-true}
use lib.Dec.{ltb}
use lib.ListN.{length, take, drop, length-append, length-drop}
use lib.Seq.{take-append-le, drop-append-le}
use Rattle.refusal.specs.declared.Fault.TheVariants.{NotScalar}
use Rattle.wire.specs.Number.{number}
use Rattle.utf8.specs.Derive.{utf8}
use Rattle.node.specs.Forest.{Forest, nil, snoc}
use Rattle.node.specs.Tags.{sort_of, is_scalar}
use Rattle.node.specs.declared.tags.Class.{Class}
use Rattle.node.specs.declared.tags.Class.TheVariants.{Four, Eight, Bare, Text as String, Blob, Scalar, Unknown}
use Rattle.node.specs.declared.tags.Sort.{Sort}
use Rattle.node.specs.declared.tags.Sort.TheVariants.{Opens, Closes, Leaf}
use Rattle.text.specs.Text.{until_nul, reach, read_text, fault_in}
use Rattle.argument.specs.Results.{Arg, Given}
use Rattle.std.specs.Prelude.{Err, Ok}
use Rattle.text.specs.Results.{Found, Text}
use Rattle.text.specs.declared.Lack.TheVariants.{Utf8}
use Rattle.argument.specs.Argument.{arg_item, having, text_arg, read_arg}
use Rattle.arguments.specs.Arguments.{Args, refused, args, later, arg_taken, array_item, Open, waits, act, read_tags, read_args}
use Rattle.refusal.specs.declared.Fault.TheVariants.{Short}
use Rattle.refusal.specs.declared.Field.{Field}
use Rattle.refusal.specs.declared.Field.TheVariants.{Data, Padding}
use Rattle.calls.specs.Words.{Mendable}
use Rattle.wire.proofs.Choices.{by-test, by_le}
use Rattle.text.proofs.Nuls.{nul-longer}
use Rattle.argument.proofs.Within.{given-within}

-- a text that was found stays, and so does a fault that no bytes mend
abbrev pub KeptText : Text → Text → Type 0
KeptText (Ok text) t = t ≡ Found text.length text.used
KeptText (Err lack) t = (field : Field) (p : ℕ) → (Mendable (fault_in field p lack) → ⊥) → t ≡ Err lack

-- so does an argument
abbrev KeptArg : Arg → Arg → Type 0
KeptArg (Ok given) x = x ≡ Given given.item given.used
KeptArg (Err k) x = (Mendable k → ⊥) → x ≡ Err k

-- so do arguments
abbrev pub KeptArgs : Args → Args → Type 0
KeptArgs (refused k) x = (Mendable k → ⊥) → x ≡ refused k
KeptArgs (args f used) x = x ≡ args f used

module _ (more : List ℕ) where
  -- ---- numbers and texts

  -- a number in the first n bytes is the same
  pub number-longer : (n : ℕ) (l : List ℕ) → n ≤ length l → number n (l ++ more) ≡ number n l
  unfolding number
  number-longer n l h = rw (take-append-le n l more h)

  same_text : (t : Text) → KeptText t t
  same_text (Ok text) = refl
  same_text (Err lack) = λ field p s. refl

  -- a text is found again, or lacks UTF-8 again
  pub text-longer : (l : List ℕ) (p : ℕ) → KeptText (read_text l p) (read_text (l ++ more) p)
  unfolding read_text
  text-longer l p =
      let n = until_nul l in
      by-test (λ t. KeptText t (read_text (l ++ more) p)) (ltb n (length l))
      (λ h. by_le (λ t. KeptText t (read_text (l ++ more) p)) (reach p (n + 1)) (length l)
      (λ k. let j : n < length l = ltb-true n (length l) h in
      let nul = lt-ltb n (length (l ++ more)) (omega (arith, length-append l more)) in
      let padding = le-leb (reach p (n + 1)) (length (l ++ more)) (omega (arith, length-append l more)) in
      rw (read_text, nul-longer l more j, nul, padding, take-append-le n l more (omega arith))
      (same_text (cond (utf8 (take n l)) (Found n (reach p (n + 1))) (Err Utf8))))
      (λ k field q s. absurd (s tt)))
      (λ h field q s. absurd (s tt))

  -- ---- one argument

  having-longer : (n : ℕ) (l : List ℕ) (field : Field) (at : ℕ) (x y : Arg) → (n ≤ length l → KeptArg x y)
      → KeptArg (having n l (Short field at) x) (having n (l ++ more) (Short field at) y)
  having-longer n l field at x y h =
      by_le (λ z. KeptArg z (having n (l ++ more) (Short field at) y)) n (length l)
      (λ g. rw (le-leb n (length (l ++ more)) (omega (arith, length-append l more))) (h g)) (λ g s. absurd (s tt))

  text-arg-longer : (tag offset p : ℕ) (t t' : Text) → KeptText t t' → KeptArg (text_arg tag offset p t) (text_arg tag offset p t')
  text-arg-longer tag offset p (Ok text) t' e = rw e
  text-arg-longer tag offset p (Err lack) t' e = λ s. rw (e Data p s)

  same-arg : (x : Arg) → KeptArg x x
  same-arg (Ok given) = refl
  same-arg (Err k) = λ s. refl

  arg-longer : (tag : ℕ) (class : Class) (base : ℕ) (l : List ℕ) (p : ℕ)
      → KeptArg (read_arg tag class base l p) (read_arg tag class base (l ++ more) p)
  unfolding read_arg
  arg-longer tag Four base l p = having-longer 4 l Data p _ _ (λ h. rw (number-longer 4 l h))
  arg-longer tag Eight base l p =
      having-longer 8 l Data p _ _ (λ h. let h4 : 4 ≤ length l = omega arith in
      rw (number-longer 4 l h4, drop-append-le 4 l more h4, number-longer 4 (drop 4 l) (omega (arith, length-drop 4 l))))
  arg-longer tag Bare base l p = refl
  arg-longer tag String base l p = text-arg-longer tag (base + p) p (read_text l p) (read_text (l ++ more) p) (text-longer l p)
  arg-longer tag Blob base l p =
      let n = number 4 l in
      let padded = having (reach p (4 + n)) l (Short Padding (p + (4 + n)))
      (Given (arg_item tag (base + p) (base + (p + 4)) n) (reach p (4 + n))) in
      having-longer 4 l Data p (having (4 + n) l (Short Data p) padded) _
      (λ h. rw (number-longer 4 l h)
      (having-longer (4 + n) l Data p padded _ (λ j. having-longer (reach p (4 + n)) l Padding (p + (4 + n)) _ _ (λ k. refl))))
  arg-longer tag Scalar base l p =
      let n = number 4 l in
      having-longer 4 l Data p _ _
      (λ h. rw (number-longer 4 l h) (same-arg (cond (is_scalar n) (Given (arg_item tag (base + p) n 0) 4) (Err NotScalar))))
  arg-longer tag Unknown base l p = λ s. refl

  -- ---- arguments

  later-longer : (n : ℕ) (x y : Args) → KeptArgs x y → KeptArgs (later n x) (later n y)
  later-longer n (refused k) y e = λ s. rw (e s)
  later-longer n (args f used) y e = rw e

  act-longer : (s : Sort) (go : List ℕ → ℕ → Forest → List Open → Args) (base tag : ℕ) (l : List ℕ) (p : ℕ) (frame : Forest)
      (below : List Open)
      → ((m : List ℕ) (q : ℕ) (f : Forest) (b : List Open) → KeptArgs (go m q f b) (go (m ++ more) q f b))
      → KeptArgs (act s go base tag l p frame below) (act s go base tag (l ++ more) p frame below)
  act-longer Opens go base tag l p frame below h = h l p nil (waits frame (array_item (base + p)) ∷ below)
  act-longer Closes go base tag l p frame [] h = λ s. refl
  act-longer Closes go base tag l p frame (waits outer item ∷ below) h = h l p (snoc outer item frame) below
  act-longer (Leaf class) go base tag l p frame below h = by-arg (read_arg tag class base l p) (read_arg tag class base (l ++ more) p) refl
      (arg-longer tag class base l p)
    where
      by-arg : (x y : Arg) → x ≡ read_arg tag class base l p → KeptArg x y
          → KeptArgs (arg_taken (λ m q f. go m q f below) l p frame x) (arg_taken (λ m q f. go m q f below) (l ++ more) p frame y)
      by-arg (Err k) y e s = λ m. rw (s m)
      by-arg (Ok given) y e s =
          let f = snoc frame given.item nil in
          rw (s, drop-append-le given.used l more (given-within tag class base l p e))
          (later-longer given.used (go (drop given.used l) (p + given.used) f below)
          (go (drop given.used l ++ more) (p + given.used) f below)
          (h (drop given.used l) (p + given.used) f below))

  read-longer : (base : ℕ) (tags l : List ℕ) (p : ℕ) (frame : Forest) (below : List Open)
      → KeptArgs (read_tags base tags l p frame below) (read_tags base tags (l ++ more) p frame below)
  unfolding read_tags
  read-longer base [] l p frame below = refl
  read-longer base (tag ∷ tags) l p frame below = act-longer (sort_of tag) _ base tag l p frame below
      (λ m q f b. read-longer base tags m q f b)

  -- arguments are read again, or refused again
  pub args-longer : (base : ℕ) (tags l : List ℕ) (p : ℕ) → KeptArgs (read_args base tags l p) (read_args base tags (l ++ more) p)
  args-longer base tags l p = read-longer base tags l p nil []
