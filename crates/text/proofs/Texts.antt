-- The four answers of `read_text`, each by the tests that lead to it, and one that was given before; n is where the text ends.
use mathlib.Core.Path.{◌≡◌, sym, ◌∙◌}
use mathlib.Core.Bool.{Bool, true, false}
use mathlib.Core.List.{List}
use Prim.Native.Nat.{ℕ, ◌+◌, ◌-◌, ◌*◌, ◌/◌, ◌<◌, ◌≤◌}
use native.Mathlib.Nat.{add-zero, add-sub_cancel_left}
use native.Mathlib.Omega.{arith}
use borrow.Author.Tests.{lt-ltb, le-ltb, le-leb, lt-leb}
use lib.ListN.{length, take, drop, get_or}
use Rattle.wire.proofs.Parts.{tail}
use Rattle.utf8.specs.Utf8.{Octets, Decides}
use Rattle.utf8.specs.Derive.{utf8}
use Rattle.text.specs.Text.{until_nul, reach, read_text}
use Rattle.std.specs.Prelude.{Err}
use Rattle.text.specs.Results.{Found}
use Rattle.text.specs.declared.Lack.TheVariants.{Nul, Padding, Utf8}
use Rattle.text.specs.CodeFound.{TextFound}
use Rattle.text.specs.CodePlain.{special, count_to}
use Rattle.utf8.proofs.Grammar.{octets, same_answer}
use Rattle.text.proofs.Nuls.{nul-here}
use Rattle.text.proofs.Passing.{nul-after, utf8-after}
use Rattle.text.proofs.Within.{found-ends}

-- the first NUL, from the first p bytes and the m after them
pub nul-at : (l : List ℕ) (p m : ℕ) → p ≡ count_to special l → m ≡ until_nul (take (length l - p) (drop p l)) → p + m ≡ until_nul l
nul-at l p m e f =
    let g : m ≡ until_nul (drop (count_to special l) l) = rw (tail, e) at f in
    omega (arith, nul-after l)

-- a NUL after the bytes that are not special is the first
nul-next : (l : List ℕ) (n : ℕ) → n ≡ count_to special l → n < length l → get_or l n 0 ≡ 0 → n ≡ until_nul l
nul-next l n e h z =
    let k : until_nul (drop (count_to special l) l) ≡ 0 = rw e at (nul-here l n h z) in
    omega (arith, nul-after l)

-- bytes that are not special need no test
no_test : (l : List ℕ) (n : ℕ) → n ≡ count_to special l → utf8 (take n l) ≡ true
no_test l n e = rw (e, ← add-zero (count_to special l)) (utf8-after l 0)

-- what `is_utf8` answers of the rest of a text is true of all of it
pub judged : (l : List ℕ) (p m : ℕ) {r : Bool} → p ≡ count_to special l → Decides r (Octets (take (p + m - p) (drop p l)))
    → utf8 (take (p + m) l) ≡ r
judged l p m e d =
    let f : utf8 (take (p + m) l) ≡ utf8 (take m (drop p l)) = rw e (utf8-after l m) in
    f ∙ same_answer (octets (take m (drop p l))) (rw add-sub_cancel_left at d)

module _ (l : List ℕ) (p n : ℕ) (e : n ≡ until_nul l) where
  -- no NUL: every byte stands before it
  pub no_nul : n ≡ length l → Err Nul ≡ read_text l p
  unfolding read_text
  no_nul h = rw (← e, le-ltb n (length l) (omega arith))

  module _ (used : ℕ) (g : used ≡ reach p (n + 1)) where
    -- a NUL, and fewer bytes than the padding takes
    pub no_padding : n < length l → length l < used → Err (Padding (p + n + 1)) ≡ read_text l p
    unfolding read_text
    no_padding h k = rw (← e, lt-ltb n (length l) h, lt-leb (reach p (n + 1)) (length l) (omega arith))

    -- a text
    pub whole : used ≤ length l → utf8 (take n l) ≡ true → Found n used ≡ read_text l p
    unfolding read_text
    whole k u = rw (g, ← e, lt-ltb n (length l) (omega arith), le-leb (reach p (n + 1)) (length l) (omega arith), u)

    -- all bytes are there, and are not UTF-8
    pub not-utf8 : used ≤ length l → utf8 (take n l) ≡ false → Err Utf8 ≡ read_text l p
    unfolding read_text
    not-utf8 k u = rw (← e, lt-ltb n (length l) (omega arith), le-leb (reach p (n + 1)) (length l) (omega arith), u)

    -- a text that was found before is the one that ends here
    pub found-again : TextFound l p → read_text l p ≡ Found n used
    found-again (m, taken, f) =
        let ends : (m ≡ until_nul l) × (taken ≡ reach p (m + 1)) = found-ends l p (sym f) in
        let same : m ≡ n = omega arith in
        let all : taken ≡ used = omega arith in
        cc

  -- a text, by its reach as the code computes it
  pub found : n < length l → (p + n + 4) / 4 * 4 - p ≤ length l → utf8 (take n l) ≡ true
      → Found n ((p + n + 4) / 4 * 4 - p) ≡ read_text l p
  found h k u = whole ((p + n + 4) / 4 * 4 - p) (omega arith) k u

-- a text with no special byte before its NUL
pub plain-found : (l : List ℕ) (p n used : ℕ) → n ≡ count_to special l → used ≡ reach p (n + 1) → used ≤ length l → get_or l n 0 ≡ 0
    → Found n used ≡ read_text l p
plain-found l p n used e g k z = whole l p n (nul-next l n e (omega arith) z) used g k (no_test l n e)
