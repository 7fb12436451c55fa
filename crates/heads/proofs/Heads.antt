-- What the code answers of each front is what Heads.antt says of it; and a front lies within what it stands in.
use mathlib.Core.Path.{◌≡◌, refl, ap, sym, ◌∙◌, subst}
use mathlib.Core.Bool.{true}
use mathlib.Core.List.{List, [], ◌∷◌}
use Prim.Native.Nat.{ℕ, ◌+◌, ◌-◌, ◌%◌, ◌<◌, ◌≤◌}
use native.Mathlib.Nat.{sub-zero}
use native.Mathlib.Omega.{arith}
use borrow.Author.Tests.{le-leb, lt-leb, eq-eqb, ne_eqb}
use lib.Dec.{leb}
use lib.ListN.{length, get_or, take, drop, length-drop, length-take}
use Rattle.wire.specs.Limits.{longest_framed}
use Rattle.wire.specs.Number.{number}
use Rattle.wire.proofs.Choices.{by-test, by-eq, by_le}
use Rattle.wire.proofs.Parts.{tail}
use Rattle.utf8.specs.Lead.{lead_of}
use Rattle.utf8.specs.Derive.{utf8}
use Rattle.utf8.proofs.Chars.{lead-within}
use Rattle.node.specs.Tags.{bundle_kind}
use Rattle.node.specs.declared.record.Item.{Item}
use Rattle.heads.specs.Heads.{tags_in, size_of, prefix_of, length_in, length_of, bundle_item}
use Rattle.heads.specs.Results.{Cuts, ElementSize, Length, Odd, Over, Waiting}
use Rattle.std.specs.Prelude.{None, Some}
use Rattle.heads.specs.declared.Prefix.{Prefix}
use Rattle.heads.specs.declared.Prefix.TheVariants as prefix

-- a bundle's own numbers are its time tag and its start
pub time-tag : {a b : ℕ} (start : ℕ) (l : List ℕ) → a ≡ number 4 l → b ≡ number 4 (drop 4 l)
    → ◌≡◌ {A = Item} (record { kind = bundle_kind; a = a; b = b; start = start }) (bundle_item start l)
time-tag start l p q = rw (p, q)

-- ---- the size of an element

-- the size and its bytes lie in m bytes
abbrev pub SizeIn : ℕ → ElementSize → Type 0
SizeIn m (Some n) = 4 + n ≤ m
SizeIn m None = Unit {0}

-- an element lies in what it is read from
pub size-within : (l : List ℕ) → SizeIn (length l) (size_of l)
unfolding size_of
size-within l =
    by_le (SizeIn (length l)) 4 (length l) (λ h. by_le (SizeIn (length l)) (number 4 l) (length l - 4) (λ g. omega arith) (λ g. tt))
    (λ h. tt)

-- so many bytes follow the size
pub size_in : {n : ℕ} (l : List ℕ) → Some n ≡ size_of l → 4 + n ≤ length l
size_in l e = subst (SizeIn (length l)) (sym e) (size-within l)

module _ (l : List ℕ) where
  -- fewer than 4 bytes are no size
  pub size-short : length l < 4 → None ≡ size_of l
  unfolding size_of
  size-short h = rw (size_of, lt-leb 4 (length l) h)

  -- a size beyond what follows it
  pub size-past : {n : ℕ} → 4 ≤ length l → n ≡ number 4 l → length l - 4 < n → None ≡ size_of l
  unfolding size_of
  size-past {n} h e g = rw (size_of, le-leb 4 (length l) h, ← e, lt-leb n (length l - 4) g)

  -- a size within what follows it
  pub size_holds : {n : ℕ} → 4 ≤ length l → n ≡ number 4 l → n ≤ length l - 4 → Some n ≡ size_of l
  unfolding size_of
  size_holds {n} h e g = rw (size_of, le-leb 4 (length l) h, ← e, le-leb n (length l - 4) g)

-- the part from 4 to 4 + n
pub part-4 : (l : List ℕ) (n : ℕ) → take (4 + n - 4) (drop 4 l) ≡ take n (drop 4 l)
part-4 l n = let e : 4 + n - 4 ≡ n = omega arith in rw e

-- ---- the tags of a type text

-- an empty type text has no tags
pub no-types : (t : List ℕ) → length t ≡ 0 → t ≡ tags_in t
no-types [] h = refl
no-types (x ∷ t) h = absurd (omega arith)

module _ {n : ℕ} (t : List ℕ) (h : length t ≡ 0 → ⊥) (e : n ≡ lead_of (get_or t 0 0)) where
  -- the first character lies in its text
  pub first-in : utf8 t ≡ true → n ≤ length t
  first-in u = let w : lead_of (get_or t 0 0) ≤ length t = lead-within t u (omega arith) in rw e w

-- a comma is a character of one byte
pub comma-leads : (t : List ℕ) → get_or t 0 0 ≡ 44 → 1 ≡ lead_of (get_or t 0 0)
comma-leads t e = ap lead_of (sym e)

-- what follows the first character is the tags
pub first-skipped : {n : ℕ} (t : List ℕ) → (length t ≡ 0 → ⊥) → n ≡ lead_of (get_or t 0 0) → take (length t - n) (drop n t) ≡ tags_in t
first-skipped [] h e = absurd (h refl)
first-skipped {n} (x ∷ t) h e = tail (x ∷ t) n ∙ ap (λ (k : ℕ). drop k (x ∷ t)) e

-- the tags of `&l[0..n]`
pub types-tags : {tags : List ℕ} (l : List ℕ) (n : ℕ) → tags ≡ tags_in (take (n - 0) (drop 0 l)) → tags ≡ tags_in (take n l)
types-tags l n e = rw sub-zero at e

-- there are no more tags than bytes of type text
pub tags-few : (t : List ℕ) → length (tags_in t) ≤ length t
tags-few [] = omega arith
tags-few (x ∷ t) = omega (arith, length-drop (lead_of x) (x ∷ t))

-- there are no more tags than bytes of type text, and no more data than bytes after it
pub args_fit : {tags : List ℕ} (l : List ℕ) (n used : ℕ) → tags ≡ tags_in (take (n - 0) (drop 0 l))
    → (length tags ≤ n) × (length (take (length l - used) (drop used l)) ≡ length l - used)
args_fit {tags} l n used e =
    let t : tags ≡ tags_in (take n l) = types-tags l n e in
    (rw t (omega (arith, tags-few (take n l), length-take n l)), rw tail (length-drop used l))

-- ---- the prefix of a frame

-- a prefix that is all there lies in m bytes
abbrev pub PrefixIn : ℕ → Prefix → Type 0
PrefixIn m prefix.Ready = 4 ≤ m
PrefixIn m prefix.Waiting = Unit {0}
PrefixIn m prefix.RunsOut = Unit {0}

-- a frame's prefix lies in it
pub prefix-within : (l : List ℕ) → PrefixIn (length l) (prefix_of l)
unfolding prefix_of
prefix-within l =
    by_le (PrefixIn (length l)) 4 (length l) (λ h. by-test (PrefixIn (length l)) (leb (number 4 l) (length l)) (λ _. h) (λ _. tt))
    (λ h. tt)

-- a frame that is ready has 4 bytes of prefix
pub prefix-in : (l : List ℕ) → prefix.Ready ≡ prefix_of l → 4 ≤ length l
prefix-in l e = subst (PrefixIn (length l)) (sym e) (prefix-within l)

module _ (l : List ℕ) where
  -- fewer than 4 bytes are no prefix
  pub prefix-short : length l < 4 → prefix.RunsOut ≡ prefix_of l
  unfolding prefix_of
  prefix-short h = rw (prefix_of, lt-leb 4 (length l) h)

  -- a length over that of the input waits
  pub prefix-waits : {n : ℕ} → 4 ≤ length l → n ≡ number 4 l → length l < n → prefix.Waiting ≡ prefix_of l
  unfolding prefix_of
  prefix-waits {n} h e g = rw (prefix_of, le-leb 4 (length l) h, ← e, lt-leb n (length l) g)

  -- any other length is ready
  pub prefix-ready : {n : ℕ} → 4 ≤ length l → n ≡ number 4 l → n ≤ length l → prefix.Ready ≡ prefix_of l
  unfolding prefix_of
  prefix-ready {n} h e g = rw (prefix_of, le-leb 4 (length l) h, ← e, le-leb n (length l) g)

-- ---- the length of a frame of edition 2

-- a frame that is all there lies in m bytes, and is not too long
pub record CutIn (m n : ℕ) : Type 0 where
  pub fits : 4 + n ≤ m
  pub short : n ≤ longest_framed
  pub fours : n % 4 ≡ 0

abbrev pub LengthIn : ℕ → Length → Type 0
LengthIn m (Cuts n) = CutIn m n
LengthIn m Waiting = Unit {0}
LengthIn m Over = 4 ≤ m
LengthIn m Odd = 4 ≤ m

-- a frame of edition 2 lies in what it is read from
pub length-within : (l : List ℕ) → LengthIn (length l) (length_of l)
unfolding length_of
length-within l =
    by_le (LengthIn (length l)) 4 (length l)
    (λ h. by_le (LengthIn (length l)) (number 4 l) longest_framed
    (λ g. by-eq (LengthIn (length l)) (number 4 l % 4) 0
    (λ e. by_le (LengthIn (length l)) (number 4 l) (length l - 4) (λ f. record { fits = omega arith; short = g; fours = e }) (λ f. tt))
    (λ e. h))
    (λ g. h))
    (λ h. tt)

-- so many bytes follow the prefix
pub length-in : {n : ℕ} (l : List ℕ) → Cuts n ≡ length_of l → CutIn (length l) n
length-in l e = subst (LengthIn (length l)) (sym e) (length-within l)

module _ (l : List ℕ) where
  -- fewer than 4 bytes wait
  pub length-short : length l < 4 → Waiting ≡ length_of l
  unfolding length_of
  length-short h = rw (length_of, lt-leb 4 (length l) h)

  -- from 4 bytes on the length is judged
  pub length-known : {n : ℕ} {r : Length} → 4 ≤ length l → n ≡ number 4 l → r ≡ length_in (length l - 4) n → r ≡ length_of l
  unfolding length_of
  length-known {n} {r} h e w = rw (length_of, le-leb 4 (length l) h, ← e) w

module _ (there : ℕ) {n : ℕ} where
  -- a length over the limit
  pub length_over : longest_framed < n → Over ≡ length_in there n
  length_over h = rw (lt-leb n longest_framed h)

  -- a length that is no multiple of 4
  pub length-odd : n ≤ longest_framed → (n % 4 ≡ 0 → ⊥) → Odd ≡ length_in there n
  length-odd h e = rw (le-leb n longest_framed h, ne_eqb (n % 4) 0 e)

  -- a length beyond what follows it
  pub length-past : n ≤ longest_framed → n % 4 ≡ 0 → there < n → Waiting ≡ length_in there n
  length-past h e g = rw (le-leb n longest_framed h, eq-eqb (n % 4) 0 e, lt-leb n there g)

  -- a length within what follows it
  pub length-cuts : n ≤ longest_framed → n % 4 ≡ 0 → n ≤ there → Cuts n ≡ length_in there n
  length-cuts h e g = rw (le-leb n longest_framed h, eq-eqb (n % 4) 0 e, le-leb n there g)
