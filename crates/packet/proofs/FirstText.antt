-- What the code answers of a packet's first text is what FirstText.antt says of it; and that text lies within the packet.
use mathlib.Core.Path.{◌≡◌, refl, ap, sym, ◌∙◌, subst}
use mathlib.Core.Bool.{Bool, true, false}
use mathlib.Core.Logic.{⊎_elim}
use mathlib.Core.List.{List, [], ◌∷◌}
use Prim.Native.Nat.{ℕ, suc, ◌<◌, ◌≤◌}
use native.Mathlib.Omega.{arith}
use borrow.Author.Tests.{eq-eqb, ne_eqb}
use lib.Dec.{eqb}
use lib.ListN.{length, get_or, take, length-take}
use Rattle.refusal.specs.declared.Fault.{Fault}
use Rattle.refusal.specs.declared.Fault.TheVariants as faults
use Rattle.refusal.specs.declared.Field.TheVariants.{Address}
use Rattle.std.proofs.Common.{nat_eq}
use Rattle.std.proofs.lemmas.Bool.Decides.{Decides-eqb}
use Rattle.std.proofs.lemmas.Slice.Eq.{slice_eq-Decides}
use Rattle.std.specs.Cmp.Lexicographic.{pointwise}
use Rattle.wire.proofs.Choices.{by-test, is-or}
use Rattle.wire.proofs.Same.{is_same}
use Rattle.node.specs.Tags.{message_kind}
use Rattle.text.specs.CodeFound.{TextFound}
use Rattle.text.specs.Text.{read_text, fault_in}
use Rattle.packet.specs.Results.{Bundle, Message, Start}
use Rattle.std.specs.Prelude.{Err, Ok}
use Rattle.text.specs.Results.{Found, Text}
use Rattle.text.specs.declared.Lack.{Lack}
use Rattle.text.proofs.Within.{found_in}
use Rattle.packet.specs.CodeStart.{StartAccepted}
use Rattle.packet.specs.FirstText.{bundle_word, start_by, start_of}
use Rattle.wire.specs.Same.{same_bytes}

-- ---- what a packet starts with

module _ (l : List ℕ) (p : ℕ) where
  -- a packet of no bytes is refused
  pub start-empty : length l ≡ 0 → Err faults.Empty ≡ start_of l p
  unfolding start_of
  start-empty h = rw (eq-eqb (length l) 0 h)

  module _ (h : length l ≡ 0 → ⊥) where
    start-text : start_by l p (read_text l p) ≡ start_of l p
    unfolding start_of
    start-text = rw (start_of, ne_eqb (length l) 0 h)

    -- a first text that is lacking is the packet's refusal
    pub start-lacks : {k : Lack} → Err k ≡ read_text l p → Err (fault_in Address p k) ≡ start_of l p
    start-lacks e = ap (start_by l p) e ∙ start-text

    module _ {n used : ℕ} (e : Found n used ≡ read_text l p) where
      -- a text that a '/' leads is an address
      pub start-message : get_or l 0 0 ≡ message_kind → Message n used ≡ start_of l p
      start-message f = rw (← start-text, ← e, eq-eqb (get_or l 0 0) message_kind f)

      -- the text "#bundle" starts a bundle
      pub start-bundle : (get_or l 0 0 ≡ message_kind → ⊥) → same_bytes (take n l) bundle_word ≡ true → Bundle used ≡ start_of l p
      start-bundle f b = rw (← start-text, ← e, ne_eqb (get_or l 0 0) message_kind f, b)

      -- any other text is refused
      pub start-other : (get_or l 0 0 ≡ message_kind → ⊥) → same_bytes (take n l) bundle_word ≡ false → Err faults.BadStart ≡ start_of l p
      start-other f b = rw (← start-text, ← e, ne_eqb (get_or l 0 0) message_kind f, b)

  -- ---- the start of a packet that was accepted

  module _ (a : StartAccepted (start_of l p)) where
    not-refused : {k : Fault} → Err k ≡ start_of l p → ⊥
    not-refused e = subst StartAccepted (sym e) a

    -- it has a byte
    pub accepted-some : length l ≡ 0 → ⊥
    accepted-some h = not-refused (start-empty h)

    -- its first text was found
    pub accepted-text : TextFound l p
    accepted-text = by-text (read_text l p) refl
      where
        by-text : (t : Text) → t ≡ read_text l p → TextFound l p
        by-text (Ok text) e = (text.length, text.used, sym e)
        by-text (Err k) e = absurd (not-refused (start-lacks accepted-some e))

    -- where no '/' leads it, it is "#bundle"
    pub accepted-bundle : {n used : ℕ} → Found n used ≡ read_text l p → (get_or l 0 0 ≡ message_kind → ⊥) → Bundle used ≡ start_of l p
    accepted-bundle {n} {used} e f = by_word (same_bytes (take n l) bundle_word) refl
      where
        by_word : (b : Bool) → same_bytes (take n l) bundle_word ≡ b → Bundle used ≡ start_of l p
        by_word true w = start-bundle accepted-some e f w
        by_word false w = absurd (not-refused (start-other accepted-some e f w))

-- a first text has a byte at least, and lies in the m bytes of its packet
abbrev pub StartIn : ℕ → Start → Type 0
StartIn m (Message n used) = (n < used) × (used ≤ m)
StartIn m (Bundle used) = (0 < used) × (used ≤ m)
StartIn m (Err k) = Unit {0}

-- what a packet starts with lies in it
pub start-within : (l : List ℕ) (p : ℕ) → StartIn (length l) (start_of l p)
unfolding start_of
start-within l p = by-test (StartIn (length l)) (eqb (length l) 0) (λ _. tt) (λ _. by-found (read_text l p) refl)
  where
    by-found : (t : Text) → t ≡ read_text l p → StartIn (length l) (start_by l p t)
    by-found (Err k) e = tt
    by-found (Ok text) e =
        let w = found_in l p e in
        by-test (StartIn (length l)) (eqb (get_or l 0 0) message_kind) (λ _. (w.0, w.1))
        (λ _. by-test (StartIn (length l)) (same_bytes (take text.length l) bundle_word) (λ _. (omega arith, w.1)) (λ _. tt))

-- an address lies in its packet
pub message-start-in : {n used : ℕ} (l : List ℕ) (p : ℕ) → Message n used ≡ start_of l p → (n < used) × (used ≤ length l)
message-start-in l p e = subst (StartIn (length l)) (sym e) (start-within l p)

-- "#bundle" lies in its packet
pub bundle-start-in : {used : ℕ} (l : List ℕ) (p : ℕ) → Bundle used ≡ start_of l p → (0 < used) × (used ≤ length l)
bundle-start-in l p e = subst (StartIn (length l)) (sym e) (start-within l p)

-- the first text itself: a bundle's has 7 bytes
abbrev StartText : List ℕ → ℕ → Start → Type 0
StartText l p (Message n used) = Found n used ≡ read_text l p
StartText l p (Bundle used) = Found 7 used ≡ read_text l p
StartText l p (Err k) = Unit {0}

-- ---- two lists that are the same

-- lists of other lengths differ
pub other_length : (a b : List ℕ) → (length a ≡ length b → ⊥) → same_bytes a b ≡ false
other_length [] [] h = absurd (h refl)
other_length [] (y ∷ b) h = refl
other_length (x ∷ a) [] h = refl
other_length (x ∷ a) (y ∷ b) h = by-test (λ t. t ≡ false) (eqb x y) (λ _. other_length a b (λ e. h (ap suc e))) (λ _. refl)

-- lists that are the same are as long
same_long : (a b : List ℕ) → same_bytes a b ≡ true → length a ≡ length b
same_long a b e =
    ⊎_elim (λ (h : length a ≡ length b). h) (λ (h : length a ≡ length b → ⊥). absurd (true-false (sym e ∙ other_length a b h)))
    (is-or (length a) (length b))
  where
    true-false : true ≡ false → ⊥
    true-false z = let y : ◌≡◌ {A = ℕ} 0 1 = cc in omega arith

all-texts : (l : List ℕ) (p : ℕ) → StartText l p (start_of l p)
unfolding start_of
all-texts l p = by-test (StartText l p) (eqb (length l) 0) (λ _. tt) (λ _. by-found (read_text l p) refl)
  where
    by-found : (t : Text) → t ≡ read_text l p → StartText l p (start_by l p t)
    by-found (Err k) e = tt
    by-found (Ok text) e =
        by-test (StartText l p) (eqb (get_or l 0 0) message_kind) (λ _. e)
        (λ _. by-test (StartText l p) (same_bytes (take text.length l) bundle_word)
        (λ b. let w = found_in l p e in
        let m : text.length ≡ 7 = omega (arith, same_long (take text.length l) bundle_word b, length-take text.length l) in rw m at e)
        (λ _. tt))

-- the address of a message is a text that was found
pub message-text : {n used : ℕ} (l : List ℕ) (p : ℕ) → Message n used ≡ start_of l p → Found n used ≡ read_text l p
message-text l p e = subst (StartText l p) (sym e) (all-texts l p)

-- so is "#bundle"
pub bundle-text : {used : ℕ} (l : List ℕ) (p : ℕ) → Bundle used ≡ start_of l p → Found 7 used ≡ read_text l p
bundle-text l p e = subst (StartText l p) (sym e) (all-texts l p)

-- what `==` of a first text and "#bundle" answers
pub is_word : {r : Bool} (l w : List ℕ) → w ≡ bundle_word → r ≡ pointwise nat_eq l w → same_bytes l bundle_word ≡ r
is_word {r} l w e d = rw (← e) (sym (is_same r l w (slice_eq-Decides Decides-eqb l w r d)))
