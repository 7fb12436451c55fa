-- A text that is found and an argument that is given are told by their own bytes, and by how many bytes there are.
use mathlib.Core.Path.{◌≡◌, refl, ap, sym, ◌∙◌}
use mathlib.Core.Bool.{Bool, true, false, cond}
use mathlib.Core.List.{List, [], ◌∷◌}
use Prim.Native.Nat.{ℕ, zero, suc, ◌+◌, ◌<◌, ◌≤◌}
use native.Mathlib.Omega.{arith}
use lib.Dec.{eqb, leb}
use lib.ListN.{length, take, drop, take-append-drop}
use lib.Seq.{take-take, length-take-le}
use Rattle.refusal.specs.declared.Fault.{Fault}
use Rattle.refusal.specs.declared.Fault.TheVariants.{NotScalar}
use Rattle.wire.proofs.Payloads.{ok-is}
use Rattle.wire.specs.Number.{from, number}
use Rattle.utf8.specs.Derive.{utf8}
use Rattle.node.specs.Tags.{is_scalar}
use Rattle.node.specs.declared.record.Item.{Item}
use Rattle.node.specs.declared.tags.Class.{Class}
use Rattle.node.specs.declared.tags.Class.TheVariants.{Four, Eight, Bare, Text as String, Blob, Scalar, Unknown}
use Rattle.text.specs.Text.{until_nul, reach, read_text}
use Rattle.argument.specs.Results.{Arg}
use Rattle.argument.specs.declared.GivenArg.{GivenArg}
use Rattle.std.specs.Prelude.{Err, Ok}
use Rattle.text.specs.Results.{Found, Text}
use Rattle.argument.specs.Results as arg
use Rattle.text.proofs.Nuls.{nul-longer}
use Rattle.text.proofs.Texts.{whole}
use Rattle.text.proofs.Within.{found_in, found-ends}
use Rattle.argument.specs.Argument.{having, arg_item, text_arg, read_arg}
use Rattle.slides.proofs.Puts.{drop-take}

-- the first NUL stands among the first bytes
nul-taken : (u : ℕ) (l : List ℕ) → until_nul l < u → until_nul (take u l) ≡ until_nul l
nul-taken zero l h = absurd (omega arith)
nul-taken (suc u) [] h = refl
nul-taken (suc u) (b ∷ l) h = by-nul (eqb b 0) h (λ g. nul-taken u l g)
  where
    by-nul : (t : Bool) → cond t 0 (suc (until_nul l)) < suc u → (until_nul l < u → until_nul (take u l) ≡ until_nul l)
        → cond t 0 (suc (until_nul (take u l))) ≡ cond t 0 (suc (until_nul l))
    by-nul true g f = refl
    by-nul false g f = ap suc (f (omega arith))

-- the number of bytes that are the same
pub number-front : (n u : ℕ) (l l' : List ℕ) → n ≤ u → take u l' ≡ take u l → number n l' ≡ number n l
unfolding number
number-front n u l l' h s = ap (from 0) (sym (take-take n u l' h) ∙ ap (take n) s ∙ take-take n u l h)

-- bytes that are the same, from a place on
pub number-later : (l l' : List ℕ) → take 8 l' ≡ take 8 l → number 4 (drop 4 l') ≡ number 4 (drop 4 l)
unfolding number
number-later l l' s =
    ap (from 0) (sym (drop-take 4 4 l') ∙ ap (drop 4) s ∙ drop-take 4 4 l)

-- of two arguments that are the same, the items
pub item-of : {x y : GivenArg} → ◌≡◌ {A = Arg} (Ok x) (Ok y) → x.item ≡ y.item
item-of e = ap (λ (x : GivenArg). x.item) (ok-is e)

-- and how many bytes they take
pub used-of : {x y : GivenArg} → ◌≡◌ {A = Arg} (Ok x) (Ok y) → x.used ≡ y.used
used-of e = ap (λ (x : GivenArg). x.used) (ok-is e)

module _ (l l' : List ℕ) (p : ℕ) (long : length l' ≡ length l) where
  pub text-front : (n used : ℕ) → read_text l p ≡ Found n used → take used l' ≡ take used l → read_text l' p ≡ Found n used
  text-front n used e s =
      let w = found_in l p (sym e) in
      let ends = found-ends l p (sym e) in
      let here : until_nul (take used l') ≡ n = ap until_nul s ∙ nul-taken used l (omega arith) ∙ sym ends.0 in
      let size : length (take used l') ≡ used = length-take-le used l' (omega arith) in
      let at : until_nul l' ≡ n
      = ap until_nul (sym (take-append-drop used l')) ∙ nul-longer (take used l') (drop used l') (omega arith) ∙ here in
      let same : take n l' ≡ take n l
      = sym (take-take n used l' (omega arith)) ∙ ap (take n) s ∙ take-take n used l (omega arith) in
      sym (whole l' p n (sym at) used ends.1 (omega arith) (ap utf8 same ∙ w.2))

  given-if : (n : ℕ) (k : Fault) (x : Arg) {item : Item} {used : ℕ} → having n l k x ≡ arg.Given item used → x ≡ arg.Given item used
  given-if n k x {item} {used} e = by-test (leb n (length l)) e
    where
      by-test : (t : Bool) → cond t x (Err k) ≡ arg.Given item used → x ≡ arg.Given item used
      by-test true f = f
      by-test false f = let z : ◌≡◌ {A = ℕ} 0 1 = cc in absurd (omega arith)

  pub arg-front : (tag : ℕ) (class : Class) (item : Item) (used : ℕ) → read_arg tag class 0 l p ≡ arg.Given item used
      → take used l' ≡ take used l → read_arg tag class 0 l' p ≡ arg.Given item used
  unfolding read_arg
  arg-front tag Four item used e s =
      let f : arg.Given (arg_item tag (0 + p) (number 4 l) 0) 4 ≡ arg.Given item used = given-if 4 _ _ e in
      let u : 4 ≡ used = used-of f in
      rw (long, number-front 4 used l l' (omega arith) s) e
  arg-front tag Eight item used e s =
      let f : arg.Given (arg_item tag (0 + p) (number 4 l) (number 4 (drop 4 l))) 8 ≡ arg.Given item used = given-if 8 _ _ e in
      let u : used ≡ 8 = sym (used-of f) in
      rw (long, number-front 4 used l l' (omega arith) s, number-later l l' (rw u at s)) e
  arg-front tag Bare item used e s = e
  arg-front tag String item used e s = by-text (read_text l p) refl e
    where
      by-text : (t : Text) → read_text l p ≡ t → text_arg tag (0 + p) p t ≡ arg.Given item used
          → text_arg tag (0 + p) p (read_text l' p) ≡ arg.Given item used
      by-text (Ok text) f g =
          let same : text.used ≡ used = used-of g in
          ap (text_arg tag (0 + p) p) (text-front text.length text.used f (rw same s)) ∙ g
      by-text (Err k) f g = let z : ◌≡◌ {A = ℕ} 0 1 = cc in absurd (omega arith)
  arg-front tag Blob item used e s =
      let n = number 4 l in
      let f : arg.Given (arg_item tag (0 + p) (0 + (p + 4)) n) (reach p (4 + n)) ≡ arg.Given item used
      = given-if (reach p (4 + n)) _ _ (given-if (4 + n) _ _ (given-if 4 _ _ e)) in
      let u : reach p (4 + n) ≡ used = used-of f in
      rw (long, number-front 4 used l l' (omega arith) s) e
  arg-front tag Scalar item used e s =
      let u : 4 ≡ used = scalar (is_scalar (number 4 l)) (given-if 4 _ _ e) in
      rw (long, number-front 4 used l l' (omega arith) s) e
    where
      scalar : (t : Bool) → cond t (arg.Given (arg_item tag (0 + p) (number 4 l) 0) 4) (Err NotScalar) ≡ arg.Given item used
          → 4 ≡ used
      scalar true f = used-of f
      scalar false f = let z : ◌≡◌ {A = ℕ} 0 1 = cc in absurd (omega arith)
  arg-front tag Unknown item used e s = e
