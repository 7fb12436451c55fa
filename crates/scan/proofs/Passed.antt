-- One argument that is passed over: it lies in its part, and the offset base changes neither how far it is read nor its fault.
use mathlib.Core.Path.{◌≡◌, refl, ◌∙◌, ap, sym}
use mathlib.Core.Bool.{Bool, true, false, cond}
use mathlib.Core.List.{List, [], ◌∷◌}
use Prim.Native.Nat.{ℕ, ◌+◌, ◌-◌, ◌≤◌}
use native.Mathlib.Omega.{arith}
use lib.Dec.{leb}
use lib.ListN.{length, drop, length-take}
use types.Run.{OneOf, miss}
use denote.Enum.Declared.{tag_of}
use Rattle.refusal.specs.declared.Fault.{Fault}
use Rattle.refusal.specs.declared.Fault.TheVariants.{NotScalar}
use Rattle.wire.proofs.Payloads.{ok-is}
use Rattle.wire.specs.Number.{number}
use Rattle.node.specs.Tags.{is_scalar}
use Rattle.node.specs.declared.record.Item.{Item}
use Rattle.node.specs.contracts.tags.Class.{the_type}
use Rattle.node.specs.declared.tags.Class.{Class}
use Rattle.node.specs.declared.tags.Class.TheVariants.{Four, Eight, Bare, Text as String, Blob, Scalar, Unknown}
use Rattle.text.specs.Text.{reach, read_text, non_zero}
use Rattle.text.proofs.Dirt.{dirt-le}
use Rattle.argument.specs.Results.{Arg, Given}
use Rattle.scan.specs.Results.{Scanned, Used}
use Rattle.scan.specs.declared.ScannedArgs.{ScannedArgs}
use Rattle.std.specs.Prelude.{Err, Ok}
use Rattle.text.specs.Results.{Text}
use Rattle.argument.specs.Argument.{read_arg, having, text_arg, arg_item}
use Rattle.argument.specs.CodeClasses.{Checked}
use Rattle.argument.specs.CodeParts.{between, padding_from}
use Rattle.scan.specs.CodeScans.{used_of}
use Rattle.argument.proofs.Within.{Holds, arg-within}

-- of an argument that is chosen by a test
used-chosen : (class : Class) (l : List ℕ) (t : Bool) (x y z : Arg) → used_of class l x ≡ used_of class l y
    → used_of class l (cond t x z) ≡ used_of class l (cond t y z)
used-chosen class l true x y z e = e
used-chosen class l false x y z e = refl

-- of an argument that is read only if n bytes are there
used-there : (class : Class) (n : ℕ) (l : List ℕ) (k : Fault) (x y : Arg) → used_of class l x ≡ used_of class l y
    → used_of class l (having n l k x) ≡ used_of class l (having n l k y)
used-there class n l k x y e = used-chosen class l (leb n (length l)) x y (Err k) e

-- of a text
used-text : (l : List ℕ) (tag o o' p : ℕ) (t : Text) → used_of String l (text_arg tag o p t) ≡ used_of String l (text_arg tag o' p t)
used-text l tag o o' p (Ok text) = refl
used-text l tag o o' p (Err k) = refl

-- how far an argument is read, its dirt and its fault are the same for any two bases
pub any-base : (tag : ℕ) (class : Class) (base base' : ℕ) (l : List ℕ) (p : ℕ)
    → used_of class l (read_arg tag class base l p) ≡ used_of class l (read_arg tag class base' l p)
unfolding read_arg
any-base tag Four base base' l p = used-there Four 4 l _ _ _ refl
any-base tag Eight base base' l p = used-there Eight 8 l _ _ _ refl
any-base tag Bare base base' l p = refl
any-base tag String base base' l p = used-text l tag (base + p) (base' + p) p (read_text l p)
any-base tag Blob base base' l p =
    used-there Blob 4 l _ _ _ (used-there Blob (4 + number 4 l) l _ _ _ (used-there Blob (reach p (4 + number 4 l)) l _ _ _ refl))
any-base tag Scalar base base' l p =
    used-there Scalar 4 l _ _ _
    (used-chosen Scalar l (is_scalar (number 4 l))
    (Given (arg_item tag (base + p) (number 4 l) 0) 4) (Given (arg_item tag (base' + p) (number 4 l) 0) 4) (Err NotScalar) refl)
any-base tag Unknown base base' l p = refl

-- two scans that are the same take and count the same
pub args-are : {used dirty used' dirty' : ℕ} → Used used dirty ≡ Used used' dirty' → (used ≡ used') × (dirty ≡ dirty')
args-are e = (ap (λ (x : ScannedArgs). x.used) (ok-is e), ap (λ (x : ScannedArgs). x.dirty) (ok-is e))

-- how much is used of an argument that lies in its part, and how much of that is dirt
used-from : {used dirty : ℕ} (class : Class) (l : List ℕ) (x : Arg) → Holds (λ item u. u ≤ length l) x → Used used dirty ≡ used_of class l x
    → (used ≤ length l) × (dirty ≤ used)
used-from {used} {dirty} class l (Ok given) h e =
    let w = args-are e in
    let n = padding_from class given.item given.used in
    let d : dirty ≡ non_zero (between n given.used l) = w.1 in
    (omega (arith, h, w.0), omega (arith, dirt-le (between n given.used l), length-take (given.used - n) (drop n l)))
used-from class l (Err k) h e = let z : ◌≡◌ {A = ℕ} 0 1 = cc in absurd (omega arith)

-- an argument that is passed over lies in its part, and no more of it is dirt than it takes
pub used-within : {used dirty : ℕ} (tag : ℕ) (class : Class) (base : ℕ) (l : List ℕ) (p : ℕ)
    → Used used dirty ≡ used_of class l (read_arg tag class base l p) → (used ≤ length l) × (dirty ≤ used)
used-within tag class base l p e = used-from class l (read_arg tag class base l p) (arg-within tag class base l p) e

-- an answer for the class that a match found
pub used-of-class : {k class : Class} {r : Scanned} (tag : ℕ) (l : List ℕ) (base p : ℕ) → class ≡ k
    → r ≡ used_of k l (read_arg tag k base l p) → r ≡ used_of class l (read_arg tag class base l p)
used-of-class tag l base p e f = f ∙ ap (λ (c : Class). used_of c l (read_arg tag c base l p)) (sym e)

-- between a place and itself there is no dirt
pub none_between : (n : ℕ) (l : List ℕ) → 0 ≡ non_zero (between n n l)
none_between n l = let z : n - n ≡ 0 = omega arith in rw z

-- a scalar has no padding
pub scalar-clean : (class : Class) (item : Item) (used : ℕ) (l : List ℕ) → class ≡ Scalar
    → 0 ≡ non_zero (between (padding_from class item used) used l)
scalar-clean class item used l e =
    none_between used l ∙ ap (λ (k : Class). non_zero (between (padding_from k item used) used l)) (sym e)

-- after the plain classes and the scalars, those are left that `read_checked` reads
pub left_over : (class : Class) → OneOf (3 ∷ 4 ∷ 6 ∷ []) (tag_of the_type class) → Checked class
left_over Four h = miss (3 ∷ 4 ∷ 6 ∷ []) 0 tt h
left_over Eight h = miss (3 ∷ 4 ∷ 6 ∷ []) 1 tt h
left_over Bare h = miss (3 ∷ 4 ∷ 6 ∷ []) 2 tt h
left_over String h = tt
left_over Blob h = tt
left_over Scalar h = tt
left_over Unknown h = tt

-- data of a class without padding has none: of the classes that a match has left over, those but texts and blobs
pub no-dirt : (class : Class) (item : Item) (used : ℕ) (l : List ℕ) → OneOf (0 ∷ 1 ∷ 2 ∷ 5 ∷ 6 ∷ []) (tag_of the_type class)
    → 0 ≡ non_zero (between (padding_from class item used) used l)
no-dirt Four item used l h = none_between used l
no-dirt Eight item used l h = none_between used l
no-dirt Bare item used l h = none_between used l
no-dirt String item used l h = absurd (miss (0 ∷ 1 ∷ 2 ∷ 5 ∷ 6 ∷ []) 3 tt h)
no-dirt Blob item used l h = absurd (miss (0 ∷ 1 ∷ 2 ∷ 5 ∷ 6 ∷ []) 4 tt h)
no-dirt Scalar item used l h = none_between used l
no-dirt Unknown item used l h = none_between used l
