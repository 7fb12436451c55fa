-- The place of a fault: it begins in the data of the arguments or right after it.
use mathlib.Core.Path.{◌≡◌, refl, sym, subst}
use mathlib.Core.List.{List, [], ◌∷◌}
use Prim.Native.Nat.{ℕ, ◌+◌, ◌≤◌}
use native.Mathlib.Omega.{arith}
use lib.ListN.{length, drop, length-drop}
use Rattle.refusal.specs.Refusal.{fault_offset}
use Rattle.refusal.specs.declared.Fault.{Fault}
use Rattle.node.specs.Forest.{Forest, nil, snoc}
use Rattle.node.specs.Tags.{sort_of}
use Rattle.node.specs.declared.tags.Sort.{Sort}
use Rattle.node.specs.declared.tags.Sort.TheVariants.{Opens, Closes, Leaf}
use Rattle.argument.specs.Argument.{read_arg}
use Rattle.argument.specs.Results.{Arg}
use Rattle.std.specs.Prelude.{Err, Ok}
use Rattle.argument.proofs.Within.{given-within, arg-low}
use Rattle.arguments.specs.Arguments.{Args, refused, args, later, arg_taken, Open, waits, array_item, act, read_tags, read_args}

-- a fault begins no later than m
abbrev FaultsLow : ℕ → Args → Type 0
FaultsLow m (refused k) = fault_offset k ≤ m
FaultsLow m (args kept used) = Unit {0}

low-later : (n m : ℕ) (o : Args) → FaultsLow m o → FaultsLow m (later n o)
low-later n m (refused k) w = w
low-later n m (args kept used) w = tt

low-act : (s : Sort) (go : List ℕ → ℕ → Forest → List Open → Args) (base tag : ℕ) (l : List ℕ) (p : ℕ) (frame : Forest)
    (below : List Open)
    → ((m : List ℕ) (q : ℕ) (f : Forest) (b : List Open) → FaultsLow (q + length m) (go m q f b))
    → FaultsLow (p + length l) (act s go base tag l p frame below)
low-act Opens go base tag l p frame below h = h l p nil (waits frame (array_item (base + p)) ∷ below)
low-act Closes go base tag l p frame [] h = omega arith
low-act Closes go base tag l p frame (waits outer item ∷ below) h = h l p (snoc outer item frame) below
low-act (Leaf class) go base tag l p frame below h = by-arg (read_arg tag class base l p) refl
  where
    by-arg : (x : Arg) → x ≡ read_arg tag class base l p → FaultsLow (p + length l) (arg_taken (λ m q f. go m q f below) l p frame x)
    by-arg (Err k) e = arg-low tag class base l p e
    by-arg (Ok given) e =
        let f = snoc frame given.item nil in
        let same : p + given.used + length (drop given.used l) ≡ p + length l = omega (arith, length-drop given.used l, given-within tag class base l p e) in
        low-later given.used (p + length l) (go (drop given.used l) (p + given.used) f below)
        (subst (λ (m : ℕ). FaultsLow m (go (drop given.used l) (p + given.used) f below)) same (h (drop given.used l) (p + given.used) f below))

low-law : (base : ℕ) (ts l : List ℕ) (p : ℕ) (frame : Forest) (below : List Open)
    → FaultsLow (p + length l) (read_tags base ts l p frame below)
unfolding read_tags
low-law base [] l p frame below = tt
low-law base (t ∷ ts) l p frame below = low-act (sort_of t) _ base t l p frame below (λ m q f b. low-law base ts m q f b)

-- the fault of a message's arguments begins in their data or right after it
pub args_low : {k : Fault} (base : ℕ) (ts l : List ℕ) (p : ℕ) → refused k ≡ read_args base ts l p → fault_offset k ≤ p + length l
args_low base ts l p e = subst (FaultsLow (p + length l)) (sym e) (low-law base ts l p nil [])
