-- What is left of a list of frames, whichever edition reads it: nothing, or a frame and the list after it.
use mathlib.Core.Path.{◌≡◌, refl, ap, sym, ◌∙◌}
use mathlib.Core.Bool.{Bool, true, false, cond}
use mathlib.Core.List.{List, [], ◌∷◌}
use Prim.Native.Nat.{ℕ, ◌+◌, ◌<◌, ◌≤◌}
use native.Mathlib.Omega.{arith}
use borrow.Author.Tests.{le-leb, lt-leb, leb-true, leb-false}
use lib.Dec.{leb}
use lib.ListN.{length, drop, length-drop}
use Rattle.refusal.specs.declared.Refusal.{Refusal}
use Rattle.node.specs.Forest.{Forest, nil, node}
use Rattle.node.specs.declared.record.Item.{Item}
use Rattle.packet.specs.Packet.{one}
use Rattle.framing.specs.Framing.{Whole, trees, Frame, read, cut_frame, before, after_frame, listed, stops, tcp_vec2}
use Rattle.framing.proofs.FrameKnot.{FrameIn, list-eq}

module _ (frame : ℕ → List ℕ → Frame) (stop : ℕ → ℕ → Refusal → Whole) where
  -- what is left of a list: nothing, or a list
  abbrev pub remaining : ℕ → List ℕ → Whole
  remaining base l = cond (leb (length l) 0) (trees nil 0) (listed frame stop base l)

  -- what is left after u bytes
  abbrev pub following : ℕ → List ℕ → ℕ → Whole
  following base l u = remaining (base + u) (drop u l)

  -- where something is left it is a list
  pub remaining-list : (base : ℕ) (l : List ℕ) → 0 < length l → remaining base l ≡ listed frame stop base l
  remaining-list base l h = rw (lt-leb (length l) 0 h)

  -- where nothing is left there is no list
  pub remaining-none : (base : ℕ) (l : List ℕ) → length l ≤ 0 → remaining base l ≡ trees nil 0
  remaining-none base l h = rw (le-leb (length l) 0 h)

  module _ (inside : (base : ℕ) (l : List ℕ) → FrameIn (length l) (frame base l)) (base : ℕ) (l : List ℕ) where
    -- a list by its first frame
    pub list-by : {x : Frame} → frame base l ≡ x
        → listed frame stop base l ≡ after_frame stop (λ b m. listed frame stop b m) base l x
    list-by e = list-eq stop frame inside base l ∙ ap (after_frame stop (λ b m. listed frame stop b m) base l) e

    -- a tree stands before the list after it
    pub list-tree : {item : Item} {u : ℕ} {f : Forest} → frame base l ≡ read (one item f u)
        → listed frame stop base l ≡ before item f (following base l u)
    list-tree {item} {u} {f} e = list-by e ∙ ends (leb (length l) u) refl
      where
        ends : (t : Bool) → leb (length l) u ≡ t
            → cond (leb (length l) u) (trees (node item f nil) 0) (before item f (listed frame stop (base + u) (drop u l)))
            ≡ before item f (following base l u)
        ends true h = rw (h, remaining-none (base + u) (drop u l) (omega (arith, leb-true (length l) u h, length-drop u l)))
        ends false h = rw (h, remaining-list (base + u) (drop u l) (omega (arith, leb-false (length l) u h, length-drop u l)))

-- a list of edition 2 is what is left of it at its start
pub vec2-remaining : (limit : ℕ) (msg : List ℕ) → tcp_vec2 limit msg ≡ remaining (λ b m. cut_frame limit b m) stops 0 msg
unfolding tcp_vec2
vec2-remaining limit [] = refl
vec2-remaining limit (x ∷ msg) = sym (remaining-list (λ b m. cut_frame limit b m) stops 0 (x ∷ msg) (omega arith))
