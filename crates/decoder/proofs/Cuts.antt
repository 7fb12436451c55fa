-- What is left of a list of edition 2: the trees of a frame that is given, and those of the list after it.
use mathlib.Core.Path.{◌≡◌, refl, ap, ◌∙◌}
use mathlib.Core.List.{List}
use Prim.Native.Nat.{ℕ, suc, ◌+◌, ◌<◌}
use native.Mathlib.Omega.{arith}
use lib.Dec.{leb}
use lib.ListN.{length, drop}
use Rattle.wire.proofs.Choices.{by-test}
use Rattle.node.specs.Forest.{Forest, node}
use Rattle.node.specs.declared.record.Item.{Item}
use Rattle.packet.specs.Packet.{one}
use Rattle.framing.specs.Framing.{Whole, trees, waiting, refusal, stopped, Frame, read, cut_frame, before, after_frame, listed}
use Rattle.framing.specs.Framing.{stops}
use Rattle.framing.proofs.FrameKnot.{cut_in}
use Rattle.framing.proofs.Lists as lists
use Rattle.answering.specs.Limits.{forest_of}
use Rattle.decoder.specs.CodeFrames.{Accepted}
use Rattle.decoder.proofs.Sizes.{frames-accepted}

-- what is left of a list
abbrev pub rest_of : ℕ → ℕ → List ℕ → Whole
rest_of limit = lists.remaining (λ b m. cut_frame limit b m) stops

-- it has trees, or stops after some
pub rest-accepted : (limit base : ℕ) (l : List ℕ) → Accepted (rest_of limit base l)
rest-accepted limit base l =
    by-test Accepted (leb (length l) 0) (λ _. tt) (λ _. frames-accepted limit (suc (length l)) base l (omega arith))

forest-before : (item : Item) (f : Forest) (w : Whole) → Accepted w → forest_of (before item f w) ≡ node item f (forest_of w)
forest-before item f (trees g left) h = refl
forest-before item f waiting h = absurd h
forest-before item f (refusal k) h = absurd h
forest-before item f (stopped g left k at) h = refl

-- a list by its first frame
pub rest-by : {x : Frame} (limit base : ℕ) (l : List ℕ) → 0 < length l → cut_frame limit base l ≡ x
    → rest_of limit base l ≡ after_frame stops (λ b m. listed (λ c k. cut_frame limit c k) stops b m) base l x
rest-by limit base l some e =
    lists.remaining-list (λ b m. cut_frame limit b m) stops base l some
    ∙ lists.list-by (λ b m. cut_frame limit b m) stops (cut_in limit) base l e

-- the trees of a list whose first frame is given
pub rest-tree : {item : Item} {u : ℕ} {f : Forest} (limit base : ℕ) (l : List ℕ) → 0 < length l
    → cut_frame limit base l ≡ read (one item f u)
    → rest_of limit base l ≡ before item f (rest_of limit (base + u) (drop u l))
rest-tree limit base l some e =
    lists.remaining-list (λ b m. cut_frame limit b m) stops base l some
    ∙ lists.list-tree (λ b m. cut_frame limit b m) stops (cut_in limit) base l e

-- and so its forest
pub rest-forest : {item : Item} {u : ℕ} {f : Forest} (limit base : ℕ) (l : List ℕ) → 0 < length l
    → cut_frame limit base l ≡ read (one item f u)
    → forest_of (rest_of limit base l) ≡ node item f (forest_of (rest_of limit (base + u) (drop u l)))
rest-forest {item} {u} {f} limit base l some e =
    ap forest_of (rest-tree limit base l some e)
    ∙ forest-before item f (rest_of limit (base + u) (drop u l)) (rest-accepted limit (base + u) (drop u l))
