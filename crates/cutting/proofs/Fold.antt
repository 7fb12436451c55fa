-- The list of edition 2 is a fold over its frames, so that it is read in one go or in two: its frames from a beginning of the bytes, and
-- those from the unread remainder and what comes after it.
use mathlib.Core.Path.{◌≡◌, refl, ap, sym, ◌∙◌}
use mathlib.Core.Bool.{true}
use mathlib.Core.List.{List, [], ◌∷◌, ◌++◌}
use Prim.Native.Nat.{ℕ, zero, suc, ◌+◌, ◌-◌, ◌<◌, ◌≤◌}
use native.Mathlib.Omega.{arith}
use lib.ListN.{length, drop, length-append, length-drop}
use Rattle.refusal.specs.Refusal.{moved_by}
use Rattle.refusal.specs.declared.Refusal.TheVariants.{Unreadable}
use Rattle.node.specs.Forest.{Forest, nil, node}
use Rattle.node.specs.declared.record.Item.{Item}
use Rattle.packet.specs.Packet.{fault, one}
use Rattle.framing.specs.Framing.{Whole, trees, waiting, refusal, stopped, Frame, wait, read, refused, cut_frame, before, tcp_vec2}
use Rattle.framing.proofs.FrameKnot.{FrameIn, cut_in}
use Rattle.framing.proofs.Lists.{vec2-remaining}
use Rattle.folding.specs.Folding as folding
use Rattle.folding.specs.Folding.{Fold, folded, Folding, fold_of, with_sum, Sound}
use Rattle.folding.specs.Frames.{Reading, FrameAdds, judged, over_frames}
use Rattle.folding.proofs.Knot.{fold-eq, fold-by}
use Rattle.folding.proofs.Framed.{Framed, framed, framed-in}
use Rattle.folding.proofs.Cut.{cut_anywhere}
use Rattle.folding.proofs.Frames.{sound}
use Rattle.results.specs.declared.End.TheVariants as end
use Rattle.decoder.proofs.Cuts.{rest_of, rest-by, rest-tree}
use Rattle.osc10.proofs.Arguments.{join, join-end}

-- ---- the fold

-- how the frames of a list are read: every tree within the depth limit, counted from the call's first byte
abbrev pub listing : ℕ → Reading
listing limit = record { limit = limit; from = λ base. base; room = λ inside. true }

-- a frame adds its tree
abbrev pub tree_adds : FrameAdds Forest
tree_adds base own item inside = node item inside nil

abbrev pub listing_trees : ℕ → Folding Forest
listing_trees limit = over_frames (listing limit) tree_adds nil (λ f g. join f g)

-- a fold of trees of bytes that end at offset `to`, as what a list is read as: what it leaves is all from where it stops
abbrev pub as_whole : ℕ → Fold Forest → Whole
as_whole to (folded f at end.Whole) = trees f (to - at)
as_whole to (folded f at end.Waiting) = trees f (to - at)
as_whole to (folded f at (end.Refused k)) = stopped f (to - at) k at

-- ---- trees before a list

-- trees before a list
abbrev pub joined_whole : Forest → Whole → Whole
joined_whole f (trees g left) = trees (join f g) left
joined_whole f waiting = waiting
joined_whole f (refusal r) = refusal r
joined_whole f (stopped g left why at) = stopped (join f g) left why at

-- the list with more bytes, by the list without them: where a frame was refused there is nothing more to read, and else what was left
-- over is read with them
abbrev pub continued : ℕ → ℕ → List ℕ → List ℕ → Whole → Whole
continued limit base l more (trees f left) =
    joined_whole f (rest_of limit (base + (length l - left)) (drop (length l - left) l ++ more))
continued limit base l more waiting = waiting
continued limit base l more (refusal r) = refusal r
continued limit base l more (stopped f left why at) = stopped f (left + length more) why at

join-grouped : (f g h : Forest) → join (join f g) h ≡ join f (join g h)
unfolding join
join-grouped nil g h = refl
join-grouped (node item inside rest) g h = ap (node item inside) (join-grouped rest g h)

-- no tree before a list
pub joined-none : (w : Whole) → joined_whole nil w ≡ w
unfolding join
joined-none (trees g left) = refl
joined-none waiting = refl
joined-none (refusal r) = refl
joined-none (stopped g left why at) = refl

-- trees before trees before a list
pub joined-twice : (f g : Forest) (w : Whole) → joined_whole f (joined_whole g w) ≡ joined_whole (join f g) w
joined-twice f g (trees h left) = ap (λ (x : Forest). trees x left) (sym (join-grouped f g h))
joined-twice f g waiting = refl
joined-twice f g (refusal r) = refl
joined-twice f g (stopped h left why at) = ap (λ (x : Forest). stopped x left why at) (sym (join-grouped f g h))

module _ (limit : ℕ) where
  -- a list is a sound fold
  listing-sound : Sound (listing_trees limit)
  unfolding join
  listing-sound = sound (listing limit) tree_adds nil (λ f g. join f g) join-grouped (λ f. refl) join-end

  -- trees before a list are trees before its fold
  joined-fold : (f : Forest) (to : ℕ) (i : Fold Forest) → joined_whole f (as_whole to i) ≡ as_whole to (with_sum (listing_trees limit) f i)
  joined-fold f to (folded g at end.Whole) = refl
  joined-fold f to (folded g at end.Waiting) = refl
  joined-fold f to (folded g at (end.Refused k)) = refl

  -- a tree before a list
  before-joined : (item : Item) (f : Forest) (w : Whole) → before item f w ≡ joined_whole (node item f nil) w
  unfolding join
  before-joined item f (trees g left) = refl
  before-joined item f waiting = refl
  before-joined item f (refusal r) = refl
  before-joined item f (stopped g left why at) = refl

  -- ---- the list is this fold

  abbrev Same : ℕ → List ℕ → Type 0
  Same b m = rest_of limit b m ≡ as_whole (b + length m) (fold_of (listing_trees limit) b m)

  module _ (base : ℕ) (l : List ℕ) (some : 0 < length l) where
    all : length l ≡ base + length l - base
    all = omega arith

    by-judge : (x : Frame) → cut_frame limit base l ≡ x
        → fold_of (listing_trees limit) base l
        ≡ folding.by_verdict (listing_trees limit) (λ b m. fold_of (listing_trees limit) b m) base l (judged (listing limit) tree_adds base l x)
    by-judge x e = fold-by (listing_trees limit) listing-sound.inside base l some (ap (judged (listing limit) tree_adds base l) e)

    by-frame : (x : Frame) → cut_frame limit base l ≡ x → FrameIn (length l) x
        → ((u : ℕ) → 0 < u → u ≤ length l → Same (base + u) (drop u l)) → Same base l
    by-frame wait e w go =
        rest-by limit base l some e ∙ ap (trees nil) all ∙ ap (as_whole (base + length l)) (sym (by-judge wait e))
    by-frame (read (fault k)) e w go =
        rest-by limit base l some e ∙ ap (λ (n : ℕ). stopped nil n (Unreadable (moved_by base k)) base) all
        ∙ ap (as_whole (base + length l)) (sym (by-judge (read (fault k)) e))
    by-frame (read (one item f u)) e w go =
        let rest = fold_of (listing_trees limit) (base + u) (drop u l) in
        let to : base + u + length (drop u l) ≡ base + length l = omega (arith, length-drop u l, w.1) in
        rest-tree limit base l some e
        ∙ ap (before item f) (go u (omega arith) w.1 ∙ ap (λ (n : ℕ). as_whole n rest) to)
        ∙ before-joined item f (as_whole (base + length l) rest)
        ∙ joined-fold (node item f nil) (base + length l) rest
        ∙ ap (as_whole (base + length l)) (sym (by-judge (read (one item f u)) e))
    by-frame (refused k) e w go =
        rest-by limit base l some e ∙ ap (λ (n : ℕ). stopped nil n k base) all
        ∙ ap (as_whole (base + length l)) (sym (by-judge (refused k) e))

  list_at : (n base : ℕ) (l : List ℕ) → length l < n → Same base l
  list_at zero base l h = absurd (omega arith)
  list_at (suc n) base [] h =
      let none : 0 ≡ base + 0 - base = omega arith in
      ap (trees nil) none ∙ ap (as_whole (base + 0)) (sym (fold-eq (listing_trees limit) listing-sound.inside base []))
  list_at (suc n) base (x ∷ l) h =
      by-frame base (x ∷ l) (omega arith) (cut_frame limit base (x ∷ l)) refl (cut_in limit base (x ∷ l))
      (λ u low high. list_at n (base + u) (drop u (x ∷ l)) (omega (arith, length-drop u (x ∷ l))))

-- what is left of a list is this fold of it
pub rest-is-fold : (limit base : ℕ) (l : List ℕ) → Same limit base l
rest-is-fold limit base l = list_at limit (suc (length l)) base l (omega arith)

-- and so is the list of `decode_tcp_vec` in edition 2
pub list-is-fold : (limit : ℕ) (msg : List ℕ) → tcp_vec2 limit msg ≡ as_whole (length msg) (fold_of (listing_trees limit) 0 msg)
list-is-fold limit msg =
    let here : 0 + length msg ≡ length msg = omega arith in
    vec2-remaining limit msg ∙ rest-is-fold limit 0 msg ∙ ap (λ (n : ℕ). as_whole n (fold_of (listing_trees limit) 0 msg)) here

-- ---- a cut

module _ (limit base : ℕ) (l more : List ℕ) where
  abbrev to : ℕ
  to = base + length (l ++ more)

  -- what is folded after a beginning is what is read of it
  goes_further : (f : Forest) (at : ℕ) → base ≤ at → at ≤ base + length l
      → as_whole to (with_sum (listing_trees limit) f (fold_of (listing_trees limit) at (drop (at - base) l ++ more)))
      ≡ continued limit base l more (trees f (base + length l - at))
  goes_further f at low high =
      let left = base + length l - at in
      let there : base + (length l - left) ≡ at = omega arith in
      let used : length l - left ≡ at - base = omega arith in
      let rest = drop (at - base) l ++ more in
      let last : at + length rest ≡ to
      = omega (arith, length-append (drop (at - base) l) more, length-append l more, length-drop (at - base) l) in
      sym (ap (λ (b : ℕ). joined_whole f (rest_of limit b (drop (length l - left) l ++ more))) there
      ∙ ap (λ (k : ℕ). joined_whole f (rest_of limit at (drop k l ++ more))) used
      ∙ ap (joined_whole f) (rest-is-fold limit at rest ∙ ap (λ (n : ℕ). as_whole n (fold_of (listing_trees limit) at rest)) last)
      ∙ joined-fold limit f to (fold_of (listing_trees limit) at rest))

  by-fold : (i : Fold Forest) → Framed (listing_trees limit) base l i
      → as_whole to (folding.continued (listing_trees limit) base l more i) ≡ continued limit base l more (as_whole (base + length l) i)
  by-fold (folded f at end.Whole) r = let s = framed-in r in goes_further f at s.0 s.1
  by-fold (folded f at end.Waiting) r = let s = framed-in r in goes_further f at s.0 s.1
  by-fold (folded f at (end.Refused k)) r =
      let s = framed-in r in ap (λ (n : ℕ). stopped f n k at) (omega (arith, length-append l more))

  -- Ticket 14 on the definitions: a list is read in one go or in two
  pub cut_list : rest_of limit base (l ++ more) ≡ continued limit base l more (rest_of limit base l)
  cut_list =
      let f = listing_trees limit in
      rest-is-fold limit base (l ++ more)
      ∙ ap (as_whole to) (cut_anywhere f (listing-sound limit) base l more)
      ∙ by-fold (fold_of f base l) (framed f (listing-sound limit).inside base l)
      ∙ ap (continued limit base l more) (sym (rest-is-fold limit base l))
