-- Demand 3: more room, or a higher depth limit, takes back no answer but 9 and 10, of any decoder.
use mathlib.Core.Path.{◌≡◌, refl, ap, sym, subst, ◌∙◌}
use mathlib.Core.Bool.{Bool, true, false, cond}
use mathlib.Core.Logic.{⊎_elim}
use mathlib.Core.List.{List, [], ◌∷◌}
use Prim.Native.Nat.{ℕ, zero, suc, ◌+◌, ◌≤◌, ◌<◌}
use native.Mathlib.Omega.{arith}
use lib.Dec.{eqb, leb}
use lib.ListN.{length, take, drop}
use borrow.Author.Tests.{le-leb, lt-leb}
use Rattle.edition.specs.declared.Edition.TheVariants.{Rosc, Standard}
use Rattle.refusal.specs.declared.Refusal.TheVariants.{TooDeep}
use Rattle.wire.specs.Limits.{longest, deepest}
use Rattle.argument.specs.Dirt.{dirty_in}
use Rattle.node.specs.Forest.{Forest, nil, node, size, depth}
use Rattle.node.specs.declared.record.Item.{Item}
use Rattle.node.specs.Records.{records_of}
use Rattle.heads.specs.Heads.{length_of}
use Rattle.heads.specs.Results.{Length}
use Rattle.results.specs.Results.{DecodeAnswer, Stopped}
use Rattle.heads.specs.Results as cut
use Rattle.packet.specs.Packet.{Out, fault, one, after, read_packet}
use Rattle.framing.specs.Framing.{Whole, trees, waiting, refusal, stopped, Frame, wait, read, refused, wholly, cut_with, cut_frame, first}
use Rattle.framing.specs.Framing.{tcp2}
use Rattle.framing.specs.Framing.{before, after_frame, frames_at, stops, tcp_vec2, rule_of}
use Rattle.edition.specs.declared.Framing.{Framing}
use Rattle.edition.specs.declared.Framing.TheVariants.{Udp, Tcp, TcpVec}
use Rattle.answering.specs.Limits.{limited, decoded, forest_of}
use Rattle.calls.specs.Words.{Gives, NotFull}
use Rattle.calls.specs.Demands.{MoreRoom}
use Rattle.wire.proofs.Choices.{lt-or-le, by_le}
use Rattle.decoder.proofs.Chosen.{by-decoded, by-trees, by-bounded}
use Rattle.calls.proofs.Answered.{given-records}

-- ---- what an input is read as by a higher limit

-- no frame was too deep
abbrev NotDeep : Whole → Type 0
NotDeep (trees f left) = Unit {0}
NotDeep waiting = Unit {0}
NotDeep (refusal k) = k ≡ TooDeep → ⊥
NotDeep (stopped f left k at) = k ≡ TooDeep → ⊥

module _ {limit limit' : ℕ} (d : limit ≤ limit') where
  abbrev Higher : Frame → Frame → Type 0
  Higher x y = (x ≡ refused TooDeep → ⊥) → y ≡ x

  choice : (t : Bool) (x x' y : Frame) → Higher x x' → Higher (cond t x y) (cond t x' y)
  choice true x x' y h = h
  choice false x x' y h = λ _. refl

  whole_room : (n : ℕ) (o : Out) → Higher (wholly limit n o) (wholly limit' n o)
  whole_room n (fault k) = λ _. refl
  whole_room n (one item f u) =
      let deep = depth (node item f nil) in
      choice (eqb u n) _ _ _
      (by_le (λ (x : Frame). Higher x (cond (leb deep limit') (read (one item f u)) (refused TooDeep))) deep limit
      (λ h m. rw (le-leb deep limit' (omega arith))) (λ h m. absurd (m refl)))

  cut-room : (base : ℕ) (l : List ℕ) → Higher (cut_frame limit base l) (cut_frame limit' base l)
  unfolding cut_frame
  cut-room base l = by_length (length_of l)
    where
      by_length : (x : Length) → Higher (cut_with limit base l x) (cut_with limit' base l x)
      by_length (cut.Cuts n) = whole_room (4 + n) (after 4 (read_packet base (take n (drop 4 l)) 4))
      by_length cut.Waiting = λ _. refl
      by_length cut.Over = λ _. refl
      by_length cut.Odd = λ _. refl

  first-room : (n : ℕ) (x y : Frame) → Higher x y → NotDeep (first n x) → first n y ≡ first n x
  first-room n wait y h m = ap (first n) (h (λ e. let z : ◌≡◌ {A = ℕ} 0 1 = cc in omega arith))
  first-room n (read o) y h m = ap (first n) (h (λ e. let z : ◌≡◌ {A = ℕ} 0 1 = cc in omega arith))
  first-room n (refused k) y h m = ap (first n) (h (λ e. m cc))

  before-deep : (item : Item) (f : Forest) (w : Whole) → NotDeep (before item f w) → NotDeep w
  before-deep item f (trees g left) h = tt
  before-deep item f waiting h = tt
  before-deep item f (refusal k) h = h
  before-deep item f (stopped g left k at) h = h

  tree-room : (t : Bool) (item : Item) (f : Forest) (w w' : Whole) → (NotDeep w → w' ≡ w)
      → NotDeep (cond t (trees (node item f nil) 0) (before item f w))
      → cond t (trees (node item f nil) 0) (before item f w') ≡ cond t (trees (node item f nil) 0) (before item f w)
  tree-room true item f w w' h m = refl
  tree-room false item f w w' h m = ap (before item f) (h (before-deep item f w m))

  after-room : (go go' : ℕ → List ℕ → Whole) (base : ℕ) (l : List ℕ) (x y : Frame)
      → ((q : ℕ) (m : List ℕ) → NotDeep (go q m) → go' q m ≡ go q m) → Higher x y
      → NotDeep (after_frame stops go base l x) → after_frame stops go' base l y ≡ after_frame stops go base l x
  after-room go go' base l wait y i h m = ap (after_frame stops go' base l) (h (λ e. let z : ◌≡◌ {A = ℕ} 0 1 = cc in omega arith))
  after-room go go' base l (refused k) y i h m = ap (after_frame stops go' base l) (h (λ e. m cc))
  after-room go go' base l (read (fault k)) y i h m =
      ap (after_frame stops go' base l) (h (λ e. let z : ◌≡◌ {A = ℕ} 0 1 = cc in omega arith))
  after-room go go' base l (read (one item f u)) y i h m =
      ap (after_frame stops go' base l) (h (λ e. let z : ◌≡◌ {A = ℕ} 0 1 = cc in omega arith))
      ∙ tree-room (leb (length l) u) item f (go (base + u) (drop u l)) (go' (base + u) (drop u l)) (i (base + u) (drop u l)) m

  frames-room : (n base : ℕ) (l : List ℕ) → NotDeep (frames_at (λ b m. cut_frame limit b m) stops n base l)
      → frames_at (λ b m. cut_frame limit' b m) stops n base l ≡ frames_at (λ b m. cut_frame limit b m) stops n base l
  unfolding frames_at
  frames-room zero base l h = refl
  frames-room (suc n) base l h =
      after-room _ _ base l (cut_frame limit base l) (cut_frame limit' base l) (λ q m. frames-room n q m) (cut-room base l) h

  -- where no frame was too deep, a higher limit reads the same
  rule-room : (framing : Framing) (msg : List ℕ) → NotDeep (rule_of framing limit msg) → rule_of framing limit' msg ≡ rule_of framing limit msg
  unfolding tcp2 tcp_vec2
  rule-room Udp msg h = refl
  rule-room (Tcp Rosc) msg h = refl
  rule-room (Tcp Standard) msg h = first-room (length msg) (cut_frame limit 0 msg) (cut_frame limit' 0 msg) (cut-room 0 msg) h
  rule-room (TcpVec Rosc) msg h = refl
  rule-room (TcpVec Standard) [] h = refl
  rule-room (TcpVec Standard) (x ∷ msg) h = frames-room (suc (length (x ∷ msg))) 0 (x ∷ msg) h

-- ---- the answer

module _ {capacity capacity' limit limit' : ℕ} (c : capacity ≤ capacity') (d : limit ≤ limit') where
  not-deep : (msg : List ℕ) (w : Whole) → NotFull (limited capacity limit msg w) → NotDeep w
  not-deep msg (refusal k) n = λ e. n.not_9 (rw e)
  not-deep msg waiting n = tt
  not-deep msg (trees f left) n = tt
  not-deep msg (stopped f left k at) n = λ e.
      by-bounded (λ r. NotFull r → ⊥) capacity limit f (Stopped (size f) left (dirty_in msg f) k at) (λ h m. m.not_9 refl)
      (λ h m. m.not_10 refl) (λ h j m. m.not_9_there (size f) left (dirty_in msg f) at (rw e)) n

  limited-room : (msg : List ℕ) (w : Whole) → NotFull (limited capacity limit msg w)
      → limited capacity' limit' msg w ≡ limited capacity limit msg w
  limited-room msg (refusal k) n = refl
  limited-room msg waiting n = refl
  limited-room msg (trees f left) n =
      by-trees (λ r. NotFull r → limited capacity' limit' msg (trees f left) ≡ r) capacity limit msg f left
      (λ h m. absurd (m.not_9 refl)) (λ h m. absurd (m.not_10 refl))
      (λ h k m. rw (le-leb (depth f) limit' (omega arith), le-leb (size f) capacity' (omega arith))) n
  limited-room msg (stopped f left k at) n =
      by-bounded (λ r. NotFull r → limited capacity' limit' msg (stopped f left k at) ≡ r) capacity limit f
      (Stopped (size f) left (dirty_in msg f) k at) (λ h m. absurd (m.not_9 refl)) (λ h m. absurd (m.not_10 refl))
      (λ h j m. rw (le-leb (depth f) limit' (omega arith), le-leb (size f) capacity' (omega arith))) n

  within-room : (framing : Framing) (msg : List ℕ) → limit' ≤ deepest → NotFull (decoded (rule_of framing limit) capacity limit msg)
      → decoded (rule_of framing limit') capacity' limit' msg ≡ decoded (rule_of framing limit) capacity limit msg
  unfolding decoded
  within-room framing msg h =
      by-decoded (λ r. NotFull r → decoded (rule_of framing limit') capacity' limit' msg ≡ r) (rule_of framing limit) capacity limit msg
      (λ g n. absurd (omega arith))
      (λ g n. rw (decoded, le-leb limit' deepest h, lt-leb (length msg) longest g))
      (λ g k n. rw (decoded, le-leb limit' deepest h, le-leb (length msg) longest k)
      (ap (limited capacity' limit' msg) (rule-room d framing msg (not-deep msg (rule_of framing limit msg) n))
      ∙ limited-room msg (rule_of framing limit msg) n))

  -- so an answer with records is for the same trees
  same-trees : (count dirty : ℕ) (framing : Framing) (msg : List ℕ) → NotFull (decoded (rule_of framing limit) capacity limit msg)
      → Gives (decoded (rule_of framing limit) capacity limit msg) count dirty → rule_of framing limit' msg ≡ rule_of framing limit msg
  same-trees count dirty framing msg n e =
      rule-room d framing msg (by-decoded (λ r. NotFull r → Gives r count dirty → NotDeep (rule_of framing limit msg)) (rule_of framing limit)
      capacity limit msg (λ g m p. absurd p) (λ g m p. absurd p) (λ g k m p. not-deep msg (rule_of framing limit msg) m) n e)

  -- a limit over 64 is refused with 13, and so is a higher one
  above-room : (rule rule' : List ℕ → Whole) (msg : List ℕ) → deepest < limit
      → decoded rule' capacity' limit' msg ≡ decoded rule capacity limit msg
  unfolding decoded
  above-room rule rule' msg g = rw (lt-leb limit' deepest (omega arith), lt-leb limit deepest g)

  decoded-room : (framing : Framing) (msg : List ℕ) → (limit ≤ deepest → limit' ≤ deepest)
      → NotFull (decoded (rule_of framing limit) capacity limit msg)
      → decoded (rule_of framing limit') capacity' limit' msg ≡ decoded (rule_of framing limit) capacity limit msg
  decoded-room framing msg h n =
      ⊎_elim (λ g. above-room (rule_of framing limit) (rule_of framing limit') msg g) (λ g. within-room framing msg (h g) n)
      (lt-or-le deepest limit)

-- more room, or a higher limit that stays at most 64 where the first was, changes no answer but 9 and 10, and none of the records
pub more_room : MoreRoom
more_room framing msg limit limit' table table' d h c n =
    let same = decoded-room {limit = limit} {limit' = limit'} c (omega arith) framing msg (λ g. omega (arith, h g)) n in
    record {
      answers = same;
      records = λ count dirty e. given-records count dirty (rule_of framing limit') limit' msg table'
          (subst (λ (r : DecodeAnswer). Gives r count dirty) (sym same) e)
          ∙ ap (λ (w : Whole). records_of 0 (forest_of w)) (same-trees {limit = limit} {limit' = limit'} c d count dirty framing msg n e)
          ∙ sym (given-records count dirty (rule_of framing limit) limit msg table e);
    }
