-- Demand 3 in edition 2: bytes appended and limits no lower leave every packet that was given at its place (Ticket 1), and its dirty
-- padding (Ticket 8).
use mathlib.Core.Path.{◌≡◌, refl, ap, sym, subst, ◌∙◌}
use mathlib.Core.Logic.{⊎_elim}
use mathlib.Core.List.{List, ◌++◌}
use Prim.Native.Nat.{ℕ, zero, suc, ◌+◌, ◌*◌, ◌≤◌, ◌<◌}
use native.Mathlib.Omega.{arith}
use borrow.Author.Tests.{le-leb, eq-eqb}
use lib.ListN.{length, take, drop, length-append, length-drop}
use lib.Seq.{take_at, drop-append-le}
use Rattle.edition.specs.declared.Edition.TheVariants.{Standard}
use Rattle.wire.proofs.Choices.{by-eq, by_le, lt-or-le}
use Rattle.argument.specs.Dirt.{packets_padding, dirty_in}
use Rattle.argument.proofs.Pads.{packets-join}
use Rattle.node.specs.Forest.{Forest, nil, node, size, depth}
use Rattle.node.specs.Records.{record_size, records_of, capacity}
use Rattle.node.proofs.Recorded.{length-records}
use Rattle.heads.specs.Heads.{length_of}
use Rattle.heads.specs.Results.{Length}
use Rattle.results.specs.Results.{Packets, Stopped}
use Rattle.heads.specs.Results as cut
use Rattle.packet.specs.Packet.{Out, fault, one, after, read_packet}
use Rattle.framing.specs.Framing.{Whole, trees, waiting, refusal, stopped, Frame, wait, read, refused, wholly, cut_with, cut_frame, first}
use Rattle.framing.specs.Framing.{tcp2}
use Rattle.framing.specs.Framing.{after_frame, listed, stops, rule_of}
use Rattle.edition.specs.declared.Framing.{Framing}
use Rattle.edition.specs.declared.Framing.TheVariants.{Tcp, TcpVec}
use Rattle.framing.proofs.FrameKnot.{FrameIn, cut_in}
use Rattle.framing.proofs.Lists as lists
use Rattle.answering.specs.Limits.{limited, decoded, forest_of}
use Rattle.decoder.proofs.Chosen.{by-decoded, by-bounded}
use Rattle.decoder.specs.CodeFrames.{Accepted}
use Rattle.decoder.proofs.Cuts.{rest_of, rest-by, rest-forest}
use Rattle.decoder.proofs.Sizes.{vec2-accepted, vec2-shallow}
use Rattle.standard_inputs.proofs.Cuts.{Shallow, cut-shallow}
use Rattle.rosc_inputs.proofs.Totals.{one-tree}
use Rattle.calls.specs.Words.{BeginsSame, none, also, Gives, Allowed}
use Rattle.calls.specs.Demands.{answer_to, Stay, PacketsStay, StandardStays}
use Rattle.calls.proofs.Answered.{held, given_is, given-records}
use Rattle.folding.proofs.Settled.{SameFrame, cut-same}
use Rattle.calls.proofs.Longer.Frames.{dirt-longer, frame-longer}
use Rattle.calls.proofs.Longer.Tables.{begins-records}

-- ---- a frame

-- a frame that is given stays
abbrev Kept : Frame → Frame → Type 0
Kept wait y = Unit {0}
Kept (read (fault k)) y = Unit {0}
Kept (read (one item f u)) y = y ≡ read (one item f u)
Kept (refused k) y = Unit {0}

kept_same : (x y z : Frame) → Kept x y → SameFrame y z → Kept x z
kept_same wait y z k s = tt
kept_same (read (fault j)) y z k s = tt
kept_same (read (one item f u)) y z k s = subst (λ (w : Frame). SameFrame w z) k s
kept_same (refused j) y z k s = tt

-- where a frame gives no tree, its list has none
none_of : {x : Frame} (limit base : ℕ) (l : List ℕ) → 0 < length l → cut_frame limit base l ≡ x
    → forest_of (after_frame stops (λ b m. listed (λ c k. cut_frame limit c k) stops b m) base l x) ≡ nil
    → forest_of (rest_of limit base l) ≡ nil
none_of limit base l s e h = ap forest_of (rest-by limit base l s e) ∙ h

module _ {limit limit' : ℕ} (d : limit ≤ limit') where
  whole-kept : (n : ℕ) (o : Out) → Kept (wholly limit n o) (wholly limit' n o)
  whole-kept n (fault k) = tt
  whole-kept n (one item f u) =
      let deep = depth (node item f nil) in
      by-eq (λ (x : Frame). Kept x (wholly limit' n (one item f u))) u n
      (λ e. by_le (λ (x : Frame). Kept x (wholly limit' n (one item f u))) deep limit
      (λ h. rw (eq-eqb u n e, le-leb deep limit' (omega arith))) (λ h. tt))
      (λ e. tt)

  -- a limit that is no lower keeps a frame
  limit-kept : (base : ℕ) (l : List ℕ) → Kept (cut_frame limit base l) (cut_frame limit' base l)
  unfolding cut_frame
  limit-kept base l = by_length (length_of l)
    where
      by_length : (x : Length) → Kept (cut_with limit base l x) (cut_with limit' base l x)
      by_length (cut.Cuts n) = whole-kept (4 + n) (after 4 (read_packet base (take n (drop 4 l)) 4))
      by_length cut.Waiting = tt
      by_length cut.Over = tt
      by_length cut.Odd = tt

  cut-kept : (base : ℕ) (l more : List ℕ) → Kept (cut_frame limit base l) (cut_frame limit' base (l ++ more))
  cut-kept base l more =
      kept_same (cut_frame limit base l) (cut_frame limit' base l) (cut_frame limit' base (l ++ more)) (limit-kept base l)
      (cut-same limit' base l more)

  -- ---- a list

  Begins : ℕ → List ℕ → List ℕ → Type 0
  Begins base l more = BeginsSame (forest_of (rest_of limit base l)) (forest_of (rest_of limit' base (l ++ more)))

  begins-frame : (base : ℕ) (l more : List ℕ) (x : Frame) → cut_frame limit base l ≡ x → FrameIn (length l) x
      → Kept x (cut_frame limit' base (l ++ more)) → 0 < length l
      → ((u : ℕ) → 5 ≤ u → u ≤ length l → Begins (base + u) (drop u l) more) → Begins base l more
  unfolding Begins
  begins-frame base l more wait e w k s go = rw (none_of limit base l s e refl) none
  begins-frame base l more (refused j) e w k s go = rw (none_of limit base l s e refl) none
  begins-frame base l more (read (fault j)) e w k s go = rw (none_of limit base l s e refl) none
  begins-frame base l more (read (one item f u)) e w k s go =
      rw (
        rest-forest limit base l s e,
        rest-forest limit' base (l ++ more) (omega (arith, length-append l more)) k,
        drop-append-le u l more w.1,
      ) (also (go u (omega arith) w.1))

  begins : (n base : ℕ) (l more : List ℕ) → length l < n → Begins base l more
  unfolding Begins
  begins zero base l more h = absurd (omega arith)
  begins (suc n) base l more h =
      ⊎_elim
      (λ some. begins-frame base l more (cut_frame limit base l) refl (cut_in limit base l) (cut-kept base l more) some
      (λ u low high. begins n (base + u) (drop u l) more (omega (arith, length-drop u l))))
      (λ no. rw (lists.remaining-none (λ b m. cut_frame limit b m) stops base l no) none)
      (lt-or-le 0 (length l))

-- ---- the answer

begins-size : {f g : Forest} → BeginsSame f g → size f ≤ size g
unfolding size
begins-size none = omega arith
begins-size (also w) = omega (arith, begins-size w)

begins-soil : (msg : List ℕ) {f g : Forest} → BeginsSame f g → dirty_in msg f ≤ dirty_in msg g
unfolding packets_padding
begins-soil msg none = omega arith
begins-soil msg (also {item} {inside} {f} {g} w) =
    omega (arith, packets-join msg item inside f, packets-join msg item inside g, begins-soil msg w)

-- where 13, 1 and 10 do not refuse a call, it gives the trees that it reads, which are within the limit
allowed-gives : (rule : List ℕ → Whole) (capacity limit : ℕ) (msg : List ℕ) → Accepted (rule msg) → depth (forest_of (rule msg)) ≤ limit
    → Allowed (decoded rule capacity limit msg)
    → Gives (decoded rule capacity limit msg) (size (forest_of (rule msg))) (dirty_in msg (forest_of (rule msg)))
allowed-gives rule capacity limit msg a s =
    by-decoded (λ r. Allowed r → Gives r (size (forest_of (rule msg))) (dirty_in msg (forest_of (rule msg)))) rule capacity limit msg
    (λ g n. absurd (n.no_13 refl)) (λ g n. absurd (n.no_1 refl)) (λ g k. by_whole (rule msg) a s)
  where
    by_whole : (w : Whole) → Accepted w → depth (forest_of w) ≤ limit → Allowed (limited capacity limit msg w)
        → Gives (limited capacity limit msg w) (size (forest_of w)) (dirty_in msg (forest_of w))
    by_whole waiting i h n = absurd i
    by_whole (refusal k) i h n = absurd i
    by_whole (trees f left) i h n =
        by-bounded (λ r. Allowed r → Gives r (size f) (dirty_in msg f)) capacity limit f (Packets (size f) left (dirty_in msg f))
        (λ g m. absurd (omega arith)) (λ g m. absurd (m.no_10 refl)) (λ g k m. (refl, refl)) n
    by_whole (stopped f left j at) i h n =
        by-bounded (λ r. Allowed r → Gives r (size f) (dirty_in msg f)) capacity limit f (Stopped (size f) left (dirty_in msg f) j at)
        (λ g m. absurd (omega arith)) (λ g m. absurd (m.no_10 refl)) (λ g k m. (refl, refl)) n

-- an answer with records is given for trees
gives-accepted : (count dirty : ℕ) (rule : List ℕ → Whole) (capacity limit : ℕ) (msg : List ℕ)
    → Gives (decoded rule capacity limit msg) count dirty → Accepted (rule msg)
gives-accepted count dirty rule capacity limit msg =
    by-decoded (λ r. Gives r count dirty → Accepted (rule msg)) rule capacity limit msg (λ g p. absurd p) (λ g p. absurd p)
    (λ g k. by_whole (rule msg))
  where
    by_whole : (w : Whole) → Gives (limited capacity limit msg w) count dirty → Accepted w
    by_whole waiting p = absurd p
    by_whole (refusal k) p = absurd p
    by_whole (trees f left) p = tt
    by_whole (stopped f left j at) p = tt

-- where the trees of the longer input begin with those of the shorter one, its records stay; and where bytes appended leave the dirt of
-- those, it does not fall
module _ (framing : Framing) (msg more : List ℕ) (limit limit' : ℕ) (table table' : List ℕ) (count dirty : ℕ)
    (e : Gives (answer_to (rule_of framing limit) limit msg table) count dirty)
    (a : Accepted (rule_of framing limit' (msg ++ more))) (s : depth (forest_of (rule_of framing limit' (msg ++ more))) ≤ limit')
    (w : BeginsSame (forest_of (rule_of framing limit msg)) (forest_of (rule_of framing limit' (msg ++ more))))
    (d : dirty_in (msg ++ more) (forest_of (rule_of framing limit msg)) ≡ dirty_in msg (forest_of (rule_of framing limit msg)))
    (alone : framing ≡ Tcp Standard → forest_of (rule_of framing limit' (msg ++ more)) ≡ forest_of (rule_of framing limit msg))
    (n : Allowed (answer_to (rule_of framing limit') limit' (msg ++ more) table')) where
  stays : Stay framing msg more limit limit' table table' count dirty
  stays =
      let F = forest_of (rule_of framing limit msg) in
      let e' = allowed-gives (rule_of framing limit') (capacity table') limit' (msg ++ more) a s n in
      let was = held count dirty (rule_of framing limit) (capacity table) limit msg e in
      let c = was.counts in
      let soils : dirty_in (msg ++ more) F ≡ dirty = d ∙ was.soils in
      let r = begins-records 0 (drop (record_size * size (forest_of (rule_of framing limit' (msg ++ more)))) table') w in
      record {
        many = size (forest_of (rule_of framing limit' (msg ++ more)));
        dirt = dirty_in (msg ++ more) (forest_of (rule_of framing limit' (msg ++ more)));
        answers = e';
        no_fewer = omega (arith, begins-size w);
        no_cleaner = omega (arith, begins-soil (msg ++ more) w);
        one_frame = λ q. (ap size (alone q) ∙ c, ap (dirty_in (msg ++ more)) (alone q) ∙ soils);
        records =
            ap (take (record_size * count)) (given_is _ _ (rule_of framing limit') limit' (msg ++ more) table' e' ∙ r.1)
            ∙ take_at (records_of 0 F) r.0 (record_size * count) (length-records 0 F ∙ ap (λ (k : ℕ). record_size * k) c)
            ∙ sym (given-records count dirty (rule_of framing limit) limit msg table e);
      }

first-kept : (n n' : ℕ) (x y : Frame) → Kept x y → Accepted (first n x)
    → Accepted (first n' y) × BeginsSame (forest_of (first n x)) (forest_of (first n' y)) × (forest_of (first n' y) ≡ forest_of (first n x))
first-kept n n' wait y k h = absurd h
first-kept n n' (refused j) y k h = absurd h
first-kept n n' (read (fault j)) y k h = absurd h
first-kept n n' (read (one item f u)) y k h = rw k (tt, also none, refl)

first-shallow : (limit n : ℕ) (x : Frame) → Shallow limit x → depth (forest_of (first n x)) ≤ limit
unfolding depth
first-shallow limit n wait s = omega arith
first-shallow limit n (refused j) s = omega arith
first-shallow limit n (read (fault j)) s = omega arith
first-shallow limit n (read (one item f u)) s = omega (arith, one-tree item f)

-- a packet that `decode_tcp` gives in edition 2 stays
pub frame_stays : PacketsStay (Tcp Standard)
unfolding tcp2
frame_stays msg more limit limit' table table' count dirty d e n =
    let k = first-kept (length msg) (length (msg ++ more)) (cut_frame limit 0 msg) (cut_frame limit' 0 (msg ++ more)) (cut-kept d 0 msg more)
    (gives-accepted count dirty (rule_of (Tcp Standard) limit) (capacity table) limit msg e) in
    stays (Tcp Standard) msg more limit limit' table table' count dirty e k.0
    (first-shallow limit' (length (msg ++ more)) (cut_frame limit' 0 (msg ++ more)) (cut-shallow limit' 0 (msg ++ more))) k.1
    (frame-longer limit msg more) (λ _. k.2) n

-- so do those that `decode_tcp_vec` gives
pub list_stays : PacketsStay (TcpVec Standard)
unfolding Begins
list_stays msg more limit limit' table table' count dirty d e n =
    stays (TcpVec Standard) msg more limit limit' table table' count dirty e (vec2-accepted limit' (msg ++ more))
    (vec2-shallow limit' (msg ++ more))
    (rw (lists.vec2-remaining limit msg, lists.vec2-remaining limit' (msg ++ more))
    (begins d (suc (length msg)) 0 msg more (omega arith)))
    (rw (lists.vec2-remaining limit msg) (dirt-longer limit msg more)) (λ q. let z : ◌≡◌ {A = ℕ} 0 1 = cc in absurd (omega arith)) n

-- both
pub standard-stays : StandardStays
standard-stays = (frame_stays, list_stays)
