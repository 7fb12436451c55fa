-- An answer of packets leaves room for their records, which are those of the input.
use mathlib.Core.Path.{◌≡◌, refl, sym, subst}
use mathlib.Core.List.{List}
use Prim.Native.Nat.{ℕ, ◌≤◌}
use native.Mathlib.Omega.{arith}
use lib.ListN.{length}
use Rattle.refusal.specs.declared.Refusal.{Refusal}
use Rattle.wire.specs.Limits.{longest}
use Rattle.node.specs.Forest.{Forest, size}
use Rattle.node.specs.Records.{capacity, stored, TableRoom}
use Rattle.packet.specs.Packet.{Out, fault, one, read_packet}
use Rattle.fill.specs.CodeFill.{tree_of, Known}
use Rattle.framing.specs.Framing.{Whole, trees, waiting, refusal, stopped, single, udp, Frame, wait, read, refused, read_frame, first, tcp}
use Rattle.framing.specs.Framing.{rule_of}
use Rattle.edition.specs.declared.Framing.{Framing}
use Rattle.answering.specs.Limits.{limited, decoded, forest_of, tabled}
use Rattle.argument.specs.Dirt.{dirty_in}
use Rattle.results.specs.Results.{DecodeAnswer, Packets, Stopped, Waiting}
use Rattle.std.specs.Prelude.{Err}
use Rattle.decoder.specs.CodeFrames.{frame_packet, Accepted, Fillable}
use Rattle.decoder.proofs.Chosen.{by-decoded, by-bounded}
use Rattle.decoder.proofs.Sizes.{nodes-in, whole_in}

-- ---- an answer with records

-- a refusal is no answer of packets
pub no-packets : {A : Type 0} {count left dirty : ℕ} {r : Refusal} → Packets count left dirty ≡ Err r → A
no-packets e = let z : ◌≡◌ {A = ℕ} 0 1 = cc in absurd (omega arith)

-- the records that an answer gives: of packets, and of those before a refused frame
abbrev pub Counts : DecodeAnswer → ℕ → Type 0
Counts (Packets n left dirty) count = n ≡ count
Counts (Stopped n left dirty k at) count = n ≡ count
Counts Waiting count = ⊥
Counts (Err r) count = ⊥

-- the input is short enough and accepted, and its records fit
record Fitting (w : Whole) (capacity n count : ℕ) : Type 0 where
  short : n ≤ longest
  accepted : Accepted w
  records : size (forest_of w) ≡ count
  fits : count ≤ capacity

records-fit : {count : ℕ} (rule : List ℕ → Whole) (capacity limit : ℕ) (msg : List ℕ) → Counts (decoded rule capacity limit msg) count
    → Fitting (rule msg) capacity (length msg) count
records-fit {count} rule capacity limit msg e =
    by-decoded (λ (x : DecodeAnswer). Counts x count → Fitting (rule msg) capacity (length msg) count) rule capacity limit msg
    (λ _ i. absurd i) (λ _ i. absurd i) (λ _ h. by_whole h (rule msg)) e
  where
    by_whole : length msg ≤ longest → (w : Whole) → Counts (limited capacity limit msg w) count → Fitting w capacity (length msg) count
    by_whole h waiting i = absurd i
    by_whole h (refusal k) i = absurd i
    by_whole h (trees f n) i =
        by-bounded (λ (x : DecodeAnswer). Counts x count → Fitting (trees f n) capacity (length msg) count) capacity limit f
        (Packets (size f) n (dirty_in msg f)) (λ _ j. absurd j) (λ _ j. absurd j)
        (λ _ s j. record { short = h; accepted = tt; records = j; fits = omega (arith, s, j) }) i
    by_whole h (stopped f n k at) i =
        by-bounded (λ (x : DecodeAnswer). Counts x count → Fitting (stopped f n k at) capacity (length msg) count) capacity limit f
        (Stopped (size f) n (dirty_in msg f) k at) (λ _ j. absurd j) (λ _ j. absurd j)
        (λ _ s j. record { short = h; accepted = tt; records = j; fits = omega (arith, s, j) }) i

-- where records are answered, the second reading has what it needs
pub fillable : {count : ℕ} {r : DecodeAnswer} (framing : Framing) (limit : ℕ) (msg T : List ℕ) → Counts r count
    → r ≡ decoded (rule_of framing limit) (capacity T) limit msg → Fillable (rule_of framing limit msg) (length msg) count T
fillable {count} framing limit msg T n e =
    let w = records-fit (rule_of framing limit) (capacity T) limit msg (subst (λ (x : DecodeAnswer). Counts x count) e n) in
    record {
      short = w.short;
      accepted = w.accepted;
      records = w.records;
      room = record {
        fits = omega (arith, w.fits, w.records);
        low = omega (arith, w.short, nodes-in (length msg) (rule_of framing limit msg) (whole_in framing limit msg));
      };
    }

-- an answer without packets leaves the table
pub unwritten : {x y : DecodeAnswer} (f : Forest) (T : List ℕ) → x ≡ y → T ≡ tabled y f T → T ≡ tabled x f T
unwritten f T e w = subst (λ (z : DecodeAnswer). T ≡ tabled z f T) (sym e) w

-- ---- the trees of one packet and of one frame are those of the input

single-tree : (n : ℕ) (o : Out) → forest_of (single n o) ≡ tree_of o
single-tree n (fault k) = refl
single-tree n (one item f u) = refl

first-tree : (n : ℕ) (x : Frame) → forest_of (first n x) ≡ tree_of (frame_packet x)
first-tree n wait = refl
first-tree n (refused k) = refl
first-tree n (read o) = single-tree n o

-- the trees of an input of one packet
pub udp-tree : (msg : List ℕ) → forest_of (udp msg) ≡ tree_of (read_packet 0 msg 0)
unfolding udp
udp-tree msg = single-tree (length msg) (read_packet 0 msg 0)

-- the trees of an input of one frame
pub tcp-tree : (msg : List ℕ) → forest_of (tcp msg) ≡ tree_of (frame_packet (read_frame 0 msg))
unfolding tcp
tcp-tree msg = first-tree (length msg) (read_frame 0 msg)

single-known : {count : ℕ} (n : ℕ) (o : Out) → Accepted (single n o) → size (forest_of (single n o)) ≡ count → Known o count
unfolding size
single-known n (fault k) h e = absurd h
single-known n (one item f u) h e = record { some = omega (arith, e); records = e }

-- a packet that was accepted is known
pub udp-known : {count : ℕ} (msg : List ℕ) → Accepted (udp msg) → size (forest_of (udp msg)) ≡ count → Known (read_packet 0 msg 0) count
unfolding udp
udp-known msg h e = single-known (length msg) (read_packet 0 msg 0) h e

-- room for the trees of an input is room for those of its packet
pub room_for : {f g : Forest} {T : List ℕ} → f ≡ g → TableRoom f 0 T → TableRoom g 0 T
room_for {T = T} e w = subst (λ (h : Forest). TableRoom h 0 T) e w

-- ---- a framing that is known

module _ {f g : Framing} (e : f ≡ g) where
  -- what the second reading by it needs
  pub fillable-by : {n count : ℕ} {T : List ℕ} (limit : ℕ) (msg : List ℕ) → Fillable (rule_of f limit msg) n count T
      → Fillable (rule_of g limit msg) n count T
  fillable-by {n} {count} {T} limit msg w = subst (λ (x : Framing). Fillable (rule_of x limit msg) n count T) e w

  -- what it leaves
  pub stored-by : {T' : List ℕ} (limit : ℕ) (msg T : List ℕ) → T' ≡ stored 0 (forest_of (rule_of g limit msg)) T
      → T' ≡ stored 0 (forest_of (rule_of f limit msg)) T
  stored-by {T'} limit msg T w = subst (λ (x : Framing). T' ≡ stored 0 (forest_of (rule_of x limit msg)) T) (sym e) w
