-- What an index leaves to wait is shorter than a buffer.
use mathlib.Core.Path.{◌≡◌, refl, subst}
use mathlib.Core.List.{List}
use Prim.Native.Nat.{ℕ, ◌+◌, ◌-◌, ◌%◌, ◌<◌}
use native.Mathlib.Omega.{arith}
use lib.Dec.{leb}
use lib.ListN.{length, take, drop}
use Rattle.wire.specs.Limits.{longest, longest_framed, deepest}
use Rattle.wire.specs.Number.{number}
use Rattle.wire.proofs.Choices.{by-test, by-eq, by_le}
use Rattle.node.specs.Forest.{nil, node, size, depth}
use Rattle.heads.specs.Heads.{length_of}
use Rattle.heads.specs.Results.{Length}
use Rattle.cues.specs.Results as cue
use Rattle.heads.specs.Results as cut
use Rattle.packet.specs.Packet.{Out, fault, one, after, read_packet}
use Rattle.framing.specs.Framing.{Frame, wait, read, refused, wholly, cut_with, cut_frame}
use Rattle.folding.specs.Folding.{Verdict}
use Rattle.folding.specs.Walks.{MayContinue}
use Rattle.folding.proofs.Framed.{Framed, ends, lacks, fails, frame, framed, framed-in, framed-rest}
use Rattle.cues.specs.Cues.{most_in_a_cue, judged_cue, cue_of, indexing, index, KeptIsShort}
use Rattle.results.specs.declared.End.{End}
use Rattle.cues.proofs.Cues.{cue_by}
use Rattle.cues.proofs.Indexes.{index-inside, cued}

-- a length that waits
LengthShort : ℕ → Length → Type 0
LengthShort m (cut.Cuts n) = Unit {0}
LengthShort m cut.Waiting = m < longest
LengthShort m cut.Over = Unit {0}
LengthShort m cut.Odd = Unit {0}

length-short : (l : List ℕ) → LengthShort (length l) (length_of l)
unfolding length_of LengthShort
length-short l =
    let n = number 4 l in
    let P = LengthShort (length l) in
    by_le P 4 (length l)
    (λ _. by_le P n longest_framed
    (λ low. by-eq P (n % 4) 0 (λ _. by_le P n (length l - 4) (λ _. tt) (λ past. omega arith)) (λ _. tt)) (λ _. tt))
    (λ few. omega arith)

-- a frame that waits
FrameShort : ℕ → Frame → Type 0
FrameShort m wait = m < longest
FrameShort m (read o) = Unit {0}
FrameShort m (refused k) = Unit {0}

whole-short : (m limit n : ℕ) (o : Out) → FrameShort m (wholly limit n o)
unfolding FrameShort
whole-short m limit n (fault k) = tt
whole-short m limit n (one item f u) =
    by-eq (FrameShort m) u n (λ _. by-test (FrameShort m) (leb (depth (node item f nil)) limit) (λ _. tt) (λ _. tt)) (λ _. tt)

frame-short : (limit base : ℕ) (l : List ℕ) → FrameShort (length l) (cut_frame limit base l)
unfolding cut_frame LengthShort FrameShort
frame-short limit base l = by_length (length_of l) (length-short l)
  where
    by_length : (x : Length) → LengthShort (length l) x → FrameShort (length l) (cut_with limit base l x)
    by_length (cut.Cuts n) h = whole-short (length l) limit (4 + n) (after 4 (read_packet base (take n (drop 4 l)) 4))
    by_length cut.Waiting h = h
    by_length cut.Over h = tt
    by_length cut.Odd h = tt

-- a frame that waits is shorter than a buffer
pub waits-short : (l : List ℕ) → cue_of l ≡ cue.Waiting → length l < longest
unfolding cue_of FrameShort
waits-short l e = by-frame (cut_frame deepest 0 l) (frame-short deepest 0 l) e
  where
    by-frame : (x : Frame) → FrameShort (length l) x → cue_by l x ≡ cue.Waiting → length l < longest
    by-frame wait h q = h
    by-frame (read (fault k)) h q = let z : ◌≡◌ {A = ℕ} 0 1 = cc in absurd (omega arith)
    by-frame (read (one item f u)) h q =
        by_le (λ (y : Verdict ℕ). judged_cue y ≡ cue.Waiting → length l < longest) (1 + size f) most_in_a_cue
        (λ few p. let z : ◌≡◌ {A = ℕ} 0 1 = cc in absurd (omega arith)) (λ few p. let z : ◌≡◌ {A = ℕ} 0 1 = cc in absurd (omega arith)) q
    by-frame (refused k) h q = let z : ◌≡◌ {A = ℕ} 0 1 = cc in absurd (omega arith)

left-short : {base at : ℕ} {l w : List ℕ} {why : End} → Framed indexing base l (index w at why) → at ≡ base → MayContinue why
    → length l < longest
left-short ends none g = omega arith
left-short {base} {l = l} (lacks some e) none g = waits-short l (cued base l e)
left-short (fails some e) none g = absurd g
left-short (frame some e h r) none g = absurd (omega (arith, (framed-in r).0))

-- what is kept leaves room in a buffer for a byte more
pub kept_is_short : KeptIsShort
kept_is_short base l w at why g e = left-short (framed-rest (subst (Framed indexing base l) e (framed indexing index-inside base l))) refl g
