-- A cue is the same cue without the bytes after it, and `decode_tcp` gives it.
use mathlib.Core.Path.{◌≡◌, ap, subst, ◌∙◌}
use mathlib.Core.List.{List}
use Prim.Native.Nat.{ℕ, ◌+◌, ◌-◌, ◌≤◌}
use native.Mathlib.Omega.{arith}
use borrow.Author.Tests.{le-leb}
use lib.ListN.{length, take}
use lib.Seq.{length-take-le}
use Rattle.wire.proofs.Payloads.{ok-is, some-is}
use Rattle.cues.specs.declared.cue.JudgedFrame.{JudgedFrame}
use Rattle.wire.specs.Limits.{longest, deepest}
use Rattle.wire.proofs.Choices.{by_le}
use Rattle.node.specs.Forest.{Forest, nil, node, size}
use Rattle.node.specs.declared.record.Item.{Item}
use Rattle.argument.specs.Dirt.{dirty_in}
use Rattle.packet.specs.Packet.{fault, one}
use Rattle.framing.specs.Framing.{Frame, wait, read, refused, cut_frame, tcp2}
use Rattle.folding.specs.Folding.{Verdict}
use Rattle.folding.proofs.Settled.{GivenAlone, given-alone}
use Rattle.rosc_inputs.proofs.Totals.{one-tree, one_size}
use Rattle.standard_inputs.proofs.Cuts.{Shallow, cut-shallow}
use Rattle.answering.specs.Limits.{decoded}
use Rattle.results.specs.Results.{Packets}
use Rattle.cues.specs.Results as cue
use Rattle.cues.specs.Cues.{most_in_a_cue, judged_cue, cue_of}
use Rattle.cues.proofs.Cues.{cue_by}

-- `decode_tcp` gives the packet of a frame that is given from all of its bytes, with room for its records
pub frame-decodes : (m : List ℕ) (item : Item) (f : Forest) (u : ℕ) → cut_frame deepest 0 m ≡ read (one item f u) → length m ≡ u
    → u ≤ longest → (room : ℕ) → 1 + size f ≤ room
    → decoded (tcp2 deepest) room deepest m ≡ Packets (1 + size f) 0 (dirty_in m (node item f nil))
unfolding decoded tcp2
frame-decodes m item f u e long h room fits =
    let none : length m - u ≡ 0 = omega arith in
    let s = subst (Shallow deepest) e (cut-shallow deepest 0 m) in
    rw (le-leb (length m) longest (omega arith), e, one-tree item f, le-leb _ _ s, one_size item f, le-leb (1 + size f) room fits, none)

-- ---- a cue

-- a frame that is accepted for an index is accepted alone, and `decode_tcp` gives it
pub record CueAlone (l : List ℕ) (u c : ℕ) : Type 0 where
  pub short : u ≤ longest
  pub judged : cue_of (take u l) ≡ cue.Given u c
  pub dirt : ℕ
  pub decodes : (room : ℕ) → c ≤ room → decoded (tcp2 deepest) room deepest (take u l) ≡ Packets c 0 dirt

tree-alone : (l : List ℕ) (item : Item) (f : Forest) (u : ℕ) → u ≤ length l → GivenAlone deepest 0 l (read (one item f u))
    → 1 + size f ≤ most_in_a_cue → CueAlone l u (1 + size f)
unfolding cue_of
tree-alone l item f u h a few =
    record {
      short = a.0;
      judged = ap (cue_by (take u l)) a.1 ∙ rw (le-leb (1 + size f) most_in_a_cue few);
      dirt = dirty_in (take u l) (node item f nil);
      decodes = frame-decodes (take u l) item f u a.1 (length-take-le u l h) a.0;
    }

module _ (l : List ℕ) (u c : ℕ) (h : u ≤ length l) where
  by-frame : (x : Frame) → GivenAlone deepest 0 l x → cue_by l x ≡ cue.Given u c → CueAlone l u c
  by-frame wait a q = let z : ◌≡◌ {A = ℕ} 0 1 = cc in absurd (omega arith)
  by-frame (read (fault k)) a q = let z : ◌≡◌ {A = ℕ} 0 1 = cc in absurd (omega arith)
  by-frame (read (one item f v)) a q =
      by_le (λ (y : Verdict ℕ). judged_cue y ≡ cue.Given u c → CueAlone l u c) (1 + size f) most_in_a_cue
      (λ few p. let judged : ◌≡◌ {A = JudgedFrame} _ _ = some-is (ok-is p) in
      let same : v ≡ u = ap (λ (x : JudgedFrame). x.size) judged in
      let count : 1 + size f ≡ c = ap (λ (x : JudgedFrame). x.records) judged in
      rw (← same, ← count) (tree-alone l item f v (omega arith) a few))
      (λ few p. let z : ◌≡◌ {A = ℕ} 0 1 = cc in absurd (omega arith)) q
  by-frame (refused k) a q = let z : ◌≡◌ {A = ℕ} 0 1 = cc in absurd (omega arith)

  -- a cue is the same without the bytes after it
  pub cue-alone : cue_of l ≡ cue.Given u c → CueAlone l u c
  unfolding cue_of
  cue-alone e = by-frame (cut_frame deepest 0 l) (given-alone deepest 0 l) e
