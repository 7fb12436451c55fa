-- A frame that ends an index is refused only by the numbers that document 02 lists for it.
use mathlib.Core.Path.{◌≡◌, refl, subst}
use mathlib.Core.Bool.{Bool, true, false, ◌||◌, false≢true}
use mathlib.Core.List.{List, [], ◌∷◌, ◌++◌}
use Prim.Native.Nat.{ℕ, ◌+◌}
use lib.Dec.{eqb}
use Rattle.refusal.specs.Refusal.{number_of, moved_by}
use Rattle.refusal.specs.declared.Refusal.{Refusal}
use Rattle.refusal.specs.declared.Refusal.TheVariants.{Unreadable}
use Rattle.wire.specs.Limits.{deepest}
use Rattle.wire.proofs.Choices.{by_le}
use Rattle.node.specs.Forest.{size}
use Rattle.node.specs.Tags.{among}
use Rattle.packet.specs.Packet.{fault, one}
use Rattle.framing.specs.Framing.{Frame, wait, read, refused, cut_frame}
use Rattle.folding.specs.Folding.{Verdict}
use Rattle.answering.specs.Limits.{frame_order}
use Rattle.answering.proofs.Numbers.{frame-faults, FrameAmong, frame-among}
use Rattle.cues.specs.Cues.{most_in_a_cue, judged_cue, cue_of}
use Rattle.cues.specs.Refusals.{cue_order}
use Rattle.cues.specs.Results.{Cue}
use Rattle.std.specs.Prelude.{Err, Ok, Some}
use Rattle.cues.specs.Results as cue
use Rattle.cues.proofs.Cues.{cue_by}

-- one of some numbers is one of more
among-more : (n : ℕ) (l m : List ℕ) → among n l ≡ true → among n (l ++ m) ≡ true
among-more n [] m h = absurd (false≢true h)
among-more n (x ∷ l) m h = by_first (eqb n x) (among-more n l m) h
  where
    by_first : (b : Bool) → (among n l ≡ true → among n (l ++ m) ≡ true) → (b || among n l) ≡ true → (b || among n (l ++ m)) ≡ true
    by_first true go e = refl
    by_first false go e = go e

-- the refusal of a frame is one of those
abbrev CueAmong : Cue → Type 0
CueAmong (Ok (Some front)) = Unit {0}
CueAmong cue.Waiting = Unit {0}
CueAmong (Err k) = among (number_of k) cue_order ≡ true

judged-among : (l : List ℕ) (x : Frame) → FrameAmong frame_order x → CueAmong (cue_by l x)
judged-among l wait h = tt
judged-among l (read (fault k)) h =
    among-more (number_of (Unreadable (moved_by 0 k))) frame_order (10 ∷ []) (frame-faults (moved_by 0 k))
judged-among l (read (one item f used)) h =
    by_le (λ (y : Verdict ℕ). CueAmong (judged_cue y)) (1 + size f) most_in_a_cue (λ _. tt) (λ _. refl)
judged-among l (refused k) h = among-more (number_of k) frame_order (10 ∷ []) h

-- the number of a refused frame is one of those
pub refused-among : (l : List ℕ) (k : Refusal) → cue_of l ≡ Err k → among (number_of k) cue_order ≡ true
unfolding cue_of
refused-among l k e = subst CueAmong e (judged-among l (cut_frame deepest 0 l) (frame-among deepest 0 l))
