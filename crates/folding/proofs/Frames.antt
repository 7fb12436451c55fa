-- The judge of the frames of edition 2 that are accepted: a frame lies in its bytes, its verdict stays when bytes are appended, but where
-- it waits, and it is accepted from its own bytes alone. So a fold over them is sound, whatever a frame adds.
use mathlib.Core.Path.{◌≡◌, refl, ap, sym, subst, ◌∙◌}
use mathlib.Core.List.{List, ◌++◌}
use Prim.Native.Nat.{ℕ}
use native.Mathlib.Omega.{arith}
use lib.ListN.{length, take}
use lib.Seq.{take-append-le, take-take}
use Rattle.wire.proofs.Choices.{by-test}
use Rattle.node.specs.Forest.{Forest}
use Rattle.node.specs.declared.record.Item.{Item}
use Rattle.packet.specs.Packet.{fault, one}
use Rattle.framing.specs.Framing.{Frame, wait, read, refused, cut_frame}
use Rattle.framing.proofs.FrameKnot.{FrameIn, cut_in}
use Rattle.folding.specs.Folding.{Verdict, takes, waits, refuses, Inside, Stays, Alone, Sound}
use Rattle.folding.specs.Frames.{Reading, FrameAdds, judged, judge_of, over_frames}
use Rattle.folding.proofs.Settled.{SameFrame, cut-same, GivenAlone, given-alone}

module _ {A : Type 0} (r : Reading) (adds : FrameAdds A) where
  judged-inside : (base : ℕ) (l : List ℕ) (x : Frame) → FrameIn (length l) x → Inside (length l) (judged r adds base l x)
  judged-inside base l wait w = tt
  judged-inside base l (read (fault k)) w = tt
  judged-inside base l (read (one item f u)) w =
      by-test (λ (v : Verdict A). Inside (length l) v) (r.room f) (λ _. (omega arith, w.1)) (λ _. tt)
  judged-inside base l (refused k) w = tt

  -- a frame lies in its bytes
  pub inside : (base : ℕ) (l : List ℕ) → Inside (length l) (judge_of r adds base l)
  inside base l = judged-inside base l (cut_frame r.limit (r.from base) l) (cut_in r.limit (r.from base) l)

  itself : (x : Verdict A) → Stays x x
  itself (takes u a) = refl
  itself waits = tt
  itself (refuses k) = refl

  -- a frame is judged alike by two lists whose front is its bytes
  judged-alike : (base : ℕ) (l m : List ℕ) (item : Item) (f : Forest) (u : ℕ) → take u m ≡ take u l
      → judged r adds base m (read (one item f u)) ≡ judged r adds base l (read (one item f u))
  judged-alike base l m item f u e = rw e

  judged-stays : (base : ℕ) (l more : List ℕ) (x y : Frame) → FrameIn (length l) x → SameFrame x y
      → Stays (judged r adds base l x) (judged r adds base (l ++ more) y)
  judged-stays base l more wait y w s = tt
  judged-stays base l more (read (fault k)) y w s = ap (judged r adds base (l ++ more)) s
  judged-stays base l more (read (one item f u)) y w s =
      subst (Stays (judged r adds base l (read (one item f u))))
      (sym (ap (judged r adds base (l ++ more)) s ∙ judged-alike base l (l ++ more) item f u (take-append-le u l more w.1)))
      (itself (judged r adds base l (read (one item f u))))
  judged-stays base l more (refused k) y w s = ap (judged r adds base (l ++ more)) s

  -- a verdict stays when bytes are appended, but where it waits
  pub stays : (base : ℕ) (l more : List ℕ) → Stays (judge_of r adds base l) (judge_of r adds base (l ++ more))
  stays base l more =
      judged-stays base l more (cut_frame r.limit (r.from base) l) (cut_frame r.limit (r.from base) (l ++ more))
      (cut_in r.limit (r.from base) l) (cut-same r.limit (r.from base) l more)

  judged-alone : (base : ℕ) (l : List ℕ) (x : Frame) → GivenAlone r.limit (r.from base) l x
      → Alone (λ b m. judge_of r adds b m) base l (judged r adds base l x)
  judged-alone base l wait g = tt
  judged-alone base l (read (fault k)) g = tt
  judged-alone base l (read (one item f u)) g =
      by-frame (ap (judged r adds base (take u l)) g.1 ∙ judged-alike base l (take u l) item f u (take-take u u l (omega arith)))
    where
      by-frame : judge_of r adds base (take u l) ≡ judged r adds base l (read (one item f u))
          → Alone (λ b m. judge_of r adds b m) base l (judged r adds base l (read (one item f u)))
      by-frame =
          by-test (λ (v : Verdict A). judge_of r adds base (take u l) ≡ v → Alone (λ b m. judge_of r adds b m) base l v)
          (r.room f) (λ _ e. e) (λ _ e. tt)
  judged-alone base l (refused k) g = tt

  -- a frame that is accepted is accepted from its own bytes alone
  pub alone : (base : ℕ) (l : List ℕ) → Alone (λ b m. judge_of r adds b m) base l (judge_of r adds base l)
  alone base l = judged-alone base l (cut_frame r.limit (r.from base) l) (given-alone r.limit (r.from base) l)

  -- so a fold over accepted frames is sound, if its sums are
  pub sound : (unit : A) (add : A → A → A) → ((a b c : A) → add (add a b) c ≡ add a (add b c))
      → ((a : A) → add unit a ≡ a) → ((a : A) → add a unit ≡ a) → Sound (over_frames r adds unit add)
  sound unit add grouped before after =
      record {
        grouped = grouped;
        unit_before = before;
        unit_after = after;
        inside = inside;
        stays = stays;
      }
