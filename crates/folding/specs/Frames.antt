-- Folds over the frames of edition 2 (document 02, Ticket 1) that are accepted. How frames are read and what each adds are the parameters;
-- what it adds is told by its offset, its own bytes and its tree.
use Rattle.std.specs.Prelude.{Bool, cond, List, ℕ, take}
use Rattle.refusal.specs.Refusal.{moved_by}
use Rattle.refusal.specs.declared.Refusal.TheVariants.{Unreadable, TableFull}
use Rattle.node.specs.Forest.{Forest}
use Rattle.node.specs.declared.record.Item.{Item}
use Rattle.packet.specs.Packet.{fault, one}
use Rattle.framing.specs.Framing.{Frame, wait, read, refused, cut_frame}
use Rattle.folding.specs.Folding.{Verdict, takes, waits, refuses, Folding}

-- how frames are read: the depth limit; by a frame's offset the place from which its tree and its faults are counted; and whether what is
-- inside its packet has room
pub record Reading : Type 0 where
  pub limit : ℕ
  pub from : ℕ → ℕ
  pub room : Forest → Bool

-- what an accepted frame adds: by the offset of its prefix, its bytes with the prefix, its packet and what is inside
abbrev pub FrameAdds : Type 0 → Type 0
FrameAdds A = (base : ℕ) (own : List ℕ) (item : Item) (inside : Forest) → A

module _ {A : Type 0} (r : Reading) (adds : FrameAdds A) where
  -- a frame at offset `base`, at the front of l, as it is judged: 10 where its records have no room
  abbrev pub judged : ℕ → List ℕ → Frame → Verdict A
  judged base l wait = waits
  judged base l (read (fault k)) = refuses (Unreadable (moved_by (r.from base) k))
  judged base l (read (one item inside used)) =
      cond (r.room inside) (takes used (adds base (take used l) item inside)) (refuses TableFull)
  judged base l (refused k) = refuses k

  -- the frame at the front of l
  abbrev pub judge_of : ℕ → List ℕ → Verdict A
  judge_of base l = judged base l (cut_frame r.limit (r.from base) l)

  -- a fold over accepted frames
  abbrev pub over_frames : A → (A → A → A) → Folding A
  over_frames unit add = record { unit = unit; add = add; judge = λ base l. judge_of base l }
