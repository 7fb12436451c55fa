-- One frame, as it is judged for an index: by the answer of the decoder of one frame, and within its input.
use mathlib.Core.Path.{◌≡◌, refl, ap, sym, ◌∙◌, subst}
use mathlib.Core.List.{List}
use Prim.Native.Nat.{ℕ, ◌+◌, ◌-◌, ◌≤◌}
use native.Mathlib.Omega.{arith}
use borrow.Author.Tests.{le-leb}
use lib.Dec.{leb}
use lib.ListN.{length}
use Rattle.refusal.specs.Refusal.{fault_offset, offset_of, moved_by}
use Rattle.refusal.specs.declared.Fault.{Fault}
use Rattle.refusal.specs.declared.Fault.TheVariants.{Empty, Short, NotUtf8, BadStart, NotOpen, UnknownTag, NotScalar}
use Rattle.refusal.specs.declared.Refusal.{Refusal}
use Rattle.refusal.specs.declared.Refusal.TheVariants.{Unreadable}
use Rattle.wire.specs.Limits.{longest, deepest}
use Rattle.wire.proofs.Choices.{by_le, by_both}
use Rattle.node.specs.Forest.{size}
use Rattle.packet.specs.Packet.{fault, one}
use Rattle.framing.specs.Framing.{Frame, wait, read, refused, cut_frame, first, tcp2}
use Rattle.framing.proofs.FrameKnot.{FrameIn, cut_in, Prefixed, cut-prefixed}
use Rattle.rosc_inputs.proofs.Totals.{one-tree, one_size}
use Rattle.standard_inputs.proofs.Cuts.{Shallow, cut-shallow}
use Rattle.answering.specs.Limits.{limited, decoded}
use Rattle.cues.specs.Results.{Cue}
use Rattle.results.specs.Results.{DecodeAnswer}
use Rattle.std.specs.Prelude.{Err, Ok, Some}
use Rattle.cues.specs.Results as cue
use Rattle.results.specs.Results as answer
use Rattle.folding.specs.Folding.{Verdict}
use Rattle.folding.specs.Frames.{judged}
use Rattle.cues.specs.Cues.{most_in_a_cue, recorded, record_adds, judged_cue, cue_of}
use Rattle.cues.proofs.Shortest.{shortest_frame, FrameLong, frame_long}

-- the cue of a frame at the front of l
abbrev pub cue_by : List ℕ → Frame → Cue
cue_by l x = judged_cue (judged recorded record_adds 0 l x)

-- ---- what a frame is judged as lies in its input

-- a frame that is accepted has 12 bytes at least, no more records than bytes and than a table of 64 KiB has, and is all there
abbrev pub CueIn : ℕ → Cue → Type 0
CueIn m (Ok (Some front)) = (shortest_frame ≤ front.size) × (front.size ≤ m) × (front.records ≤ front.size) × (front.records ≤ most_in_a_cue)
CueIn m cue.Waiting = Unit {0}
CueIn m (Err k) = Unit {0}

judged-in : (l : List ℕ) (x : Frame) → FrameIn (length l) x → FrameLong x → CueIn (length l) (cue_by l x)
judged-in l wait w v = tt
judged-in l (read (fault k)) w v = tt
judged-in l (read (one item f u)) w v =
    by_le (λ (y : Verdict ℕ). CueIn (length l) (judged_cue y)) (1 + size f) most_in_a_cue (λ h. (v, omega arith, omega arith, h)) (λ _. tt)
judged-in l (refused k) w v = tt

-- a frame lies in its input
pub cue-in : {x : Cue} (l : List ℕ) → x ≡ cue_of l → CueIn (length l) x
unfolding cue_of
cue-in l e =
    subst (CueIn (length l)) (sym e) (judged-in l (cut_frame deepest 0 l) (cut_in deepest 0 l) (frame_long deepest 0 l))

-- a fault that is told from its frame's prefix on
moved_none : (k : Fault) → k ≡ moved_by 0 k
moved_none Empty = refl
moved_none (Short field at) = ap (Short field) (omega arith)
moved_none NotUtf8 = refl
moved_none BadStart = refl
moved_none NotOpen = refl
moved_none UnknownTag = refl
moved_none NotScalar = refl

-- one that is refused has its prefix, and a field that was short begins in these bytes or right after them
abbrev RefusedIn : ℕ → Cue → Type 0
RefusedIn m (Ok (Some front)) = Unit {0}
RefusedIn m cue.Waiting = Unit {0}
RefusedIn m (Err k) = (4 ≤ m) × (offset_of k ≤ m)

judged-prefixed : (l : List ℕ) (x : Frame) → FrameIn (length l) x → Prefixed (length l) x → RefusedIn (length l) (cue_by l x)
judged-prefixed l wait w p = tt
judged-prefixed l (read (fault k)) w p = (p, subst (λ (j : Fault). fault_offset j ≤ length l) (moved_none k) w)
judged-prefixed l (read (one item f u)) w p =
    by_le (λ (y : Verdict ℕ). RefusedIn (length l) (judged_cue y)) (1 + size f) most_in_a_cue (λ _. tt)
    (λ _. (omega arith, omega arith))
judged-prefixed l (refused k) w p = (p.0, omega (arith, p.1))

-- so is a refused frame
pub cue-prefixed : (l : List ℕ) (k : Refusal) → cue_of l ≡ Err k → (4 ≤ length l) × (offset_of k ≤ length l)
unfolding cue_of
cue-prefixed l k e =
    subst (RefusedIn (length l)) e
    (judged-prefixed l (cut_frame deepest 0 l) (cut_in deepest 0 l) (cut-prefixed deepest 0 l))

-- ---- what it is judged as, from the answer of the decoder

-- by an answer for n bytes of input
abbrev pub cue_from : ℕ → DecodeAnswer → Cue
cue_from n (answer.Packets count left dirty) = cue.Given (n - left) count
cue_from n answer.Waiting = cue.Waiting
cue_from n (Err k) = Err k
cue_from n (answer.Stopped count left dirty k at) = Err k

-- no more is left than there was
abbrev pub LeftIn : ℕ → DecodeAnswer → Type 0
LeftIn n (answer.Packets count left dirty) = left ≤ n
LeftIn n answer.Waiting = Unit {0}
LeftIn n (Err k) = Unit {0}
LeftIn n (answer.Stopped count left dirty k at) = Unit {0}

-- an answer that is what a frame is judged as
pub record Judges (n : ℕ) (d : DecodeAnswer) (x : Cue) : Type 0 where
  pub same : cue_from n d ≡ x
  pub inside : LeftIn n d

limited-judges : (limit : ℕ) (msg : List ℕ) (x : Frame) → FrameIn (length msg) x → Shallow limit x
    → Judges (length msg) (limited most_in_a_cue limit msg (first (length msg) x)) (cue_by msg x)
limited-judges limit msg wait w s = record { same = refl; inside = tt }
limited-judges limit msg (refused k) w s = record { same = refl; inside = tt }
limited-judges limit msg (read (fault k)) w s =
    record { same = ap (λ (j : Fault). Err (Unreadable j)) (moved_none k); inside = tt }
limited-judges limit msg (read (one item f u)) w s =
    let n = length msg in
    let whole : n - (n - u) ≡ u = omega arith in
    rw (one-tree item f, one_size item f, le-leb _ _ s)
    (by_both (λ (d : DecodeAnswer) (y : Verdict ℕ). Judges n d (judged_cue y)) (leb (1 + size f) most_in_a_cue)
    (record { same = ap (λ (k : ℕ). cue.Given k (1 + size f)) whole; inside = omega arith })
    (record { same = refl; inside = tt }))

-- the decoder of one frame of edition 2 answers what the frame is judged as
pub answer_judges : {d : DecodeAnswer} (msg : List ℕ) → length msg ≤ longest → d ≡ decoded (tcp2 deepest) most_in_a_cue deepest msg
    → Judges (length msg) d (cue_of msg)
unfolding decoded tcp2 cue_of
answer_judges msg h e =
    let given : decoded (tcp2 deepest) most_in_a_cue deepest msg
    ≡ limited most_in_a_cue deepest msg (first (length msg) (cut_frame deepest 0 msg)) = rw (decoded, le-leb (length msg) longest h) in
    subst (λ (d : DecodeAnswer). Judges (length msg) d (cue_of msg)) (sym (e ∙ given))
    (limited-judges deepest msg (cut_frame deepest 0 msg) (cut_in deepest 0 msg) (cut-shallow deepest 0 msg))
