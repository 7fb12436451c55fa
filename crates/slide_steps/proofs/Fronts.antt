-- The frame at the front, decoded and slid.
use mathlib.Core.Path.{◌≡◌, refl, ap, sym, subst, ◌∙◌}
use mathlib.Core.List.{List, ◌++◌}
use Prim.Native.Nat.{ℕ, ◌-◌, ◌*◌, ◌<◌, ◌≤◌}
use native.Mathlib.Nat.{sub-zero}
use native.Mathlib.Omega.{arith}
use lib.ListN.{length, get_or, take, drop}
use borrow.Rule.Slice.PartMut.{put_mid}
use Rattle.edition.specs.declared.Edition.TheVariants.{Standard}
use Rattle.edition.specs.declared.Framing.TheVariants.{Tcp}
use Rattle.refusal.specs.declared.Refusal.{Refusal}
use Rattle.wire.specs.Limits.{longest, deepest}
use Rattle.node.specs.Forest.{Forest, nil, node}
use Rattle.node.specs.Records.{record_size, capacity}
use Rattle.framing.specs.Framing.{first, tcp2, rule_of}
use Rattle.answering.specs.Limits.{decoded, tabled, forest_of, Decodes}
use Rattle.results.specs.Results.{DecodeAnswer}
use Rattle.std.specs.Prelude.{Err}
use Rattle.results.specs.Results as answer
use Rattle.slide_steps.specs.FrontResult as front
use Rattle.folding.specs.Folding.{takes, waits, refuses}
use Rattle.folding.proofs.Settled.{GivenAlone, given-alone}
use Rattle.cues.specs.Cues.{most_in_a_cue}
use Rattle.calls.specs.Words.{Gives}
use Rattle.calls.specs.Demands.{table_after}
use Rattle.given.specs.Encodable.{AreTrees}
use Rattle.given.proofs.Encodable.Tables.{gives_trees}
use Rattle.slides.specs.Slides.{slid_bytes}
use Rattle.slides.specs.CodeSlides.{slid_records, RecordsFit}
use Rattle.slides.proofs.Slid.{FrameIs, place-room}
use Rattle.slide_steps.specs.Steps.{table_size, FrontSlides}
use Rattle.slide_steps.proofs.Judged.{row-slides, row_fits, Accepts, SaysOf, answer-says}

-- `&mut l[0..n]` lends the first n bytes
pub first_part : (n : ℕ) (l : List ℕ) → take (n - 0) (drop 0 l) ≡ take n l
first_part n l = rw sub-zero

module _ (by : ℕ) (l table : List ℕ) (short : length l ≤ longest) (room : length table ≡ table_size)
    {msg : List ℕ} (same : msg ≡ l) {r : DecodeAnswer} {after : List ℕ}
    (w : Decodes (rule_of (Tcp Standard) deepest) msg table deepest r after) where
  -- the table has room for 3,276 records
  records-room : capacity table ≡ most_in_a_cue
  records-room = omega arith

  answered : r ≡ decoded (tcp2 deepest) (capacity table) deepest l
  answered = w.answered ∙ ap (decoded (tcp2 deepest) (capacity table) deepest) same

  says : SaysOf by l r
  says = answer-says by l short (answered ∙ ap (λ (n : ℕ). decoded (tcp2 deepest) n deepest l) records-room)

  -- a frame that is not all there
  pub front-waits : r ≡ answer.Waiting → FrontSlides by l front.Waiting l
  front-waits e = record { verdict = waits; judged = subst (SaysOf by l) e says; answers = refl; leaves = refl }

  -- a frame that is refused
  pub front-refused : {k : Refusal} → r ≡ Err k → FrontSlides by l (Err k) l
  front-refused {k} e = record { verdict = refuses k; judged = subst (SaysOf by l) e says; answers = refl; leaves = refl }

  -- the decoder of one frame never stops at a later one
  pub front-never : {count left dirty at : ℕ} {k : Refusal} {P : Type 0} → r ≡ answer.Stopped count left dirty k at → P
  front-never e = absurd (subst (SaysOf by l) e says)

  module _ {count left dirty : ℕ} (small : (i : ℕ) → get_or l i 0 < 256) (e : r ≡ answer.Packets count left dirty) where
    pub front-given : Accepts by l count left
    front-given = subst (SaysOf by l) e says

    abbrev a : Accepts by l count left
    a = front-given

    abbrev tree : Forest
    tree = node front-given.item front-given.inner nil

    forest-is : forest_of (tcp2 deepest l) ≡ tree
    unfolding tcp2
    forest-is = ap (λ x. forest_of (first (length l) x)) front-given.reads

    trees : AreTrees after count l tree
    trees =
        let gives : Gives (decoded (tcp2 deepest) (capacity table) deepest l) count dirty
        = subst (λ (x : DecodeAnswer). Gives x count dirty) (sym e ∙ answered) (refl, refl) in
        let is : table_after (tcp2 deepest) deepest l table ≡ after
        = ap (λ (x : DecodeAnswer). tabled x (forest_of (tcp2 deepest l)) table) (sym answered)
        ∙ ap (λ (m : List ℕ). tabled r (forest_of (tcp2 deepest m)) table) (sym same) ∙ sym w.left in
        subst (λ (f : Forest). AreTrees after count l f) forest-is
        (subst (λ (t : List ℕ). AreTrees t count l (forest_of (tcp2 deepest l))) is
        (gives_trees (Tcp Standard) l small deepest table count dirty gives))

    -- no more is left than there was
    pub front-left : left ≤ length l
    front-left = omega (arith, front-given.kept)

    front-used : length l - left ≡ front-given.used
    front-used = omega (arith, front-given.kept, front-given.within)

    own-frame : FrameIs deepest (take front-given.used l) front-given.used tree
    own-frame =
        record {
          item = front-given.item;
          inside = front-given.inner;
          tree = refl;
          reads = (subst (GivenAlone deepest 0 l) front-given.reads (given-alone deepest 0 l)).1;
        }

    module _ {own t : List ℕ} (o : own ≡ take (length l - left) l) (x : t ≡ after) where
      own_is : own ≡ take front-given.used l
      own_is = o ∙ ap (λ (n : ℕ). take n l) front-used

      -- the records are there, and their time tags lie in the frame
      pub front-can : (record_size * count ≤ length t) × RecordsFit (length own) t count
      front-can = (
        omega (arith, trees.fits, ap length x),
        λ i h. rw (x, own_is)
            (row_fits (length (take front-given.used l)) after 0 count tree trees.spans
            (λ q b. let p = place-room deepest (take front-given.used l) front-given.used tree own-frame q b in
            omega (arith, p.near, p.high)) i (omega arith) h),
      )

      -- the frame is slid
      pub front-done : {m : List ℕ} → m ≡ slid_records by t 0 count own
          → FrontSlides by l (front.Done (length l - left)) (put_mid 0 (length l - left - 0) l m)
      front-done {m} g =
          let u = front-given.used in
          let slid : m ≡ slid_bytes by tree (take u l)
          = g ∙ ap (λ (y : List ℕ). slid_records by y 0 count own) x ∙ ap (slid_records by after 0 count) own_is
          ∙ ap (λ (n : ℕ). slid_records by after 0 n (take u l)) front-given.counted
          ∙ row-slides by after 0 count tree trees.spans (take u l) in
          record {
            verdict = takes u (slid_bytes by tree (take u l));
            judged = front-given.judges;
            answers = ap front.Done front-used;
            leaves = rw (sub-zero (length l - left), front-used) (ap (λ (y : List ℕ). y ++ drop u l) slid);
          }
