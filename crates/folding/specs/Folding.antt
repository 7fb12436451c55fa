-- A fold over the frames of a recording that a judge accepts: what each frame adds, joined from the first to the last. The definition is
-- over all bytes of a recording, or of a part of it that stands at some offset. What a frame is, what it adds and how sums are joined are
-- its parameters: an index of cues is one such fold, a report another.
use Rattle.std.specs.Prelude.{◌≡◌, List, [], ◌∷◌, ◌++◌, ℕ, zero, suc, ◌+◌, ◌-◌, ◌<◌, ◌≤◌, length, take, drop}
use Rattle.refusal.specs.declared.Refusal.{Refusal}
use Rattle.results.specs.declared.End.{End}
use Rattle.results.specs.declared.End.TheVariants as end

-- what a judge says of the bytes at the front: a frame of so many bytes and what it adds; nothing yet; or no frame, and why
pub data Verdict (A : Type 0) : Type 0 where
  takes : (size : ℕ) (adds : A) → Verdict A
  waits : Verdict A
  refuses : (why : Refusal) → Verdict A

-- a fold: what its frames add, the offset at which it stops, and why: no byte is left; the next frame is not all there; it is refused
pub data Fold (A : Type 0) : Type 0 where
  folded : (sum : A) (at : ℕ) (why : End) → Fold A

-- what a fold is made of: the sum of no frame, how two sums are joined, and the judge, by the offset at which the bytes stand
pub record Folding (A : Type 0) : Type 0 where
  pub unit : A
  pub add : A → A → A
  pub judge : ℕ → List ℕ → Verdict A

module _ {A : Type 0} (f : Folding A) where
  -- a sum before a fold
  abbrev pub with_sum : A → Fold A → Fold A
  with_sum a (folded sum at why) = folded (f.add a sum) at why

  -- the fold of l, which begins with this
  abbrev pub by_verdict : (ℕ → List ℕ → Fold A) → ℕ → List ℕ → Verdict A → Fold A
  by_verdict go base l (takes size adds) = with_sum adds (go (base + size) (drop size l))
  by_verdict go base l waits = folded f.unit base end.Waiting
  by_verdict go base l (refuses why) = folded f.unit base (end.Refused why)

  -- the fold of l, which stands at offset `base`: where no byte is left, the recording is whole
  abbrev pub by_front : (ℕ → List ℕ → Fold A) → ℕ → List ℕ → Fold A
  by_front go base [] = folded f.unit base end.Whole
  by_front go base (x ∷ l) = by_verdict go base (x ∷ l) (f.judge base (x ∷ l))

  -- the same of at most n frames: the line for 0 is met only where no byte is left, and says there what the rule says (proofs/Knot.antt:
  -- fold-eq)
  unfoldable pub fold_at : ℕ → ℕ → List ℕ → Fold A
  fold_at zero base l = folded f.unit base end.Whole
  fold_at (suc n) base l = by_front (λ b m. fold_at n b m) base l

  -- the fold of the bytes l of a recording, which stand at offset `base`; that of a whole recording begins at 0
  abbrev pub fold_of : ℕ → List ℕ → Fold A
  fold_of base l = fold_at (length l) base l

module _ {A : Type 0} where
  -- what a fold adds up
  abbrev pub sum_in : Fold A → A
  sum_in (folded sum at why) = sum

-- ---- what a fold asks of its parameters

module _ {A : Type 0} where
  -- a frame has a byte at least and lies in its n bytes
  abbrev pub Inside : ℕ → Verdict A → Type 0
  Inside n (takes size adds) = (0 < size) × (size ≤ n)
  Inside n waits = Unit {0}
  Inside n (refuses why) = Unit {0}

  -- the verdict on more bytes: the same, but where it waits
  abbrev pub Stays : Verdict A → Verdict A → Type 0
  Stays (takes size adds) later = later ≡ takes size adds
  Stays waits later = Unit {0}
  Stays (refuses why) later = later ≡ refuses why

  -- a frame that is accepted is accepted from its own bytes alone
  abbrev pub Alone : (ℕ → List ℕ → Verdict A) → ℕ → List ℕ → Verdict A → Type 0
  Alone judge base l (takes size adds) = judge base (take size l) ≡ takes size adds
  Alone judge base l waits = Unit {0}
  Alone judge base l (refuses why) = Unit {0}

-- sums are joined in any grouping, and the sum of no frame changes none; a frame lies in its bytes, and a verdict stays when bytes are
-- appended, but where it waits
pub record Sound {A : Type 0} (f : Folding A) : Type 0 where
  pub grouped : (a b c : A) → f.add (f.add a b) c ≡ f.add a (f.add b c)
  pub unit_before : (a : A) → f.add f.unit a ≡ a
  pub unit_after : (a : A) → f.add a f.unit ≡ a
  pub inside : (base : ℕ) (l : List ℕ) → Inside (length l) (f.judge base l)
  pub stays : (base : ℕ) (l more : List ℕ) → Stays (f.judge base l) (f.judge base (l ++ more))

-- frames look at their own bytes alone
abbrev pub OwnBytes : {A : Type 0} → Folding A → Type 0
OwnBytes f = (base : ℕ) (l : List ℕ) → Alone f.judge base l (f.judge base l)

-- ---- a cut

module _ {A : Type 0} (f : Folding A) where
  -- a fold that goes on, by `go` from where it stopped; a refused frame ends it
  abbrev pub goes_on : (ℕ → Fold A) → Fold A → Fold A
  goes_on go (folded sum at end.Whole) = with_sum f sum (go at)
  goes_on go (folded sum at end.Waiting) = with_sum f sum (go at)
  goes_on go (folded sum at (end.Refused why)) = folded sum at (end.Refused why)

  -- the fold with more bytes, by the fold without them: what was not read is folded with them
  abbrev pub continued : ℕ → List ℕ → List ℕ → Fold A → Fold A
  continued base l more = goes_on (λ at. fold_of f at (drop (at - base) l ++ more))

  -- law (a), cut anywhere: a recording is folded in one go or in two
  abbrev pub CutAnywhere : Type 0
  CutAnywhere = (base : ℕ) (l more : List ℕ) → fold_of f base (l ++ more) ≡ continued base l more (fold_of f base l)

  -- what was read is a recording of its own, where frames look at their own bytes alone: it is whole, and adds the same
  abbrev pub ReadIsWhole : Type 0
  ReadIsWhole =
      (base : ℕ) (l : List ℕ) (sum : A) (at : ℕ) (why : End) → fold_of f base l ≡ folded sum at why
      → fold_of f base (take (at - base) l) ≡ folded sum at end.Whole

-- ---- buffers

-- portions end to end
unfoldable pub joined_bytes : List (List ℕ) → List ℕ
joined_bytes [] = []
joined_bytes (portion ∷ later) = portion ++ joined_bytes later

module _ {A : Type 0} (f : Folding A) where
  -- a recording through a row of buffers: each holds what was kept and the next portion, and what was not read of it is kept
  unfoldable pub through_buffers : ℕ → List ℕ → List (List ℕ) → Fold A
  through_buffers base kept [] = fold_of f base kept
  through_buffers base kept (portion ∷ later) =
      goes_on f (λ at. through_buffers at (drop (at - base) (kept ++ portion)) later) (fold_of f base (kept ++ portion))

  -- law (b): through any row of buffers it is the fold of the whole
  abbrev pub AnyBuffers : Type 0
  AnyBuffers = (portions : List (List ℕ)) → through_buffers 0 [] portions ≡ fold_of f 0 (joined_bytes portions)
