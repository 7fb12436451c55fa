-- A program that folds a recording through buffers, by any step that tells the fold of its buffer.
use Rattle.std.specs.Prelude.{◌≡◌, List, [], ◌∷◌, ◌++◌, ℕ, ◌+◌, ◌≤◌, length, drop}
use Rattle.refusal.specs.declared.Refusal.{Refusal}
use Rattle.results.specs.declared.End.{End}
use Rattle.results.specs.declared.End.TheVariants as end
use Rattle.folding.specs.Folding.{Fold, folded, Folding, with_sum, fold_of, sum_in, joined_bytes}

-- no frame was refused: a fold may go on with the bytes that come
abbrev pub MayContinue : End → Type 0
MayContinue end.Whole = Unit {0}
MayContinue end.Waiting = Unit {0}
MayContinue (end.Refused why) = ⊥

-- why a fold goes no further where these bytes are left and none of them is a refused frame's
abbrev pub end_with : List ℕ → End
end_with [] = end.Whole
end_with (x ∷ kept) = end.Waiting

-- a program stops at a refused frame, and else with the last portion
abbrev pub WalkStops : List (List ℕ) → End → Type 0
WalkStops [] why = Unit {0}
WalkStops (portion ∷ later) why = MayContinue why → ⊥

-- what a step's contract says, whatever it is: over these bytes at this offset it adds this sum, uses so many bytes, and says why no more
abbrev pub Stepping : Type 0 → Type 1
Stepping A = (base : ℕ) (l : List ℕ) (sum : A) (used : ℕ) (why : End) → Type 0

-- what a program meets that repeats a step: its buffer is what it kept and the next portion, and it keeps what was not used. The two last
-- indices are the sums of its steps, and what it has in the end: all sums joined, where and why it says that it stopped
pub data Walk {A : Type 0} (f : Folding A) (Step : Stepping A) : ℕ → List ℕ → List (List ℕ) → List A → Fold A → Type 0 where
  -- there is no portion more
  done : {base : ℕ} {kept : List ℕ} → Walk f Step base kept [] [] (folded f.unit base (end_with kept))
  reads_on : {base used : ℕ} {kept portion : List ℕ} {later : List (List ℕ)} {sum : A} {sums : List A} {why : End} {rest : Fold A}
      → Step base (kept ++ portion) sum used why → MayContinue why
      → Walk f Step (base + used) (drop used (kept ++ portion)) later sums rest
      → Walk f Step base kept (portion ∷ later) (sum ∷ sums) (with_sum f sum rest)
  stops : {base used : ℕ} {kept portion : List ℕ} {later : List (List ℕ)} {sum : A} {why : End}
      → Step base (kept ++ portion) sum used why → WalkStops later why
      → Walk f Step base kept (portion ∷ later) (sum ∷ []) (folded sum (base + used) why)

module _ {A : Type 0} (f : Folding A) (Step : Stepping A) where
  -- a step tells the fold of its bytes
  abbrev pub TellsFold : Type 0
  TellsFold =
      (base : ℕ) (l : List ℕ) (sum : A) (used : ℕ) (why : End) → Step base l sum used why
      → fold_of f base l ≡ folded sum (base + used) why

  -- a step can be made wherever the recording is no longer than this
  abbrev pub CanStep : ℕ → Type 0
  CanStep most =
      (base : ℕ) (l : List ℕ) (sum : A) (used : ℕ) (why : End) → base + length l ≤ most
      → fold_of f base l ≡ folded sum (base + used) why → Step base l sum used why

  -- law (c): every walk, by any step that tells the fold of its bytes, ends with the fold of the whole recording
  abbrev pub EveryWalk : Type 0
  EveryWalk =
      (portions : List (List ℕ)) (sums : List A) (i : Fold A) → Walk f Step 0 [] portions sums i → i ≡ fold_of f 0 (joined_bytes portions)

  -- and through any row of buffers there is such a walk, where the steps can be made
  abbrev pub AnyWalk : ℕ → Type 0
  AnyWalk most =
      (portions : List (List ℕ)) → length (joined_bytes portions) ≤ most
      → (sums : List A) × Walk f Step 0 [] portions sums (fold_of f 0 (joined_bytes portions))

-- ---- the sums of a walk

module _ {A : Type 0} (f : Folding A) where
  -- sums joined
  unfoldable pub joined_sums : List A → A
  joined_sums [] = f.unit
  joined_sums (sum ∷ sums) = f.add sum (joined_sums sums)

  -- a walk in parts: the sums of its steps, joined, are that of the whole recording
  abbrev pub WalkInParts : Stepping A → Type 0
  WalkInParts Step =
      (portions : List (List ℕ)) (sums : List A) (i : Fold A) → Walk f Step 0 [] portions sums i
      → joined_sums sums ≡ sum_in (fold_of f 0 (joined_bytes portions))

-- ---- the state of a program that folds portion by portion

-- what a program may keep of the bytes that it has read: so many consumed, these kept, this sum. Whatever comes, the whole is this sum
-- before the fold of what is kept and what comes: an invariant of its loop, with nothing of the past in it
abbrev pub Reached : {A : Type 0} → Folding A → List ℕ → ℕ → List ℕ → A → Type 0
Reached f past base kept sum = (more : List ℕ) → fold_of f 0 (past ++ more) ≡ with_sum f sum (fold_of f base (kept ++ more))

module _ {A : Type 0} (f : Folding A) where
  -- a step over what is kept and the next portion reaches the next state; where it meets a refused frame, that is the fold, whatever comes
  pub record Goes (past : List ℕ) (base : ℕ) (kept : List ℕ) (sum : A) : Type 0 where
    pub on : (portion : List ℕ) (a : A) (used : ℕ) (why : End) → fold_of f base (kept ++ portion) ≡ folded a (base + used) why
        → MayContinue why → Reached f (past ++ portion) (base + used) (drop used (kept ++ portion)) (f.add sum a)
    pub stop : (portion : List ℕ) (a : A) (used : ℕ) (why : Refusal)
        → fold_of f base (kept ++ portion) ≡ folded a (base + used) (end.Refused why)
        → (more : List ℕ) → fold_of f 0 ((past ++ portion) ++ more) ≡ folded (f.add sum a) (base + used) (end.Refused why)
    pub end : fold_of f 0 past ≡ with_sum f sum (fold_of f base kept)

  -- a program begins in such a state, and from every such state it goes so
  abbrev pub BeginsReached : Type 0
  BeginsReached = Reached f [] 0 [] f.unit

  abbrev pub ReachedGoes : Type 0
  ReachedGoes = (past : List ℕ) (base : ℕ) (kept : List ℕ) (sum : A) → Reached f past base kept sum → Goes past base kept sum
