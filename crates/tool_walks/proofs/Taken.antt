-- What a step of the walk says of the index of its buffer: it goes on, or ends.
use mathlib.Core.Path.{◌≡◌, refl, ap, sym, subst, ◌∙◌}
use mathlib.Core.Bool.{Bool, true, false, cond}
use mathlib.Core.List.{List}
use Prim.Native.Nat.{ℕ, ◌+◌, ◌-◌, ◌*◌}
use native.Mathlib.Omega.{arith}
use native.Mathlib.Nat.{mul_comm}
use lib.ListN.{length, take, drop}
use lib.Seq.{length-take-le}
use Rattle.cues.specs.Cues.{entry_size, index, index_of, Indexes}
use Rattle.cues.proofs.Steps.{stepped}
use Rattle.results.specs.declared.End.{End}
use Rattle.results.specs.Results.{IndexAnswer, Written}
use Rattle.std.specs.Prelude.{Err, Ok}
use Rattle.walks.specs.Walks.{is_last, reads_on, further, walked_by, keeps_unused, WalkStep}
use Rattle.walks.specs.declared.Position.{Position}
use Rattle.walks.specs.declared.Walked.{Walked}
use Rattle.walks.specs.declared.Walked.TheVariants.{On, Ended}

-- the step wrote n bytes of records, of m records, for the first `used` bytes, and keeps the others
pub record Taken (from : Position) (buf : List ℕ) (count : ℕ) (out kept after : List ℕ) (n : ℕ) (next : Position) (why : End) : Type 0 where
  pub m : ℕ
  pub used : ℕ
  pub steps : Indexes (take count buf) from.at out (Written m used why) after
  pub bytes : n ≡ entry_size * m
  pub moved : next.at ≡ from.at + used
  pub counts : next.records ≡ from.records + m
  pub keeps : take next.kept kept ≡ drop used (take count buf)

module _ {from : Position} {buf : List ℕ} {count : ℕ} {out kept after : List ℕ} {n : ℕ} {next : Position} {why : End}
    (t : Taken from buf count out kept after n next why) where
  -- its records are the index of the buffer
  pub taken-index : index_of from.at (take count buf) ≡ index (take n after) (from.at + t.used) why
  taken-index = (stepped t.steps).is ∙ ap (λ (k : ℕ). index (take k after) (from.at + t.used) why) (sym t.bytes)

  -- which are so many bytes
  pub taken-length : length (take n after) ≡ entry_size * t.m
  taken-length =
      let s = stepped t.steps in
      length-take-le n after (omega (arith, s.room, s.same, t.bytes)) ∙ t.bytes

made : {from : Position} {buf : List ℕ} {count : ℕ} {out kept after : List ℕ} {n : ℕ} {next : Position} {why : End} (m used : ℕ)
    → Indexes (take count buf) from.at out (Written m used why) after → n ≡ m * entry_size → next ≡ further from m used (count - used)
    → take (count - used) kept ≡ drop used (take count buf) → Taken from buf count out kept after n next why
made {kept = kept} m used w e f k =
    record {
      m = m;
      used = used;
      steps = w;
      bytes = e ∙ mul_comm m entry_size;
      moved = ap (λ (p : Position). p.at) f;
      counts = ap (λ (p : Position). p.records) f;
      keeps = ap (λ (p : Position). take p.kept kept) f ∙ k;
    }

-- a step that goes on took its records, and is read on
pub record TakenOn (from : Position) (buf : List ℕ) (count : ℕ) (out kept after : List ℕ) (n : ℕ) (next : Position) : Type 0 where
  pub why : End
  pub taken : Taken from buf count out kept after n next why
  pub reads : reads_on (is_last count) why ≡ true

-- a step that ends took its records, and is not read on
pub record TakenLast (from : Position) (buf : List ℕ) (count : ℕ) (out kept after : List ℕ) (n : ℕ) (next : Position) (why : End)
    : Type 0 where
  pub taken : Taken from buf count out kept after n next why
  pub reads : reads_on (is_last count) why ≡ false

module _ (from : Position) (buf : List ℕ) (count : ℕ) (out kept after : List ℕ) (n : ℕ) (next : Position) where
  -- what a step that wrote came to, by whether it is read on
  abbrev came : Bool → ℕ → ℕ → End → Walked
  came b m used why =
      cond b (On (m * entry_size) (further from m used (count - used))) (Ended (m * entry_size) (further from m used (count - used)) why)

  on-by : (x : IndexAnswer) → Indexes (take count buf) from.at out x after → On n next ≡ walked_by from count x → keeps_unused buf count x kept
      → TakenOn from buf count out kept after n next
  on-by (Ok indexed) s e k = by-test (reads_on (is_last count) indexed.end) refl e
    where
      by-test : (b : Bool) → reads_on (is_last count) indexed.end ≡ b → On n next ≡ came b indexed.records indexed.used indexed.end → TakenOn from buf count out kept after n next
      by-test true t e = record { why = indexed.end; taken = made indexed.records indexed.used s (cc) (cc) k; reads = t }
      by-test false t e = let z : ◌≡◌ {A = ℕ} 0 1 = cc in absurd (omega arith)
  on-by (Err k) s e h = let z : ◌≡◌ {A = ℕ} 0 1 = cc in absurd (omega arith)

  last-by : (why : End) (x : IndexAnswer) → Indexes (take count buf) from.at out x after → Ended n next why ≡ walked_by from count x
      → keeps_unused buf count x kept → TakenLast from buf count out kept after n next why
  last-by why (Ok indexed) s e k = by-test (reads_on (is_last count) indexed.end) refl e
    where
      by-test : (b : Bool) → reads_on (is_last count) indexed.end ≡ b → Ended n next why ≡ came b indexed.records indexed.used indexed.end
          → TakenLast from buf count out kept after n next why
      by-test true t e = let z : ◌≡◌ {A = ℕ} 0 1 = cc in absurd (omega arith)
      by-test false t e =
          let same : indexed.end ≡ why = cc in
          subst (TakenLast from buf count out kept after n next) same (record { taken = made indexed.records indexed.used s (cc) (cc) k; reads = t })
  last-by why (Err k) s e h = let z : ◌≡◌ {A = ℕ} 0 1 = cc in absurd (omega arith)

module _ {from : Position} {buf : List ℕ} {count : ℕ} {out kept after : List ℕ} {n : ℕ} {next : Position} where
  pub taken-on : WalkStep from buf count out (On n next) kept after → TakenOn from buf count out kept after n next
  taken-on w = on-by from buf count out kept after n next w.step w.steps w.gives w.keeps

  pub taken-last : {why : End} → WalkStep from buf count out (Ended n next why) kept after
      → TakenLast from buf count out kept after n next why
  taken-last {why} w = last-by from buf count out kept after n next why w.step w.steps w.gives w.keeps
