-- Rows of records that a reading finds right: by their first record, by what one record contains, and as far as a walk has passed them.
use mathlib.Core.Path.{◌≡◌, refl, sym, ap, ◌∙◌}
use mathlib.Core.Bool.{true, false, cond, true≢false, false≢true}
use mathlib.Core.Logic.{⊎_elim}
use mathlib.Core.List.{List}
use Prim.Native.Nat.{ℕ, ◌+◌, ◌≤◌, ◌<◌}
use native.Mathlib.Omega.{arith}
use lib.Dec.{eqb, leb, ltb}
use lib.ListN.{length}
use borrow.Author.Tests.{eqb-true, ltb-true, leb-true, eq-eqb, lt-ltb, le-leb}
use Rattle.wire.proofs.Choices.{lt-or-le, then-only}
use Rattle.node.specs.Forest.{Forest, nil, node, level, depth}
use Rattle.node.specs.Records.{kind_at, zeros_at, end_at, item_at}
use Rattle.node.specs.Rules.{own_rules}
use Rattle.node.specs.declared.record.Item.{Item}
use Rattle.table.specs.Formed.{range_ok, allowed}
use Rattle.table.specs.Tree.{Spans, Obeys}
use Rattle.table.proofs.Spanned.{cut, cut_parts, no_more, spans_unique}
use Rattle.writers.specs.Osc.{longest_element}
use Rattle.survey.specs.CodeSurvey.{placed, SurveyedRow}
use Rattle.survey.specs.Surveys.{Exactly}
use Rattle.survey.proofs.Exact.{Carries, carries-none, carries-both}

-- ---- the place of a record

-- a record that is placed
pub record Placed (t : List ℕ) (at hi : ℕ) : Type 0 where
  pub zeros : zeros_at t at ≡ 0
  pub on : at < end_at t at
  pub within : end_at t at ≤ hi

-- what the test of a record says of it
pub placed-is : (t : List ℕ) (at hi : ℕ) → placed t at hi ≡ true → Placed t at hi
placed-is t at hi e =
    let z : eqb (zeros_at t at) 0 ≡ true = then-only (eqb (zeros_at t at) 0) (cond (ltb at (end_at t at)) (leb (end_at t at) hi) false) e
    false≢true in
    let f : cond (ltb at (end_at t at)) (leb (end_at t at) hi) false ≡ true = rw z at e in
    let o : ltb at (end_at t at) ≡ true = then-only (ltb at (end_at t at)) (leb (end_at t at) hi) f false≢true in
    record { zeros = eqb-true (zeros_at t at) 0 z; on = ltb-true at (end_at t at) o; within = leb-true (end_at t at) hi (rw o at f) }

-- and that a record that is placed passes it
placed-passes : (t : List ℕ) (at hi : ℕ) → Placed t at hi → placed t at hi ≡ true
placed-passes t at hi p =
    rw (eq-eqb (zeros_at t at) 0 p.zeros, lt-ltb at (end_at t at) p.on, le-leb (end_at t at) hi p.within)

-- ---- rows

-- record `at` and what it contains may stand in a container, no deeper than `levels`
pub record SurveyedNode (t source : List ℕ) (container at levels : ℕ) (inside : Forest) : Type 0 where
  pub rules : own_rules (item_at t at) ≡ true
  pub range : range_ok source (item_at t at) ≡ true
  pub may : allowed container (kind_at t at) ≡ true
  pub spans : Spans t (at + 1) (end_at t at) inside
  pub obeys : Obeys source (kind_at t at) inside
  pub zeros : (i : ℕ) → at + 1 ≤ i → i < end_at t at → zeros_at t i ≡ 0
  pub deep : level (kind_at t at) (depth inside) ≤ levels

-- a row that is not empty, by its first record
pub record First (t source : List ℕ) (container at hi levels : ℕ) (F : Forest) : Type 0 where
  pub inside : Forest
  pub rest : Forest
  pub is : F ≡ node (item_at t at) inside rest
  pub place : Placed t at hi
  pub stands : SurveyedNode t source container at levels inside
  pub more : SurveyedRow t source container (end_at t at) hi levels rest

module _ {t source : List ℕ} {container levels : ℕ} where
  -- no records are a row
  pub row-none : {at : ℕ} → SurveyedRow t source container at at levels nil
  unfolding Spans Obeys depth
  row-none = record { spans = refl; obeys = tt; zeros = λ i l h. absurd (omega arith); shallow = omega arith }

  -- a record that may stand before a row makes it longer
  pub row_more : {at hi : ℕ} {inside rest : Forest} → Placed t at hi → SurveyedNode t source container at levels inside
      → SurveyedRow t source container (end_at t at) hi levels rest
      → SurveyedRow t source container at hi levels (node (item_at t at) inside rest)
  unfolding Spans Obeys depth
  row_more {at} {hi} p s f =
      record {
        spans = (refl, s.spans, f.spans);
        obeys = (s.rules, s.range, s.may, s.obeys, f.obeys);
        zeros = λ i l h. ⊎_elim
            (λ (q : i < end_at t at). ⊎_elim (λ (m : at < i). s.zeros i (omega arith) q)
            (λ (m : i ≤ at). let e : at ≡ i = omega arith in rw e at p.zeros) (lt-or-le at i))
            (λ (q : end_at t at ≤ i). f.zeros i q h)
            (lt-or-le i (end_at t at));
        shallow = omega (arith, s.deep, f.shallow);
      }

  -- a row that is not empty begins with a record
  pub first : {at hi : ℕ} {F : Forest} → at < hi → SurveyedRow t source container at hi levels F → First t source container at hi levels F
  unfolding depth
  first {at} {hi} {F} h w =
      let u = cut t at hi F h w.spans in
      let p = cut_parts u source container w.obeys in
      let d = ap depth u.is in
      record {
        inside = u.inside;
        rest = u.rest;
        is = u.is;
        place = record { zeros = w.zeros at (omega arith) h; on = u.on; within = u.within };
        stands = record {
          rules = p.rules;
          range = p.range;
          may = p.may;
          spans = u.in-spans;
          obeys = p.in-obeys;
          zeros = λ i l m. w.zeros i (omega arith) (omega (arith, u.within));
          deep = omega (arith, d, w.shallow);
        };
        more = record {
          spans = u.rest-spans;
          obeys = p.rest-obeys;
          zeros = λ i l m. w.zeros i (omega (arith, u.on)) m;
          shallow = omega (arith, d, w.shallow);
        };
      }

  -- a row is one forest's alone
  pub row-only : {lo hi : ℕ} (F G : Forest) → SurveyedRow t source container lo hi levels F
      → SurveyedRow t source container lo hi levels G → F ≡ G
  row-only {lo} {hi} F G v w = spans_unique t lo hi F G v.spans w.spans

-- ---- the row of one record

-- the row of one record is the forest of one node
pub only-node : (t : List ℕ) (at : ℕ) (F : Forest) → at < end_at t at → Spans t at (end_at t at) F
    → (inside : Forest) × (F ≡ node (item_at t at) inside nil) × Spans t (at + 1) (end_at t at) inside
only-node t at F h s =
    let u = cut t at (end_at t at) F h s in
    let r : u.rest ≡ nil = no_more t (end_at t at) (end_at t at) u.rest (omega arith) u.rest-spans in
    (u.inside, u.is ∙ rw r, u.in-spans)

module _ {t source : List ℕ} {container at levels : ℕ} (z : zeros_at t at ≡ 0) (o : at < end_at t at) where
  -- a record that may stand in a container is a row there
  pub node_row : (inside : Forest) → SurveyedNode t source container at levels inside
      → SurveyedRow t source container at (end_at t at) levels (node (item_at t at) inside nil)
  node_row inside s = row_more (record { zeros = z; on = o; within = omega arith }) s row-none

  -- and such a row has such a record alone
  pub row-node : (F : Forest) → SurveyedRow t source container at (end_at t at) levels F
      → (inside : Forest) × (F ≡ node (item_at t at) inside nil) × SurveyedNode t source container at levels inside
  row-node F w =
      let u = first o w in
      let r : u.rest ≡ nil = no_more t (end_at t at) (end_at t at) u.rest (omega arith) u.more.spans in
      (u.inside, u.is ∙ rw r, u.stands)

  -- where the rows that it contains are known, so are its own
  pub carries-inside : {P : Forest → Type 0} → ((G : Forest) → P G → SurveyedNode t source container at levels G)
      → ((G : Forest) → SurveyedNode t source container at levels G → P G)
      → Carries P (SurveyedRow t source container at (end_at t at) levels) (λ G. node (item_at t at) G nil)
  carries-inside f g =
      record {
        there = λ G x. node_row G (f G x);
        back = λ F w. let y = row-node F w in (y.0, y.1, g y.0 y.2);
      }

-- ---- the walk along a row

-- what f makes of a forest is what it makes of its first node, and then of the rest
abbrev pub Adds : (Forest → List ℕ) → Type 0
Adds f = (item : Item) (inside rest : Forest) → length (f (node item inside rest)) ≡ length (f (node item inside nil)) + length (f rest)

-- what stands before a forest adds n to what f makes of it
abbrev pub Counts : (Forest → List ℕ) → (Forest → Forest) → ℕ → Type 0
Counts f join n = (G : Forest) → length (f (join G)) ≡ n + length (f G)

-- one node more stands before it
pub counts-more : (f : Forest → List ℕ) (join : Forest → Forest) (n x : ℕ) → Adds f → Counts f join n → (item : Item) (inside : Forest)
    → length (f (node item inside nil)) ≡ x → Counts f (λ G. join (node item inside G)) (n + x)
counts-more f join n x a c item inside e G = omega (arith, c (node item inside G), a item inside G, e)

-- the records from lo to `at` have been passed, with n bytes by f: whatever is right from `at` on, they join it to what is right from lo on
pub record Passed (t source : List ℕ) (container levels : ℕ) (f : Forest → List ℕ) (lo hi at n : ℕ) (join : Forest → Forest) : Type 0
  where
    pub carries : Carries (SurveyedRow t source container at hi levels) (SurveyedRow t source container lo hi levels) join
    pub counted : Counts f join n
    pub since : lo ≤ at
    pub within : at ≤ hi
    pub short : n ≤ longest_element

-- before the first record nothing is passed
pub passed_none : {t source : List ℕ} {container levels : ℕ} {f : Forest → List ℕ} {lo hi : ℕ} → lo ≤ hi
    → Passed t source container levels f lo hi lo 0 (λ G. G)
passed_none h =
    record {
      carries = carries-none;
      counted = λ G. omega arith;
      since = omega arith;
      within = h;
      short = omega arith;
    }

module _ {t source : List ℕ} {container levels : ℕ} {f : Forest → List ℕ} {lo hi at n : ℕ} {join : Forest → Forest} (a : Adds f)
    (b : Passed t source container levels f lo hi at n join) where
  -- where no record is left, the row is read
  pub passed-all : length (f nil) ≡ 0 → hi ≤ at → Exactly (SurveyedRow t source container lo hi levels) (λ F. length (f F)) n
  passed-all none q =
      let e : at ≡ hi = omega (arith, b.within) in
      record {
        sure = λ h. record {
          forest = join nil;
          right = b.carries.there nil (rw e row-none);
          sized = omega (arith, b.counted nil, none);
        };
        only = λ F w h. b.short;
      }

  -- a record that is not placed, in a row that is right
  pub not-placed : at < hi → placed t at hi ≡ false → (F : Forest) → SurveyedRow t source container lo hi levels F → ⊥
  not-placed h e F w =
      let y = b.carries.back F w in
      true≢false (sym (placed-passes t at hi (first h y.2).place) ∙ e)

  module _ {x : ℕ} (e : Exactly (SurveyedRow t source container at (end_at t at) levels) (λ F. length (f F)) x) where
    -- a right row is at least as long as what was passed and its next record
    pub passed-long : at < hi → longest_element < n + x → (F : Forest) → SurveyedRow t source container lo hi levels F
        → length (f F) ≤ longest_element → ⊥
    passed-long h o F w l =
        let y = b.carries.back F w in
        let u = first h y.2 in
        let one = node_row u.place.zeros u.place.on u.inside u.stands in
        let c = b.counted y.0 in
        let s = ap (λ (G : Forest). length (f G)) y.1 in
        let d = ap (λ (G : Forest). length (f G)) u.is ∙ a (item_at t at) u.inside u.rest in
        let q : x ≤ longest_element = e.only _ one (omega (arith, s, c, d, l)) in
        let z = e.sure q in
        let m = ap (λ (G : Forest). length (f G)) (row-only _ _ one z.right) ∙ z.sized in
        omega (arith, s, c, d, l, m, o)

    module _ (p : Placed t at hi) (h : n + x ≤ longest_element) where
      -- the next record, of which the reading is sure
      abbrev pub next : (inside : Forest) × ((e.sure (omega (arith, h))).forest ≡ node (item_at t at) inside nil)
          × SurveyedNode t source container at levels inside
      next = row-node p.zeros p.on _ (e.sure (omega (arith, h))).right

      -- it is passed with its bytes
      pub passed-more : Passed t source container levels f lo hi (end_at t at) (n + x) (λ G. join (node (item_at t at) next.0 G))
      passed-more =
          let z = e.sure (omega (arith, h)) in
          record {
            carries = carries-both
                (record {
                  there = λ G w. row_more p next.2 w;
                  back = λ F w.
                      let l : at < hi = omega (arith, p.on, p.within) in
                      let u = first l w in
                      let s = spans_unique t (at + 1) (end_at t at) u.inside next.0 u.stands.spans next.2.spans in
                      (u.rest, u.is ∙ ap (λ (G : Forest). node (item_at t at) G u.rest) s, u.more);
                })
                b.carries;
            counted = counts-more f join n x a b.counted (item_at t at) next.0
                (ap (λ (G : Forest). length (f G)) (sym next.1) ∙ z.sized);
            since = omega (arith, b.since, p.on);
            within = p.within;
            short = h;
          }
