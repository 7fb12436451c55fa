-- Ticket 14, the theorem of a recorder: the steps over any portions give the packets of the whole stream.
use mathlib.Core.Path.{◌≡◌, refl, ap, sym, subst, ◌∙◌}
use mathlib.Core.List.{List, [], ◌∷◌, ◌++◌, append_assoc, append-nil}
use Prim.Native.Nat.{ℕ, ◌+◌, ◌-◌, ◌≤◌}
use native.Mathlib.Omega.{arith}
use lib.ListN.{length, take, drop, length-append, length-take, length-drop, take-append-drop}
use Rattle.edition.specs.declared.Edition.TheVariants.{Standard}
use Rattle.refusal.specs.declared.Refusal.{Refusal}
use Rattle.node.specs.Forest.{Forest, nil, node, size}
use Rattle.node.specs.Records.{capacity}
use Rattle.argument.specs.Dirt.{packets_padding, dirty_in}
use Rattle.framing.specs.Framing.{Whole, trees, waiting, refusal, stopped, tcp_vec2}
use Rattle.edition.specs.declared.Framing.TheVariants.{TcpVec}
use Rattle.framing.proofs.Lists.{vec2-remaining}
use Rattle.answering.specs.Limits.{forest_of}
use Rattle.results.specs.Results.{DecodeAnswer, Stopped}
use Rattle.decoder.specs.CodeFrames.{Accepted}
use Rattle.decoder.proofs.Sizes.{vec2-accepted, WholeIn, vec2-in}
use Rattle.decoder.proofs.Cuts.{rest_of, rest-accepted}
use Rattle.decoder.proofs.Offsets.{WholeLow, whole_low}
use Rattle.folding.specs.Folding.{joined_bytes}
use Rattle.portions.specs.Portions.{portion_of, table_by}
use Rattle.table.specs.Tree.{Spans}
use Rattle.calls.specs.Words.{Gives}
use Rattle.calls.proofs.Answered.{held}
use Rattle.calls.proofs.Longer.Frames.{list-framed}
use Rattle.osc10.specs.Words.{Bytes}
use Rattle.osc10.proofs.Arguments.{join, join-end}
use Rattle.osc10.proofs.Placed.{At, at_all, at_front, at_back, at-bytes}
use Rattle.cutting.specs.Moved.{moved_forest, moved_refusal, moved_whole, MovedRecords}
use Rattle.cutting.specs.Cutting.{list_answer, list_table, Recorded, done, reads, ends, AnyPortions}
use Rattle.cutting.proofs.Shift.{size-moved}
use Rattle.cutting.proofs.Records.{size-joined, spans-joined, spans-moved}
use Rattle.cutting.proofs.Soil.{dirt-joined, framed-moved}
use Rattle.cutting.proofs.Fold.{joined_whole, continued, joined-none, joined-twice, cut_list}
use Rattle.cutting.proofs.Told.{told_as, Roomy, told, roomy, given-told}
use Rattle.cutting.proofs.Calls.{forest-joined, told-gives, given-spans, vec2-cut, vec2-moved}
use Rattle.cutting.proofs.Calls.{vec2-longer}

-- ---- what is kept waits

no-nodes : (g : Forest) → size g ≡ 0 → g ≡ nil
unfolding size
no-nodes nil e = refl
no-nodes (node item inside rest) e = absurd (omega (arith, e))

-- no frame stands whole in the bytes that a list leaves over
module _ (limit : ℕ) (msg : List ℕ) (f : Forest) (left : ℕ) (e : tcp_vec2 limit msg ≡ trees f left) where
  abbrev used : ℕ
  used = length msg - left

  in_two : trees f left ≡ joined_whole f (moved_whole used (tcp_vec2 limit (drop used msg)))
  in_two =
      let here : 0 + used ≡ used = omega arith in
      sym e ∙ ap (tcp_vec2 limit) (sym (append-nil msg)) ∙ vec2-cut limit msg [] ∙ ap (continued limit 0 msg []) e
      ∙ ap (λ (b : ℕ). joined_whole f (rest_of limit b (drop used msg ++ []))) here
      ∙ ap (λ (l : List ℕ). joined_whole f (rest_of limit used l)) (append-nil (drop used msg))
      ∙ ap (joined_whole f) (vec2-moved limit used (drop used msg))

  by-rest : (w : Whole) → tcp_vec2 limit (drop used msg) ≡ w → Accepted w → trees f left ≡ joined_whole f (moved_whole used w)
      → tcp_vec2 limit (drop used msg) ≡ trees nil left
  by-rest (trees g l) z a q =
      let same : f ≡ join f (moved_forest used g) = cc in
      let lefts : l ≡ left = cc in
      let none : g ≡ nil = no-nodes g (omega (arith, ap size same, size-joined f (moved_forest used g), size-moved used g)) in
      z ∙ rw (none, lefts)
  by-rest waiting z a q = absurd a
  by-rest (refusal r) z a q = absurd a
  by-rest (stopped g l why at) z a q =
      let z : ◌≡◌ {A = ℕ} 0 1 = cc in absurd (omega arith)

  rest-waits : tcp_vec2 limit (drop used msg) ≡ trees nil left
  rest-waits = by-rest (tcp_vec2 limit (drop used msg)) refl (vec2-accepted limit (drop used msg)) in_two

  left_in : left ≤ length msg
  left_in = let h = subst (WholeIn (length msg)) e (vec2-in limit msg) in omega arith

-- ---- trees before a list

joined-accepted : (f : Forest) (w : Whole) → Accepted w → Accepted (joined_whole f w)
joined-accepted f (trees g left) a = tt
joined-accepted f waiting a = absurd a
joined-accepted f (refusal r) a = absurd a
joined-accepted f (stopped g left why at) a = tt

-- ---- the loop

module _ (limit : ℕ) (stream whole : List ℕ) (total soil : ℕ) (b : Bytes stream)
    (g : Gives (list_answer limit stream whole) total soil) where
  abbrev t : List ℕ
  t = list_table limit stream whole

  all-roomy : Roomy limit stream
  all-roomy = roomy limit stream whole total soil g

  all-counts : size (forest_of (tcp_vec2 limit stream)) ≡ total
  all-counts = (held total soil (tcp_vec2 limit) (capacity whole) limit stream g).counts

  -- where a step stands: the bytes `pre` were consumed and gave the trees `before`, and msg, which it reads, stands before `more`
  module _ (pre msg more : List ℕ) (first : Forest) (stands : pre ++ (msg ++ more) ≡ stream) where
    msg-roomy : Roomy limit msg
    msg-roomy =
        record {
          deep = all-roomy.deep;
          short =
              omega (arith, all-roomy.short, ap length stands, length-append pre (msg ++ more), length-append msg more);
        }

    msg-bytes : Bytes msg
    msg-bytes =
        at-bytes b (at_front msg more (at_back pre (msg ++ more) (subst (λ (l : List ℕ). At stream 0 l) (sym stands) (at_all stream))))

    -- the trees of msg, moved, stand in the whole after those before them
    module _ (f rest : Forest) (e : forest_of (tcp_vec2 limit msg) ≡ f)
        (is : forest_of (tcp_vec2 limit stream) ≡ join first (join (moved_forest (length pre) f) rest)) where
      abbrev offset : ℕ
      offset = length pre

      counts : size first + (size f + size rest) ≡ total
      counts =
          omega (
            arith,
            all-counts,
            ap size is,
            size-joined first (join (moved_forest offset f) rest),
            size-joined (moved_forest offset f) rest,
            size-moved offset f,
          )

      step_told : (table : List ℕ) → total ≤ capacity table → list_answer limit msg table ≡ told_as msg (tcp_vec2 limit msg)
      step_told table r = told limit msg table msg-roomy (omega (arith, ap size e, counts))

      step-records : (table : List ℕ) → total ≤ capacity table → MovedRecords offset (size first) (size f) (table_by limit msg table) t
      step-records table r =
          let w = tcp_vec2 limit msg in
          let gives : Gives (list_answer limit msg table) (size (forest_of w)) (dirty_in msg (forest_of w))
          = subst (λ (x : DecodeAnswer). Gives x (size (forest_of w)) (dirty_in msg (forest_of w))) (sym (step_told table r))
          (told-gives msg w (vec2-accepted limit msg)) in
          let mine : Spans (table_by limit msg table) 0 (size f) f
          = subst (λ (x : Forest). Spans (table_by limit msg table) 0 (size x) x) e
          (given-spans limit msg table (size (forest_of w)) (dirty_in msg (forest_of w)) msg-bytes gives) in
          let all : Spans t 0 total (join first (join (moved_forest offset f) rest))
          = subst (λ (x : Forest). Spans t 0 total x) is (given-spans limit stream whole total soil b g) in
          let here : 0 + size first ≡ size first = omega arith in
          let later : Spans t (size first) total (join (moved_forest offset f) rest)
          = rw here at (spans-joined t 0 total first (join (moved_forest offset f) rest) all).1 in
          let second : Spans t (size first) (size first + size f) (moved_forest offset f)
          = rw (size-moved offset f) at (spans-joined t (size first) total (moved_forest offset f) rest later).0 in
          spans-moved offset (size first) (size f) (table_by limit msg table) t f mine second

      step-dirt : dirty_in stream (join first (moved_forest offset f)) ≡ dirty_in stream first + dirty_in msg f
      step-dirt =
          let framed = framed-moved offset pre (msg ++ more) refl (list-framed limit 0 msg) in
          let forest : forest_of (rest_of limit 0 msg) ≡ f = sym (ap forest_of (vec2-remaining limit msg)) ∙ e in
          let moved : dirty_in stream (moved_forest offset f) ≡ dirty_in (msg ++ more) f = rw (stands, forest) at framed in
          let longer : dirty_in (msg ++ more) f ≡ dirty_in msg f = rw e at (vec2-longer limit msg more) in
          omega (arith, dirt-joined stream first (moved_forest offset f), moved, longer)

      step_counts : size (join first (moved_forest offset f)) ≡ size first + size f
      step_counts = omega (arith, size-joined first (moved_forest offset f), size-moved offset f)

  -- the steps over the portions that are still to come
  abbrev Goes : ℕ → Forest → List ℕ → List (List ℕ) → Type 0
  Goes k first kept later =
      Recorded limit total t k (size first) (dirty_in stream first) kept later (list_answer limit stream whole)

  -- with no portion more, what is kept is left over
  no_more : (pre kept : List ℕ) (first : Forest) → tcp_vec2 limit stream ≡ joined_whole first (rest_of limit (length pre) (kept ++ []))
      → tcp_vec2 limit kept ≡ trees nil (length kept) → Goes (length pre) first kept []
  unfolding moved_forest
  no_more pre kept first is waits =
      let last : tcp_vec2 limit stream ≡ trees first (length kept)
      = is ∙ ap (λ (l : List ℕ). joined_whole first (rest_of limit (length pre) l)) (append-nil kept)
      ∙ ap (joined_whole first) (vec2-moved limit (length pre) kept ∙ ap (moved_whole (length pre)) waits)
      ∙ ap (λ (f : Forest). trees f (length kept)) (join-end first) in
      subst (λ (r : DecodeAnswer). Recorded limit total t (length pre) (size first) (dirty_in stream first) kept [] r)
      (sym (given-told limit stream whole total soil g ∙ ap (told_as stream) last)) done

  module _ (later : List (List ℕ)) (pre kept portion : List ℕ) (first : Forest)
      (stands : pre ++ (kept ++ (portion ++ joined_bytes later)) ≡ stream)
      (is : tcp_vec2 limit stream ≡ joined_whole first (rest_of limit (length pre) (kept ++ (portion ++ joined_bytes later))))
      (go : (pre kept : List ℕ) (first : Forest) → pre ++ (kept ++ joined_bytes later) ≡ stream
      → tcp_vec2 limit stream ≡ joined_whole first (rest_of limit (length pre) (kept ++ joined_bytes later))
      → tcp_vec2 limit kept ≡ trees nil (length kept) → Goes (length pre) first kept later) where
    abbrev msg : List ℕ
    msg = kept ++ portion

    abbrev more : List ℕ
    more = joined_bytes later

    there : pre ++ (msg ++ more) ≡ stream
    there = ap (λ (l : List ℕ). pre ++ l) (append_assoc kept portion more) ∙ stands

    in_step : {w : Whole} → tcp_vec2 limit msg ≡ w
        → tcp_vec2 limit stream ≡ joined_whole first (continued limit (length pre) msg more (moved_whole (length pre) w))
    in_step e =
        is ∙ ap (λ (l : List ℕ). joined_whole first (rest_of limit (length pre) l)) (sym (append_assoc kept portion more))
        ∙ ap (joined_whole first) (cut_list limit (length pre) msg more
        ∙ ap (continued limit (length pre) msg more) (vec2-moved limit (length pre) msg ∙ ap (moved_whole (length pre)) e))

    abbrev k : ℕ
    k = length pre

    -- the step reads some frames, and the steps after it go on from there
    module _ (f : Forest) (left : ℕ) (e : tcp_vec2 limit msg ≡ trees f left) where
      abbrev u : ℕ
      u = length msg - left

      abbrev next : Whole
      next = rest_of limit (k + u) (drop u msg ++ more)

      forests : forest_of (tcp_vec2 limit stream) ≡ join first (join (moved_forest k f) (forest_of next))
      forests =
          let a = rest-accepted limit (k + u) (drop u msg ++ more) in
          ap forest_of (in_step e)
          ∙ forest-joined first (joined_whole (moved_forest k f) next) (joined-accepted (moved_forest k f) next a)
          ∙ ap (join first) (forest-joined (moved_forest k f) next a)

      consumed : length (pre ++ take u msg) ≡ k + u
      consumed = omega (arith, length-append pre (take u msg), length-take u msg)

      goes_further : Goes (length (pre ++ take u msg)) (join first (moved_forest k f)) (drop u msg) later
      goes_further =
          go (pre ++ take u msg) (drop u msg) (join first (moved_forest k f))
          (append_assoc pre (take u msg) (drop u msg ++ more)
          ∙ ap (λ (l : List ℕ). pre ++ l) (sym (append_assoc (take u msg) (drop u msg) more)
          ∙ ap (λ (l : List ℕ). l ++ more) (take-append-drop u msg)) ∙ there)
          (in_step e ∙ joined-twice first (moved_forest k f) next
          ∙ ap (λ (n : ℕ). joined_whole (join first (moved_forest k f)) (rest_of limit n (drop u msg ++ more))) (sym consumed))
          (rest-waits limit msg f left e ∙ ap (trees nil) (omega (arith, length-drop u msg, left_in limit msg f left e)))

      step-reads : Goes k first kept (portion ∷ later)
      step-reads =
          let q = ap forest_of e in
          let r = list_answer limit stream whole in
          reads
          (λ table room. (
            ap (portion_of (length msg)) (step_told pre msg more first there f (forest_of next) q forests table room ∙ ap (told_as msg) e),
            step-records pre msg more first there f (forest_of next) q forests table room,
          ))
          (subst (λ (n : ℕ). Recorded limit total t n (size first + size f) (dirty_in stream first + dirty_in msg f) (drop u msg) later r)
          consumed
          (subst
          (λ (n : ℕ). Recorded limit total t (length (pre ++ take u msg)) n (dirty_in stream first + dirty_in msg f) (drop u msg) later r)
          (step_counts pre msg more first there f (forest_of next) q forests)
          (subst
          (λ (n : ℕ). Recorded limit total t (length (pre ++ take u msg)) (size (join first (moved_forest k f))) n (drop u msg) later r)
          (step-dirt pre msg more first there f (forest_of next) q forests) goes_further)))

    -- the step meets a refused frame, which ends the whole stream too
    module _ (f : Forest) (left : ℕ) (why : Refusal) (at : ℕ) (e : tcp_vec2 limit msg ≡ stopped f left why at) where
      last : tcp_vec2 limit stream ≡ stopped (join first (moved_forest k f)) (left + length more) (moved_refusal k why) (k + at)
      last = in_step e

      last-forests : forest_of (tcp_vec2 limit stream) ≡ join first (join (moved_forest k f) nil)
      last-forests = ap forest_of last ∙ ap (join first) (sym (join-end (moved_forest k f)))

      left_is : left ≡ length msg - at
      left_is = let low = subst (WholeLow (length msg)) e (whole_low (TcpVec Standard) limit msg) in omega (arith, low.1)

      last-answer : list_answer limit stream whole
          ≡ Stopped (size first + size f) (length msg - at + length more) (dirty_in stream first + dirty_in msg f) (moved_refusal k why)
          (k + at)
      last-answer =
          let q = ap forest_of e in
          given-told limit stream whole total soil g ∙ ap (told_as stream) last
          ∙ ap (λ (n : ℕ). Stopped n (left + length more) (dirty_in stream (join first (moved_forest k f))) (moved_refusal k why) (k + at))
          (step_counts pre msg more first there f nil q last-forests)
          ∙ ap (λ (n : ℕ). Stopped (size first + size f) (left + length more) n (moved_refusal k why) (k + at))
          (step-dirt pre msg more first there f nil q last-forests)
          ∙ ap
          (λ (n : ℕ). Stopped (size first + size f) (n + length more) (dirty_in stream first + dirty_in msg f) (moved_refusal k why) (k + at))
          left_is

      step-ends : Goes k first kept (portion ∷ later)
      step-ends =
          let q = ap forest_of e in
          subst (λ (r : DecodeAnswer). Recorded limit total t k (size first) (dirty_in stream first) kept (portion ∷ later) r)
          (sym last-answer)
          (ends
          (λ table room. (
            ap (portion_of (length msg)) (step_told pre msg more first there f nil q last-forests table room ∙ ap (told_as msg) e),
            step-records pre msg more first there f nil q last-forests table room,
          )))

    by-step : (w : Whole) → tcp_vec2 limit msg ≡ w → Accepted w → Goes k first kept (portion ∷ later)
    by-step (trees f left) e a = step-reads f left e
    by-step waiting e a = absurd a
    by-step (refusal r) e a = absurd a
    by-step (stopped f left why at) e a = step-ends f left why at e

  loop : (later : List (List ℕ)) (pre kept : List ℕ) (first : Forest) → pre ++ (kept ++ joined_bytes later) ≡ stream
      → tcp_vec2 limit stream ≡ joined_whole first (rest_of limit (length pre) (kept ++ joined_bytes later))
      → tcp_vec2 limit kept ≡ trees nil (length kept) → Goes (length pre) first kept later
  unfolding joined_bytes
  loop [] pre kept first stands is waits = no_more pre kept first is waits
  loop (portion ∷ later) pre kept first stands is waits =
      by-step later pre kept portion first stands is (λ p q f s i w. loop later p q f s i w) (tcp_vec2 limit (kept ++ portion)) refl
      (vec2-accepted limit (kept ++ portion))

-- Ticket 14: reading a stream in any portions, keeping the unread remainder each time, gives the packets of the whole stream
pub any_portions : AnyPortions
unfolding tcp_vec2 size packets_padding
any_portions limit portions whole total soil b g =
    let stream = joined_bytes portions in
    loop limit stream whole total soil b g portions [] [] nil refl
    (vec2-remaining limit stream ∙ sym (joined-none (rest_of limit 0 stream))) refl
