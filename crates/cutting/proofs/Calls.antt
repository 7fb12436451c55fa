-- Ticket 14 over the answers and tables of `decode_tcp_vec`: the three laws of a cut.
use mathlib.Core.Path.{◌≡◌, refl, ap, sym, subst, ◌∙◌}
use mathlib.Core.List.{List, ◌++◌, append_assoc}
use Prim.Native.Nat.{ℕ, ◌+◌, ◌-◌, ◌≤◌}
use native.Mathlib.Nat.{le_refl}
use native.Mathlib.Omega.{arith}
use lib.ListN.{length, take, drop, length-append, length-take, length-drop, take-append-drop}
use lib.Seq.{drop-append-le}
use Rattle.edition.specs.declared.Edition.TheVariants.{Standard}
use Rattle.refusal.specs.declared.Refusal.{Refusal}
use Rattle.wire.proofs.Parts.{drop-small}
use Rattle.node.specs.Forest.{Forest, size}
use Rattle.node.specs.Records.{capacity}
use Rattle.argument.specs.Dirt.{dirty_in}
use Rattle.framing.specs.Framing.{Whole, trees, waiting, refusal, stopped, tcp_vec2}
use Rattle.edition.specs.declared.Framing.TheVariants.{TcpVec}
use Rattle.framing.proofs.Lists.{vec2-remaining}
use Rattle.answering.specs.Limits.{forest_of}
use Rattle.results.specs.Results.{DecodeAnswer, Packets, Stopped, Waiting}
use Rattle.std.specs.Prelude.{Err}
use Rattle.decoder.specs.CodeFrames.{Accepted}
use Rattle.decoder.proofs.Sizes.{vec2-accepted}
use Rattle.decoder.proofs.Cuts.{rest_of, rest-accepted}
use Rattle.table.specs.Tree.{Spans}
use Rattle.calls.specs.Words.{Gives, Allowed}
use Rattle.calls.proofs.Answered.{held}
use Rattle.calls.proofs.Longer.Frames.{dirt-longer}
use Rattle.calls.proofs.Longer.Stay.{list_stays}
use Rattle.osc10.specs.Words.{Bytes}
use Rattle.osc10.proofs.Arguments.{join}
use Rattle.given.proofs.Encodable.Tables.{gives_trees}
use Rattle.cutting.specs.Moved.{moved_forest, moved_whole, MovedRecords}
use Rattle.cutting.specs.Cutting.{list_answer, list_table, joined_answer, FirstPart, YieldsRest, CutChangesNothing, EveryCut}
use Rattle.cutting.proofs.Shift.{size-moved, rest-moved}
use Rattle.cutting.proofs.Records.{size-joined, spans-joined, spans-moved}
use Rattle.cutting.proofs.Soil.{dirt-joined, dirt-moved}
use Rattle.cutting.proofs.Fold.{joined_whole, continued, cut_list}
use Rattle.cutting.proofs.Told.{told_as, Roomy, told, roomy, given-told}

-- ---- what an answer with records shows

-- it is none of 1, 10 and 13
gives-allowed : (total soil : ℕ) (r : DecodeAnswer) → Gives r total soil → Allowed r
gives-allowed total soil r g =
    record {
      no_1 = λ e. subst (λ (x : DecodeAnswer). Gives x total soil) e g;
      no_10 = λ e. subst (λ (x : DecodeAnswer). Gives x total soil) e g;
      no_13 = λ e. subst (λ (x : DecodeAnswer). Gives x total soil) e g;
    }

-- a list is told with its records
pub told-gives : (msg : List ℕ) (w : Whole) → Accepted w → Gives (told_as msg w) (size (forest_of w)) (dirty_in msg (forest_of w))
told-gives msg (trees f left) a = (refl, refl)
told-gives msg waiting a = absurd a
told-gives msg (refusal r) a = absurd a
told-gives msg (stopped f left why at) a = (refl, refl)

-- the records of a list that is given stand in the table as its trees
pub given-spans : (limit : ℕ) (msg table : List ℕ) (total soil : ℕ) → Bytes msg → Gives (list_answer limit msg table) total soil
    → Spans (list_table limit msg table) 0 total (forest_of (tcp_vec2 limit msg))
given-spans limit msg table total soil b g = (gives_trees (TcpVec Standard) msg b limit table total soil g).spans

-- ---- one cut

-- trees before a list that is given are those of both
pub forest-joined : (f : Forest) (w : Whole) → Accepted w → forest_of (joined_whole f w) ≡ join f (forest_of w)
forest-joined f (trees g left) a = refl
forest-joined f waiting a = absurd a
forest-joined f (refusal r) a = absurd a
forest-joined f (stopped g left why at) a = refl

-- a list further on is given too, with its trees moved
moved-accepted : (k : ℕ) (w : Whole) → Accepted w → Accepted (moved_whole k w)
moved-accepted k (trees f left) a = tt
moved-accepted k waiting a = absurd a
moved-accepted k (refusal r) a = absurd a
moved-accepted k (stopped f left why at) a = tt

moved-forest : (k : ℕ) (w : Whole) → Accepted w → forest_of (moved_whole k w) ≡ moved_forest k (forest_of w)
moved-forest k (trees f left) a = refl
moved-forest k waiting a = absurd a
moved-forest k (refusal r) a = absurd a
moved-forest k (stopped f left why at) a = refl

-- bytes appended change no dirt of a list
pub vec2-longer : (limit : ℕ) (msg more : List ℕ)
    → dirty_in (msg ++ more) (forest_of (tcp_vec2 limit msg)) ≡ dirty_in msg (forest_of (tcp_vec2 limit msg))
vec2-longer limit msg more = rw (vec2-remaining limit msg) (dirt-longer limit msg more)

-- nor do bytes before it, where its trees are moved by them
vec2-dirt : (limit k : ℕ) (pre l : List ℕ) → k ≡ length pre
    → dirty_in (pre ++ l) (moved_forest k (forest_of (tcp_vec2 limit l))) ≡ dirty_in l (forest_of (tcp_vec2 limit l))
vec2-dirt limit k pre l e = rw (vec2-remaining limit l) (dirt-moved limit k pre l e)

-- the list with more bytes by the list without them
pub vec2-cut : (limit : ℕ) (msg more : List ℕ) → tcp_vec2 limit (msg ++ more) ≡ continued limit 0 msg more (tcp_vec2 limit msg)
vec2-cut limit msg more =
    vec2-remaining limit (msg ++ more) ∙ cut_list limit 0 msg more ∙ ap (continued limit 0 msg more) (sym (vec2-remaining limit msg))

-- the list of bytes that stand k bytes further on
pub vec2-moved : (limit k : ℕ) (l : List ℕ) → rest_of limit k l ≡ moved_whole k (tcp_vec2 limit l)
vec2-moved limit k l =
    let here : k + 0 ≡ k = omega arith in
    ap (λ (b : ℕ). rest_of limit b l) (sym here) ∙ rest-moved limit k 0 l ∙ ap (moved_whole k) (sym (vec2-remaining limit l))

-- trees before a list that is given have the nodes of both
pub size-before : (f : Forest) (w : Whole) → Accepted w → size (forest_of (joined_whole f w)) ≡ size f + size (forest_of w)
size-before f w a = ap size (forest-joined f w a) ∙ size-joined f (forest_of w)

-- a beginning of the stream has no more nodes than all of it
part-size : (limit : ℕ) (msg more : List ℕ) → size (forest_of (tcp_vec2 limit msg)) ≤ size (forest_of (tcp_vec2 limit (msg ++ more)))
part-size limit msg more =
    subst (λ (x : Whole). size (forest_of (tcp_vec2 limit msg)) ≤ size (forest_of x)) (sym (vec2-cut limit msg more))
    (by_whole (tcp_vec2 limit msg) (vec2-accepted limit msg))
  where
    by_whole : (w : Whole) → Accepted w → size (forest_of w) ≤ size (forest_of (continued limit 0 msg more w))
    by_whole (trees f left) a =
        let k = length msg - left in
        omega (arith, size-before f (rest_of limit (0 + k) (drop k msg ++ more)) (rest-accepted limit (0 + k) (drop k msg ++ more)))
    by_whole waiting a = absurd a
    by_whole (refusal r) a = absurd a
    by_whole (stopped f left why at) a = le_refl (size f)

-- as a list that stops is told with m bytes more left
abbrev left_more : ℕ → DecodeAnswer → DecodeAnswer
left_more m (Packets count left dirty) = Packets count left dirty
left_more m Waiting = Waiting
left_more m (Err r) = Err r
left_more m (Stopped count left dirty why at) = Stopped count (left + m) dirty why at

module _ (limit : ℕ) (msg more whole part rest : List ℕ) (total soil : ℕ) (b : Bytes (msg ++ more))
    (g : Gives (list_answer limit (msg ++ more) whole) total soil) (p : total ≤ capacity part) (r : total ≤ capacity rest) where
  abbrev stream : List ℕ
  stream = msg ++ more

  all-roomy : Roomy limit stream
  all-roomy = roomy limit stream whole total soil g

  all-counts : size (forest_of (tcp_vec2 limit stream)) ≡ total
  all-counts = (held total soil (tcp_vec2 limit) (capacity whole) limit stream g).counts

  part-roomy : Roomy limit msg
  part-roomy = record { deep = all-roomy.deep; short = omega (arith, all-roomy.short, length-append msg more) }

  part-told : list_answer limit msg part ≡ told_as msg (tcp_vec2 limit msg)
  part-told = told limit msg part part-roomy (omega (arith, all-counts, part-size limit msg more))

  first_part : FirstPart limit msg more whole part total
  first_part =
      let n = size (forest_of (tcp_vec2 limit msg)) in
      let d = dirty_in msg (forest_of (tcp_vec2 limit msg)) in
      let gives : Gives (list_answer limit msg part) n d
      = subst (λ (x : DecodeAnswer). Gives x n d) (sym part-told) (told-gives msg (tcp_vec2 limit msg) (vec2-accepted limit msg)) in
      record {
        count = n;
        dirty = d;
        gives = gives;
        no_more = omega (arith, all-counts, part-size limit msg more);
        same = sym (list_stays msg more limit limit part whole n d (le_refl limit) gives (gives-allowed total soil _ g)).records;
      }

  -- law 2
  again : (w : Whole) → tcp_vec2 limit msg ≡ w → (count left dirty : ℕ) (why : Refusal) (at : ℕ)
      → told_as msg w ≡ Stopped count left dirty why at → list_answer limit stream whole ≡ Stopped count (left + length more) dirty why at
  again (trees f l) e count left dirty why at q = let z : ◌≡◌ {A = ℕ} 0 1 = cc in absurd (omega arith)
  again waiting e count left dirty why at q = let z : ◌≡◌ {A = ℕ} 0 1 = cc in absurd (omega arith)
  again (refusal x) e count left dirty why at q = let z : ◌≡◌ {A = ℕ} 0 1 = cc in absurd (omega arith)
  again (stopped f l x y) e count left dirty why at q =
      let soils : dirty_in stream f ≡ dirty_in msg f = rw e at (vec2-longer limit msg more) in
      given-told limit stream whole total soil g ∙ ap (told_as stream) (vec2-cut limit msg more ∙ ap (continued limit 0 msg more) e)
      ∙ ap (λ (d : ℕ). Stopped (size f) (l + length more) d x y) soils ∙ ap (left_more (length more)) q

  -- law 3
  module _ (f : Forest) (left : ℕ) (e : tcp_vec2 limit msg ≡ trees f left) where
    abbrev k : ℕ
    k = length msg - left

    abbrev tail : List ℕ
    tail = drop k msg ++ more

    tail-whole : tcp_vec2 limit stream ≡ joined_whole f (moved_whole k (tcp_vec2 limit tail))
    tail-whole =
        let here : 0 + k ≡ k = omega arith in
        vec2-cut limit msg more ∙ ap (continued limit 0 msg more) e
        ∙ ap (λ (b : ℕ). joined_whole f (rest_of limit b tail)) here
        ∙ ap (joined_whole f) (vec2-moved limit k tail)

    tail-trees : forest_of (tcp_vec2 limit stream) ≡ join f (moved_forest k (forest_of (tcp_vec2 limit tail)))
    tail-trees =
        let a = vec2-accepted limit tail in
        ap forest_of tail-whole ∙ forest-joined f (moved_whole k (tcp_vec2 limit tail)) (moved-accepted k (tcp_vec2 limit tail) a)
        ∙ ap (join f) (moved-forest k (tcp_vec2 limit tail) a)

    tail-counts : size f + size (forest_of (tcp_vec2 limit tail)) ≡ total
    tail-counts =
        let g' = forest_of (tcp_vec2 limit tail) in
        sym (ap size tail-trees ∙ size-joined f (moved_forest k g') ∙ ap (λ (n : ℕ). size f + n) (size-moved k g')) ∙ all-counts

    tail-stands : take k msg ++ tail ≡ stream
    tail-stands = sym (append_assoc (take k msg) (drop k msg) more) ∙ ap (λ (l : List ℕ). l ++ more) (take-append-drop k msg)

    tail-dirt : dirty_in stream (join f (moved_forest k (forest_of (tcp_vec2 limit tail))))
        ≡ dirty_in msg f + dirty_in tail (forest_of (tcp_vec2 limit tail))
    tail-dirt =
        let g' = forest_of (tcp_vec2 limit tail) in
        let soils : dirty_in stream f ≡ dirty_in msg f = rw e at (vec2-longer limit msg more) in
        let moved : dirty_in stream (moved_forest k g') ≡ dirty_in tail g'
        = rw tail-stands at (vec2-dirt limit k (take k msg) tail (omega (arith, length-take k msg))) in
        omega (arith, dirt-joined stream f (moved_forest k g'), soils, moved)

    tail-told : list_answer limit tail rest ≡ told_as tail (tcp_vec2 limit tail)
    tail-told =
        told limit tail rest
        (record {
          deep = all-roomy.deep;
          short = omega (arith, all-roomy.short, length-append msg more, length-append (drop k msg) more, length-drop k msg);
        })
        (omega (arith, tail-counts))

    tail-gives : Gives (list_answer limit tail rest) (size (forest_of (tcp_vec2 limit tail)))
        (dirty_in tail (forest_of (tcp_vec2 limit tail)))
    tail-gives =
        let w = tcp_vec2 limit tail in
        subst (λ (x : DecodeAnswer). Gives x (size (forest_of w)) (dirty_in tail (forest_of w))) (sym tail-told)
        (told-gives tail w (vec2-accepted limit tail))

    tail-answer : (w : Whole) → tcp_vec2 limit tail ≡ w → Accepted w
        → told_as stream (joined_whole f (moved_whole k w)) ≡ joined_answer k (size f) (dirty_in msg f) (told_as tail w)
    tail-answer (trees g' l) z a =
        let counts : size (join f (moved_forest k g')) ≡ size f + size g'
        = omega (arith, size-joined f (moved_forest k g'), size-moved k g') in
        let dirt : dirty_in stream (join f (moved_forest k g')) ≡ dirty_in msg f + dirty_in tail g' = rw z at tail-dirt in
        rw (counts, dirt)
    tail-answer waiting z a = absurd a
    tail-answer (refusal x) z a = absurd a
    tail-answer (stopped g' l x y) z a =
        let counts : size (join f (moved_forest k g')) ≡ size f + size g'
        = omega (arith, size-joined f (moved_forest k g'), size-moved k g') in
        let dirt : dirty_in stream (join f (moved_forest k g')) ≡ dirty_in msg f + dirty_in tail g' = rw z at tail-dirt in
        rw (counts, dirt)

    tail-records : MovedRecords k (size f) (size (forest_of (tcp_vec2 limit tail))) (list_table limit tail rest)
        (list_table limit stream whole)
    tail-records =
        let g' = forest_of (tcp_vec2 limit tail) in
        let t = list_table limit stream whole in
        let bytes : Bytes tail
        = subst Bytes (drop-append-le k msg more (omega arith)) (drop-small k stream b) in
        let all : Spans t 0 total (join f (moved_forest k g'))
        = subst (λ (x : Forest). Spans t 0 total x) tail-trees (given-spans limit stream whole total soil b g) in
        let here : 0 + size f ≡ size f = omega arith in
        let second : Spans t (size f) (size f + size g') (moved_forest k g')
        = rw (here, ← tail-counts) at (spans-joined t 0 total f (moved_forest k g') all).1 in
        spans-moved k (size f) (size g') (list_table limit tail rest) t g'
        (given-spans limit tail rest (size g') (dirty_in tail g') bytes tail-gives) second

    yields : YieldsRest limit msg more whole rest (size f) (dirty_in msg f) k
    yields =
        record {
          n = size (forest_of (tcp_vec2 limit tail));
          d = dirty_in tail (forest_of (tcp_vec2 limit tail));
          gives = tail-gives;
          answers =
              given-told limit stream whole total soil g ∙ ap (told_as stream) tail-whole
              ∙ tail-answer (tcp_vec2 limit tail) refl (vec2-accepted limit tail)
              ∙ ap (joined_answer k (size f) (dirty_in msg f)) (sym tail-told);
          records = tail-records;
        }

  -- what law 3 says of an answer
  abbrev RestBy : DecodeAnswer → Type 0
  RestBy (Packets count left dirty) = YieldsRest limit msg more whole rest count dirty (length msg - left)
  RestBy Waiting = Unit {0}
  RestBy (Err x) = Unit {0}
  RestBy (Stopped count left dirty why at) = Unit {0}

  rest-told : (w : Whole) → tcp_vec2 limit msg ≡ w → RestBy (told_as msg w)
  rest-told (trees f left) e = yields f left e
  rest-told waiting e = tt
  rest-told (refusal x) e = tt
  rest-told (stopped f left why at) e = tt

  cut : CutChangesNothing limit msg more whole part rest total
  cut =
      record {
        begins = first_part;
        refused_again = λ count left dirty why at q. again (tcp_vec2 limit msg) refl count left dirty why at (sym part-told ∙ q);
        yields_rest = λ count left dirty q. subst RestBy (sym part-told ∙ q) (rest-told (tcp_vec2 limit msg) refl);
      }

-- Ticket 14, the three laws of every cut
pub every_cut : EveryCut
every_cut limit msg more whole part rest total soil b g p r = cut limit msg more whole part rest total soil b g p r
