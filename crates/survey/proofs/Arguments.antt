-- What the survey answers of one argument and of the arguments of a row.
use mathlib.Core.Path.{◌≡◌, refl, sym, ap, ◌∙◌}
use mathlib.Core.Bool.{Bool, true, false, cond, true≢false, false≢true}
use mathlib.Core.List.{List}
use Prim.Native.Nat.{ℕ, ◌+◌, ◌-◌, ◌*◌, ◌≤◌, ◌<◌}
use native.Mathlib.Omega.{arith}
use lib.ListN.{length, length-append}
use borrow.Author.Tests.{ne_eqb}
use Rattle.node.specs.Forest.{Forest, nil, node, level, depth}
use Rattle.node.specs.Tags.{sort_of, message_kind, bundle_kind, array_kind}
use Rattle.node.specs.Rules.{own_rules}
use Rattle.node.specs.Records.{kind_at, end_at, item_at}
use Rattle.node.specs.declared.record.Item.{Item}
use Rattle.node.specs.declared.tags.Class.{Class}
use Rattle.node.specs.declared.tags.Sort.{Sort}
use Rattle.node.specs.declared.tags.Sort.TheVariants.{Opens, Closes, Leaf}
use Rattle.table.specs.Formed.{range_ok, allowed}
use Rattle.table.specs.Tree.{Spans, Obeys}
use Rattle.table.proofs.Spanned.{no_more, spans_unique}
use Rattle.writers.specs.Osc.{write_tags, write_data, longest_element}
use Rattle.writers.proofs.Classed.{opens, opens-only, tags-none, data-none, tags-is, tags-array, data_is}
use Rattle.survey.specs.CodeSurvey.{placed, leaf_ok, leaf_content, argument_length, InTable, SurveyedRow}
use Rattle.survey.specs.Surveys.{unsure}
use Rattle.survey.specs.CodeSurvey.{SurveysArguments}
use Rattle.survey.specs.declared.Tally.{Tally}
use Rattle.survey.proofs.Leaf.{no_packet, other-kind, leaf-empty, leaf-sound, leaf-complete, leaf-data, leaf-tag}
use Rattle.survey.proofs.Exact.{no_length, exact-around}
use Rattle.survey.proofs.Rows.{Placed, SurveyedNode, row-only, only-node, node_row, row-node, carries-inside, row-none}
use Rattle.survey.proofs.Rows.{Adds, Counts, counts-more, Passed, passed_none, passed-all, not-placed, passed-long}
use Rattle.survey.proofs.Rows.{next, passed-more}

-- ---- what is written of a node and of the rest

-- tags and data are those of the first node, and then those of the rest
tags-add : Adds write_tags
tags-add item inside rest =
    omega (
      arith,
      simp length-append at (ap length (tags-is item inside rest)),
      simp length-append at (ap length (tags-is item inside nil)),
      ap length tags-none,
    )

data-add : (source : List ℕ) → Adds (write_data source)
data-add source item inside rest =
    omega (
      arith,
      simp length-append at (ap length (data_is item inside rest source (sort_of item.kind) refl)),
      simp length-append at (ap length (data_is item inside nil source (sort_of item.kind) refl)),
      ap length (data-none source),
    )

-- ---- where the reading is not sure

-- what is answered then
abbrev pub no_tally : Tally
no_tally = record { tags = 0; content = unsure }

-- where no right arguments are short enough, that is exact
no_arguments : {t source : List ℕ} {lo hi levels : ℕ}
    → ((F : Forest) → SurveyedRow t source message_kind lo hi levels F → length (write_data source F) ≤ longest_element → ⊥)
    → SurveysArguments t source lo hi levels no_tally
no_arguments n = record { exact = no_length (omega arith) n; tagged = λ h. absurd (omega (arith, h)) }

-- ---- one argument

-- arguments may stand in an array as in a message
same-container : (source : List ℕ) (a b : ℕ) → ((k : ℕ) → allowed a k ≡ allowed b k) → (F : Forest) → Obeys source a F → Obeys source b F
unfolding Obeys
same-container source a b e nil o = tt
same-container source a b e (node item inside rest) o =
    (o.0, o.1, sym (e item.kind) ∙ o.2, o.3, same-container source a b e rest o.4)

array-message : (k : ℕ) → allowed array_kind k ≡ allowed message_kind k
unfolding allowed
array-message k = refl

-- what was read of a record: its item, its end and its sort
pub record Reading : Type 0 where
  pub table : List ℕ
  pub source : List ℕ
  pub at : ℕ
  pub levels : ℕ
  pub in_table : InTable table at
  pub end : ℕ
  pub item : Item
  pub sort : Sort
  pub end_read : end ≡ end_at table at
  pub item-read : item ≡ item_at table at
  pub sort-read : sort ≡ sort_of item.kind

-- the facts that make it
abbrev pub reading : {t : List ℕ} {at : ℕ} (source : List ℕ) (levels : ℕ) {end : ℕ} {item : Item} {sort : Sort} → InTable t at
    → end ≡ end_at t at → item ≡ item_at t at → sort ≡ sort_of item.kind → Reading
reading {t} {at} source levels {end} {item} {sort} p ee ie se =
    record {
      table = t;
      source = source;
      at = at;
      levels = levels;
      in_table = p;
      end = end;
      item = item;
      sort = sort;
      end_read = ee;
      item-read = ie;
      sort-read = se;
    }

module _ (r : Reading) where
  open r use {table as t, source, at, levels, in_table as p, end as e, item, sort}
  open r use {end_read as ee, item-read as ie, sort-read as se}

  sort-is : {x : Sort} → sort ≡ x → sort_of (kind_at t at) ≡ x
  sort-is q = sym (se ∙ ap (λ (i : Item). sort_of i.kind) ie) ∙ q

  -- a record that is no argument
  not-argument : ((inside : Forest) → SurveyedNode t source message_kind at levels inside → ⊥)
      → SurveysArguments t source at (end_at t at) levels no_tally
  not-argument n = no_arguments (λ F w h. let y = row-node p.zeros p.on F w in n y.0 y.2)

  -- an array where no level is left
  pub array-too-deep : sort ≡ Opens → levels ≡ 0 → SurveysArguments t source at (end_at t at) levels no_tally
  array-too-deep q z =
      let k = opens-only (kind_at t at) (sort-is q) in
      not-argument (λ inside s. let d : level array_kind (depth inside) ≤ levels = rw k at s.deep in omega (arith, d, z))

  -- an array against its own rules
  pub array-wrong : own_rules item ≡ false → SurveysArguments t source at (end_at t at) levels no_tally
  array-wrong n = not-argument (λ inside s. true≢false (sym s.rules ∙ rw ie at n))

  -- the tag that closes an array is no kind
  pub closes-wrong : sort ≡ Closes → SurveysArguments t source at (end_at t at) levels no_tally
  unfolding own_rules
  closes-wrong q =
      not-argument (λ inside s. false≢true (rw (no_packet (kind_at t at) s.may, sort-is q) at s.rules))

  leaf-kind : {class : Class} → sort ≡ Leaf class → kind_at t at ≡ array_kind → ⊥
  leaf-kind q k = let y : ◌≡◌ {A = ℕ} 0 1 = cc (opens (kind_at t at) k, sort-is q) in omega arith

  -- an argument that is no array and does not end after itself
  pub leaf-long : {class : Class} → sort ≡ Leaf class → (e ≡ at + 1 → ⊥)
      → SurveysArguments t source at (end_at t at) levels no_tally
  unfolding Spans
  leaf-long q n =
      not-argument (λ inside s.
      let z = leaf-empty source (kind_at t at) inside (no_packet (kind_at t at) s.may) (leaf-kind q) s.obeys in
      let l : at + 1 ≡ end_at t at = rw z at s.spans in
      n (ee ∙ sym l))

  -- an argument that is no array
  module _ {class : Class} (q : sort ≡ Leaf class) (l : e ≡ at + 1) {n : ℕ} (ne : n ≡ leaf_content source class item) where
    leaf-sort : sort_of (kind_at t at) ≡ Leaf class
    leaf-sort = sort-is q

    passes : n ≤ longest_element → leaf_ok source class (item_at t at) ≡ true
    passes h = rw ie at (go (leaf_ok source class item) ne)
      where
        go : (b : Bool) → n ≡ cond b (argument_length class item.b) unsure → b ≡ true
        go true x = refl
        go false x = absurd (omega (arith, x, h))

    stands : leaf_ok source class (item_at t at) ≡ true → SurveyedNode t source message_kind at levels nil
    unfolding Spans Obeys depth
    stands o =
        let r = leaf-sound source (item_at t at) class leaf-sort o in
        let b = other-kind (kind_at t at) bundle_kind refl (no_packet (kind_at t at) r.may) in
        record {
          rules = r.rules;
          range = r.range;
          may = r.may;
          spans = omega (arith, ee, l);
          obeys = tt;
          zeros = λ i x y. absurd (omega (arith, ee, l));
          deep = rw (ne_eqb (kind_at t at) bundle_kind b, ne_eqb (kind_at t at) array_kind (leaf-kind q)) (omega arith);
        }

    only-nil : (F : Forest) → Spans t (at + 1) (end_at t at) F → F ≡ nil
    only-nil F w = no_more t (at + 1) (end_at t at) F (omega (arith, ee, l)) w

    pub argument-leaf : SurveysArguments t source at (end_at t at) levels (record { tags = 1; content = n })
    argument-leaf =
        record {
          exact = record {
            sure = λ h.
                let o = passes h in
                let x = stands o in
                record {
                  forest = node (item_at t at) nil nil;
                  right = node_row p.zeros p.on nil x;
                  sized = leaf-data source (item_at t at) class leaf-sort x.range ∙ sym (ne ∙ rw (ie, o));
                };
            only = λ F w h.
                let y = row-node p.zeros p.on F w in
                let x = y.2 in
                let o = leaf-complete source (item_at t at) class leaf-sort (record { rules = x.rules; range = x.range; may = x.may }) in
                let i : F ≡ node (item_at t at) nil nil = y.1 ∙ rw (only-nil y.0 x.spans) in
                let d = ap (λ (G : Forest). length (write_data source G)) i ∙ leaf-data source (item_at t at) class leaf-sort x.range in
                let m : n ≡ argument_length class (item_at t at).b = ne ∙ rw (ie, o) in
                omega (arith, m, d, h);
          };
          tagged = λ h F w.
              let y = only-node t at F p.on w in
              let i : F ≡ node (item_at t at) nil nil = y.1 ∙ rw (only-nil y.0 y.2) in
              ap (λ (G : Forest). length (write_tags G)) i ∙ leaf-tag source (item_at t at) class leaf-sort;
        }

  -- an array of arguments, which have one level less
  module _ (q : sort ≡ Opens) (z : levels ≡ 0 → ⊥) (o : own_rules item ≡ true) {inner : Tally}
      (w : SurveysArguments t source (at + 1) e (levels - 1) inner) where
    is_array : kind_at t at ≡ array_kind
    is_array = opens-only (kind_at t at) (sort-is q)

    array-into : (G : Forest) → SurveyedRow t source message_kind (at + 1) (end_at t at) (levels - 1) G
        → SurveyedNode t source message_kind at levels G
    unfolding range_ok allowed
    array-into G x =
        record {
          rules = rw ie at o;
          range = rw is_array;
          may = rw is_array;
          spans = x.spans;
          obeys = rw is_array (same-container source message_kind array_kind (λ i. sym (array-message i)) G x.obeys);
          zeros = x.zeros;
          deep = rw is_array (omega (arith, x.shallow));
        }

    array-from : (G : Forest) → SurveyedNode t source message_kind at levels G
        → SurveyedRow t source message_kind (at + 1) (end_at t at) (levels - 1) G
    array-from G x =
        let d : level array_kind (depth G) ≤ levels = rw is_array at x.deep in
        record {
          spans = x.spans;
          obeys = same-container source array_kind message_kind array-message G (rw is_array at x.obeys);
          zeros = x.zeros;
          shallow = omega (arith, d);
        }

    data-inside : (G : Forest) → length (write_data source (node (item_at t at) G nil)) ≡ 0 + length (write_data source G)
    data-inside G =
        omega (
          arith,
          simp length-append at (ap length (data_is (item_at t at) G nil source Opens (sym (sort-is q)))),
          ap length (data-none source),
        )

    tags-inside : (G : Forest) → length (write_tags (node (item_at t at) G nil)) ≡ 2 + length (write_tags G)
    tags-inside G = omega (arith, simp length-append at (ap length (tags-array (item_at t at) G nil is_array)), ap length tags-none)

    pub argument-array : SurveysArguments t source at (end_at t at) levels (record { tags = 2 + inner.tags; content = inner.content })
    argument-array =
        let v : SurveysArguments t source (at + 1) (end_at t at) (levels - 1) inner = rw ee at w in
        record {
          exact = exact-around (carries-inside p.zeros p.on array-into array-from) row-only v.exact 0 (omega arith)
              (λ G x. omega (arith, data-inside G)) (λ h G x. data-inside G);
          tagged = λ h F x.
              let y = only-node t at F p.on x in
              let d = v.tagged h y.0 y.2 in
              omega (arith, ap (λ (G : Forest). length (write_tags G)) y.1, tags-inside y.0, d);
        }

-- ---- arguments

-- the records from lo to `at` have been passed, with n tags and m bytes of data
pub record Behind (t source : List ℕ) (levels lo hi at n m : ℕ) : Type 0 where
  pub join : Forest → Forest
  pub passed : Passed t source message_kind levels (write_data source) lo hi at m join
  pub tagged : Counts write_tags join n
  pub few : n ≤ 2 * (at - lo)

-- before the first record nothing is passed
pub behind-none : (t source : List ℕ) (levels lo hi : ℕ) → lo ≤ hi → Behind t source levels lo hi lo 0 0
behind-none t source levels lo hi h = record { join = λ G. G; passed = passed_none h; tagged = λ G. omega arith; few = omega arith }

module _ {t source : List ℕ} {levels lo hi at n m : ℕ} (b : Behind t source levels lo hi at n m) where
  -- a record that is not placed ends the walk
  pub arguments-unplaced : at < hi → placed t at hi ≡ false → SurveysArguments t source lo hi levels no_tally
  arguments-unplaced h e = no_arguments (λ F w l. not-placed (data-add source) b.passed h e F w)

  -- where no record is left, the arguments are surveyed
  pub arguments-all : hi ≤ at → SurveysArguments t source lo hi levels (record { tags = n; content = m })
  arguments-all q =
      let e : at ≡ hi = omega (arith, b.passed.within) in
      record {
        exact = passed-all (data-add source) b.passed (ap length (data-none source)) q;
        tagged = λ h F w.
            let y = b.passed.carries.there nil (rw e row-none) in
            let s = ap (λ (G : Forest). length (write_tags G)) (spans_unique t lo hi F _ w y.spans) in
            omega (arith, s, b.tagged nil, ap length tags-none);
      }

  module _ {x : Tally} (a : SurveysArguments t source at (end_at t at) levels x) where
    -- a sum over the limit ends the walk
    pub arguments-long : at < hi → longest_element < m + x.content
        → SurveysArguments t source lo hi levels no_tally
    arguments-long h o = no_arguments (λ F w l. passed-long (data-add source) b.passed a.exact h o F w l)

    -- an argument is passed with its tags and its data
    pub behind_more : Placed t at hi → x.tags ≤ 2 * (end_at t at - at) → m + x.content ≤ longest_element
        → Behind t source levels lo hi (end_at t at) (n + x.tags) (m + x.content)
    behind_more p l h =
        let u = next (data-add source) b.passed a.exact p h in
        let k : x.content ≤ longest_element = omega (arith, h) in
        let g : length (write_tags (node (item_at t at) u.0 nil)) ≡ x.tags
        = a.tagged k (node (item_at t at) u.0 nil) (rw u.1 at (a.exact.sure k).right.spans) in
        record {
          join = λ G. b.join (node (item_at t at) u.0 G);
          passed = passed-more (data-add source) b.passed a.exact p h;
          tagged = counts-more write_tags b.join n x.tags tags-add b.tagged (item_at t at) u.0 g;
          few = omega (arith, b.few, b.passed.since, p.on);
        }
