-- What the survey answers of one packet, of the packets of a row and of a table.
use mathlib.Core.Path.{◌≡◌, refl, sym, ap, ◌∙◌}
use mathlib.Core.Bool.{true, false, true≢false, false≢true}
use mathlib.Core.List.{List}
use Prim.Native.Nat.{ℕ, ◌+◌, ◌-◌, ◌*◌, ◌≤◌, ◌<◌}
use native.Mathlib.Omega.{arith}
use lib.ListN.{length, length-append}
use borrow.Author.Tests.{leb-true}
use Rattle.wire.specs.Limits.{deepest}
use Rattle.wire.specs.Part.{part, inside}
use Rattle.wire.proofs.Choices.{then-only}
use Rattle.wire.proofs.Numbers.{length-bytes}
use Rattle.wire.proofs.Parts.{length_part}
use Rattle.node.specs.Forest.{Forest, nil, node, level, depth}
use Rattle.node.specs.Tags.{message_kind, bundle_kind}
use Rattle.node.specs.Rules.{own_rules, is_packet}
use Rattle.node.specs.Records.{record_size, most_records, kind_at, end_at, item_at}
use Rattle.node.specs.declared.record.Item.{Item}
use Rattle.table.specs.Formed.{text_ok, range_ok, allowed, WellFormed}
use Rattle.table.proofs.Theorem.{tree_formed}
use Rattle.strings.specs.Atomic.{osc_string}
use Rattle.strings.specs.CodeStrings.{string_length}
use Rattle.strings.proofs.Lengths.{length-string}
use Rattle.writers.specs.Osc.{write_tags, write_data, write_packet, write_elements, longest_element}
use Rattle.writers.specs.CodeWriters.{bundle_head}
use Rattle.writers.proofs.Lengths.{length-message, length-bundle}
use Rattle.writers.proofs.Classed.{elements-none}
use Rattle.writers.proofs.Classed.{elements-is, message-is, bundle-is}
use Rattle.survey.specs.CodeSurvey.{placed, InTable, SurveyedRow}
use Rattle.survey.specs.CodeSurvey.{SurveysArguments, SurveysPackets}
use Rattle.survey.specs.Surveys.{unsure, Surveys}
use Rattle.survey.specs.declared.Tally.{Tally}
use Rattle.survey.proofs.Exact.{no_length, exact-around}
use Rattle.survey.proofs.Rows.{Placed, SurveyedNode, row-only, only-node, row-node, carries-inside}
use Rattle.survey.proofs.Rows.{Adds, Passed, passed_none, passed-all, not-placed, passed-long}
use Rattle.survey.proofs.Rows.{passed-more}

-- ---- what is written of a packet and of the rest

-- the elements are the first, and then the rest
elements-add : (source : List ℕ) → Adds (write_elements source)
elements-add source item inside rest =
    omega (
      arith,
      simp length-append at (ap length (elements-is item inside rest source)),
      simp length-append at (ap length (elements-is item inside nil source)),
      ap length (elements-none source),
    )

-- a packet as the only element has its size before it
element : (source : List ℕ) (item : Item) (inside : Forest)
    → length (write_elements source (node item inside nil)) ≡ 4 + length (write_packet source item inside)
element source item inside =
    omega (
      arith,
      simp (length-append, length-bytes) at (ap length (elements-is item inside nil source)),
      ap length (elements-none source),
    )

-- ---- one packet

-- what was read of a message's record
module _ {t source : List ℕ} {at levels : ℕ} (k : kind_at t at ≡ message_kind) (p : InTable t at) {item : Item}
    (ie : item ≡ item_at t at) where
  -- a message whose address is wrong
  pub address-wrong : text_ok source item.a item.b ≡ false → SurveysPackets t source at (end_at t at) levels unsure
  unfolding range_ok
  address-wrong n =
      no_length (omega arith) (λ F w h.
      let y = row-node p.zeros p.on F w in
      let r : text_ok source (item_at t at).a (item_at t at).b ≡ true = rw k at y.2.range in
      true≢false (sym r ∙ rw ie at n))

  -- a message hands its levels on: it is an element with its size, its address and its tags before its data
  module _ (r : text_ok source item.a item.b ≡ true) {e x y : ℕ} (ee : e ≡ end_at t at) {inner : Tally}
      (w : SurveysArguments t source (at + 1) e levels inner) (xe : x ≡ string_length item.b)
      (ye : y ≡ string_length (1 + inner.tags)) where
    range : text_ok source (item_at t at).a (item_at t at).b ≡ true
    range = rw ie at r

    message-into : (G : Forest) → SurveyedRow t source message_kind (at + 1) (end_at t at) levels G
        → SurveyedNode t source bundle_kind at levels G
    unfolding own_rules range_ok allowed
    message-into G v =
        record {
          rules = rw k;
          range = rw k range;
          may = rw k;
          spans = v.spans;
          obeys = rw k v.obeys;
          zeros = v.zeros;
          deep = rw k v.shallow;
        }

    message-from : (G : Forest) → SurveyedNode t source bundle_kind at levels G
        → SurveyedRow t source message_kind (at + 1) (end_at t at) levels G
    message-from G s = record { spans = s.spans; obeys = rw k at s.obeys; zeros = s.zeros; shallow = rw k at s.deep }

    message-whole : (G : Forest) → length (write_elements source (node (item_at t at) G nil))
        ≡ 4 + (x + string_length (1 + length (write_tags G)) + length (write_data source G))
    message-whole G =
        let i : inside source (item_at t at).a (item_at t at).b ≡ true
        = then-only (inside source (item_at t at).a (item_at t at).b) _ range false≢true in
        let l : length (osc_string (part source (item_at t at).a (item_at t at).b)) ≡ x
        = length-string _ ∙ rw (length_part source (item_at t at).a (item_at t at).b (leb-true _ _ i), xe, ie) in
        let m = ap length (message-is source (item_at t at) G k) ∙ length-message source (item_at t at) G in
        omega (arith, element source (item_at t at) G, rw l at m)

    pub message-found : SurveysPackets t source at (end_at t at) levels (4 + x + y + inner.content)
    message-found =
        let v : SurveysArguments t source (at + 1) (end_at t at) levels inner = rw ee at w in
        exact-around (carries-inside p.zeros p.on message-into message-from) row-only v.exact (4 + x + y) refl
        (λ G s. omega (arith, message-whole G))
        (λ h G s. let d : string_length (1 + length (write_tags G)) ≡ y = rw (v.tagged h G s.spans) (sym ye) in
        omega (arith, message-whole G, d))

-- what is neither a message nor a bundle is no packet
pub not-packet : {t source : List ℕ} {at levels : ℕ} (p : InTable t at) {kind : ℕ} → kind ≡ kind_at t at → is_packet kind ≡ false
    → SurveysPackets t source at (end_at t at) levels unsure
unfolding allowed
not-packet p ke n =
    no_length (omega arith) (λ F w h. let y = row-node p.zeros p.on F w in true≢false (sym y.2.may ∙ rw ke at n))

module _ {t source : List ℕ} {at levels : ℕ} (k : kind_at t at ≡ bundle_kind) (p : InTable t at) where
  -- a bundle where no level is left
  pub bundle-too-deep : levels ≡ 0 → SurveysPackets t source at (end_at t at) levels unsure
  bundle-too-deep z =
      no_length (omega arith) (λ F w h.
      let y = row-node p.zeros p.on F w in
      let d : level bundle_kind (depth y.0) ≤ levels = rw k at y.2.deep in
      omega (arith, d, z))

  -- a bundle is an element with its size and its head before its elements, which have one level less
  module _ (z : levels ≡ 0 → ⊥) {e n : ℕ} (ee : e ≡ end_at t at) (w : SurveysPackets t source (at + 1) e (levels - 1) n) where
    bundle-into : (G : Forest) → SurveyedRow t source bundle_kind (at + 1) (end_at t at) (levels - 1) G
        → SurveyedNode t source bundle_kind at levels G
    unfolding own_rules range_ok allowed
    bundle-into G v =
        record {
          rules = rw k;
          range = rw k;
          may = rw k;
          spans = v.spans;
          obeys = rw k v.obeys;
          zeros = v.zeros;
          deep = rw k (omega (arith, v.shallow));
        }

    bundle-from : (G : Forest) → SurveyedNode t source bundle_kind at levels G
        → SurveyedRow t source bundle_kind (at + 1) (end_at t at) (levels - 1) G
    bundle-from G s =
        let d : level bundle_kind (depth G) ≤ levels = rw k at s.deep in
        record { spans = s.spans; obeys = rw k at s.obeys; zeros = s.zeros; shallow = omega (arith, d) }

    bundle-whole : (G : Forest)
        → length (write_elements source (node (item_at t at) G nil)) ≡ 4 + bundle_head + length (write_elements source G)
    bundle-whole G =
        let m : kind_at t at ≡ message_kind → ⊥ = λ q. omega (arith, q, k) in
        omega (
          arith,
          element source (item_at t at) G,
          simp (length-append, length-bundle) at (ap length (bundle-is source (item_at t at) G m)),
        )

    pub bundle-found : SurveysPackets t source at (end_at t at) levels (4 + bundle_head + n)
    bundle-found =
        let v : SurveysPackets t source (at + 1) (end_at t at) (levels - 1) n = rw ee at w in
        exact-around (carries-inside p.zeros p.on bundle-into bundle-from) row-only v (4 + bundle_head) refl
        (λ G s. omega (arith, bundle-whole G)) (λ h G s. bundle-whole G)

-- ---- packets

-- the records from lo to `at` have been passed as elements of n bytes
pub record Ahead (t source : List ℕ) (levels lo hi at n : ℕ) : Type 0 where
  pub join : Forest → Forest
  pub passed : Passed t source bundle_kind levels (write_elements source) lo hi at n join

-- before the first record nothing is passed
pub ahead_none : (t source : List ℕ) (levels lo hi : ℕ) → lo ≤ hi → Ahead t source levels lo hi lo 0
ahead_none t source levels lo hi h = record { join = λ G. G; passed = passed_none h }

module _ {t source : List ℕ} {levels lo hi at n : ℕ} (b : Ahead t source levels lo hi at n) where
  -- a record that is not placed ends the walk
  pub packets-unplaced : at < hi → placed t at hi ≡ false → SurveysPackets t source lo hi levels unsure
  packets-unplaced h e = no_length (omega arith) (λ F w l. not-placed (elements-add source) b.passed h e F w)

  -- where no record is left, the elements are surveyed
  pub packets-all : hi ≤ at → SurveysPackets t source lo hi levels n
  packets-all q = passed-all (elements-add source) b.passed (ap length (elements-none source)) q

  module _ {x : ℕ} (a : SurveysPackets t source at (end_at t at) levels x) where
    -- a sum over the limit ends the walk
    pub packets-long : at < hi → longest_element < n + x → SurveysPackets t source lo hi levels unsure
    packets-long h o = no_length (omega arith) (λ F w l. passed-long (elements-add source) b.passed a h o F w l)

    -- an element is passed with its bytes
    pub ahead_more : Placed t at hi → n + x ≤ longest_element → Ahead t source levels lo hi (end_at t at) (n + x)
    ahead_more p h = record { join = _; passed = passed-more (elements-add source) b.passed a p h }

-- ---- a table

module _ {t source : List ℕ} {count : ℕ} where
  -- of a table that is not well formed the survey is not sure
  pub no-tree : (WellFormed t count source → ⊥) → Surveys t count source unsure
  no-tree n = record { exact = no_length (omega arith) (λ F w h. n (tree_formed w.tree)); most = omega arith }

  -- one element that is the whole table is its tree
  pub tree-surveyed : {n : ℕ} → 1 ≤ count → count ≤ most_records → record_size * count ≤ length t → end_at t 0 ≡ count
      → SurveysPackets t source 0 count deepest n → n ≤ unsure → Surveys t count source n
  tree-surveyed some few fits e w m =
      record {
        exact = record {
          sure = λ h.
              let x = w.sure h in
              let y = only-node t 0 x.forest (omega (arith, e)) (rw e x.right.spans) in
              let i = y.1 in
              record {
                forest = y.0;
                right = record {
                  tree = record {
                    spans = rw i at x.right.spans;
                    obeys = rw i at x.right.obeys;
                    few = few;
                    fits = fits;
                    zeros = λ j l. x.right.zeros j (omega arith) l;
                  };
                  shallow = rw i at x.right.shallow;
                };
                sized = omega (arith, element source (item_at t 0) y.0, ap (λ (G : Forest). length (write_elements source G)) i, x.sized);
              };
          only = λ G v h.
              w.only (node (item_at t 0) G nil)
              (record {
                spans = v.tree.spans;
                obeys = v.tree.obeys;
                zeros = λ j l m. v.tree.zeros j m;
                shallow = v.shallow;
              })
              (omega (arith, element source (item_at t 0) G, h));
        };
        most = m;
      }
