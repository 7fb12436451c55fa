-- The outcomes of the calls, each by the tests that lead to it.
use mathlib.Core.Path.{◌≡◌, refl, sym, ap, ◌∙◌}
use mathlib.Core.Bool.{Bool, true, false, false≢true}
use mathlib.Core.Logic.{⊎_elim}
use mathlib.Core.List.{List}
use Prim.Native.Nat.{ℕ, ◌+◌, ◌-◌, ◌≤◌, ◌<◌}
use native.Mathlib.Omega.{arith}
use lib.Dec.{ltb}
use lib.ListN.{length, length-append}
use borrow.Author.Tests.{le-leb, lt-leb, ltb-true, ltb-false}
use borrow.Rule.Slice.PartMut.{mid_of, put_mid}
use Rattle.refusal.specs.declared.Refusal.{Refusal}
use Rattle.refusal.specs.declared.Refusal.TheVariants.{TooLong, Unreadable, TooDeep, BadTable, OutputShort}
use Rattle.refusal.specs.declared.Fault.TheVariants.{NotUtf8}
use Rattle.wire.specs.Number.{bytes}
use Rattle.wire.specs.Wrote.{Wrote, Filled}
use Rattle.wire.proofs.Choices.{by-test, lt-or-le}
use Rattle.wire.proofs.Numbers.{length-bytes}
use Rattle.wire.proofs.Writers.{filled-lent}
use Rattle.utf8.specs.Utf8.{Octets, Decides}
use Rattle.utf8.proofs.Grammar.{octets, same_answer}
use Rattle.node.specs.Forest.{Forest, nil, node, depth}
use Rattle.node.specs.Records.{kind_at, end_at, item_at, capacity}
use Rattle.table.specs.Formed.{WellFormed}
use Rattle.table.specs.Tree.{Spans, Obeys, IsTree, Row}
use Rattle.table.proofs.Spanned.{spans-size, spans_unique}
use Rattle.table.proofs.Theorem.{formed_tree}
use Rattle.strings.specs.Atomic.{osc_string}
use Rattle.writers.specs.Osc.{write_element, longest_element}
use Rattle.encoder.specs.Outcome.{Outcome, refuse, bytes_outcome, unframed, length_before, framed_by, tree_outcome}
use Rattle.encoder.specs.Outcome.{string_outcome}
use Rattle.edition.specs.declared.Edition.{Edition}
use Rattle.encoder.specs.Outcome.{Encodes, malformed, formed}
use Rattle.writers.specs.CodeWriters.{packet_at, Ready, WritesPacket}
use Rattle.survey.specs.Surveys.{ShallowTree, Surveys}
use Rattle.encoder.specs.CodePrepare.{Unsure, Writable, Prepares}
use Rattle.encoder.specs.AfterNo.{AfterNo}
use Rattle.encoder.specs.AfterNo as after_no
use Rattle.encoder.specs.CodePrepare as prepare
use Rattle.encoder.specs.Results.{Prepared}
use Rattle.std.specs.Prelude.{Err, Ok}
use Rattle.wire.specs.Limits.{longest, longest_framed, deepest}

-- ---- the limit and the output's length

module _ (bs out : List ℕ) where
  -- bytes over the limit are refusal 1
  pub bytes-long : longest < length bs → refuse TooLong out ≡ bytes_outcome bs out
  unfolding bytes_outcome
  bytes-long h = rw (lt-leb (length bs) longest h)

  -- an output that is shorter than the bytes is refusal 12
  pub bytes-short : length bs ≤ longest → length out < length bs → refuse OutputShort out ≡ bytes_outcome bs out
  unfolding bytes_outcome
  bytes-short l h = rw (le-leb (length bs) longest l, lt-leb (length bs) (length out) h)

  -- bytes that stand over the output are written
  pub bytes-written : {o : List ℕ} {n : ℕ} → length bs ≤ longest → Filled bs out o n
      → ◌≡◌ {A = Outcome} (record { answer = Ok n; out = o }) (bytes_outcome bs out)
  unfolding bytes_outcome
  bytes-written l f = rw (le-leb (length bs) longest l, le-leb (length bs) (length out) f.wrote.room, f.count, f.wrote.left)

-- ---- a text

module _ (text out : List ℕ) {b : Bool} (d : Decides b (Octets text)) where
  -- a text that is not UTF-8 is refusal 4
  pub not-text : b ≡ false → refuse (Unreadable NotUtf8) out ≡ string_outcome text out
  unfolding string_outcome
  not-text e = rw (same_answer (octets text) d ∙ e)

  -- any other is written as an OSC-string
  pub text-outcome : b ≡ true → {x : Outcome} → x ≡ bytes_outcome (osc_string text) out → x ≡ string_outcome text out
  unfolding string_outcome
  text-outcome e h = rw (same_answer (octets text) d ∙ e) h

-- ---- a packet whose length is known

module _ {source t : List ℕ} {n : ℕ} (z : Writable source t n) where
  -- an output of at least n bytes has room for the packet
  pub ready : (m : ℕ) → n ≤ m → Ready source t 0 m
  ready m h =
      record {
        room = record {
          forest = z.inside;
          spans = z.spans;
          holds = z.sound;
          fits = omega (arith, z.sized);
          few = omega (arith, z.sized, z.short);
          table = z.table;
        };
        range = z.range;
      }

  -- whatever forest stands in the table, n is the length of its packet
  module _ (F : Forest) (s : Spans t 1 (end_at t 0) F) where
    known : n ≡ length (packet_at source t 0 F)
    known = z.sized ∙ ap (λ (G : Forest). length (packet_at source t 0 G)) (spans_unique t 1 (end_at t 0) z.inside F z.spans s)

    -- an output that is shorter than the packet is refusal 12
    pub packet-short : (out : List ℕ) → length out < n → refuse OutputShort out ≡ bytes_outcome (packet_at source t 0 F) out
    packet-short out h = bytes-short (packet_at source t 0 F) out (omega (arith, known, z.short)) (omega (arith, known))

    -- a packet that stands over the output is written
    pub packet-written : (out : List ℕ) {o : List ℕ} {r : ℕ} → WritesPacket source t 0 out o r
        → ◌≡◌ {A = Outcome} (record { answer = Ok r; out = o }) (bytes_outcome (packet_at source t 0 F) out)
    packet-written out f = bytes-written (packet_at source t 0 F) out (omega (arith, known, z.short)) (f F s)

    -- the same after a length
    element-length : length (write_element (packet_at source t 0 F)) ≡ 4 + length (packet_at source t 0 F)
    element-length = simp (length-append, length-bytes)

    -- with its length before it a packet over the lower limit is refusal 1
    pub element-long : (out : List ℕ) → longest_framed < n → refuse TooLong out ≡ bytes_outcome (write_element (packet_at source t 0 F)) out
    element-long out h = bytes-long (write_element (packet_at source t 0 F)) out (omega (arith, known, element-length))

    -- an output that is shorter than both is refusal 12
    pub element-short : (out : List ℕ) → n ≤ longest_framed → length out < 4 + n
        → refuse OutputShort out ≡ bytes_outcome (write_element (packet_at source t 0 F)) out
    element-short out l h =
        bytes-short (write_element (packet_at source t 0 F)) out (omega (arith, known, element-length)) (omega (arith, known, element-length))

    -- length and packet over the output are written
    pub element-written : (out : List ℕ) {o p : List ℕ} {r : ℕ} → n ≤ longest_framed → Wrote (bytes 4 n) out o
        → WritesPacket source t 0 (mid_of 4 (length o - 4) o) p r
        → ◌≡◌ {A = Outcome} (record { answer = Ok (4 + r); out = put_mid 4 (length o - 4) o p })
        (bytes_outcome (write_element (packet_at source t 0 F)) out)
    element-written out {o} {p} {r} l w f =
        let size : Filled (bytes 4 n) out o 4 = record { count = sym (length-bytes 4 n); wrote = w } in
        bytes-written (write_element (packet_at source t 0 F)) out (omega (arith, known, element-length))
        (rw (← known) (filled-lent size (f F s)))

-- ---- before a byte is written

module _ {t : List ℕ} {count : ℕ} {source : List ℕ} {n : ℕ} (w : Surveys t count source n) where
  -- where the survey is not sure, no packet of the table is short enough
  pub survey-no : longest_element < n → Unsure t count source
  survey-no h inside x =
      ⊎_elim (λ l. l) (λ l. absurd (omega (arith, w.exact.only inside x (omega arith))))
      (lt-or-le longest (length (packet_at source t 0 inside)))

  -- where it is sure, its length counts the four bytes of a size
  pub survey-some : n ≤ longest_element → 4 ≤ n
  survey-some h = omega (arith, (w.exact.sure h).sized)

  -- so the table is ready, and the length without them is the packet's
  pub survey-ready : n ≤ longest_element → Prepares t count source (Ok (n - 4))
  unfolding Spans Obeys
  survey-ready h =
      let x = w.exact.sure h in
      let tree = x.right.tree in
      prepare.ready x.forest x.right (n - 4) refl
      (record {
        inside = x.forest;
        spans = tree.spans.1;
        sound = record { container = kind_at t 0; obeys = tree.obeys.3 };
        range = tree.obeys.1;
        table = omega (arith, tree.fits, tree.spans.2);
        sized = omega (arith, x.sized);
        short = omega arith;
      })

module _ (t : List ℕ) (count : ℕ) (source : List ℕ) {b : Bool} (d : Decides b (WellFormed t count source)) where
  -- a table that is not well formed is refusal 11
  pub bad-table : b ≡ false → AfterNo t count source BadTable
  bad-table e = after_no.malformed (λ w. false≢true (sym e ∙ d.complete w)) refl

  module _ (e : b ≡ true) where
    well : WellFormed t count source
    well = d.sound e

    -- the tree of the table
    abbrev inside : Forest
    inside = (formed_tree t count source well).0

    tree : IsTree t count source (item_at t 0) inside
    tree = (formed_tree t count source well).1

    abbrev root : Forest
    root = node (item_at t 0) inside nil

    -- a well-formed table is one row
    pub rooted : Row t 0 count
    rooted = record { forest = root; spans = tree.spans; table = well.fits }

    module _ {x : Bool} (q : (F : Forest) → Spans t 0 count F → x ≡ ltb deepest (depth F)) where
      -- a tree that is too deep is refusal 9
      pub too-deep : x ≡ true → AfterNo t count source TooDeep
      too-deep y = after_no.deep inside tree (ltb-true deepest (depth root) (sym (q root tree.spans) ∙ y)) refl

      -- any other, where the survey is not sure, is refusal 1
      pub too_long : x ≡ false → Unsure t count source → AfterNo t count source TooLong
      too_long y n =
          let s : ShallowTree t count source inside
          = record { tree = tree; shallow = ltb-false deepest (depth root) (sym (q root tree.spans) ∙ y) } in
          after_no.long inside s (n inside s) refl

-- ---- the calls

-- a frame takes nothing from a packet
abbrev pub Keeps : (ℕ → List ℕ → List ℕ) → Type 0
Keeps frame = (kind : ℕ) (bs : List ℕ) → length bs ≤ length (frame kind bs)

-- that of `encode` does not
pub unframed-keeps : Keeps unframed
unframed-keeps kind bs = omega arith

-- nor does that of `encode_tcp`, in either edition
pub framed-keeps : (edition : Edition) → Keeps (framed_by edition)
framed-keeps edition kind bs =
    by-test (λ (xs : List ℕ). length bs ≤ length xs) (length_before edition kind) (λ _. simp length-append (omega arith)) (λ _. omega arith)

module _ (frame : ℕ → List ℕ → List ℕ) (k : Keeps frame) (t : List ℕ) (count : ℕ) (source out : List ℕ) where
  -- a packet over the limit is refusal 1, whatever stands before it
  pub outcome-long : (inside : Forest) → ShallowTree t count source inside → longest < length (packet_at source t 0 inside)
      → refuse TooLong out ≡ tree_outcome frame source out (item_at t 0) inside
  unfolding tree_outcome
  outcome-long inside w h =
      let bs = packet_at source t 0 inside in
      rw (le-leb (depth (node (item_at t 0) inside nil)) deepest w.shallow)
      (bytes-long (frame (kind_at t 0) bs) out (omega (arith, k (kind_at t 0) bs)))

  -- a tree that is too deep is refusal 9
  pub outcome-deep : (inside : Forest) → deepest < depth (node (item_at t 0) inside nil)
      → refuse TooDeep out ≡ tree_outcome frame source out (item_at t 0) inside
  unfolding tree_outcome
  outcome-deep inside h = rw (lt-leb (depth (node (item_at t 0) inside nil)) deepest h)

  -- what is refused before a byte is written is refused
  pub refused : {r : Prepared} {x : Refusal} → Prepares t count source r → r ≡ Err x → Encodes frame t count source out (refuse x out)
  refused {r} {x} (prepare.no y (after_no.malformed n e) q) p = let z : x ≡ BadTable = cc in malformed n (rw z)
  refused {r} {x} (prepare.no y (after_no.deep inside tree h e) q) p =
      let z : x ≡ TooDeep = cc in formed (item_at t 0) inside tree (rw z (outcome-deep inside h))
  refused {r} {x} (prepare.no y (after_no.long inside w h e) q) p =
      let z : x ≡ TooLong = cc in formed (item_at t 0) inside w.tree (rw z (outcome-long inside w h))
  refused {r} {x} (prepare.ready inside w n e z) p = let y : ◌≡◌ {A = ℕ} 0 1 = cc in absurd (omega arith)

-- a packet that is to be written
pub record Planned (t : List ℕ) (count : ℕ) (source : List ℕ) (n : ℕ) : Type 0 where
  pub inside : Forest
  pub fine : ShallowTree t count source inside
  pub sized : Writable source t n

-- where a length is known, the packet is to be written
pub planned : (t : List ℕ) (count : ℕ) (source : List ℕ) {r : Prepared} {n : ℕ} → Prepares t count source r → r ≡ Ok n
    → Planned t count source n
planned t count source {r} {n} (prepare.no x a e) q = let y : ◌≡◌ {A = ℕ} 0 1 = cc in absurd (omega arith)
planned t count source {r} {n} (prepare.ready inside w m e z) q =
    let y : m ≡ n = cc in record { inside = inside; fine = w; sized = rw y at z }

module _ {t : List ℕ} {count : ℕ} {source : List ℕ} {n : ℕ} (out : List ℕ) (w : Planned t count source n) where
  inside-spans : Spans t 1 (end_at t 0) w.inside
  unfolding Spans
  inside-spans = w.fine.tree.spans.1

  framed : (frame : ℕ → List ℕ → List ℕ) {x : Outcome} → x ≡ bytes_outcome (frame (kind_at t 0) (packet_at source t 0 w.inside)) out
      → Encodes frame t count source out x
  unfolding tree_outcome
  framed frame e = formed (item_at t 0) w.inside w.fine.tree (rw (le-leb _ deepest w.fine.shallow) e)

  -- `encode` writes the packet as it is
  pub encoded-unframed : {x : Outcome} → ((F : Forest) → Spans t 1 (end_at t 0) F → x ≡ bytes_outcome (packet_at source t 0 F) out)
      → Encodes unframed t count source out x
  encoded-unframed f = framed unframed (f w.inside inside-spans)

  -- the root's record is in the table
  pub root-read : 0 < capacity t
  root-read = omega (arith, w.sized.table, spans-size t 1 (end_at t 0) w.sized.inside w.sized.spans)

  module _ (edition : Edition) {kind : ℕ} (e : kind ≡ kind_at t 0) {x : Outcome} {before : Bool}
      (b : before ≡ length_before edition kind) where
    -- `encode_tcp` writes a length where one stands before the packet
    pub encoded-framed : before ≡ true
        → ((F : Forest) → Spans t 1 (end_at t 0) F → x ≡ bytes_outcome (write_element (packet_at source t 0 F)) out)
        → Encodes (framed_by edition) t count source out x
    encoded-framed y f =
        let is : length_before edition (kind_at t 0) ≡ true = ap (length_before edition) (sym e) ∙ sym b ∙ y in
        framed (framed_by edition) (rw is (f w.inside inside-spans))

    -- and none elsewhere
    pub encoded-bare : before ≡ false
        → ((F : Forest) → Spans t 1 (end_at t 0) F → x ≡ bytes_outcome (packet_at source t 0 F) out)
        → Encodes (framed_by edition) t count source out x
    encoded-bare y f =
        let is : length_before edition (kind_at t 0) ≡ false = ap (length_before edition) (sym e) ∙ sym b ∙ y in
        framed (framed_by edition) (rw is (f w.inside inside-spans))
