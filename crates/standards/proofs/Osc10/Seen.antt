-- What a caller sees of a packet that was decoded: `look` at each record, and `text_of`, give the value that OSC 1.0 says.
use mathlib.Core.Path.{◌≡◌, refl, sym, ap, subst, ◌∙◌}
use mathlib.Core.Bool.{Bool, true, false, cond}
use mathlib.Core.List.{List, [], ◌∷◌, ◌++◌}
use Prim.Native.Nat.{ℕ, ◌+◌, ◌/◌, ◌%◌, ◌^◌, ◌≤◌, ◌<◌}
use native.Mathlib.Omega.{arith}
use borrow.Author.Tests.{le-leb}
use lib.ListN.{length, length-append}
use Rattle.wire.specs.Number.{bytes}
use Rattle.wire.specs.Limits.{longest, deepest}
use Rattle.node.specs.Tags.{sort_of}
use Rattle.node.specs.Forest.{Forest, nil, node, size}
use Rattle.node.specs.Rules.{is_packet, leaf_rules, own_rules}
use Rattle.node.specs.Records.{zeros_at, end_at, item_at, capacity}
use Rattle.node.specs.declared.record.Item.{Item}
use Rattle.node.specs.declared.tags.Sort.TheVariants.{Leaf}
use Rattle.table.specs.Tree.{Spans}
use Rattle.values.specs.Value.{bare_of, narrow_of, value_by, value_of}
use Rattle.values.specs.Look.{part_or}
use Rattle.framing.specs.Framing.{rule_of}
use Rattle.answering.specs.Limits.{forest_of}
use Rattle.edition.specs.declared.Framing.{Framing}
use Rattle.edition.specs.declared.Edition.TheVariants.{Rosc}
use Rattle.edition.specs.declared.Framing.TheVariants.{Udp, Tcp}
use Rattle.results.specs.Results.{Packets}
use Rattle.calls.specs.Demands.{table_after, answer_to}
use Rattle.osc10.specs.Osc10.{Atom, word, long, bare, string, blob, char, OscArguments, end, atom, array, Packet, message, bundle, none}
use Rattle.osc10.specs.Osc10.{also, words, longs, bares, AtomAllowed, ArgumentsAllowed, Allowed, AllAllowed, RangeHolds, AtomIs, ArrayIs}
use Rattle.osc10.specs.Osc10.{ArgumentsAre, no_node, leaf, branch, StandsFor, is_message, is_bundle, StandFor, no_packet}
use Rattle.osc10.specs.Osc10 as osc
use Rattle.standards.specs.Seen.{Entry, argument, argument_entries, entries_of, element_entries, Seen, LooksAs, LookAs}
use Rattle.standards.specs.Seen as seen
use Rattle.standards.specs.Standards.{AcceptedAs, SeenAs, Osc10Seen, FrameSeen}
use Rattle.values.proofs.Looks.{is-value}
use Rattle.table.proofs.Spanned.{spans-size}
use Rattle.decoder.proofs.Sizes.{WholeIn, whole_in}
use Rattle.calls.proofs.Answered.{after-fits, after-held}
use Rattle.osc10.proofs.Tags.{of-among, class_is, atom-sort}
use Rattle.given.proofs.Starts.Forests.{Begun}
use Rattle.given.proofs.Starts.Tables.{forest-begun}
use Rattle.standards.proofs.Osc10.Trees.{packet-fits}
use Rattle.standards.proofs.Osc10.Accepted.{osc10_accepted, frame_accepted}

-- ---- a record of an argument keeps its own rules

either : (t : Bool) {x : Bool} → x ≡ true → cond t true x ≡ true
either true e = refl
either false e = e

leaf-rules : {s : List ℕ} (v : Atom) {item : Item} → AtomAllowed v → AtomIs s v item → leaf_rules (class_is v) item ≡ true
leaf-rules (word tag x) h w = rw w.numbers.1
leaf-rules (long tag high low) h w = refl
leaf-rules (bare tag) h w = rw (w.numbers.0, w.numbers.1)
leaf-rules (string text) h w = refl
leaf-rules (blob content) h w = refl
leaf-rules (char x) h w = rw (w.numbers.0, w.numbers.1) h

atom-rules : {s : List ℕ} (v : Atom) {item : Item} → AtomAllowed v → AtomIs s v item → own_rules item ≡ true
unfolding own_rules
atom-rules v {item} h w =
    let e : sort_of item.kind ≡ Leaf (class_is v) = ap sort_of w.kind ∙ atom-sort v h in
    either (is_packet item.kind) (rw e (leaf-rules v h w))

array-rules : {item : Item} → ArrayIs item → own_rules item ≡ true
unfolding own_rules sort_of
array-rules w = rw (w.kind, w.first, w.second)

packet-rules : (item : Item) → is_packet item.kind ≡ true → own_rules item ≡ true
unfolding own_rules
packet-rules item e = rw e

-- ---- its value

-- the four bytes in order
four_bytes : (x : ℕ) → x < 256 ^ 4 → bytes 4 x ≡ x / 0x100_0000 ∷ x / 0x1_0000 % 256 ∷ x / 256 % 256 ∷ x % 256 ∷ []
unfolding bytes
four_bytes x h =
    let e : x / 256 / 256 / 256 % 256 ≡ x / 0x100_0000 = omega arith in
    let f : x / 256 / 256 % 256 ≡ x / 0x1_0000 % 256 = omega arith in
    rw (e, f)

module _ (l : List ℕ) where
  -- a range that holds a text is handed back as that text
  handed : {a b : ℕ} {text : List ℕ} → RangeHolds l a b text → (label : List ℕ) → part_or l label a b ≡ text
  handed {a} {b} r label = rw (le-leb (a + b) (length l) r.lies) r.holds

  atom-seen : (v : Atom) {item : Item} → AtomAllowed v → AtomIs l v item → Seen l (argument v) (value_of item)
  unfolding value_by narrow_of bare_of
  atom-seen (word tag x) h w =
      rw (w.kind, w.numbers.0, w.numbers.1)
      (of-among (λ k. Seen l (argument (word k x)) (value_by k x 0)) tag words
      (seen.as_i, (seen.as_f, (seen.as_r (four_bytes x h.1), (seen.as_m (four_bytes x h.1), tt)))) h.0)
  atom-seen (long tag high low) h w =
      rw (w.kind, w.numbers.0, w.numbers.1)
      (of-among (λ k. Seen l (argument (long k high low)) (value_by k high low)) tag longs (seen.as_h, (seen.as_t, (seen.as_d, tt))) h.0)
  atom-seen (bare tag) h w =
      rw (w.kind, w.numbers.0, w.numbers.1)
      (of-among (λ k. Seen l (argument (bare k)) (value_by k 0 0)) tag bares (seen.as_T, (seen.as_F, (seen.as_N, (seen.as_I, tt)))) h)
  atom-seen (string text) h w = rw w.kind (seen.as_s (handed w.numbers))
  atom-seen (blob content) h w = rw w.kind (seen.as_b (handed w.numbers))
  atom-seen (char x) h w = rw (w.kind, w.numbers.0) seen.as_c

  array_seen : {item : Item} → ArrayIs item → Seen l seen.brackets (value_of item)
  unfolding value_by narrow_of bare_of
  array_seen w = rw w.kind seen.as_array

  address_seen : {text : List ℕ} {item : Item} → osc.MessageIs l text item → Seen l (seen.address text) (value_of item)
  unfolding value_by
  address_seen w = rw w.kind (seen.as_address (handed w.range))

  time-seen : {x y : ℕ} {item : Item} → osc.BundleIs x y item → Seen l (seen.time x y) (value_of item)
  unfolding value_by
  time-seen w = rw (w.kind, w.first, w.second) seen.as_time

-- ---- as many entries as nodes

arguments-size : {s : List ℕ} {A : OscArguments} {F : Forest} → ArgumentsAre s A F → length (argument_entries A) ≡ size F
unfolding argument_entries size
arguments-size no_node = refl
arguments-size (leaf x r) = omega (arith, arguments-size r)
arguments-size (branch {within = within} {rest = rest} w x r) =
    omega (arith, length-append (argument_entries within) (argument_entries rest), arguments-size x, arguments-size r)

mutual
  unfolding entries_of element_entries size

  packet-size : {s : List ℕ} {P : Packet} {item : Item} {f : Forest} → StandsFor s P item f → length (entries_of P) ≡ 1 + size f
  packet-size (is_message m x) = omega (arith, arguments-size x)
  packet-size (is_bundle b x) = omega (arith, elements-size x)

  elements-size : {s : List ℕ} {Ps : osc.Packets} {F : Forest} → StandFor s Ps F → length (element_entries Ps) ≡ size F
  elements-size no_packet = refl
  elements-size (osc.packet {first = P} {rest = Ps} x r) =
      omega (arith, length-append (entries_of P) (element_entries Ps), packet-size x, elements-size r)

-- ---- the records of a table

-- entries before others
looks-append : (l t : List ℕ) (i : ℕ) (xs ys : List Entry) → LookAs l t i xs → LookAs l t (i + length xs) ys → LookAs l t i (xs ++ ys)
unfolding LookAs
looks-append l t i [] ys a b = let e : i + 0 ≡ i = omega arith in rw e at b
looks-append l t i (x ∷ xs) ys a b =
    let e : i + length (x ∷ xs) ≡ i + 1 + length xs = omega arith in
    (a.0, looks-append l t (i + 1) xs ys a.1 (rw e at b))

module _ (l t : List ℕ) (count : ℕ) (room : count ≤ capacity t) (zeros : (i : ℕ) → i < count → zeros_at t i ≡ 0) where
  -- one record
  looks : (i : ℕ) → i < count → {item : Item} {entry : Entry} → item_at t i ≡ item → own_rules item ≡ true → Seen l entry (value_of item)
      → LooksAs l t i entry
  looks i h {item} e o s =
      record { value = value_of item; looked = sym (is-value t i refl (omega arith) (zeros i h) (sym e) o); seen = s }

  look-arguments : (lo hi : ℕ) (A : OscArguments) {F : Forest} → ArgumentsAllowed A → ArgumentsAre l A F → Spans t lo hi F → hi ≤ count
      → LookAs l t lo (argument_entries A)
  unfolding ArgumentsAllowed Spans LookAs argument_entries size
  look-arguments lo hi end h no_node s n = tt
  look-arguments lo hi (atom v rest) h (leaf {item = item} {g = g} x r) s n =
      let m = spans-size t lo hi (node item nil g) s in (
        looks lo (omega arith) s.0 (atom-rules v h.0 x) (atom-seen l v h.0 x),
        look-arguments (lo + 1) hi rest h.1 r (rw s.1 s.2) n,
      )
  look-arguments lo hi (array within rest) h (branch {f = f} {g = g} w x r) s n =
      let m = spans-size t (lo + 1) (end_at t lo) f s.1 in
      let k = spans-size t (end_at t lo) hi g s.2 in
      let e : lo + 1 + length (argument_entries within) ≡ end_at t lo = omega (arith, arguments-size x) in (
        looks lo (omega arith) s.0 (array-rules w) (array_seen l w),
        looks-append l t (lo + 1) (argument_entries within) (argument_entries rest)
            (look-arguments (lo + 1) (end_at t lo) within h.0 x s.1 (omega arith))
            (rw e (look-arguments (end_at t lo) hi rest h.1 r s.2 n)),
      )

  mutual
    unfolding Allowed AllAllowed Spans LookAs entries_of element_entries

    look-packet : (lo hi : ℕ) (P : Packet) {item : Item} {f : Forest} → Allowed P → StandsFor l P item f → item_at t lo ≡ item
        → Spans t (lo + 1) hi f → hi ≤ count → LookAs l t lo (entries_of P)
    look-packet lo hi (message text A) {item} {f} h (is_message m x) e s n =
        let k = spans-size t (lo + 1) hi f s in
        (looks lo (omega arith) e (packet-rules item (rw m.kind)) (address_seen l m), look-arguments (lo + 1) hi A h.2 x s n)
    look-packet lo hi (bundle a b Ps) {item} {f} h (is_bundle w x) e s n =
        let k = spans-size t (lo + 1) hi f s in
        (looks lo (omega arith) e (packet-rules item (rw w.kind)) (time-seen l w), look-elements (lo + 1) hi Ps h.2 x s n)

    look-elements : (lo hi : ℕ) (Ps : osc.Packets) {F : Forest} → AllAllowed Ps → StandFor l Ps F → Spans t lo hi F → hi ≤ count
        → LookAs l t lo (element_entries Ps)
    look-elements lo hi none h no_packet s n = tt
    look-elements lo hi (also P Ps) h (osc.packet {f = f} {g = g} x r) s n =
        let m = spans-size t (lo + 1) (end_at t lo) f s.1 in
        let k = spans-size t (end_at t lo) hi g s.2 in
        let e : lo + length (entries_of P) ≡ end_at t lo = omega (arith, packet-size x) in
        looks-append l t lo (entries_of P) (element_entries Ps) (look-packet lo (end_at t lo) P h.0 x s.0 s.1 (omega arith))
        (rw e (look-elements (end_at t lo) hi Ps h.1 r s.2 n))

-- ---- what was accepted is seen

module _ (framing : Framing) (P : Packet) (l : List ℕ) (h : Allowed P) (low : length l ≤ longest) where
  -- a packet that is accepted as what it is is seen as what it is
  pub seen_as : AcceptedAs (rule_of framing deepest) P l → SeenAs (rule_of framing deepest) P l
  unfolding size Spans
  seen_as A table room =
      let rule = rule_of framing deepest in
      let F = node A.item A.inside nil in
      let count = length (entries_of P) in
      let c : size F ≡ count = omega (arith, packet-size A.stands) in
      let q : answer_to rule deepest l table ≡ Packets count 0 0 = rw c at (A.decodes (capacity table) (omega arith)) in
      let few : size F + 0 ≤ length l = subst (WholeIn (length l)) A.read (whole_in framing deepest l) in
      let t = table_after rule deepest l table in
      let b : Begun l 0 F (length l)
      = subst (λ (x : Forest). Begun l 0 x (length l)) (ap forest_of A.read) (forest-begun l framing deepest) in
      let f = packet-fits (omega arith) P h A.stands b (omega arith) in
      let w = after-held rule deepest l table q F (ap forest_of A.read) f (omega arith) in
      let s = w.spans in
      let fits = after-fits rule deepest l table q in
      record {
        answer = q;
        looks = look-packet l t count (omega arith) (λ i g. w.zeros i (omega arith) g) 0 count P h A.stands s.0
            (rw s.2 at s.1) (omega arith);
      }

-- each record of a packet that was decoded by `decode_udp` is seen as what it is
pub osc10_seen : Osc10Seen
osc10_seen P l h w n d = seen_as Udp P l h n (osc10_accepted P l h w n d)

-- and in a frame by `decode_tcp`
pub frame_seen : FrameSeen
frame_seen P l h w n d = seen_as (Tcp Rosc) P _ h n (frame_accepted P l h w n d)
