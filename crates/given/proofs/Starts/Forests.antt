-- Forests whose starts do not fall in preorder, arguments whose data stands end to end, packets of both, and what that says of the records
-- of a table.
use mathlib.Core.Path.{◌≡◌, refl, sym, ap, subst, ◌∙◌}
use mathlib.Core.Bool.{true, false, cond, true≢false}
use mathlib.Core.Logic.{⊎_elim}
use mathlib.Core.List.{List}
use Prim.Native.Nat.{ℕ, ◌+◌, ◌-◌, ◌≤◌, ◌<◌}
use native.Mathlib.Nat.{eq-or-lt_of_le}
use native.Mathlib.Omega.{arith}
use borrow.Author.Tests.{eq-eqb, ne_eqb}
use lib.Dec.{eqb}
use Rattle.wire.proofs.Choices.{lt-or-le}
use Rattle.node.specs.Forest.{Forest, nil, node, snoc}
use Rattle.node.specs.Tags.{message_kind, bundle_kind}
use Rattle.node.specs.Rules.{is_packet}
use Rattle.node.specs.Records.{kind_at, start_at, end_at, item_at}
use Rattle.node.specs.declared.record.Item.{Item}
use Rattle.table.specs.Tree.{Spans}
use Rattle.table.proofs.Spanned.{spans-size}
use Rattle.osc10.specs.Words.{Bytes}
use Rattle.arguments.specs.Arguments.{Balanced}
use Rattle.given.specs.Starts.{OwnStart, data_end, tags_at, data_at, PacketAt, first_packet, next_packet}

-- an item begins at its own data, in an input of bytes
abbrev pub Own : List ℕ → Item → Type 0
Own msg item = Bytes msg → OwnStart msg item

-- ---- starts that do not fall

-- the starts of a forest are their items' own, and in preorder they rise from `low` to `high`, or stay
pub data Begun (msg : List ℕ) : ℕ → Forest → ℕ → Type 0 where
  none : {low high : ℕ} → low ≤ high → Begun msg low nil high
  also : {low mid high : ℕ} {item : Item} {inside rest : Forest} → low ≤ item.start → Own msg item
      → Begun msg item.start inside mid → Begun msg mid rest high
      → Begun msg low (node item inside rest) high

module _ {msg : List ℕ} where
  -- so `low` is not over `high`
  pub begun-le : {low high : ℕ} {F : Forest} → Begun msg low F high → low ≤ high
  begun-le (none h) = h
  begun-le (also h b i r) = omega (arith, begun-le i, begun-le r)

  -- a lower `low` will do
  pub begun-from : {low low' high : ℕ} {F : Forest} → low' ≤ low → Begun msg low F high → Begun msg low' F high
  begun-from {low} {low'} {high} h (none k) = let q : low' ≤ high = omega arith in none q
  begun-from {low} {low'} {high} h (also {item = item} k b i r) = let q : low' ≤ item.start = omega arith in also q b i r

-- ---- arguments, whose data stands end to end

-- the data of a forest of arguments stands end to end from `from` to `to`
pub data Laid (msg : List ℕ) : ℕ → Forest → ℕ → Type 0 where
  done : {from : ℕ} → Laid msg from nil from
  next : {from mid to : ℕ} {item : Item} {inside rest : Forest} → is_packet item.kind ≡ false → item.start ≡ from → Own msg item
      → Laid msg (data_end item) inside mid → Laid msg mid rest to
      → Laid msg from (node item inside rest) to

module _ {msg : List ℕ} where
  pub laid-le : {from to : ℕ} {F : Forest} → Laid msg from F to → from ≤ to
  laid-le done = omega arith
  laid-le (next n e b i r) = omega (arith, laid-le i, laid-le r)

  -- one argument more at the end
  pub laid-snoc : {from mid to : ℕ} {F : Forest} {item : Item} {f : Forest} → Laid msg from F mid → is_packet item.kind ≡ false
      → item.start ≡ mid → Own msg item → Laid msg (data_end item) f to
      → Laid msg from (snoc F item f) to
  unfolding snoc
  laid-snoc done n e b w = next n e b w done
  laid-snoc (next m q c i r) n e b w = next m q c i (laid-snoc r n e b w)

  -- their starts do not fall
  pub laid-begun : {from to : ℕ} {F : Forest} → Laid msg from F to → Begun msg from F to
  laid-begun {from} done = let q : from ≤ from = omega arith in none q
  laid-begun {from} (next {item = item} n e b i r) =
      let q : from ≤ item.start = omega arith in
      let k : item.start ≤ data_end item = omega arith in
      also q b (begun-from k (laid-begun i)) (laid-begun r)

-- ---- packets

-- packets of a frame at `base` that stand one after another between `low` and `high`, and what they contain; the arguments of a message
-- whose tags close every array begin where its data does
pub data Packed (msg : List ℕ) (base : ℕ) : ℕ → Forest → ℕ → Type 0 where
  none : {low high : ℕ} → low ≤ high → Packed msg base low nil high
  message : {low from mid high : ℕ} {item : Item} {inside rest : Forest} → item.kind ≡ message_kind → low ≤ item.start
      → Own msg item → item.start ≤ from → Laid msg from inside mid
      → (Balanced (tags_at base msg item) → Laid msg (data_at base msg item) inside mid) → Packed msg base mid rest high
      → Packed msg base low (node item inside rest) high
  bundle : {low mid high : ℕ} {item : Item} {inside rest : Forest} → item.kind ≡ bundle_kind → low ≤ item.start
      → Own msg item → Packed msg base item.start inside mid → Packed msg base mid rest high
      → Packed msg base low (node item inside rest) high

module _ {msg : List ℕ} {base : ℕ} where
  -- a lower `low` will do
  pub packed-from : {low low' high : ℕ} {F : Forest} → low' ≤ low → Packed msg base low F high → Packed msg base low' F high
  packed-from {low} {low'} {high} h (none k) = let q : low' ≤ high = omega arith in none q
  packed-from {low} {low'} {high} h (message {item = item} e k b j i c r) =
      let q : low' ≤ item.start = omega arith in message e q b j i c r
  packed-from {low} {low'} {high} h (bundle {item = item} e k b i r) = let q : low' ≤ item.start = omega arith in bundle e q b i r

  -- a higher `high` will do
  pub packed-to : {low high high' : ℕ} {F : Forest} → high ≤ high' → Packed msg base low F high → Packed msg base low F high'
  packed-to {low} {high} {high'} h (none k) = let q : low ≤ high' = omega arith in none q
  packed-to h (message e k b j i c r) = message e k b j i c (packed-to h r)
  packed-to h (bundle e k b i r) = bundle e k b i (packed-to h r)

  -- packets after a first one
  pub packed_join : {low mid high : ℕ} {item : Item} {inside rest : Forest} → Packed msg base low (node item inside nil) mid
      → Packed msg base mid rest high
      → Packed msg base low (node item inside rest) high
  packed_join (message e k b j i c (none h)) r = message e k b j i c (packed-from h r)
  packed_join (bundle e k b i (none h)) r = bundle e k b i (packed-from h r)

  -- their starts do not fall
  pub packed-begun : {low high : ℕ} {F : Forest} → Packed msg base low F high → Begun msg low F high
  packed-begun (none h) = none h
  packed-begun (message e k b j i c r) = also k b (begun-from j (laid-begun i)) (packed-begun r)
  packed-begun (bundle e k b i r) = also k b (packed-begun i) (packed-begun r)

-- ---- the packets of a call

-- packets one after another, each of a frame of its own, whose prefix stands 4 bytes before it
pub data Rooted (msg : List ℕ) : ℕ → Forest → ℕ → Type 0 where
  none : {low high : ℕ} → low ≤ high → Rooted msg low nil high
  also : {low mid high : ℕ} {item : Item} {inside rest : Forest} → Packed msg (item.start - 4) low (node item inside nil) mid
      → Rooted msg mid rest high
      → Rooted msg low (node item inside rest) high

module _ {msg : List ℕ} where
  -- a lower `low` will do
  pub rooted-from : {low low' high : ℕ} {F : Forest} → low' ≤ low → Rooted msg low F high → Rooted msg low' F high
  rooted-from {low} {low'} {high} h (none k) = let q : low' ≤ high = omega arith in none q
  rooted-from h (also w r) = also (packed-from h w) r

  -- a higher `high` will do
  pub rooted-to : {low high high' : ℕ} {F : Forest} → high ≤ high' → Rooted msg low F high → Rooted msg low F high'
  rooted-to {low} {high} {high'} h (none k) = let q : low ≤ high' = omega arith in none q
  rooted-to h (also w r) = also w (rooted-to h r)

  begun-join : {low mid high : ℕ} {item : Item} {inside rest : Forest} → Begun msg low (node item inside nil) mid → Begun msg mid rest high
      → Begun msg low (node item inside rest) high
  begun-join (also h b i (none k)) r = also h b i (begun-from k r)

  -- their starts do not fall
  pub rooted-begun : {low high : ℕ} {F : Forest} → Rooted msg low F high → Begun msg low F high
  rooted-begun (none h) = none h
  rooted-begun (also w r) = begun-join (packed-begun w) (rooted-begun r)

-- ---- the records of a table that holds such a forest

-- record i begins between `low` and `high`, and at its item's own data
pub record BegunAt (msg t : List ℕ) (low high i : ℕ) : Type 0 where
  pub above : low ≤ start_at t i
  pub under : start_at t i ≤ high
  pub begins : Own msg (item_at t i)

module _ (msg t : List ℕ) where
  -- every record of the forest does
  pub each-begun : (lo hi : ℕ) {low high : ℕ} {F : Forest} → Spans t lo hi F → Begun msg low F high → (i : ℕ) → lo ≤ i → i < hi
      → BegunAt msg t low high i
  unfolding Spans
  each-begun lo hi s (none h) i l k = absurd (omega (arith, s))
  each-begun lo hi {low} {high} s (also h b x r) i l k =
      let p : start_at t lo ≡ _ = ap (λ (item : Item). item.start) s.0 in
      let m = begun-le x in
      let n = begun-le r in
      let here : BegunAt msg t low high lo = record { above = omega arith; under = omega arith; begins = rw s.0 b } in
      ⊎_elim
      (λ d. rw (← d) here)
      (λ g. ⊎_elim
      (λ d. let w = each-begun (lo + 1) (end_at t lo) s.1 x i (omega arith) d in
      record { above = omega (arith, w.above); under = omega (arith, w.under); begins = w.begins })
      (λ d. let w = each-begun (end_at t lo) hi s.2 r i d k in
      record { above = omega (arith, w.above); under = w.under; begins = w.begins })
      (lt-or-le i (end_at t lo)))
      (eq-or-lt_of_le l)

  -- and none begins before an earlier one
  pub begun-rise : (lo hi : ℕ) {low high : ℕ} {F : Forest} → Spans t lo hi F → Begun msg low F high → (i j : ℕ) → lo ≤ i → i ≤ j → j < hi
      → start_at t i ≤ start_at t j
  unfolding Spans
  begun-rise lo hi s (none h) i j l k m = absurd (omega (arith, s))
  begun-rise lo hi {low} {high} s (also {mid = mid} {item = item} h b x r) i j l k m =
      let p : start_at t lo ≡ _ = ap (λ (item : Item). item.start) s.0 in
      let n = begun-le x in
      let inner : (q : ℕ) → lo + 1 ≤ q → q < end_at t lo → BegunAt msg t item.start mid q
      = λ q c d. each-begun (lo + 1) (end_at t lo) s.1 x q c d in
      let outer : (q : ℕ) → end_at t lo ≤ q → q < hi → BegunAt msg t mid high q = λ q c d. each-begun (end_at t lo) hi s.2 r q c d in
      let first : lo < j → start_at t lo ≤ start_at t j = λ c.
      ⊎_elim (λ d. omega (arith, (inner j (omega arith) d).above)) (λ d. omega (arith, (outer j d m).above)) (lt-or-le j (end_at t lo)) in
      ⊎_elim
      (λ d. ⊎_elim (λ e. omega (arith, ap (start_at t) d, ap (start_at t) e)) (λ e. rw (← d) (first (omega arith))) (eq-or-lt_of_le k))
      (λ g. ⊎_elim
      (λ d. ⊎_elim
      (λ e. begun-rise (lo + 1) (end_at t lo) s.1 x i j (omega arith) k e)
      (λ e. omega (arith, (inner i (omega arith) d).under, (outer j e m).above))
      (lt-or-le j (end_at t lo)))
      (λ d. begun-rise (end_at t lo) hi s.2 r i j d k m)
      (lt-or-le i (end_at t lo)))
      (eq-or-lt_of_le l)

  -- where the data before each record ends is where it begins, for any `at` that says so of the first and of each next one
  laid-at : (at : ℕ → ℕ) (lo hi : ℕ) {from to : ℕ} {F : Forest} → Spans t lo hi F → Laid msg from F to → at lo ≡ from
      → ((i : ℕ) → lo ≤ i → i < hi → at (i + 1) ≡ data_end (item_at t i))
      → ((i : ℕ) → lo ≤ i → i < hi → start_at t i ≡ at i) × (at hi ≡ to)
  unfolding Spans
  laid-at at lo hi s done e h = (λ i l k. absurd (omega (arith, s)), ap at (sym s) ∙ e)
  laid-at at lo hi {F = node item inside rest} s (next n q b x r) e h =
      let p : start_at t lo ≡ item.start = ap (λ (item : Item). item.start) s.0 in
      let z = spans-size t (lo + 1) (end_at t lo) inside s.1 in
      let y = spans-size t (end_at t lo) hi rest s.2 in
      let after : at (lo + 1) ≡ data_end item = h lo (omega arith) (omega arith) ∙ ap data_end s.0 in
      let inner = laid-at at (lo + 1) (end_at t lo) s.1 x after (λ i l k. h i (omega arith) (omega arith)) in
      let outer = laid-at at (end_at t lo) hi s.2 r inner.1 (λ i l k. h i (omega arith) k) in (
        λ i l k. ⊎_elim
            (λ d. rw (← d) (p ∙ q ∙ sym e))
            (λ g. ⊎_elim (λ d. inner.0 i (omega arith) d) (λ d. outer.0 i d k) (lt-or-le i (end_at t lo)))
            (eq-or-lt_of_le l),
        outer.1,
      )

  -- such an `at`
  abbrev reached : ℕ → ℕ → ℕ → ℕ
  reached lo from i = cond (eqb i lo) from (data_end (item_at t (i - 1)))

  laid-reached : (lo hi : ℕ) {from to : ℕ} {F : Forest} → Spans t lo hi F → Laid msg from F to → (i : ℕ) → lo ≤ i → i < hi
      → start_at t i ≡ reached lo from i
  laid-reached lo hi {from} s w =
      (laid-at (reached lo from) lo hi s w (rw (eq-eqb lo lo refl))
      (λ i l k. let e : i + 1 - 1 ≡ i = omega arith in rw (ne_eqb (i + 1) lo (λ q. omega arith), e))).0

  -- an argument begins where the data before it ends
  laid-follows : (lo hi : ℕ) {from to : ℕ} {F : Forest} → Spans t lo hi F → Laid msg from F to → (i : ℕ) → lo ≤ i → i + 1 < hi
      → start_at t (i + 1) ≡ data_end (item_at t i)
  laid-follows lo hi s w i l k =
      let e : i + 1 - 1 ≡ i = omega arith in
      rw (ne_eqb (i + 1) lo (λ q. omega arith), e) at (laid-reached lo hi s w (i + 1) (omega arith) k)

  -- the first argument begins where they all do
  laid-first : (lo hi : ℕ) {from to : ℕ} {F : Forest} → Spans t lo hi F → Laid msg from F to → lo < hi → start_at t lo ≡ from
  laid-first lo hi s w k = rw (eq-eqb lo lo refl) at (laid-reached lo hi s w lo (omega arith) k)

  -- none of them is a packet
  laid-kinds : (lo hi : ℕ) {from to : ℕ} {F : Forest} → Spans t lo hi F → Laid msg from F to → (i : ℕ) → lo ≤ i → i < hi
      → is_packet (kind_at t i) ≡ false
  unfolding Spans
  laid-kinds lo hi s done i l k = absurd (omega (arith, s))
  laid-kinds lo hi s (next n e b x r) i l k =
      ⊎_elim
      (λ d. rw (← d) (ap (λ (item : Item). is_packet item.kind) s.0 ∙ n))
      (λ g. ⊎_elim
      (λ d. laid-kinds (lo + 1) (end_at t lo) s.1 x i (omega arith) d)
      (λ d. laid-kinds (end_at t lo) hi s.2 r i d k)
      (lt-or-le i (end_at t lo)))
      (eq-or-lt_of_le l)

  -- the first of the packets of a call is a packet
  rooted-first : (lo hi : ℕ) {low high : ℕ} {F : Forest} → Spans t lo hi F → Rooted msg low F high → lo < hi
      → is_packet (kind_at t lo) ≡ true
  unfolding Spans
  rooted-first lo hi s (none h) k = absurd (omega (arith, s))
  rooted-first lo hi s (also (message e h b j i c (none z)) r) k = ap (λ (item : Item). is_packet item.kind) s.0 ∙ ap is_packet e
  rooted-first lo hi s (also (bundle e h b i (none z)) r) k = ap (λ (item : Item). is_packet item.kind) s.0 ∙ ap is_packet e

  -- the first of some packets is a packet
  packed-first : (lo hi : ℕ) {base low high : ℕ} {F : Forest} → Spans t lo hi F → Packed msg base low F high → lo < hi
      → is_packet (kind_at t lo) ≡ true
  unfolding Spans
  packed-first lo hi s (none h) k = absurd (omega (arith, s))
  packed-first lo hi s (message e h b j i c r) k = ap (λ (item : Item). is_packet item.kind) s.0 ∙ ap is_packet e
  packed-first lo hi s (bundle e h b i r) k = ap (λ (item : Item). is_packet item.kind) s.0 ∙ ap is_packet e

  -- a record and the next one, both of arguments, stand inside the first packet or after it
  by_place : (lo hi : ℕ) (item : Item) (inside rest : Forest) → is_packet item.kind ≡ true
      → (end_at t lo < hi → is_packet (kind_at t (end_at t lo)) ≡ true) → Spans t lo hi (node item inside rest) → (i : ℕ) → lo ≤ i → i + 1 < hi
      → is_packet (kind_at t i) ≡ false → is_packet (kind_at t (i + 1)) ≡ false → {A : Type 0}
      → (lo < i → i + 1 < end_at t lo → A) → (end_at t lo ≤ i → A) → A
  unfolding Spans
  by_place lo hi item inside rest e r s i l k m n inner outer =
      let kind : is_packet (kind_at t lo) ≡ true = ap (λ (item : Item). is_packet item.kind) s.0 ∙ e in
      ⊎_elim
      (λ (d : lo ≡ i). absurd (true≢false (sym kind ∙ ap (λ (j : ℕ). is_packet (kind_at t j)) d ∙ m)))
      (λ g. ⊎_elim
      (λ (d : i < end_at t lo). ⊎_elim
      (λ (c : i + 1 ≡ end_at t lo).
      let first = r (omega arith) in
      absurd (true≢false (sym first ∙ ap (λ (j : ℕ). is_packet (kind_at t j)) (sym c) ∙ n)))
      (λ c. inner g c)
      (eq-or-lt_of_le (suc-le d)))
      outer
      (lt-or-le i (end_at t lo)))
      (eq-or-lt_of_le l)
    where
      suc-le : {a b : ℕ} → a < b → a + 1 ≤ b
      suc-le h = omega arith

  -- of the records of packets, each argument that stands after an argument begins where the data of that one ends
  packed-follows : {base : ℕ} (lo hi : ℕ) {low high : ℕ} {F : Forest} → Spans t lo hi F → Packed msg base low F high → (i : ℕ) → lo ≤ i
      → i + 1 < hi → is_packet (kind_at t i) ≡ false → is_packet (kind_at t (i + 1)) ≡ false
      → start_at t (i + 1) ≡ data_end (item_at t i)
  unfolding Spans
  packed-follows lo hi s (none h) i l k m n = absurd (omega (arith, s))
  packed-follows lo hi {F = node item inside rest} s (message e h b j x c r) i l k m n =
      by_place lo hi item inside rest (ap is_packet e) (packed-first (end_at t lo) hi s.2 r) s i l k m n
      (λ g d. laid-follows (lo + 1) (end_at t lo) s.1 x i (omega arith) d)
      (λ d. packed-follows (end_at t lo) hi s.2 r i d k m n)
  packed-follows lo hi {F = node item inside rest} s (bundle e h b x r) i l k m n =
      by_place lo hi item inside rest (ap is_packet e) (packed-first (end_at t lo) hi s.2 r) s i l k m n
      (λ g d. packed-follows (lo + 1) (end_at t lo) s.1 x i (omega arith) d m n)
      (λ d. packed-follows (end_at t lo) hi s.2 r i d k m n)

  -- and so of those of a call
  pub rooted-follows : (lo hi : ℕ) {low high : ℕ} {F : Forest} → Spans t lo hi F → Rooted msg low F high → (i : ℕ) → lo ≤ i → i + 1 < hi
      → is_packet (kind_at t i) ≡ false → is_packet (kind_at t (i + 1)) ≡ false
      → start_at t (i + 1) ≡ data_end (item_at t i)
  unfolding Spans
  rooted-follows lo hi s (none h) i l k m n = absurd (omega (arith, s))
  rooted-follows lo hi {F = node item inside rest} s (also w r) i l k m n =
      let one : Spans t lo (end_at t lo) (node item inside nil) = (s.0, s.1, refl) in
      let z = spans-size t (lo + 1) (end_at t lo) inside s.1 in
      by_place lo hi item inside rest
      (ap (λ (x : Item). is_packet x.kind) (sym s.0) ∙ packed-first lo (end_at t lo) one w (omega arith))
      (rooted-first (end_at t lo) hi s.2 r) s i l k m n
      (λ g d. packed-follows lo (end_at t lo) one w i l d m n)
      (λ d. rooted-follows (end_at t lo) hi s.2 r i d k m n)

  -- the first argument of a message that leaves no array open begins where its data does
  packed-opens : {base : ℕ} (lo hi : ℕ) {low high : ℕ} {F : Forest} → Spans t lo hi F → Packed msg base low F high → (i : ℕ) → lo ≤ i → i < hi
      → kind_at t i ≡ message_kind → i + 1 < end_at t i → Balanced (tags_at base msg (item_at t i))
      → start_at t (i + 1) ≡ data_at base msg (item_at t i)
  unfolding Spans
  packed-opens lo hi s (none h) i l k m n z = absurd (omega (arith, s))
  packed-opens {base = base} lo hi s (message e h b j x c r) i l k m n z =
      ⊎_elim
      (λ (d : lo ≡ i).
      let y : end_at t i ≡ end_at t lo = ap (end_at t) (sym d) in
      let same : item_at t i ≡ _ = ap (item_at t) (sym d) ∙ s.0 in
      let w = c (subst (λ (q : Item). Balanced (tags_at base msg q)) same z) in
      ap (λ (q : ℕ). start_at t (q + 1)) (sym d) ∙ laid-first (lo + 1) (end_at t lo) s.1 w (omega arith)
      ∙ ap (data_at base msg) (sym same))
      (λ g. ⊎_elim
      (λ d. absurd (true≢false (sym (ap is_packet m) ∙ laid-kinds (lo + 1) (end_at t lo) s.1 x i (omega arith) d)))
      (λ d. packed-opens (end_at t lo) hi s.2 r i d k m n z)
      (lt-or-le i (end_at t lo)))
      (eq-or-lt_of_le l)
  packed-opens lo hi s (bundle e h b x r) i l k m n z =
      ⊎_elim
      (λ (d : lo ≡ i).
      let kind : kind_at t i ≡ bundle_kind = ap (kind_at t) (sym d) ∙ ap (λ (q : Item). q.kind) s.0 ∙ e in
      absurd (omega arith))
      (λ g. ⊎_elim
      (λ d. packed-opens (lo + 1) (end_at t lo) s.1 x i (omega arith) d m n z)
      (λ d. packed-opens (end_at t lo) hi s.2 r i d k m n z)
      (lt-or-le i (end_at t lo)))
      (eq-or-lt_of_le l)

  -- each packet of a call is one of a frame of its own
  record PacketHere (r : ℕ) : Type 0 where
    low : ℕ
    high : ℕ
    tree : Forest
    spans : Spans t r (end_at t r) tree
    packed : Packed msg (start_at t r - 4) low tree high

  rooted-here : (lo hi : ℕ) {low high : ℕ} {F : Forest} → Spans t lo hi F → Rooted msg low F high → lo < hi → PacketHere lo
  unfolding Spans
  rooted-here lo hi s (none h) k = absurd (omega (arith, s))
  rooted-here lo hi {low} {F = node item inside rest} s (also {mid = mid} w r) k =
      let same : item.start ≡ start_at t lo = ap (λ (q : Item). q.start) (sym s.0) in
      record {
        low = low;
        high = mid;
        tree = node item inside nil;
        spans = (s.0, s.1, refl);
        packed = subst (λ (n : ℕ). Packed msg (n - 4) low (node item inside nil) mid) same w;
      }

  -- the packets from a packet of the call on
  record RestFrom (r hi : ℕ) : Type 0 where
    low : ℕ
    high : ℕ
    trees : Forest
    spans : Spans t r hi trees
    rooted : Rooted msg low trees high

  rest-next : (r hi : ℕ) → r < hi → (low : ℕ) {high : ℕ} {F : Forest} → Spans t r hi F → Rooted msg low F high → RestFrom (end_at t r) hi
  unfolding Spans
  rest-next r hi h low s (none k) = absurd (omega (arith, s))
  rest-next r hi h low {high} {F = node item inside rest} s (also {mid = mid} w x) =
      record { low = mid; high = high; trees = rest; spans = s.2; rooted = x }

  rest_from : {hi low high : ℕ} {F : Forest} → Spans t 0 hi F → Rooted msg low F high → {r : ℕ} → PacketAt t hi r → RestFrom r hi
  rest_from {hi} {low} {high} {F} s w first_packet = record { low = low; high = high; trees = F; spans = s; rooted = w }
  rest_from {hi} s w (next_packet {r} h p) = let x = rest_from s w p in rest-next r hi h x.low x.spans x.rooted

  -- the first argument of a message of any of them, that leaves no array open, begins where its data does
  pub rooted-opens : {hi low high : ℕ} {F : Forest} → Spans t 0 hi F → Rooted msg low F high → (r i : ℕ) → PacketAt t hi r → r < hi → r ≤ i
      → i < end_at t r → kind_at t i ≡ message_kind → i + 1 < end_at t i → Balanced (tags_at (start_at t r - 4) msg (item_at t i))
      → start_at t (i + 1) ≡ data_at (start_at t r - 4) msg (item_at t i)
  rooted-opens {hi} s w r i p h l k m n z =
      let x = rest_from s w p in
      let y = rooted-here r hi x.spans x.rooted h in
      packed-opens r (end_at t r) y.spans y.packed i l k m n z
