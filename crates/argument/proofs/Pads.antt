-- The padding of a call: at most 3 bytes to a text or blob that is kept, packet by packet; and clean is the same as all bytes being 0.
use mathlib.Core.Path.{◌≡◌, refl, ap}
use mathlib.Core.Logic.{⊎_elim}
use mathlib.Core.List.{List, [], ◌∷◌, ◌++◌}
use Prim.Native.Nat.{ℕ, suc, ◌+◌, ◌-◌, ◌*◌, ◌≤◌}
use native.Mathlib.Omega.{arith}
use borrow.Author.Tests.{eq-eqb}
use lib.Dec.{eqb}
use lib.ListN.{length, get_or, take, drop, length-append, take-append-drop}
use Rattle.wire.proofs.Choices.{by-test, by_both, is-or}
use Rattle.node.specs.Forest.{Forest, nil, node, size}
use Rattle.node.specs.Tags.{message_kind, bundle_kind, class_of}
use Rattle.node.specs.declared.record.Item.{Item}
use Rattle.node.specs.declared.tags.Class.{Class}
use Rattle.node.specs.declared.tags.Class.TheVariants.{Four, Eight, Bare, Text as String, Blob, Scalar, Unknown}
use Rattle.text.specs.Text.{until_nul, non_zero}
use Rattle.text.proofs.Dirt.{dirt-here, dirt-le, dirt-join}
use Rattle.argument.specs.CodeParts.{dirt_of}
use Rattle.argument.specs.Dirt.{text_padding, types_at, types_padding, arg_padding, own_padding, kept_padding, packets_padding, dirty_in}
use Rattle.argument.specs.Dirt.{arg_pads, pads_of, pads, AllZero}
use Rattle.argument.proofs.Dirt.{padding-few}

-- ---- at most 3 bytes to a place

module _ (base : ℕ) (msg : List ℕ) where
  -- so many bytes are few for n places
  abbrev Few : List ℕ → ℕ → Type 0
  Few l n = length l ≤ 3 * n

  arg-few : (class : Class) (item : Item) → Few (arg_padding base msg class item) (arg_pads class)
  arg-few Four item = omega arith
  arg-few Eight item = omega arith
  arg-few Bare item = omega arith
  arg-few String item = padding-few base msg (item.a + item.b + 1)
  arg-few Blob item = padding-few base msg (item.a + item.b)
  arg-few Scalar item = omega arith
  arg-few Unknown item = omega arith

  own-few : (item : Item) → Few (own_padding base msg item) (pads_of item)
  own-few item =
      let types = types_at base item.a item.b in
      by_both Few (eqb item.kind message_kind)
      (omega (
        arith,
        length-append (text_padding base msg item.a item.b) (types_padding base msg types),
        padding-few base msg (item.a + item.b + 1),
        padding-few base msg (types + until_nul (drop types msg) + 1),
      ))
      (by_both Few (eqb item.kind bundle_kind) (padding-few base msg (item.start + 7 + 1)) (arg-few (class_of item.kind) item))

  kept-few : (f : Forest) → Few (kept_padding base msg f) (pads f)
  unfolding kept_padding pads
  kept-few nil = omega arith
  kept-few (node item f rest) =
      let inside = kept_padding base msg f in
      let after = kept_padding base msg rest in
      omega (
        arith,
        length-append (own_padding base msg item) (inside ++ after),
        length-append inside after,
        own-few item,
        kept-few f,
        kept-few rest,
      )

own-pads : (item : Item) → pads_of item ≤ 2
own-pads item =
    by-test (λ n. n ≤ 2) (eqb item.kind message_kind) (λ _. omega arith)
    (λ _. by-test (λ n. n ≤ 2) (eqb item.kind bundle_kind) (λ _. omega arith) (λ _. arg-pads (class_of item.kind)))
  where
    arg-pads : (class : Class) → arg_pads class ≤ 2
    arg-pads Four = omega arith
    arg-pads Eight = omega arith
    arg-pads Bare = omega arith
    arg-pads String = omega arith
    arg-pads Blob = omega arith
    arg-pads Scalar = omega arith
    arg-pads Unknown = omega arith

-- no node has more than two
pads-few : (f : Forest) → pads f ≤ 2 * size f
unfolding pads size
pads-few nil = omega arith
pads-few (node item f rest) = omega (arith, own-pads item, pads-few f, pads-few rest)

-- so the dirt of trees is at most 6 bytes to a node
pub dirt-few : (base : ℕ) (msg : List ℕ) (f : Forest) → dirt_of base msg f ≤ 6 * size f
dirt-few base msg f = omega (arith, dirt-le (kept_padding base msg f), kept-few base msg f, pads-few f)

packets-few : (msg : List ℕ) (f : Forest) → length (packets_padding msg f) ≤ 3 * pads f
unfolding packets_padding pads
packets-few msg nil = omega arith
packets-few msg (node item f rest) =
    let first = node item f nil in
    omega (
      arith,
      length-append (kept_padding (item.start - 4) msg first) (packets_padding msg rest),
      kept-few (item.start - 4) msg first,
      packets-few msg rest,
    )

-- there are at most 3 dirty bytes to each text, blob and "#bundle" that is kept
pub padding-low : (msg : List ℕ) (f : Forest) → dirty_in msg f ≤ 3 * pads f
padding-low msg f = omega (arith, dirt-le (packets_padding msg f), packets-few msg f)

-- and no more than 6 to a record
pub dirty-few : (msg : List ℕ) (f : Forest) → dirty_in msg f ≤ 6 * size f
dirty-few msg f = omega (arith, padding-low msg f, pads-few f)

-- ---- packet by packet

-- the dirt of packets is that of the first, from its frame on, and of the others
pub packets-join : (msg : List ℕ) (item : Item) (f rest : Forest)
    → dirty_in msg (node item f rest) ≡ dirt_of (item.start - 4) msg (node item f nil) + dirty_in msg rest
unfolding packets_padding
packets-join msg item f rest = dirt-join (kept_padding (item.start - 4) msg (node item f nil)) (packets_padding msg rest)

-- the dirt of a call that has one packet is that packet's, from its frame on
pub one-packet : (msg : List ℕ) (item : Item) (f : Forest) → dirty_in msg (node item f nil) ≡ dirt_of (item.start - 4) msg (node item f nil)
unfolding packets_padding
one-packet msg item f = omega (arith, packets-join msg item f nil)

-- ---- bytes that are all 0

-- where no byte is counted, every byte is 0
pub clean-bytes : (l : List ℕ) → non_zero l ≡ 0 → AllZero l
clean-bytes l e i h =
    ⊎_elim (λ (z : get_or l i 0 ≡ 0). z)
    (λ (n : get_or l i 0 ≡ 0 → ⊥).
    absurd (omega (arith, dirt-here l i h n, dirt-join (take i l) (drop i l), ap non_zero (take-append-drop i l))))
    (is-or (get_or l i 0) 0)

-- where every byte is 0, no byte is counted
pub bytes-clean : (l : List ℕ) → AllZero l → non_zero l ≡ 0
bytes-clean [] h = refl
bytes-clean (b ∷ l) h = rw (eq-eqb b 0 (h 0 (omega arith))) (omega (arith, bytes-clean l (λ i k. h (suc i) (omega arith))))
