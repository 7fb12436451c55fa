-- A node that keeps its own rules and its range's can be relied on.
use mathlib.Core.Path.{◌≡◌}
use mathlib.Core.Bool.{true}
use mathlib.Core.List.{List, [], ◌∷◌}
use Prim.Native.Nat.{ℕ, ◌+◌, ◌≤◌}
use native.Mathlib.Omega.{arith}
use borrow.Author.Tests.{leb-true}
use lib.Dec.{eqb}
use lib.ListN.{length}
use Rattle.wire.specs.Part.{inside}
use Rattle.utf8.specs.Derive.{utf8}
use Rattle.node.specs.Tags.{message_kind, is_scalar, class_of, sort_of}
use Rattle.node.specs.Rules.{own_rules}
use Rattle.node.specs.declared.record.Item.{Item}
use Rattle.table.specs.Formed.{text_ok, range_ok}
use Rattle.osc10.specs.Words.{bytes_named}
use Rattle.given.specs.Encodable.{Reliable}
use Rattle.utf8.proofs.Grammar.{octets}
use Rattle.osc10.proofs.Tags.{of-among}
use Rattle.osc10.proofs.Spelled.{both_true, then-true}

module _ (source : List ℕ) (item : Item) where
  text-tests : text_ok source item.a item.b ≡ true
      → (inside source item.a item.b ≡ true) × (utf8 (bytes_named source item) ≡ true)
  text-tests = then-true (inside source item.a item.b) (utf8 (bytes_named source item))

  in_source : inside source item.a item.b ≡ true → item.a + item.b ≤ length source
  in_source = leb-true (item.a + item.b) (length source)

  -- what a reader takes from such a node needs no test
  pub node-reliable : own_rules item ≡ true → range_ok source item ≡ true → Reliable source item
  unfolding own_rules range_ok sort_of class_of
  node-reliable rules range =
      let P : ℕ → Type 0 = λ k.
      range_ok source (record { kind = k; a = item.a; b = item.b; start = item.start }) ≡ true → item.a + item.b ≤ length source in
      record {
        lies = λ k.
            omega (
              arith,
              of-among P item.kind (message_kind ∷ 98 ∷ 115 ∷ [])
                  ((λ e. in_source (text-tests e).0), ((λ e. in_source e), ((λ e. in_source (text-tests e).0), tt))) k range,
            );
        valid = λ k. (octets (bytes_named source item)).sound (text-tests (rw k at range)).1;
        scalar = λ k. (both_true (eqb item.b 0) (is_scalar item.a) (rw k at rules)).1;
      }
