-- A packet's depth is that of a tree that stands for it.
use mathlib.Core.Path.{◌≡◌, refl, ap}
use mathlib.Core.List.{List}
use Prim.Native.Nat.{ℕ, ◌+◌}
use native.Mathlib.Omega.{arith}
use Rattle.node.specs.Forest.{Forest, level, depth}
use Rattle.node.specs.declared.record.Item.{Item}
use Rattle.osc10.specs.Osc10.{Atom, word, long, bare, string, blob, char, OscArguments, end, atom, array, Packet, message, bundle}
use Rattle.osc10.specs.Osc10.{Packets, none, also, AtomAllowed, ArgumentsAllowed, Allowed, AllAllowed, arguments_deep, deep, deep_all}
use Rattle.osc10.specs.Osc10.{AtomIs, ArgumentsAre, no_node, leaf, branch, StandsFor, is_message, is_bundle, StandFor, no_packet}
use Rattle.osc10.specs.Osc10.{packet}
use Rattle.osc10.specs.Osc10 as osc
use Rattle.osc10.proofs.Tags.{of-among}

-- an argument that is no array is no level
atom-level : {s : List ℕ} (v : Atom) {item : Item} → AtomAllowed v → AtomIs s v item → level item.kind 0 ≡ 0
atom-level (word tag x) h w = rw w.kind (of-among (λ k. level k 0 ≡ 0) tag osc.words (refl, (refl, (refl, (refl, tt)))) h.0)
atom-level (long tag x y) h w = rw w.kind (of-among (λ k. level k 0 ≡ 0) tag osc.longs (refl, (refl, (refl, tt))) h.0)
atom-level (bare tag) h w = rw w.kind (of-among (λ k. level k 0 ≡ 0) tag osc.bares (refl, (refl, (refl, (refl, tt)))) h)
atom-level (string text) h w = rw w.kind
atom-level (blob content) h w = rw w.kind
atom-level (char x) h w = rw w.kind

arguments-deep : {s : List ℕ} (A : OscArguments) {F : Forest} → ArgumentsAllowed A → ArgumentsAre s A F → depth F ≡ arguments_deep A
unfolding ArgumentsAllowed arguments_deep depth
arguments-deep end h no_node = refl
arguments-deep (atom v rest) h (leaf x r) = omega (arith, atom-level v h.0 x, arguments-deep rest h.1 r)
arguments-deep (array within rest) h (branch w x r) =
    rw (w.kind, arguments-deep within h.0 x, arguments-deep rest h.1 r)

mutual
  unfolding Allowed AllAllowed deep deep_all depth

  -- the depth of a tree that stands for a packet is the packet's
  pub tree-deep : {s : List ℕ} (P : Packet) {item : Item} {f : Forest} → Allowed P → StandsFor s P item f
      → level item.kind (depth f) ≡ deep P
  tree-deep (message address A) h (is_message m x) = rw m.kind (arguments-deep A h.2 x)
  tree-deep (bundle seconds fractional Ps) h (is_bundle b x) = rw b.kind (ap (λ (n : ℕ). n + 1) (forest-deep Ps h.2 x))

  forest-deep : {s : List ℕ} (Ps : Packets) {F : Forest} → AllAllowed Ps → StandFor s Ps F → depth F ≡ deep_all Ps
  forest-deep none h no_packet = refl
  forest-deep (also P Ps) h (packet x r) = rw (tree-deep P h.0 x, forest-deep Ps h.1 r)
