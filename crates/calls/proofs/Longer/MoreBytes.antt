-- Demand 3: more bytes never take back a packet that a single-packet call gave.
use mathlib.Core.Path.{◌≡◌, refl, ap, sym, ◌∙◌}
use mathlib.Core.List.{List, ◌++◌}
use Prim.Native.Nat.{ℕ}
use native.Mathlib.Omega.{arith}
use Rattle.node.specs.Forest.{Forest, size}
use Rattle.node.specs.Records.{records_of}
use Rattle.argument.specs.Dirt.{dirty_in}
use Rattle.framing.specs.Framing.{Whole, trees, udp, tcp}
use Rattle.answering.specs.Limits.{decoded, forest_of}
use Rattle.results.specs.Results.{Packets}
use Rattle.calls.specs.Words.{Continues, Unlimited}
use Rattle.calls.specs.Demands.{answer_to, GoesOn, MoreBytes}
use Rattle.decoder.proofs.Chosen.{by-decoded, by-trees}
use Rattle.calls.proofs.Answered.{accepted, after_is, after-records}
use Rattle.calls.proofs.Longer.Dirt.{DirtStays, continues-dirt, udp-dirt, tcp-dirt}
use Rattle.calls.proofs.Longer.Tables as tables
use Rattle.calls.proofs.Longer.Wholes.{Longer, no-tree, none_yet, goes_further, udp-longer, tcp-longer}

-- where no limit refuses the call, its trees are the answer
given : (rule : List ℕ → Whole) (capacity limit : ℕ) (msg : List ℕ) {f : Forest} {left : ℕ} → rule msg ≡ trees f left
    → Unlimited (decoded rule capacity limit msg)
    → decoded rule capacity limit msg ≡ Packets (size f) left (dirty_in msg f)
given rule capacity limit msg {f} {left} e =
    by-decoded (λ r. Unlimited r → r ≡ Packets (size f) left (dirty_in msg f)) rule capacity limit msg (λ h u. absurd (u.not_13 refl))
    (λ h u. absurd (u.not_1 refl))
    (λ h k. rw e (by-trees (λ r. Unlimited r → r ≡ Packets (size f) left (dirty_in msg f)) capacity limit msg f left
    (λ d u. absurd (u.not_9 refl)) (λ d u. absurd (u.not_10 refl)) (λ d c u. refl)))

module _ (rule : List ℕ → Whole) (longer : (msg more : List ℕ) → Longer (rule msg) (rule (msg ++ more))) (same-dirt : DirtStays rule) where
  more_bytes : MoreBytes rule
  more_bytes msg more limit limit' table table' count left dirty d c e u =
      by-longer (rule msg) (rule (msg ++ more)) refl refl (longer msg more)
    where
      by-longer : (w w' : Whole) → rule msg ≡ w → rule (msg ++ more) ≡ w' → Longer w w'
          → GoesOn rule msg more limit limit' table table' count dirty
      by-longer w w' x y (no-tree s) = let z = (accepted rule _ limit msg e).read in let z' : ◌≡◌ {A = ℕ} 0 1 = cc in absurd (omega arith)
      by-longer w w' x y none_yet = let z = (accepted rule _ limit msg e).read in let z' : ◌≡◌ {A = ℕ} 0 1 = cc in absurd (omega arith)
      by-longer w w' x y (goes_further {left' = left'} on) =
          let n = (accepted rule _ limit msg e).counts in
          let tree : Continues (forest_of (rule msg)) (forest_of (rule (msg ++ more))) = rw (x, y) on in
          let F = forest_of (rule msg) in
          let F' = forest_of (rule (msg ++ more)) in
          let e' : answer_to rule limit' (msg ++ more) table' ≡ Packets (size F') left' (dirty_in (msg ++ more) F') = rw y
          (given rule _ limit' (msg ++ more) y u) in
          let here : dirty_in (msg ++ more) F ≡ dirty = same-dirt msg more ∙ (accepted rule _ limit msg e).soils in
          record {
            tree = tree;
            left = left';
            dirt = dirty_in (msg ++ more) F';
            answers = e';
            no_less = omega (arith, continues-dirt (msg ++ more) F F' tree, here);
            stays = λ k. ap (dirty_in (msg ++ more)) (tables.same-message _ tree (rw (after_is rule limit msg table e) at k)) ∙ here;
            continues = rw (after_is rule limit msg table e, after_is rule limit' (msg ++ more) table' e', ← n)
                (tables.table-continues _ _ tree);
            message = λ k.
                let same = tables.same-message _ tree (rw (after_is rule limit msg table e) at k) in
                let n' : size (forest_of (rule (msg ++ more))) ≡ count = ap size same ∙ n in
                after-records rule limit' (msg ++ more) table' (e' ∙ ap (λ (c : ℕ). Packets c left' (dirty_in (msg ++ more) F')) n')
                ∙ ap (records_of 0) same
                ∙ sym (after-records rule limit msg table e);
          }

-- bytes appended take back no packet that `decode_udp` gave
pub more_bytes_udp : MoreBytes udp
more_bytes_udp = more_bytes udp udp-longer udp-dirt

-- nor one that `decode_tcp` gave
pub more_bytes_tcp : MoreBytes tcp
more_bytes_tcp = more_bytes tcp tcp-longer tcp-dirt
