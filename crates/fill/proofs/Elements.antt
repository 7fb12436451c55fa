-- The element of a bundle that is all there: it is written where the packet is that it holds.
use mathlib.Core.Path.{◌≡◌, refl, ap, sym, ◌∙◌, subst}
use mathlib.Core.List.{List}
use mathlib.Core.Logic.{◌⊎◌, inl, inr}
use Prim.Native.Nat.{ℕ, ◌+◌, ◌-◌, ◌<◌, ◌≤◌}
use native.Mathlib.Omega.{arith}
use lib.ListN.{length, take, drop, length-take, length-drop}
use Rattle.wire.specs.Limits.{longest}
use Rattle.wire.specs.Number.{number}
use Rattle.wire.proofs.Choices.{lt-or-le}
use Rattle.node.specs.Forest.{Forest, size}
use Rattle.node.specs.Records.{stored, TableRoom}
use Rattle.heads.specs.Heads.{size_of}
use Rattle.fill.specs.Results.{Reread, Wrote}
use Rattle.std.specs.Prelude.{None, Some}
use Rattle.heads.proofs.Heads.{part-4, size_in, size-short, size-past, size_holds}
use Rattle.packet.specs.Packet.{Out, fault, one, filling, read_packet, read_element}
use Rattle.packet.proofs.Knot.{element-holds, element-runs-out}
use Rattle.fill.specs.CodeFill.{tree_of, reread, Fills, PacketAccepted, Known, WritesAccepted}
use Rattle.fill.proofs.Fills.{known-refused, accepted-not}

-- the element ends at q
abbrev ends_at : ℕ → Reread → Reread
ends_at q (Some element) = Wrote element.count q
ends_at q None = None

reread-filling : (p n : ℕ) (o : Out) → ends_at (p + n) (reread p o) ≡ reread p (filling n o)
reread-filling p n (fault k) = refl
reread-filling p n (one item f u) = refl

tree-filling : (n : ℕ) (o : Out) → tree_of (filling n o) ≡ tree_of o
tree-filling n (fault k) = refl
tree-filling n (one item f u) = refl

filling-accepted : (n : ℕ) (o : Out) → PacketAccepted (filling n o) → PacketAccepted o
filling-accepted n (fault k) w = w
filling-accepted n (one item f u) w = w

-- an accepted element is all there, and its size is its first 4 bytes
pub accepted-size : {n : ℕ} (base : ℕ) (l : List ℕ) (p : ℕ) → PacketAccepted (read_element base l p) → n ≡ number 4 l
    → Some n ≡ size_of l
accepted-size {n} base l p w e = by_length (lt-or-le (length l) 4)
  where
    there : None ≡ size_of l → ⊥
    there r = accepted-not w (element-runs-out base l p r)

    by_size : 4 ≤ length l → (length l - 4 < n) ⊎ (n ≤ length l - 4) → Some n ≡ size_of l
    by_size h (inl g) = absurd (there (size-past l h e g))
    by_size h (inr g) = size_holds l h e g

    by_length : (length l < 4) ⊎ (4 ≤ length l) → Some n ≡ size_of l
    by_length (inl h) = absurd (there (size-short l h))
    by_length (inr h) = by_size h (lt-or-le (length l - 4) n)

-- the element l at p has its size and n bytes after it
pub record ElementIn (base : ℕ) (l : List ℕ) (p n : ℕ) : Type 0 where
  pub holds : Some n ≡ size_of l
  pub inside : 4 + n ≤ length l
  pub low : base + p + length l ≤ longest
  pub part : length (take (4 + n - 4) (drop 4 l)) ≡ n

pub element-in : {base p n : ℕ} {l : List ℕ} → Some n ≡ size_of l → base + p + length l ≤ longest → ElementIn base l p n
element-in {base} {p} {n} {l} e low =
    let h : 4 + n ≤ length l = size_in l e in
    record { holds = e; inside = h; low = low; part = rw part-4 (omega (arith, length-take n (drop 4 l), length-drop 4 l)) }

module _ {base p n : ℕ} {l : List ℕ} (w : ElementIn base l p n) where
  -- the packet that the element holds
  abbrev held : Out
  held = read_packet base (take (4 + n - 4) (drop 4 l)) (p + 4)

  held-fills : read_element base l p ≡ filling n held
  held-fills = element-holds base l p w.holds ∙ rw part-4

  -- room for the element is room for its packet
  pub held-room : {i : ℕ} {T : List ℕ} → TableRoom (tree_of (read_element base l p)) i T → TableRoom (tree_of held) i T
  held-room {i} {T} r = subst (λ (f : Forest). TableRoom f i T) (ap tree_of held-fills ∙ tree-filling n held) r

  -- an accepted element holds an accepted packet
  pub held-accepted : PacketAccepted (read_element base l p) → PacketAccepted held
  held-accepted a = filling-accepted n held (subst PacketAccepted held-fills a)

  -- the element is written where its packet is, which has as many records
  pub element-written : {i count : ℕ} {T T' : List ℕ} → WritesAccepted held i T count T'
      → Fills (read_element base l p) (p + 4) i T (Wrote count (p + 4 + n)) T'
  unfolding size
  element-written {i} {count} {T} f = rw held-fills (record {
    answered = by_out held f.known;
    table = f.table ∙ ap (λ (g : Forest). stored i g T) (sym (tree-filling n held));
  })
    where
      by_out : (o : Out) → Known o count → Wrote count (p + 4 + n) ≡ reread (p + 4) (filling n o)
      by_out (fault k) w = absurd (known-refused w refl)
      by_out (one item f u) w = let z : count ≡ 1 + size f = omega (arith, w.records) in rw z

  -- the element is written where its packet is, and ends where the element ends
  pub element-fills : {i : ℕ} {r r' : Reread} {T T' : List ℕ} → r ≡ r' → Fills held (p + 4) i T r T'
      → Fills (read_element base l p) (p + 4) i T (ends_at (p + 4 + n) r') T'
  element-fills {i} {r} {r'} {T} z f = rw held-fills (record {
    answered = ap (ends_at (p + 4 + n)) (sym z ∙ f.answered) ∙ reread-filling (p + 4) n held;
    table = f.table ∙ ap (λ (g : Forest). stored i g T) (sym (tree-filling n held));
  })
