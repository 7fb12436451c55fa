-- What the second reading writes and answers: nothing of what is refused, and what follows a packet's first text in its place.
use mathlib.Core.Path.{◌≡◌, refl, ap, sym, ◌∙◌, subst}
use mathlib.Core.List.{List}
use Prim.Native.Nat.{ℕ, ◌+◌, ◌-◌, ◌<◌, ◌≤◌}
use native.Mathlib.Nat.{add_assoc}
use native.Mathlib.Omega.{arith}
use lib.ListN.{length, take, drop, length-drop}
use Rattle.refusal.specs.declared.Fault.{Fault}
use Rattle.wire.specs.Limits.{longest}
use Rattle.wire.proofs.Parts.{tail}
use Rattle.node.specs.Forest.{Forest, size}
use Rattle.node.specs.declared.record.Item.{Item}
use Rattle.node.specs.Records.{stored, TableRoom}
use Rattle.node.proofs.Stored.{stored-nil}
use Rattle.heads.specs.Heads.{message_item}
use Rattle.packet.specs.CodeStart.{StartAccepted}
use Rattle.packet.specs.FirstText.{start_of}
use Rattle.packet.specs.Packet.{Out, fault, one, after, read_message, read_packet, read_bundle}
use Rattle.fill.specs.Results.{Reread, Wrote}
use Rattle.fill.specs.declared.Element.{Element}
use Rattle.wire.proofs.Payloads.{some-is}
use Rattle.packet.specs.Results.{Start}
use Rattle.std.specs.Prelude.{Err, None, Ok, Result, Some}
use Rattle.std.specs.Result.{result_ok}
use Rattle.std.proofs.lemmas.Option.{none-some}
use Rattle.packet.specs.Results as start
use Rattle.packet.specs.declared.PacketStart.{PacketStart}
use Rattle.packet.specs.declared.PacketStart.TheVariants as first
use Rattle.packet.proofs.FirstText.{message-start-in, bundle-start-in}
use Rattle.packet.proofs.Knot.{starts-message, starts-bundle, starts-refused}
use Rattle.fill.specs.CodeFill.{tree_of, reread, Fills, PacketAccepted, Known, WritesAccepted}

-- a result of which only the value is kept: it holds the value, or it is an error
pub was-ok : {T E : Type 0} {x : T} {r s : Result T E} → Some x ≡ result_ok r → r ≡ s → Ok x ≡ s
was-ok {T} {E} {x} {r} e z = by_result r e ∙ z
  where
    by_result : (r : Result T E) → Some x ≡ result_ok r → Ok x ≡ r
    by_result (Ok y) e = ap Ok (some-is e)
    by_result (Err k) e = absurd (none-some x (sym e))

pub was-err : {T E : Type 0} {r s : Result T E} → None ≡ result_ok r → r ≡ s → (k : E) × (Err k ≡ s)
was-err {T} {E} {r} {s} e z = by_result r e z
  where
    by_result : (r : Result T E) → None ≡ result_ok r → r ≡ s → (k : E) × (Err k ≡ s)
    by_result (Ok y) e z = absurd (none-some y e)
    by_result (Err k) e z = (k, z)

-- nothing is written of what is refused
pub fills-none : {k : Fault} {o : Out} {p i : ℕ} {T : List ℕ} → o ≡ fault k → Fills o p i T None T
fills-none {k} {o} {p} {i} {T} e =
    record { answered = sym (ap (reread p) e); table = sym (ap (λ (x : Out). stored i (tree_of x) T) e ∙ stored-nil i T) }

-- what is known to be accepted is not refused
pub known-refused : {k : Fault} {o : Out} {count : ℕ} → Known o count → o ≡ fault k → ⊥
unfolding size
known-refused {k} {o} {count} w e =
    let z : 0 ≡ count = ap (λ (x : Out). size (tree_of x)) (sym e) ∙ w.records in
    omega (arith, w.some)

-- what is known is accepted
pub known-accepted : {o : Out} {count : ℕ} → Known o count → PacketAccepted o
known-accepted {o} {count} w = by_out o w
  where
    by_out : (o : Out) → Known o count → PacketAccepted o
    by_out (fault k) w = absurd (known-refused w refl)
    by_out (one item f u) w = tt

-- what is accepted is not refused
pub accepted-not : {k : Fault} {o : Out} → PacketAccepted o → o ≡ fault k → ⊥
accepted-not w e = subst PacketAccepted e w

-- of what is accepted something was written
pub fills-some : {o : Out} {p i : ℕ} {r : Reread} {T T' : List ℕ} → PacketAccepted o → Fills o p i T r T' → r ≡ None → ⊥
fills-some {o} {p} {i} {r} a w z = by_out o a (sym z ∙ w.answered)
  where
    by_out : (o : Out) → PacketAccepted o → None ≡ reread p o → ⊥
    by_out (fault k) a e = a
    by_out (one item f u) a e = let z : ◌≡◌ {A = ℕ} 0 1 = cc in omega arith

-- what was written has the records that were answered
pub fills-writes : {o : Out} {p i count next : ℕ} {r : Reread} {T T' : List ℕ} → Fills o p i T r T' → r ≡ Wrote count next
    → WritesAccepted o i T count T'
unfolding size
fills-writes {o} {p} {i} {count} {next} w z = record { known = by_out o (sym z ∙ w.answered); table = w.table }
  where
    by_out : (o : Out) → Wrote count next ≡ reread p o → Known o count
    by_out (fault k) e = let z : ◌≡◌ {A = ℕ} 0 1 = cc in absurd (omega arith)
    by_out (one item f u) e =
        let z : count ≡ 1 + size f = ap (λ (x : Element). x.count) (some-is e) in
        record { some = omega arith; records = omega arith }

-- ---- what is read after n more bytes

reread-after : (p n : ℕ) (o : Out) → reread (p + n) o ≡ reread p (after n o)
reread-after p n (fault k) = refl
reread-after p n (one item f u) = rw add_assoc

tree-after : (n : ℕ) (o : Out) → tree_of (after n o) ≡ tree_of o
tree-after n (fault k) = refl
tree-after n (one item f u) = refl

before-accepted : (n : ℕ) (o : Out) → PacketAccepted (after n o) → PacketAccepted o
before-accepted n (fault k) w = w
before-accepted n (one item f u) w = w

-- o is o' after n more bytes
pub record Past (o : Out) (n : ℕ) (o' : Out) : Type 0 where
  pub same : o ≡ after n o'

module _ {o o' : Out} {n : ℕ} (e : Past o n o') where
  same-tree : tree_of o ≡ tree_of o'
  same-tree = ap tree_of e.same ∙ tree-after n o'

  -- it needs the same room
  pub past_room : {i : ℕ} {T : List ℕ} → TableRoom (tree_of o) i T → TableRoom (tree_of o') i T
  past_room {i} {T} w = subst (λ (f : Forest). TableRoom f i T) same-tree w

  -- as much is known of it
  pub past-known : {count : ℕ} → Known o count → Known o' count
  past-known k = record { some = k.some; records = ap size (sym same-tree) ∙ k.records }

  -- it is accepted too
  pub past-accepted : PacketAccepted o → PacketAccepted o'
  past-accepted w = before-accepted n o' (subst PacketAccepted e.same w)

  -- it is written in the same place
  pub past-stored : {T' : List ℕ} (i : ℕ) (T : List ℕ) → T' ≡ stored i (tree_of o') T → T' ≡ stored i (tree_of o) T
  past-stored i T w = w ∙ ap (λ (f : Forest). stored i f T) (sym same-tree)

  -- and has as many records
  pub past-writes : {i count : ℕ} {T T' : List ℕ} → WritesAccepted o' i T count T' → WritesAccepted o i T count T'
  past-writes {i} {count} {T} w =
      let k = w.known in
      record { known = record { some = k.some; records = ap size same-tree ∙ k.records }; table = past-stored i T w.table }

  -- it has the same answer
  pub past-fills : {p i : ℕ} {r : Reread} {T T' : List ℕ} → Fills o' (p + n) i T r T' → Fills o p i T r T'
  past-fills {p} {i} {r} {T} w = record
      { answered = w.answered ∙ reread-after p n o' ∙ ap (reread p) (sym e.same); table = past-stored i T w.table }

-- the same of an equation
module _ {o : Out} (n : ℕ) (o' : Out) (e : o ≡ after n o') where
  pub room_after : {i : ℕ} {T : List ℕ} → TableRoom (tree_of o) i T → TableRoom (tree_of o') i T
  room_after w = past_room {o' = o'} {n = n} (record { same = e }) w

  pub fills-after : {p i : ℕ} {r : Reread} {T T' : List ℕ} → Fills o' (p + n) i T r T' → Fills o p i T r T'
  fills-after w = past-fills {o' = o'} {n = n} (record { same = e }) w

-- what is left after the first `used` bytes of l lies in the input too
pub record RestIn (base : ℕ) (l : List ℕ) (p used : ℕ) : Type 0 where
  pub inside : used ≤ length l
  pub low : base + p + length l ≤ longest
  pub rest : length (take (length l - used) (drop used l)) ≡ length l - used

-- it does where the first bytes are there
pub rest_in : {base p used : ℕ} {l : List ℕ} → used ≤ length l → base + p + length l ≤ longest → RestIn base l p used
rest_in {base} {p} {used} {l} h low = record { inside = h; low = low; rest = rw tail (length-drop used l) }

-- ---- packets

-- an accepted packet starts as a message or a bundle does
pub accepted-start : (base : ℕ) (l : List ℕ) (p : ℕ) → PacketAccepted (read_packet base l p) → StartAccepted (start_of l p)
accepted-start base l p w = by-start (start_of l p) refl
  where
    by-start : (s : Start) → s ≡ start_of l p → StartAccepted s
    by-start (start.Message n used) e = tt
    by-start (start.Bundle used) e = tt
    by-start (Err k) e = accepted-not w (starts-refused base l p e)

-- the packet l at p begins with an address of n bytes, which takes `used`
pub record MessageIn (base : ℕ) (l : List ℕ) (p n used : ℕ) : Type 0 where
  pub starts : start.Message n used ≡ start_of l p
  pub address : n < used
  pub left : RestIn base l p used

pub message-in : {base p n used : ℕ} {l : List ℕ} → start.Message n used ≡ start_of l p → base + p + length l ≤ longest
    → MessageIn base l p n used
message-in {base} {p} {n} {used} {l} e low =
    let w = message-start-in l p e in
    record { starts = e; address = w.0; left = rest_in w.1 low }

-- the start that was read is a message's
pub message-read : {base p n used : ℕ} {l : List ℕ} {x : PacketStart} {r : Start} → Some x ≡ result_ok r → r ≡ start_of l p
    → x ≡ first.Message n used → base + p + length l ≤ longest → MessageIn base l p n used
message-read e z m low = message-in (ap Ok (sym m) ∙ was-ok e z) low

-- it is the message that follows
pub message-past : {base p n used : ℕ} {item : Item} {l : List ℕ} → MessageIn base l p n used → item ≡ message_item (base + p) n
    → Past (read_packet base l p) used (read_message base item (take (length l - used) (drop used l)) (p + used))
message-past {base} {p} {n} {used} {item} {l} w d = record { same = starts-message base l p w.starts ∙ rw (tail, d) }

-- the packet l at p begins with "#bundle", which takes `used`
pub record BundleIn (base : ℕ) (l : List ℕ) (p used : ℕ) : Type 0 where
  pub starts : start.Bundle used ≡ start_of l p
  pub some : 0 < used
  pub left : RestIn base l p used

pub bundle-in : {base p used : ℕ} {l : List ℕ} → start.Bundle used ≡ start_of l p → base + p + length l ≤ longest → BundleIn base l p used
bundle-in {base} {p} {used} {l} e low =
    let w = bundle-start-in l p e in
    record { starts = e; some = w.0; left = rest_in w.1 low }

-- the start that was read is a bundle's
pub bundle-read : {base p used : ℕ} {l : List ℕ} {x : PacketStart} {r : Start} → Some x ≡ result_ok r → r ≡ start_of l p
    → x ≡ first.Bundle used → base + p + length l ≤ longest → BundleIn base l p used
bundle-read e z b low = bundle-in (ap Ok (sym b) ∙ was-ok e z) low

-- it is the bundle that follows
pub bundle-past : {base p used : ℕ} {l : List ℕ} → BundleIn base l p used
    → Past (read_packet base l p) used (read_bundle base (base + p) (take (length l - used) (drop used l)) (p + used))
bundle-past {base} {p} {used} {l} w = record { same = starts-bundle base l p w.starts ∙ rw tail }
