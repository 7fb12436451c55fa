-- A message is its own record and those of its arguments, after the type text.
use mathlib.Core.Path.{◌≡◌, refl, ap, sym, ◌∙◌}
use mathlib.Core.List.{List, ◌++◌}
use Prim.Native.Nat.{ℕ, ◌+◌, ◌-◌, ◌*◌, ◌<◌, ◌≤◌}
use native.Mathlib.Omega.{arith}
use lib.ListN.{length, take, drop}
use borrow.Rule.Slice.PartMut.{mid_of, put_mid}
use Rattle.refusal.specs.declared.Fault.{Fault}
use Rattle.wire.specs.Limits.{longest}
use Rattle.wire.specs.Wrote as written
use Rattle.wire.proofs.Parts.{tail}
use Rattle.wire.proofs.Writers.{wrote-lent}
use Rattle.node.specs.Forest.{Forest, nil, node, size}
use Rattle.node.specs.declared.record.Item.{Item}
use Rattle.node.specs.Records.{record_size, most_records, record_of, records_of, stored, TableRoom}
use Rattle.node.proofs.Recorded.{length-record}
use Rattle.node.proofs.Stored.{wrote-stored, node-records}
use Rattle.text.specs.CodeFound.{TextFound}
use Rattle.text.specs.Text.{read_text}
use Rattle.fill.specs.Results.{Wrote}
use Rattle.wire.proofs.Payloads.{ok-is}
use Rattle.arguments.specs.declared.MeasuredArgs.{MeasuredArgs}
use Rattle.std.specs.Prelude.{Err, Ok, Some}
use Rattle.std.specs.Result.{result_ok}
use Rattle.text.specs.declared.FoundText.{FoundText}
use Rattle.text.specs.Results.{Found, Text}
use Rattle.arguments.specs.Results as measure
use Rattle.text.proofs.Within.{found_in}
use Rattle.arguments.specs.Arguments.{Args, refused, args, read_args}
use Rattle.arguments.specs.CodeReadings.{measured, kept_of, ArgsAccepted, ArgsRoom}
use Rattle.arguments.proofs.Counts.{measured-within}
use Rattle.heads.specs.Heads.{tags_in}
use Rattle.heads.proofs.Heads.{types-tags, args_fit}
use Rattle.packet.specs.Packet.{fault, after, message_with, read_message}
use Rattle.packet.proofs.Within.{types-found, types-lack}
use Rattle.fill.specs.CodeFill.{tree_of, reread, Fills, PacketAccepted, Known}
use Rattle.fill.proofs.Fills.{was-ok, accepted-not, Past, past-accepted, past-fills, RestIn, rest_in}

-- a message's own record and its arguments', where it is accepted
module _ {count : ℕ} (item : Item) (o : Args) (k : Known (message_with item o) count) where
  -- room for the message leaves room for its arguments in what follows its own record
  pub put-room : {i : ℕ} {T P : List ℕ} → TableRoom (tree_of (message_with item o)) i T → length P ≡ length T - record_size
      → ArgsRoom o (i + 1) P
  unfolding size
  put-room {i} {T} {P} w e = by_args o k.some k.records w.fits w.low
    where
      by_args : (o : Args) → 1 ≤ count → size (tree_of (message_with item o)) ≡ count
          → record_size * size (tree_of (message_with item o)) ≤ length T
          → i + size (tree_of (message_with item o)) ≤ most_records → ArgsRoom o (i + 1) P
      by_args (refused j) h c f l = absurd (omega arith)
      by_args (args f u) h c g l = record { accepted = tt; room = record { fits = omega arith; low = omega arith } }

  -- its record was written, and after that its arguments'
  pub put-stored : {T T₁ P : List ℕ} (i : ℕ) → written.Wrote (record_of item (i + count)) T T₁
      → written.Wrote (records_of (i + 1) (kept_of o)) (mid_of record_size (length T₁ - record_size) T₁) P
      → put_mid record_size (length T₁ - record_size) T₁ P ≡ stored i (tree_of (message_with item o)) T
  unfolding size
  put-stored {T} {T₁} {P} i w v =
      by_args o k.some k.records (wrote-lent record_size w (length-record item (i + count)) v)
    where
      by_args : (o : Args) → 1 ≤ count → size (tree_of (message_with item o)) ≡ count
          → written.Wrote (record_of item (i + count) ++ records_of (i + 1) (kept_of o)) T
          (put_mid record_size (length T₁ - record_size) T₁ P)
          → put_mid record_size (length T₁ - record_size) T₁ P ≡ stored i (tree_of (message_with item o)) T
      by_args (refused j) h c w = absurd (omega arith)
      by_args (args f u) h c w =
          let z : i + count ≡ i + 1 + size f = omega arith in
          wrote-stored i (node item f nil) (rw (z, node-records i item f) at w)

-- an accepted message has a type text
pub accepted-types : (base : ℕ) (item : Item) (l : List ℕ) (p : ℕ) → PacketAccepted (read_message base item l p) → TextFound l p
accepted-types base item l p w = by-text (read_text l p) refl
  where
    by-text : (t : Text) → t ≡ read_text l p → TextFound l p
    by-text (Ok text) e = (text.length, text.used, sym e)
    by-text (Err k) e = absurd (accepted-not w (types-lack base item l p e))

-- the message l at p has a type text of m bytes, which takes `used`
pub record TypesIn (base : ℕ) (l : List ℕ) (p m used : ℕ) : Type 0 where
  pub found : Found m used ≡ read_text l p
  pub text : m < used
  pub left : RestIn base l p used

pub types-in : {base p m used : ℕ} {l : List ℕ} → Found m used ≡ read_text l p → base + p + length l ≤ longest → TypesIn base l p m used
types-in {base} {p} {m} {used} {l} e low =
    let w = found_in l p e in
    record { found = e; text = w.0; left = rest_in w.1 low }

-- the type text that was read
pub types-read : {base p : ℕ} {l : List ℕ} {text : FoundText} {r : Text} → Some text ≡ result_ok r → r ≡ read_text l p
    → base + p + length l ≤ longest → TypesIn base l p text.length text.used
types-read e z low = types-in (was-ok e z) low

-- once its tags are at hand
module _ {base p m used : ℕ} {l tags : List ℕ} (item : Item) (w : TypesIn base l p m used) (t : tags ≡ tags_in (take (m - 0) (drop 0 l)))
  where
    -- the arguments that follow
    abbrev following : Args
    following = read_args base tags (take (length l - used) (drop used l)) (p + used)

    -- the message is its record and its arguments
    pub args-past : Past (read_message base item l p) used (message_with item following)
    args-past = record { same = types-found base item l p w.found ∙ rw (tail, types-tags l m t) }

    -- a message is refused with its arguments
    pub args-refused : {k : Fault} (dirt : Forest → ℕ) → Err k ≡ measured dirt following → read_message base item l p ≡ fault k
    unfolding measured
    args-refused {k} dirt g = args-past.same ∙ by_args following g
      where
        by_args : (o : Args) → Err k ≡ measured dirt o → after used (message_with item o) ≡ fault k
        by_args (refused j) g = let z : k ≡ j = cc in rw z
        by_args (args f u) g = let z : ◌≡◌ {A = ℕ} 0 1 = cc in absurd (omega arith)

    -- an accepted message is known by how many records its arguments have
    pub counted-known : {count : ℕ} → PacketAccepted (read_message base item l p)
        → (ArgsAccepted following → count ≡ size (kept_of following)) → Known (message_with item following) (1 + count)
    unfolding size
    counted-known {count} a h = by_args following (past-accepted args-past a) h
      where
        by_args : (o : Args) → PacketAccepted (message_with item o) → (ArgsAccepted o → count ≡ size (kept_of o))
            → Known (message_with item o) (1 + count)
        by_args (refused j) w h = absurd w
        by_args (args f u) w h = let z : count ≡ size f = h tt in record { some = omega arith; records = omega arith }

    -- the arguments were measured
    module _ {count deep taken dirty : ℕ} (dirt : Forest → ℕ) (g : measure.Kept count deep taken dirty ≡ measured dirt following) where
      -- they are no more than the bytes of the type text, and take no more bytes than follow it
      pub kept-fits : (count ≤ m) × (taken ≤ length l - used)
      kept-fits =
          let k = measured-within dirt base _ _ _ g in
          let fit = args_fit l m used t in (omega arith, omega arith)

      -- their message is known
      pub kept-known : Known (message_with item following) (1 + count)
      unfolding measured size
      kept-known = by_args following g
        where
          by_args : (o : Args) → measure.Kept count deep taken dirty ≡ measured dirt o → Known (message_with item o) (1 + count)
          by_args (refused j) g = let z : ◌≡◌ {A = ℕ} 0 1 = cc in absurd (omega arith)
          by_args (args f u) g =
              let z : count ≡ size f = ap (λ (x : MeasuredArgs). x.count) (ok-is g) in
              record { some = omega arith; records = omega arith }

      kept-answer : Wrote (1 + count) (p + used + taken) ≡ reread (p + used) (message_with item following)
      unfolding measured
      kept-answer = by_args following g
        where
          by_args : (o : Args) → measure.Kept count deep taken dirty ≡ measured dirt o
              → Wrote (1 + count) (p + used + taken) ≡ reread (p + used) (message_with item o)
          by_args (refused j) g = let z : ◌≡◌ {A = ℕ} 0 1 = cc in absurd (omega arith)
          by_args (args f u) g =
              let z : count ≡ size f = ap (λ (x : MeasuredArgs). x.count) (ok-is g) in
              let y : taken ≡ u = ap (λ (x : MeasuredArgs). x.used) (ok-is g) in
              rw (z, y)

      -- the answer of a message that was written
      pub message-fills : {T' : List ℕ} (i : ℕ) (T : List ℕ) → T' ≡ stored i (tree_of (message_with item following)) T
          → Fills (read_message base item l p) p i T (Wrote (1 + count) (p + used + taken)) T'
      message-fills i T v = past-fills args-past (record { answered = kept-answer; table = v })
