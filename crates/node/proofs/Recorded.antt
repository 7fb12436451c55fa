-- A record as it is written and as it is read, and how many bytes the records of a forest take.
use mathlib.Core.Path.{◌≡◌, refl}
use mathlib.Core.List.{List, [], ◌∷◌, ◌++◌, append_assoc}
use Prim.Native.Nat.{ℕ, ◌+◌, ◌-◌, ◌*◌, ◌/◌, ◌%◌, ◌^◌, ◌<◌, ◌≤◌}
use native.Mathlib.Omega.{arith}
use lib.ListN.{length, get_or, drop, length-append}
use borrow.Rule.Slice.PartMut.{mid_of, put_mid}
use Rattle.wire.specs.Number.{number, bytes}
use Rattle.wire.specs.Wrote.{Wrote}
use Rattle.node.specs.Records.{record_size, record_of, records_of, kind_at, zeros_at, a_at, b_at, start_at, record_start, item_at}
use Rattle.node.specs.declared.record.Item.{Item}
use Rattle.node.specs.Forest.{Forest, nil, node, size}
use Rattle.wire.proofs.Numbers.{length-bytes, four_bytes, number-parts, number_small}
use Rattle.wire.proofs.Parts.{drop-small}
use Rattle.wire.proofs.Writers.{wrote-lent}

-- a kind and three zeros are the bytes of one number
pub kind-bytes : (kind : ℕ) → kind < 256 → bytes 4 (kind * 0x100_0000) ≡ kind ∷ 0 ∷ 0 ∷ 0 ∷ []
kind-bytes kind h =
    let a : kind * 0x100_0000 / 0x100_0000 % 256 ≡ kind = omega arith in
    let b : kind * 0x100_0000 / 0x1_0000 % 256 ≡ 0 = omega arith in
    let c : kind * 0x100_0000 / 0x100 % 256 ≡ 0 = omega arith in
    let d : kind * 0x100_0000 % 256 ≡ 0 = omega arith in
    rw (four_bytes, a, b, c, d)

-- a record is as long as every record
pub length-record : (item : Item) (end : ℕ) → length (record_of item end) ≡ record_size
unfolding record_of
length-record item end = simp (length-append, length-bytes)

-- the five steps of a record are its bytes
record-joined : (item : Item) (end : ℕ)
    → ((((item.kind ∷ 0 ∷ 0 ∷ 0 ∷ []) ++ bytes 4 end) ++ bytes 4 item.a) ++ bytes 4 item.b) ++ bytes 4 item.start
    ≡ record_of item end
unfolding record_of
record-joined item end = simp append_assoc

-- a record is written in five steps, each after the one before
pub record-written : (item : Item) (end : ℕ) {o₀ o₁ p₁ p₂ p₃ p₄ : List ℕ}
    → (let o₂ = put_mid 4 (length o₁ - 4) o₁ p₁ in let o₃ = put_mid 8 (length o₂ - 8) o₂ p₂ in
    let o₄ = put_mid 12 (length o₃ - 12) o₃ p₃ in
    Wrote (item.kind ∷ 0 ∷ 0 ∷ 0 ∷ []) o₀ o₁
    → Wrote (bytes 4 end) (mid_of 4 (length o₁ - 4) o₁) p₁
    → Wrote (bytes 4 item.a) (mid_of 8 (length o₂ - 8) o₂) p₂
    → Wrote (bytes 4 item.b) (mid_of 12 (length o₃ - 12) o₃) p₃
    → Wrote (bytes 4 item.start) (mid_of 16 (length o₄ - 16) o₄) p₄
    → Wrote (record_of item end) o₀ (put_mid 16 (length o₄ - 16) o₄ p₄))
record-written item end w₁ w₂ w₃ w₄ w₅ =
    rw (← record-joined item end)
    (wrote-lent 16
    (wrote-lent 12 (wrote-lent 8 (wrote-lent 4 w₁ refl w₂) (simp length-bytes) w₃) (simp (length-append, length-bytes)) w₄)
    (simp (length-append, length-bytes)) w₅)

-- the three bytes after a byte, from the number of all four
pub zeros-read : (t : List ℕ) (i : ℕ) → ((j : ℕ) → get_or t j 0 < 256) → record_start i + 4 ≤ length t
    → number 4 (drop (record_start i) t) % 0x100_0000 ≡ zeros_at t i
unfolding zeros_at
zeros-read t i b h =
    let p : number 4 (drop (record_start i) t) ≡ number 1 (drop (record_start i) t) * 256 ^ 3 + number 3 (drop (record_start i + 1) t)
    = number-parts 1 3 t (record_start i) h in
    let s : number 3 (drop (record_start i + 1) t) < 256 ^ 3
    = number_small 3 (drop (record_start i + 1) t) (drop-small (record_start i + 1) t b) in
    omega arith

-- an item, number by number
pub item-read : (t : List ℕ) (i : ℕ) {k a b s : ℕ} → k ≡ kind_at t i → a ≡ a_at t i → b ≡ b_at t i → s ≡ start_at t i
    → ◌≡◌ {A = Item} (record { kind = k; a = a; b = b; start = s }) (item_at t i)
item-read t i o p q r = rw (o, p, q, r)

-- how many bytes the records of a forest take
pub length-records : (i : ℕ) (f : Forest) → length (records_of i f) ≡ record_size * size f
unfolding records_of size
length-records i nil = refl
length-records i (node item inside rest) =
    simp (length-append, length-record, length-records (i + 1) inside, length-records (i + 1 + size inside) rest) (omega arith)
