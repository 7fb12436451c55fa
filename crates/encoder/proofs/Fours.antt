-- What the encoders write is a multiple of four bytes long.
use mathlib.Core.Path.{◌≡◌}
use mathlib.Core.Bool.{Bool, true, false, cond}
use mathlib.Core.List.{List, ◌++◌}
use Prim.Native.Nat.{ℕ, ◌%◌}
use native.Mathlib.Omega.{arith}
use lib.Dec.{leb}
use lib.ListN.{length, drop}
use Rattle.refusal.specs.declared.Refusal.{Refusal}
use Rattle.refusal.specs.declared.Refusal.TheVariants.{TooLong, Unreadable, TooDeep, BadTable, OutputShort}
use Rattle.refusal.specs.declared.Fault.TheVariants.{NotUtf8}
use Rattle.utf8.specs.Derive.{utf8}
use Rattle.node.specs.Forest.{Forest, nil, node, depth}
use Rattle.strings.specs.Atomic.{osc_string}
use Rattle.writers.specs.Osc.{write_packet}
use Rattle.edition.specs.declared.Edition.{Edition}
use Rattle.encoder.specs.Outcome.{Outcome, refuse, bytes_outcome, unframed, length_before, framed_by, tree_outcome, string_outcome}
use Rattle.encoder.specs.Outcome.{Encodes, malformed, formed, InFours}
use Rattle.std.specs.Prelude.{Ok}
use Rattle.strings.proofs.Lengths.{string-even}
use Rattle.writers.proofs.Lengths.{packet-even, element-even}
use Rattle.wire.specs.Limits.{longest, deepest}
use Rattle.node.specs.declared.record.Item.{Item}
use Rattle.wire.proofs.Choices.{by-test}

-- what `encode_tcp` writes is a multiple of four bytes long
pub framed-even : (edition : Edition) (source : List ℕ) (item : Item) (inside : Forest)
    → length (framed_by edition item.kind (write_packet source item inside)) % 4 ≡ 0
framed-even edition source item inside =
    let e = packet-even source item inside in
    by-test (λ (bs : List ℕ). length bs % 4 ≡ 0) (length_before edition item.kind) (λ _. element-even (write_packet source item inside) e)
    (λ _. e)

refuse-even : (x : Refusal) (out : List ℕ) → InFours (refuse x out)
refuse-even x out n e = let z : ◌≡◌ {A = ℕ} 0 1 = cc in absurd (omega arith)

cond-even : (x : Bool) (r s : Outcome) → InFours r → InFours s → InFours (cond x r s)
cond-even true r s p q = p
cond-even false r s p q = q

write-even : (bs out : List ℕ) → length bs % 4 ≡ 0 → InFours (bytes_outcome bs out)
unfolding bytes_outcome
write-even bs out h =
    let done : Outcome = record { answer = Ok (length bs); out = bs ++ drop (length bs) out } in
    cond-even (leb (length bs) longest) (cond (leb (length bs) (length out)) done (refuse OutputShort out)) (refuse TooLong out)
    (cond-even (leb (length bs) (length out)) done (refuse OutputShort out) (λ n e. let q : length bs ≡ n = cc in rw (← q) h)
    (refuse-even OutputShort out))
    (refuse-even TooLong out)

encodes-even : (frame : ℕ → List ℕ → List ℕ)
    → ((source : List ℕ) (item : Item) (inside : Forest) → length (frame item.kind (write_packet source item inside)) % 4 ≡ 0)
    → (t : List ℕ) (count : ℕ) (source out : List ℕ) (r : Outcome) → Encodes frame t count source out r → InFours r
unfolding tree_outcome
encodes-even frame h t count source out r (malformed n e) = rw e (refuse-even BadTable out)
encodes-even frame h t count source out r (formed item inside tree e) =
    rw e
    (cond-even (leb (depth (node item inside nil)) deepest) (bytes_outcome (frame item.kind (write_packet source item inside)) out)
    (refuse TooDeep out)
    (write-even (frame item.kind (write_packet source item inside)) out (h source item inside))
    (refuse-even TooDeep out))

-- `encode` answers a multiple of four
pub encode_fours : (t : List ℕ) (count : ℕ) (source out : List ℕ) (r : Outcome) → Encodes unframed t count source out r
    → InFours r
encode_fours = encodes-even unframed packet-even

-- `encode_tcp` answers a multiple of four
pub encode_tcp_fours : (edition : Edition) (t : List ℕ) (count : ℕ) (source out : List ℕ) (r : Outcome)
    → Encodes (framed_by edition) t count source out r → InFours r
encode_tcp_fours edition = encodes-even (framed_by edition) (framed-even edition)

-- `encode_string` answers a multiple of four
pub encode_string_fours : (text out : List ℕ) → InFours (string_outcome text out)
unfolding string_outcome
encode_string_fours text out =
    cond-even (utf8 text) (bytes_outcome (osc_string text) out) (refuse (Unreadable NotUtf8) out)
    (write-even (osc_string text) out (string-even text)) (refuse-even (Unreadable NotUtf8) out)
