-- The round trip as a fact about calls: `encode`, then `decode_udp` of what was written.
use mathlib.Core.Path.{◌≡◌, ap, ◌∙◌}
use mathlib.Core.List.{List}
use Prim.Native.Nat.{ℕ, ◌<◌, ◌≤◌}
use native.Mathlib.Omega.{arith}
use lib.ListN.{length, take}
use Rattle.refusal.specs.declared.Refusal.{Refusal}
use Rattle.wire.specs.Limits.{deepest}
use Rattle.node.specs.Forest.{Forest}
use Rattle.node.specs.declared.record.Item.{Item}
use Rattle.framing.specs.Framing.{udp}
use Rattle.answering.specs.Limits.{Decodes}
use Rattle.results.specs.Results.{DecodeAnswer, Encoded}
use Rattle.std.specs.Prelude.{Err, Ok}
use Rattle.writers.specs.Osc.{write_packet}
use Rattle.encoder.specs.Outcome.{Outcome, Encodes, unframed}
use Rattle.standards.specs.Trip.{Playable}
use Rattle.demands.specs.There.{Returns}
use Rattle.standards.proofs.Osc10.Written.{outcome-is, written_all}
use Rattle.standards.proofs.Trip.RoundTrip.{round_trip}

module _ (t : List ℕ) (count : ℕ) (source out : List ℕ) {e : Encoded} {out' : List ℕ}
    (enc : Encodes unframed t count source out (record { answer = e; out = out' })) where
  -- with room, the answer is the packet's length
  all-written : {item : Item} {inside : Forest} → Playable t count source item inside
      → length (write_packet source item inside) ≤ length out
      → e ≡ Ok (length (write_packet source item inside))
  all-written {item} {inside} p h =
      ap (λ (o : Outcome). o.answer) (outcome-is unframed p.formed enc)
      ∙ written_all unframed source out item inside p.shallow p.fits h

  -- `encode` with room does not refuse a playable table, so what comes back then is not spoken of
  pub not-refused : {x : Refusal} {r : DecodeAnswer} (back back' : List ℕ) → e ≡ Err x → Returns t count source out back r out' back'
  not-refused back back' q item inside p h room =
      let w = all-written p h in
      let z : ◌≡◌ {A = ℕ} 0 1 = cc in
      absurd (omega arith)

  -- nor does it answer more bytes than the output has
  pub within-output : {n : ℕ} {r : DecodeAnswer} (back back' : List ℕ) → e ≡ Ok n → length out' ≡ length out → length out' < n
      → Returns t count source out back r out' back'
  within-output {n} back back' q l g item inside p h room =
      let w = all-written p h in
      let m : n ≡ length (write_packet source item inside) = cc in
      absurd (omega arith)

  -- what was written comes back as the same count and the same table
  pub comes_back : {n : ℕ} (r : DecodeAnswer) (back back' : List ℕ) → e ≡ Ok n → Decodes udp (take n out') back deepest r back'
      → Returns t count source out back r out' back'
  comes_back {n} r back back' q d item inside p h room =
      let w = all-written p h in
      let m : n ≡ length (write_packet source item inside) = cc in
      let P = round_trip t count source item inside p out h (record { answer = e; out = out' }) enc back room in
      let k : P.n ≡ length (write_packet source item inside) = let v = P.written in cc in
      let d' : Decodes udp (take (length (write_packet source item inside)) out') back deepest r back' = rw m at d in
      record {
        answer = d'.answered ∙ (rw k at P.decoded);
        same = rw (d'.left, d'.answered) (rw k at P.same);
      }
