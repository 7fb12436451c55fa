-- Demand 1 of the decoders and of `read_portion`.
use mathlib.Core.Path.{◌≡◌, refl}
use mathlib.Core.Bool.{true}
use mathlib.Core.List.{List}
use Prim.Native.Nat.{ℕ, ◌<◌}
use lib.ListN.{length}
use Rattle.edition.specs.declared.Edition.TheVariants.{Standard}
use Rattle.edition.specs.declared.Framing.{Framing}
use Rattle.edition.specs.declared.Framing.TheVariants.{TcpVec}
use Rattle.node.specs.Forest.{Forest, size, depth}
use Rattle.node.specs.Records.{capacity}
use Rattle.node.specs.Tags.{among}
use Rattle.argument.specs.Dirt.{dirty_in}
use Rattle.framing.specs.Framing.{Whole, trees, waiting, refusal, stopped, tcp_vec2, rule_of}
use Rattle.answering.specs.Limits.{order_of, stops_by, waits_by, limited, forest_of, tabled}
use Rattle.results.specs.Results.{DecodeAnswer, Packets, Stopped, Waiting}
use Rattle.std.specs.Prelude.{Err}
use Rattle.portions.specs.Portions.{portion_of, step_of, table_by}
use Rattle.contract.specs.Endings.{by_decoded}
use Rattle.contract.specs.Contract.{Contract, Fruitless, Lists, Demand1}
use Rattle.calls.specs.Calls.{decoding, read_portion, contract_of}
use Rattle.calls.specs.Demands.{answer_to, table_after}
use Rattle.contract.proofs.OneEnding.{WellEnded, one-ending}
use Rattle.decoder.proofs.Chosen.{by-decoded, by-bounded}
use Rattle.decoder.proofs.Numbers.{Among, rule-among, nine, limits}
use Rattle.decoder.proofs.Only.{decodes-only, decodes-met}

-- a decoder that gives no packets leaves the table as it was
decoded-same : (r : DecodeAnswer) (f : Forest) (table : List ℕ) → Fruitless (by_decoded r) → tabled r f table ≡ table
decoded-same (Packets count left dirty) f table n = absurd n
decoded-same (Stopped count left dirty k at) f table n = absurd n
decoded-same Waiting f table n = refl
decoded-same (Err k) f table n = refl

module _ (framing : Framing) (msg table : List ℕ) (limit : ℕ) where
  abbrev call : Contract
  call = decoding framing msg table limit

  limited-listed : (w : Whole) → Among (waits_by framing) (order_of framing) (stops_by framing) w
      → (limit < depth (forest_of w) → among 9 (order_of framing) ≡ true) → Lists call (limited (capacity table) limit msg w)
  limited-listed (trees f left) h n =
      by-bounded (Lists call) (capacity table) limit f (Packets (size f) left (dirty_in msg f)) n (λ g. (limits framing).2) (λ g k. tt)
  limited-listed waiting h n = h
  limited-listed (refusal k) h n = h
  limited-listed (stopped f left k at) h n =
      by-bounded (Lists call) (capacity table) limit f (Stopped (size f) left (dirty_in msg f) k at) n (λ g. (limits framing).2)
      (λ g j. h)

  decoded-listed : Lists call (answer_to (rule_of framing limit) limit msg table)
  decoded-listed =
      let rule = rule_of framing limit in
      by-decoded (Lists call) rule (capacity table) limit msg (λ g. (limits framing).0) (λ g. (limits framing).1)
      (λ g k. limited-listed (rule msg) (rule-among framing limit msg) (nine framing limit msg))

  pub decode-demand : Demand1 call
  decode-demand =
      let rule = rule_of framing limit in
      let r = answer_to rule limit msg table in
      one-ending call r (table_after rule limit msg table) decodes-met (λ s l m. decodes-only m decodes-met)
      (decoded-listed, decoded-same r (forest_of (rule msg)) table)

-- ---- a step over a stream

module _ (bytes table : List ℕ) (limit : ℕ) where
  abbrev stepping : Contract
  stepping = contract_of (read_portion bytes table limit)

  -- it ends as `decode_tcp_vec` does in edition 2
  portion-ends : (r : DecodeAnswer) (n : ℕ) (f : Forest) → Lists (decoding (TcpVec Standard) bytes table limit) r
      → WellEnded stepping (portion_of n r) (tabled r f table)
  portion-ends (Packets count left dirty) n f h = (tt, λ x. absurd x)
  portion-ends (Stopped count left dirty k at) n f h = (h, λ x. absurd x)
  portion-ends Waiting n f h = (tt, λ x. absurd x)
  portion-ends (Err k) n f h = (h, λ _. refl)

  pub portion-demand : Demand1 stepping
  portion-demand =
      one-ending stepping (step_of limit bytes table) (table_by limit bytes table) (record { answers = refl; leaves = refl })
      (λ r l m. (m.answers, m.leaves))
      (portion-ends (answer_to (tcp_vec2 limit) limit bytes table) (length bytes) (forest_of (tcp_vec2 limit bytes))
      (decoded-listed (TcpVec Standard) bytes table limit))
