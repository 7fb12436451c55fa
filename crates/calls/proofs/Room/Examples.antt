-- Examples, computed: calls that meet the hypotheses of `more_room` and of the records' bound, and some that are refused with 10 and
-- 13, over the packets of crates/table/proofs/Examples.antt.
use mathlib.Core.Path.{◌≡◌, refl}
use mathlib.Core.List.{List}
use Prim.Native.Nat.{ℕ, ◌*◌}
use native.Mathlib.Omega.{arith}
use lib.ListN.{replicate}
use Rattle.refusal.specs.declared.Refusal.TheVariants.{TableFull, DepthLimit}
use Rattle.wire.specs.Number.{number}
use Rattle.node.specs.Forest.{size, depth, snoc}
use Rattle.node.specs.Tags.{class_of, sort_of}
use Rattle.node.specs.Records.{record_size}
use Rattle.text.specs.Text.{read_text}
use Rattle.argument.specs.Argument.{read_arg}
use Rattle.argument.specs.Dirt.{kept_padding, packets_padding}
use Rattle.arguments.specs.Arguments.{read_tags}
use Rattle.heads.specs.Heads.{size_of, prefix_of}
use Rattle.packet.specs.FirstText.{start_of}
use Rattle.packet.specs.Packet.{read_message, bundle_by, element_by, elements_by, packet_by, packet_at, read_packet}
use Rattle.edition.specs.declared.Edition.TheVariants.{Rosc}
use Rattle.framing.specs.Framing.{udp, read_frame, frames_at, tcp_vec}
use Rattle.edition.specs.declared.Framing.TheVariants.{Udp, TcpVec}
use Rattle.answering.specs.Limits.{decoded}
use Rattle.results.specs.Results.{DecodeAnswer, Packets}
use Rattle.std.specs.Prelude.{Err}
use Rattle.calls.specs.Words.{NotFull}
use Rattle.calls.specs.Demands.{answer_to, Unchanged}
use Rattle.table.proofs.Examples.{nested, two}
use Rattle.calls.proofs.Room.MoreRoom.{more_room}
use Rattle.calls.proofs.Room.RecordsHold.{records_hold}

-- a table of n records, all zero
abbrev pub blank : ℕ → List ℕ
blank n = replicate (record_size * n) 0

-- the bundle in a bundle: seven records, depth 2
pub nested-answer : answer_to udp 2 nested (blank 7) ≡ Packets 7 0 0
unfolding number size depth snoc class_of sort_of read_text read_arg read_tags start_of size_of read_message bundle_by element_by elements_by packet_by
    packet_at read_packet udp decoded kept_padding packets_padding
nested-answer = refl

-- the list of two frames: twelve
pub two-answer : answer_to tcp_vec 2 two (blank 12) ≡ Packets 12 0 0
unfolding number size depth snoc class_of sort_of read_text read_arg read_tags start_of size_of prefix_of read_message bundle_by element_by
    elements_by packet_by packet_at read_packet read_frame frames_at tcp_vec decoded kept_padding packets_padding
two-answer = refl

not_full : {r : DecodeAnswer} {count left dirty : ℕ} → r ≡ Packets count left dirty → NotFull r
not_full e =
    record {
      not_9 = λ p. let z : ◌≡◌ {A = ℕ} 0 1 = cc in omega arith;
      not_9_there = λ n left dirt at p. let z : ◌≡◌ {A = ℕ} 0 1 = cc in omega arith;
      not_10 = λ p. let z : ◌≡◌ {A = ℕ} 0 1 = cc in omega arith;
    }

-- a higher limit and a larger table
higher : Unchanged Udp nested 2 64 (blank 7) (blank 9)
higher = more_room Udp nested 2 64 (blank 7) (blank 9) (omega arith) (λ _. omega arith) (omega arith) (not_full nested-answer)

list-higher : Unchanged (TcpVec Rosc) two 2 64 (blank 12) (blank 13)
list-higher = more_room (TcpVec Rosc) two 2 64 (blank 12) (blank 13) (omega arith) (λ _. omega arith) (omega arith) (not_full two-answer)

-- a limit of 65 is refused with 13, in a table that has too few records
over : answer_to udp 65 nested (blank 1) ≡ Err DepthLimit
unfolding decoded kept_padding packets_padding
over = refl

-- 13 is neither 9 nor 10
limit-not-full : {r : DecodeAnswer} → r ≡ Err DepthLimit → NotFull r
limit-not-full e =
    record {
      not_9 = λ p. let z : ◌≡◌ {A = ℕ} 0 1 = cc in omega arith;
      not_9_there = λ n left dirt at p. let z : ◌≡◌ {A = ℕ} 0 1 = cc in omega arith;
      not_10 = λ p. let z : ◌≡◌ {A = ℕ} 0 1 = cc in omega arith;
    }

-- a larger table does not take it back, nor does a limit of 70
still-over : Unchanged Udp nested 65 65 (blank 1) (blank 9)
still-over =
    more_room Udp nested 65 65 (blank 1) (blank 9) (omega arith) (λ g. g) (omega arith) (limit-not-full over)

over-by-more : Unchanged Udp nested 65 70 (blank 1) (blank 9)
over-by-more =
    more_room Udp nested 65 70 (blank 1) (blank 9) (omega arith) (λ g. omega arith) (omega arith) (limit-not-full over)

-- six records are not enough, so the bound says something
full : decoded udp 6 64 nested ≡ Err TableFull
unfolding number size depth snoc class_of sort_of read_text read_arg read_tags start_of size_of read_message bundle_by element_by elements_by packet_by
    packet_at read_packet udp decoded kept_padding packets_padding
full = refl

-- 76 bytes, 76 records; 120 bytes of a list, 120
enough : decoded udp 76 64 nested ≡ Err TableFull → ⊥
enough = records_hold Udp nested 64 76 (omega arith)

list-enough : decoded tcp_vec 120 64 two ≡ Err TableFull → ⊥
list-enough = records_hold (TcpVec Rosc) two 64 120 (omega arith)
