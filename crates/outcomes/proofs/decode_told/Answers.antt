use mathlib.Core.Path.{◌≡◌, ap, ◌∙◌}
use Prim.Native.Nat.{ℕ, ◌*◌, ◌≤◌, min}
use native.Mathlib.Omega.{arith}
use lib.ListN.{length}
use borrow.Author.Rules.{rules}
use Rattle.framing.specs.Framing.{rule_of}
use Rattle.answering.specs.Limits.{decoded, forest_of}
use Rattle.results.specs.Results.{DecodeAnswer}
use Rattle.node.specs.Records.{record_size, most_records, records_of}
use Rattle.telling.specs.Replies.{decoded_line}
use Rattle.telling.proofs.Told.{says-as}
use Rattle.outcomes.specs.Kept.{roots_of, has_table, kept_trees}
use Rattle.commands.specs.Options.{depth_for}
use Rattle.outcomes.specs.Told.{decoded_with}
use Rattle.outcomes.proofs.Answers.{leaves, answered, answer-fits, records-in, stand, bytes-kept, bytes_counted, packets-told}
use Rattle.outcomes.proofs.decode_told.Goals as goal

-- the records that are asked for
room_asked : {n m k : ℕ} → n ≡ min m most_records → m ≡ k → n ≡ min k most_records
room_asked e f = e ∙ ap (λ (x : ℕ). min x most_records) f

pub root_count-packets-requires : goal.root_count-packets-requires
root_count-packets-requires c =
    let a = c.args in
    let msg = a.msg.now in
    let rule = rule_of a.framing (depth_for a.options) in
    let e = rw c.depth.ensures at c.decode-answer.ensures in
    records-in (leaves c.decode-answer.result (forest_of (rule msg)) _ _ e.left)
    (answer-fits rule (depth_for a.options) msg a.table.now c.min-records.result (search rules) e.answered) c.kept_count-count.ensures

pub overflow_mul-bytes : goal.overflow_mul-bytes
overflow_mul-bytes c =
    let a = c.args in
    let h : c.min-records.result * record_size ≤ length a.table.now = omega (arith, c.requires, (room_asked c.min-records.ensures c.records.ensures)) in
    let rule = rule_of a.framing (depth_for a.options) in
    let x = answer-fits rule (depth_for a.options) a.msg.now a.table.now c.min-records.result h (rw c.depth.ensures at c.decode-answer.ensures).answered in
    record { fits = omega (arith, x.few, c.kept_count-count.ensures, (room_asked c.min-records.ensures c.records.ensures)) }

pub returns : goal.returns
returns c =
    let a = c.args in
    let msg = a.msg.now in
    let rule = rule_of a.framing (depth_for a.options) in
    let f = forest_of (rule msg) in
    let e = rw c.depth.ensures at c.decode-answer.ensures in
    let d = c.decode-answer.result in
    let h : c.min-records.result * record_size ≤ length a.table.now = omega (arith, c.requires, (room_asked c.min-records.ensures c.records.ensures)) in
    let r : d ≡ decoded_with a.framing a.options msg
    = answered rule (depth_for a.options) msg a.table.now c.min-records.result h e.answered
    ∙ ap (λ (n : ℕ). decoded rule n (depth_for a.options) msg) (room_asked c.min-records.ensures c.records.ensures) in
    let x = answer-fits rule (depth_for a.options) msg a.table.now c.min-records.result h e.answered in
    let l = leaves d f _ _ e.left in
    let n : c.root_count-packets.result ≡ roots_of (kept_trees d f)
    = c.root_count-packets.ensures (kept_trees d f) (stand l x c.kept_count-count.ensures (omega (arith, (room_asked c.min-records.ensures c.records.ensures)))) in
    record {
      kept = c.has_table.ensures ∙ ap has_table r;
      counts = bytes_counted l x c.kept_count-count.ensures;
      bytes = bytes-kept l x c.kept_count-count.ensures ∙ ap (λ (y : DecodeAnswer). records_of 0 (kept_trees y f)) r;
      says = says-as
          (ap (λ (m : ℕ). decoded_line m (length msg) d) n ∙ packets-told d f (length msg)
          ∙ ap (decoded_line (roots_of f) (length msg)) r)
          c.tell_decoded-n.ensures;
    }
