-- What an answer with records shows of the input and of the table.
use mathlib.Core.Path.{◌≡◌, refl, sym, ap, subst, ◌∙◌}
use mathlib.Core.List.{List, ◌++◌}
use Prim.Native.Nat.{ℕ, ◌*◌, ◌^◌, ◌≤◌, ◌<◌}
use native.Mathlib.Omega.{arith}
use lib.ListN.{length, take, drop, length-append}
use lib.Seq.{take_at}
use Rattle.node.specs.Forest.{Forest, size}
use Rattle.node.specs.Records.{record_size, records_of, stored}
use Rattle.argument.specs.Dirt.{dirty_in}
use Rattle.framing.specs.Framing.{Whole, trees, waiting, refusal, stopped}
use Rattle.answering.specs.Limits.{limited, decoded, forest_of, tabled}
use Rattle.results.specs.Results.{DecodeAnswer, Packets, Stopped, Waiting}
use Rattle.std.specs.Prelude.{Err}
use Rattle.table.specs.Tree.{FieldsFit}
use Rattle.calls.specs.Words.{Gives}
use Rattle.calls.specs.Demands.{answer_to, table_after}
use Rattle.node.proofs.Recorded.{length-records}
use Rattle.table.proofs.Held.{Holds, records-held}
use Rattle.decoder.proofs.Chosen.{by-decoded, by-trees, by-bounded}
use Rattle.decoder.proofs.Answers.{no-packets}

-- the input is read as trees of so many nodes and so much dirty padding, and so many bytes are left
pub record Accepted (msg : List ℕ) (w : Whole) (count left dirty : ℕ) : Type 0 where
  pub read : w ≡ trees (forest_of w) left
  pub counts : size (forest_of w) ≡ count
  pub soils : dirty_in msg (forest_of w) ≡ dirty

-- the trees that an answer with records is given for have so many nodes and so much dirty padding
pub record Held (msg : List ℕ) (w : Whole) (count dirty : ℕ) : Type 0 where
  pub counts : size (forest_of w) ≡ count
  pub soils : dirty_in msg (forest_of w) ≡ dirty

module _ (count dirty : ℕ) where
  limited-held : (capacity limit : ℕ) (msg : List ℕ) (w : Whole) → Gives (limited capacity limit msg w) count dirty → Held msg w count dirty
  limited-held capacity limit msg (trees f n) e =
      by-bounded (λ r. Gives r count dirty → Held msg (trees f n) count dirty) capacity limit f (Packets (size f) n (dirty_in msg f))
      (λ h p. absurd p) (λ h p. absurd p) (λ h k p. record { counts = p.0; soils = p.1 }) e
  limited-held capacity limit msg (stopped f n k at) e =
      by-bounded (λ r. Gives r count dirty → Held msg (stopped f n k at) count dirty) capacity limit f
      (Stopped (size f) n (dirty_in msg f) k at) (λ h p. absurd p) (λ h p. absurd p) (λ h j p. record { counts = p.0; soils = p.1 }) e
  limited-held capacity limit msg waiting e = absurd e
  limited-held capacity limit msg (refusal k) e = absurd e

  -- an answer with records is given for trees of so many nodes and so much dirty padding
  pub held : (rule : List ℕ → Whole) (capacity limit : ℕ) (msg : List ℕ) → Gives (decoded rule capacity limit msg) count dirty
      → Held msg (rule msg) count dirty
  held rule capacity limit msg =
      by-decoded (λ r. Gives r count dirty → Held msg (rule msg) count dirty) rule capacity limit msg
      (λ h p. absurd p) (λ h p. absurd p) (λ h k. limited-held capacity limit msg (rule msg))

  gives-stored : (r : DecodeAnswer) (f : Forest) (table : List ℕ) → Gives r count dirty → tabled r f table ≡ stored 0 f table
  gives-stored (Packets n left d) f table e = refl
  gives-stored (Stopped n left d k at) f table e = refl
  gives-stored Waiting f table e = absurd e
  gives-stored (Err k) f table e = absurd e

  module _ (rule : List ℕ → Whole) (limit : ℕ) (msg table : List ℕ) (e : Gives (answer_to rule limit msg table) count dirty) where
    -- the table is the trees' records, and then as it was
    pub given_is : table_after rule limit msg table ≡ records_of 0 (forest_of (rule msg)) ++ drop
        (record_size * size (forest_of (rule msg))) table
    unfolding stored
    given_is = gives-stored (answer_to rule limit msg table) (forest_of (rule msg)) table e

    -- it has room for them
    pub given-fits : record_size * count ≤ length (table_after rule limit msg table)
    given-fits =
        let f = forest_of (rule msg) in
        let c = (held rule _ limit msg e).counts in
        omega (arith, ap length given_is, length-append (records_of 0 f) (drop (record_size * size f) table), length-records 0 f)

    -- where their numbers fit, the trees stand in it
    pub given-held : (F : Forest) → forest_of (rule msg) ≡ F → FieldsFit F → count < 256 ^ 4
        → Holds (table_after rule limit msg table) 0 count F
    given-held F p f n =
        let t = table_after rule limit msg table in
        let c = (held rule _ limit msg e).counts in
        subst (λ (x : Forest). Holds t 0 count x) p (records-held t _ 0 count (forest_of (rule msg)) (rw p f) (omega arith) n given_is)

    -- the records that were counted are the trees'
    pub given-records : take (record_size * count) (table_after rule limit msg table) ≡ records_of 0 (forest_of (rule msg))
    given-records =
        let f = forest_of (rule msg) in
        ap (take (record_size * count)) given_is
        ∙ take_at (records_of 0 f) _ (record_size * count)
        (length-records 0 f ∙ ap (λ (n : ℕ). record_size * n) (held rule _ limit msg e).counts)

-- packets are an answer with records
pub packets-give : {r : DecodeAnswer} {count left dirty : ℕ} → r ≡ Packets count left dirty → Gives r count dirty
packets-give {r} {count} {left} {dirty} e = subst (λ (x : DecodeAnswer). Gives x count dirty) (sym e) (refl, refl)

-- ---- an answer with packets

module _ {count left dirty : ℕ} where
  limited-accepted : (capacity limit : ℕ) (msg : List ℕ) (w : Whole) → limited capacity limit msg w ≡ Packets count left dirty
      → Accepted msg w count left dirty
  limited-accepted capacity limit msg (trees f n) e =
      by-trees (λ r. r ≡ Packets count left dirty → Accepted msg (trees f n) count left dirty) capacity limit msg f n
      (λ h p. no-packets (sym p)) (λ h p. no-packets (sym p))
      (λ h k p. let l : n ≡ left = cc in record { read = rw l; counts = cc; soils = cc }) e
  limited-accepted capacity limit msg waiting e = let z : ◌≡◌ {A = ℕ} 0 1 = cc in absurd (omega arith)
  limited-accepted capacity limit msg (refusal k) e = no-packets (sym e)
  limited-accepted capacity limit msg (stopped f n k at) e =
      by-bounded (λ r. r ≡ Packets count left dirty → Accepted msg (stopped f n k at) count left dirty) capacity limit f
      (Stopped (size f) n (dirty_in msg f) k at) (λ h p. no-packets (sym p)) (λ h p. no-packets (sym p))
      (λ h j p. let z : ◌≡◌ {A = ℕ} 0 1 = cc in absurd (omega arith)) e

  -- an answer with packets is given for trees of so many nodes and so much dirty padding, with so many bytes left
  pub accepted : (rule : List ℕ → Whole) (capacity limit : ℕ) (msg : List ℕ) → decoded rule capacity limit msg ≡ Packets count left dirty
      → Accepted msg (rule msg) count left dirty
  accepted rule capacity limit msg =
      by-decoded (λ r. r ≡ Packets count left dirty → Accepted msg (rule msg) count left dirty) rule capacity limit msg
      (λ h p. no-packets (sym p)) (λ h p. no-packets (sym p))
      (λ h k. limited-accepted capacity limit msg (rule msg))

  module _ (rule : List ℕ → Whole) (limit : ℕ) (msg table : List ℕ) (e : answer_to rule limit msg table ≡ Packets count left dirty) where
    -- the table is the trees' records, and then as it was
    pub after_is : table_after rule limit msg table ≡ records_of 0 (forest_of (rule msg)) ++ drop
        (record_size * size (forest_of (rule msg))) table
    after_is = given_is count dirty rule limit msg table (packets-give e)

    -- it has room for them
    pub after-fits : record_size * count ≤ length (table_after rule limit msg table)
    after-fits = given-fits count dirty rule limit msg table (packets-give e)

    -- where their numbers fit, the trees stand in it
    pub after-held : (F : Forest) → forest_of (rule msg) ≡ F → FieldsFit F → count < 256 ^ 4
        → Holds (table_after rule limit msg table) 0 count F
    after-held = given-held count dirty rule limit msg table (packets-give e)

    -- the records that were counted are the trees'
    pub after-records : take (record_size * count) (table_after rule limit msg table) ≡ records_of 0 (forest_of (rule msg))
    after-records = given-records count dirty rule limit msg table (packets-give e)
