-- The bytes of a row of records are those of its forest, and a table that holds a forest's bytes holds the forest.
use mathlib.Core.Path.{◌≡◌, refl, sym, ap, ◌∙◌}
use mathlib.Core.Logic.{⊎_elim}
use mathlib.Core.List.{List, [], ◌∷◌, ◌++◌, append_assoc}
use Prim.Native.Nat.{ℕ, ◌+◌, ◌^◌, ◌≤◌, ◌<◌}
use native.Mathlib.Nat.{add-zero, eq-or-lt_of_le}
use native.Mathlib.Numerals.{add-one}
use native.Mathlib.Omega.{arith}
use lib.ListN.{length, get_or, drop}
use lib.Seq.{drop-cons, drop-drop, drop_at, get_or-drop}
use Rattle.wire.specs.Number.{number, bytes}
use Rattle.wire.proofs.Choices.{lt-or-le}
use Rattle.wire.proofs.Numbers.{length-bytes, read-written, number-bytes}
use Rattle.node.specs.Forest.{Forest, nil, node, size}
use Rattle.node.specs.Records.{record_size, record_start, record_of, records_of, kind_at, zeros_at, field_at, end_at, a_at, b_at, item_at}
use Rattle.node.proofs.Recorded.{length-record, length-records, item-read}
use Rattle.node.specs.declared.record.Item.{Item}
use Rattle.table.specs.Tree.{Spans, FieldsFit}
use Rattle.table.proofs.Spanned.{spans-size}

-- a record before other bytes, field by field
record-before : (item : Item) (e : ℕ) (more : List ℕ)
    → record_of item e ++ more
    ≡ item.kind ∷ 0 ∷ 0 ∷ 0 ∷ (bytes 4 e ++ (bytes 4 item.a ++ (bytes 4 item.b ++ (bytes 4 item.start ++ more))))
unfolding record_of
record-before item e more = simp append_assoc

-- a forest's records before other bytes, node by node
records-before : (i : ℕ) (item : Item) (inside rest : Forest) (more : List ℕ)
    → records_of i (node item inside rest) ++ more
    ≡ record_of item (i + 1 + size inside) ++ (records_of (i + 1) inside ++ (records_of (i + 1 + size inside) rest ++ more))
unfolding records_of
records-before i item inside rest more = simp append_assoc

-- ---- from the records to the bytes

three-zeros : bytes 3 0 ≡ 0 ∷ 0 ∷ 0 ∷ []
unfolding bytes
three-zeros = refl

module _ (t : List ℕ) (small : (i : ℕ) → get_or t i 0 < 256) where
  record-bytes : (i : ℕ) → record_start (i + 1) ≤ length t → zeros_at t i ≡ 0
      → drop (record_start i) t ≡ record_of (item_at t i) (end_at t i) ++ drop (record_start (i + 1)) t
  unfolding kind_at zeros_at field_at
  record-bytes i h z =
      let p = record_start i in
      let x : drop (p + 1) t ≡ 0 ∷ 0 ∷ 0 ∷ drop (p + 4) t
      = number-bytes t small 3 (p + 1) (p + 4) (omega arith) (omega arith) ∙ rw (z, three-zeros) in
      let e = number-bytes t small 4 (p + 4) (p + 8) (omega arith) (omega arith) in
      let a = number-bytes t small 4 (p + 8) (p + 12) (omega arith) (omega arith) in
      let b = number-bytes t small 4 (p + 12) (p + 16) (omega arith) (omega arith) in
      let s = number-bytes t small 4 (p + 16) (record_start (i + 1)) (omega arith) h in
      drop-cons t p 0 (omega arith)
      ∙ ap (λ (l : List ℕ). get_or t p 0 ∷ l) (ap (λ (n : ℕ). drop n t) (sym (add-one p)) ∙ x)
      ∙ ap (λ (l : List ℕ). get_or t p 0 ∷ 0 ∷ 0 ∷ 0 ∷ l)
      (e ∙ ap (λ (l : List ℕ). bytes 4 (end_at t i) ++ l)
      (a ∙ ap (λ (l : List ℕ). bytes 4 (a_at t i) ++ l) (b ∙ ap (λ (l : List ℕ). bytes 4 (b_at t i) ++ l) s)))
      ∙ sym (record-before (item_at t i) (end_at t i) (drop (record_start (i + 1)) t))

  -- the bytes from record lo on are those of the forest, and then those from record hi on
  pub spans-records : (lo hi : ℕ) (F : Forest) → Spans t lo hi F → record_start hi ≤ length t → ((i : ℕ) → i < hi → zeros_at t i ≡ 0)
      → drop (record_start lo) t ≡ records_of lo F ++ drop (record_start hi) t
  unfolding Spans records_of
  spans-records lo hi nil s le z = rw s
  spans-records lo hi (node item inside rest) s le z =
      let x : lo + 1 + size inside ≡ end_at t lo = spans-size t (lo + 1) (end_at t lo) inside s.1 in
      let y : end_at t lo + size rest ≡ hi = spans-size t (end_at t lo) hi rest s.2 in
      let i = spans-records (lo + 1) (end_at t lo) inside s.1 (omega arith) (λ j l. z j (omega arith)) in
      let r = spans-records (end_at t lo) hi rest s.2 le z in
      record-bytes lo (omega arith) (z lo (omega arith))
      ∙ rw (records-before, x, ← s.0)
      (ap (λ (l : List ℕ). record_of (item_at t lo) (end_at t lo) ++ l)
      (i ∙ ap (λ (l : List ℕ). records_of (lo + 1) inside ++ l) r))

-- ---- and back

-- a record that is read where it was written
record Read (t : List ℕ) (i : ℕ) (item : Item) (end : ℕ) : Type 0 where
  same : item_at t i ≡ item
  zeros : zeros_at t i ≡ 0
  ends : end_at t i ≡ end

-- what stands n bytes further
further : (t xs ys : List ℕ) (p n q : ℕ) → p + n ≡ q → length xs ≡ n → drop p t ≡ xs ++ ys → drop q t ≡ ys
further t xs ys p n q e l h = rw (← e, ← drop-drop, h) (drop_at xs ys n l)

record-read : (t more : List ℕ) (i : ℕ) (item : Item) (end : ℕ) → end < 256 ^ 4 → item.a < 256 ^ 4 → item.b < 256 ^ 4
    → item.start < 256 ^ 4 → drop (record_start i) t ≡ record_of item end ++ more → Read t i item end
unfolding kind_at zeros_at field_at number
record-read t more i item end he ha hb hs h =
    let p = record_start i in
    let h₀ = h ∙ record-before item end more in
    let h₁ = further t (item.kind ∷ []) _ p 1 (p + 1) refl refl h₀ in
    let h₄ = further t (item.kind ∷ 0 ∷ 0 ∷ 0 ∷ []) _ p 4 (p + 4) refl refl h₀ in
    let h₈ = further t (bytes 4 end) _ (p + 4) 4 (p + 8) (omega arith) (length-bytes 4 end) h₄ in
    let h₁₂ = further t (bytes 4 item.a) _ (p + 8) 4 (p + 12) (omega arith) (length-bytes 4 item.a) h₈ in
    let h₁₆ = further t (bytes 4 item.b) _ (p + 12) 4 (p + 16) (omega arith) (length-bytes 4 item.b) h₁₂ in
    record {
      same = sym (item-read t i (sym (sym (rw add-zero at (get_or-drop p t 0 0)) ∙ ap (λ (l : List ℕ). get_or l 0 0) h₀))
          (sym (ap (number 4) h₈ ∙ read-written 4 item.a _ ha)) (sym (ap (number 4) h₁₂ ∙ read-written 4 item.b _ hb))
          (sym (ap (number 4) h₁₆ ∙ read-written 4 item.start _ hs)));
      zeros = ap (number 3) h₁;
      ends = ap (number 4) h₄ ∙ read-written 4 end _ he;
    }

-- a table that holds a forest's records holds the forest, with its zero bytes
pub record Holds (t : List ℕ) (lo hi : ℕ) (F : Forest) : Type 0 where
  pub spans : Spans t lo hi F
  pub zeros : (i : ℕ) → lo ≤ i → i < hi → zeros_at t i ≡ 0

-- where a forest's records stand in a table from lo on, the forest spans lo to hi there, and its zeros are 0
pub records-held : (t more : List ℕ) (lo hi : ℕ) (F : Forest) → FieldsFit F → lo + size F ≡ hi → hi < 256 ^ 4
    → drop (record_start lo) t ≡ records_of lo F ++ more → Holds t lo hi F
unfolding Spans FieldsFit records_of size
records-held t more lo hi nil f n small h = record { spans = omega arith; zeros = λ i l m. absurd (omega arith) }
records-held t more lo hi (node item inside rest) f n small h =
    let end = lo + 1 + size inside in
    let h₀ = h ∙ records-before lo item inside rest more in
    let h₁ = further t (record_of item end) _ (record_start lo) record_size (record_start (lo + 1)) (omega arith) (length-record item end) h₀ in
    let h₂ = further t (records_of (lo + 1) inside) _ (record_start (lo + 1)) (record_start (size inside)) (record_start end) (omega arith)
    (length-records (lo + 1) inside) h₁ in
    let r = record-read t _ lo item end (omega arith) f.0 f.1 f.2 h₀ in
    let x = records-held t (records_of end rest ++ more) (lo + 1) end inside f.3 refl (omega arith) h₁ in
    let y = records-held t more end hi rest f.4 (omega arith) small h₂ in
    record {
      spans = (r.same, rw r.ends x.spans, rw r.ends y.spans);
      zeros = λ i l m.
          ⊎_elim
          (λ e. rw (← e) r.zeros)
          (λ g. ⊎_elim (λ d. x.zeros i (omega arith) d) (λ d. y.zeros i d m) (lt-or-le i end))
          (eq-or-lt_of_le l);
    }
