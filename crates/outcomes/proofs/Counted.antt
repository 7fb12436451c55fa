-- The roots of a table, one after another.
use mathlib.Core.Path.{◌≡◌, refl, sym, ap, ◌∙◌}
use mathlib.Core.List.{List, ◌++◌, append_assoc}
use Prim.Native.Nat.{ℕ, ◌+◌, ◌^◌, ◌≤◌, ◌<◌}
use native.Mathlib.Omega.{arith}
use lib.ListN.{length, drop}
use lib.Seq.{drop-drop, drop_at}
use Rattle.wire.specs.Number.{number, bytes}
use Rattle.wire.proofs.Numbers.{read-written}
use Rattle.node.specs.Forest.{Forest, nil, node, size}
use Rattle.node.specs.Records.{record_size, record_start, record_of, records_of, field_at, end_at}
use Rattle.node.specs.declared.record.Item.{Item}
use Rattle.node.proofs.Recorded.{length-record, length-records}
use Rattle.outcomes.specs.Kept.{roots_of}
use Rattle.outcomes.specs.CodeRoots.{StandAt}

-- the end of a record is read where it was written
end_read : (t more : List ℕ) (i : ℕ) (item : Item) (end : ℕ) → end < 256 ^ 4 → drop (record_start i) t ≡ record_of item end ++ more
    → end_at t i ≡ end
unfolding field_at record_of
end_read t more i item end h e =
    let fields : List ℕ = bytes 4 item.a ++ (bytes 4 item.b ++ bytes 4 item.start) in
    let d : drop (record_start i + 4) t ≡ bytes 4 end ++ (fields ++ more)
    = sym (drop-drop 4 (record_start i) t) ∙ ap (drop 4) e ∙ append_assoc (bytes 4 end) fields more in
    ap (number 4) d ∙ read-written 4 end (fields ++ more) h

-- the first of some trees, and those after it
record First (t : List ℕ) (i hi : ℕ) (rest : Forest) (end : ℕ) : Type 0 where
  ends : end_at t i ≡ end
  on : i < end
  stands : StandAt t end hi rest

-- what stands n bytes further
further : (t xs ys : List ℕ) (p n q : ℕ) → p + n ≡ q → length xs ≡ n → drop p t ≡ xs ++ ys → drop q t ≡ ys
further t xs ys p n q e l h = rw (← e, ← drop-drop, h) (drop_at xs ys n l)

first_of : (t : List ℕ) (i hi : ℕ) (item : Item) (inside rest : Forest) → StandAt t i hi (node item inside rest)
    → First t i hi rest (i + 1 + size inside)
unfolding records_of size
first_of t i hi item inside rest s =
    let end = i + 1 + size inside in
    let r = record_of item end in
    let q = records_of (i + 1) inside in
    let u = records_of end rest in
    let most = s.few in
    let all = s.ends in
    let h : drop (record_start i) t ≡ r ++ (q ++ (u ++ s.more)) = s.records ∙ simp append_assoc in
    let h₁ = further t r (q ++ (u ++ s.more)) (record_start i) record_size (record_start (i + 1)) (omega arith) (length-record item end) h in
    record {
      ends = end_read t (q ++ (u ++ s.more)) i item end (omega arith) h;
      on = omega arith;
      stands = record {
        more = s.more;
        records = further t q (u ++ s.more) (record_start (i + 1)) (record_start (size inside)) (record_start end) (omega arith)
            (length-records (i + 1) inside) h₁;
        ends = omega arith;
        few = most;
      };
    }

-- some roots are counted, and the rest is to come
pub record Passed (t : List ℕ) (count : ℕ) (f : Forest) (i n : ℕ) : Type 0 where
  pub rest : Forest
  pub stands : StandAt t i count rest
  pub same : n + roots_of rest ≡ roots_of f

-- before the first root none is counted
pub none_passed : {t : List ℕ} {count : ℕ} (f : Forest) → StandAt t 0 count f → Passed t count f 0 0
none_passed f s = record { rest = f; stands = s; same = omega arith }

-- the next root
record Next (t : List ℕ) (count : ℕ) (f : Forest) (i n : ℕ) : Type 0 where
  on : i < end_at t i
  passed : Passed t count f (end_at t i) (n + 1)

next_of : (t : List ℕ) (count : ℕ) (f : Forest) (i n : ℕ) (rest : Forest) → i < count → StandAt t i count rest
    → n + roots_of rest ≡ roots_of f → Next t count f i n
unfolding roots_of size
next_of t count f i n nil h s e = absurd (omega (arith, s.ends))
next_of t count f i n (node item inside rest) h s e =
    let x = first_of t i count item inside rest s in
    record {
      on = rw x.ends x.on;
      passed = rw x.ends (record { rest = rest; stands = x.stands; same = omega arith });
    }

module _ {t : List ℕ} {count : ℕ} {f : Forest} {i n end : ℕ} (p : Passed t count f i n) (h : i < count) (e : end ≡ end_at t i) where
  -- a root ends after itself
  pub root-on : i < end
  root-on = rw e (next_of t count f i n p.rest h p.stands p.same).on

  -- one root more
  pub root-passed : Passed t count f end (n + 1)
  root-passed = rw e (next_of t count f i n p.rest h p.stands p.same).passed

no-roots : (f : Forest) → size f ≡ 0 → roots_of f ≡ 0
unfolding roots_of size
no-roots nil h = refl
no-roots (node item inside rest) h = absurd (omega arith)

-- after the last record all roots are counted
pub all-passed : {t : List ℕ} {count : ℕ} {f : Forest} {i n : ℕ} → Passed t count f i n → count ≤ i → n ≡ roots_of f
all-passed {t} {count} {f} {i} {n} p h = omega (arith, p.same, no-roots p.rest (omega (arith, p.stands.ends)))
