-- The walk over the records in order that looks for bundles and arrays nested too deep, and keeps the ends of the open levels.
use mathlib.Core.Path.{◌≡◌, refl, sym, ap, ◌∙◌}
use mathlib.Core.Bool.{Bool, true, false}
use mathlib.Core.List.{List}
use Prim.Native.Nat.{ℕ, ◌+◌, ◌-◌, ◌≤◌, ◌<◌, max}
use native.Mathlib.Omega.{arith}
use lib.Dec.{ltb}
use lib.ListN.{length, get_or, set, length-set}
use lib.Seq.{get_or-set_same, get_or-set_other}
use borrow.Author.Tests.{lt-ltb, le-ltb, ltb-true, ltb-false}
use Rattle.wire.specs.Limits.{deepest}
use Rattle.node.specs.Forest.{Forest, nil, node, is_level, level, depth}
use Rattle.node.specs.Records.{kind_at, end_at}
use Rattle.table.specs.Tree.{Spans, Row}
use Rattle.table.proofs.Spanned.{Cut, cut, no_more, spans-size, spans_unique}

-- the greater of two numbers is over a limit exactly where the second is, if the first is not
over-right : (limit x y : ℕ) → x ≤ limit → ltb limit (max x y) ≡ ltb limit y
over-right limit x y h = go (ltb limit y) refl
  where
    go : (b : Bool) → ltb limit y ≡ b → ltb limit (max x y) ≡ b
    go true e = let l : limit < y = ltb-true limit y e in lt-ltb limit (max x y) (omega arith)
    go false e = let l : y ≤ limit = ltb-false limit y e in le-ltb limit (max x y) (omega arith)

-- two rows that meet are one, as deep as the deeper of them
joined : (t : List ℕ) (lo mid hi : ℕ) (F G : Forest) → Spans t lo mid F → Spans t mid hi G
    → (H : Forest) × Spans t lo hi H × (depth H ≡ max (depth F) (depth G))
unfolding Spans depth
joined t lo mid hi nil G s q = (G, rw s q, omega arith)
joined t lo mid hi (node item inside rest) G s q =
    let (H, r, d) = joined t (end_at t lo) mid hi rest G s.2 q in
    (node item inside H, (s.0, s.1, r), omega (arith, d))

-- what stands after the innermost of the open levels, by their ends, is d deep as part of the whole; level 0 is the table
pub data Beyond (t ends : List ℕ) : ℕ → ℕ → Type 0 where
  whole : {levels : ℕ} → levels ≡ 0 → Beyond t ends levels 0
  outer : {levels k d : ℕ} (F : Forest) → levels ≡ k + 1 → Spans t (get_or ends levels 0) (get_or ends k 0) F → Beyond t ends k d
      → Beyond t ends levels (max (k + depth F) d)

-- no level ends after the table
beyond-le : {t ends : List ℕ} {levels d : ℕ} → Beyond t ends levels d → get_or ends levels 0 ≤ get_or ends 0 0
beyond-le (whole z) = rw z (omega arith)
beyond-le {t} {ends} {levels} (outer {k = k} F e s b) =
    omega (arith, spans-size t (get_or ends levels 0) (get_or ends k 0) F s, beyond-le b)

-- where the innermost level ends with the table, so do all, and nothing stands after them
beyond-end : {t ends : List ℕ} {levels d : ℕ} → Beyond t ends levels d → get_or ends 0 0 ≤ get_or ends levels 0 → d ≤ levels
unfolding depth
beyond-end (whole z) h = omega arith
beyond-end {t} {ends} {levels} (outer {k = k} F e s b) h =
    let l : get_or ends k 0 ≤ get_or ends 0 0 = beyond-le b in
    let z : F ≡ nil = no_more t (get_or ends levels 0) (get_or ends k 0) F (omega arith) s in
    let n : depth F ≡ 0 = rw z in
    omega (arith, beyond-end b (omega (arith, spans-size t (get_or ends levels 0) (get_or ends k 0) F s)))

-- the end of a level further in says nothing of what stands after
beyond-set : {t ends : List ℕ} {levels d : ℕ} (i v : ℕ) → levels < i → Beyond t ends levels d → Beyond t (set ends i v) levels d
beyond-set i v h (whole z) = whole z
beyond-set {t} {ends} {levels} i v h (outer {k = k} F e s b) =
    let x : get_or (set ends i v) levels 0 ≡ get_or ends levels 0 = get_or-set_other ends i levels v 0 (λ z. omega (arith, z)) in
    let y : get_or (set ends i v) k 0 ≡ get_or ends k 0 = get_or-set_other ends i k v 0 (λ z. omega (arith, z)) in
    outer F e (rw (x, y) s) (beyond-set i v (omega arith) b)

-- at `at`, what is left of the innermost level and what stands after it are too deep exactly where the whole is
pub record Passed (t : List ℕ) (count limit : ℕ) (ends : List ℕ) (levels at : ℕ) : Type 0 where
  pub forest : Forest
  pub forest-spans : Spans t 0 count forest
  pub few : levels ≤ limit
  pub room : length ends ≡ deepest + 1
  pub last : get_or ends 0 0 ≡ count
  pub rest : Forest
  pub spans : Spans t at (get_or ends levels 0) rest
  pub after : ℕ
  pub beyond : Beyond t ends levels after
  pub same : ltb limit (depth forest) ≡ ltb limit (max (levels + depth rest) after)

-- before the first record no level is open
pub passed_none : {t : List ℕ} {count : ℕ} (limit : ℕ) {ends : List ℕ} → Row t 0 count → length ends ≡ deepest + 1 → get_or ends 0 0 ≡ count
    → Passed t count limit ends 0 0
passed_none limit w l e =
    record {
      forest = w.forest;
      forest-spans = w.spans;
      few = omega arith;
      room = l;
      last = e;
      rest = w.forest;
      spans = rw e w.spans;
      after = 0;
      beyond = whole refl;
      same = let z : max (0 + depth w.forest) 0 ≡ depth w.forest = omega arith in rw z;
    }

module _ {t : List ℕ} {count limit : ℕ} {ends : List ℕ} {levels at : ℕ} (p : Passed t count limit ends levels at) where
  -- the answer on the forest that was walked is the answer on any that spans the records
  answered : {x : Bool} → x ≡ ltb limit (max (levels + depth p.rest) p.after) → (F : Forest) → Spans t 0 count F
      → x ≡ ltb limit (depth F)
  answered e F s = let u : F ≡ p.forest = spans_unique t 0 count F p.forest s p.forest-spans in rw u (e ∙ sym p.same)

  -- where no record is left, the whole is not too deep
  pub passed-all : count ≤ at → (F : Forest) → Spans t 0 count F → false ≡ ltb limit (depth F)
  unfolding depth
  passed-all h =
      let l : get_or ends levels 0 ≤ get_or ends 0 0 = beyond-le p.beyond in
      let z : p.rest ≡ nil = no_more t at (get_or ends levels 0) p.rest (omega arith) p.spans in
      let n : depth p.rest ≡ 0 = rw z in
      let a : p.after ≤ levels = beyond-end p.beyond (omega (arith, spans-size t at (get_or ends levels 0) p.rest p.spans)) in
      answered (sym (le-ltb limit (max (levels + depth p.rest) p.after) (omega arith)))

  -- the innermost level has ended
  module _ (h : get_or ends levels 0 ≤ at) (l : at < count) where
    -- so it is not the table
    pub some-open : 1 ≤ levels
    some-open = go p.beyond
      where
        go : {d : ℕ} → Beyond t ends levels d → 1 ≤ levels
        go (whole z) = let q : get_or ends levels 0 ≡ get_or ends 0 0 = rw z in absurd (omega arith)
        go (outer F e s b) = omega arith

    -- and the one around it is the innermost
    pub passed-end : Passed t count limit ends (levels - 1) at
    unfolding depth
    passed-end = go p.beyond refl
      where
        go : {d : ℕ} → Beyond t ends levels d → d ≡ p.after → Passed t count limit ends (levels - 1) at
        go (whole z) q = absurd (let o = some-open in omega arith)
        go (outer {k = k} {d = d} F e s b) q =
            let z : p.rest ≡ nil = no_more t at (get_or ends levels 0) p.rest h p.spans in
            let n : depth p.rest ≡ 0 = rw z in
            let i : at ≡ get_or ends levels 0 = omega (arith, spans-size t at (get_or ends levels 0) p.rest p.spans) in
            let o : levels - 1 ≡ k = omega arith in
            record {
              forest = p.forest;
              forest-spans = p.forest-spans;
              few = omega arith;
              room = p.room;
              last = p.last;
              rest = F;
              spans = rw (i, o) s;
              after = d;
              beyond = rw o b;
              same = p.same ∙ over-right limit (levels + depth p.rest) p.after (omega arith) ∙ rw (o, ← q);
            }

  -- what is left of the innermost level has a first node
  first : at < get_or ends levels 0 → Cut t at (get_or ends levels 0) p.rest
  first h = cut t at (get_or ends levels 0) p.rest h p.spans

  -- the kind that was read at `at`, in the innermost level
  module _ {kind : ℕ} (ke : kind ≡ kind_at t at) (h : at < get_or ends levels 0) where
    deep : depth p.rest ≡ max (level kind (depth (first h).inside)) (depth (first h).rest)
    unfolding depth
    deep = ap depth (first h).is ∙ ap (λ (k : ℕ). max (level k (depth (first h).inside)) (depth (first h).rest)) (sym ke)

    -- no level: what it contains is walked with what stands after it
    pub passed-into : is_level kind ≡ false → Passed t count limit ends levels (at + 1)
    passed-into n =
        let (H, s, d) = joined t (at + 1) (end_at t at) (get_or ends levels 0) (first h).inside (first h).rest
        (first h).in-spans (first h).rest-spans in
        let e : depth p.rest ≡ depth H = deep ∙ rw (n, d) in
        record {
          forest = p.forest;
          forest-spans = p.forest-spans;
          few = p.few;
          room = p.room;
          last = p.last;
          rest = H;
          spans = s;
          after = p.after;
          beyond = p.beyond;
          same = p.same ∙ rw e;
        }

    -- a level
    module _ (k : is_level kind ≡ true) where
      is-deep : depth p.rest ≡ max (depth (first h).inside + 1) (depth (first h).rest)
      is-deep = deep ∙ rw k

      -- where no more may be open
      pub found : levels ≡ limit → (F : Forest) → Spans t 0 count F → true ≡ ltb limit (depth F)
      found e = answered (sym (lt-ltb limit (max (levels + depth p.rest) p.after) (omega (arith, is-deep))))

      -- which is now the innermost, with its end
      pub passed-level : {end : ℕ} → end ≡ end_at t at → (levels ≡ limit → ⊥) → limit ≤ deepest
          → Passed t count limit (set ends (levels + 1) end) (levels + 1) (at + 1)
      passed-level {end} ee n m =
          let x : get_or (set ends (levels + 1) end) (levels + 1) 0 ≡ end =
          get_or-set_same ends (levels + 1) end 0 (omega arith) in
          let y : get_or (set ends (levels + 1) end) levels 0 ≡ get_or ends levels 0 =
          get_or-set_other ends (levels + 1) levels end 0 (λ z. omega (arith, z)) in
          let z : get_or (set ends (levels + 1) end) 0 0 ≡ get_or ends 0 0 =
          get_or-set_other ends (levels + 1) 0 end 0 (λ z. omega (arith, z)) in
          let d : max (levels + depth p.rest) p.after
          ≡ max (levels + 1 + depth (first h).inside) (max (levels + depth (first h).rest) p.after) = omega (arith, is-deep) in
          record {
            forest = p.forest;
            forest-spans = p.forest-spans;
            few = omega arith;
            room = simp length-set p.room;
            last = z ∙ p.last;
            rest = (first h).inside;
            spans = rw (x, ee) (first h).in-spans;
            after = _;
            beyond = outer {k = levels} (first h).rest refl (rw (x, y, ee) (first h).rest-spans)
                (beyond-set (levels + 1) end (omega arith) p.beyond);
            same = p.same ∙ ap (ltb limit) d;
          }
