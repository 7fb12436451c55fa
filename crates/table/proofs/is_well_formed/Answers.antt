-- The tests before the records leave the decision to `all`, which says of each record whether it is right.
use Rattle.std.proofs.Common.{◌≡◌, ℕ, ◌<◌, ◌≤◌, ◌*◌, Bool, true, false, List, length, get_or, MatchBool, refl, sym, subst, rules, arith}
use Rattle.std.specs.List.{range_with_len, AllWithin, HoldsAt}
use Rattle.std.proofs.lemmas.Bool.{false≢true}
use Rattle.std.proofs.lemmas.Iterator.{cases_from_all, YieldsList-from_range}
use Rattle.std.proofs.lemmas.List.FromFn.{length-range_with_len, get_or-range_with_len}
use Rattle.utf8.specs.Utf8.{Decides}
use Rattle.node.specs.Records.{record_size, most_records, kind_at, end_at}
use Rattle.node.specs.Rules.{is_packet}
use Rattle.table.specs.Formed.{NodeOk, WellFormed}
use Rattle.table.proofs.is_well_formed.Goals as goal

-- every record is right
abbrev AllOk : List ℕ → ℕ → List ℕ → Type 0
AllOk t count source = (i : ℕ) → i < count → NodeOk t count source i

-- what `all` answers over the numbers of the records
decided : (t : List ℕ) (count : ℕ) (source : List ℕ) (r : Bool)
    → MatchBool r (AllWithin (NodeOk t count source) (range_with_len 0 count) 0 (length (range_with_len 0 count)))
    ((k : ℕ) × (k < length (range_with_len 0 count)) × HoldsAt (λ i. NodeOk t count source i → ⊥) (range_with_len 0 count) k)
    → MatchBool r (AllOk t count source) (AllOk t count source → ⊥)
decided t n source true h =
    λ i g. subst (NodeOk t n source) (number-is n i g) (h i 0 (omega arith) (omega (arith, length-range_with_len 0 n)))
  where
    number-is : (n i : ℕ) → i < n → get_or (range_with_len 0 n) i 0 ≡ i
    number-is n i g = omega (arith, get_or-range_with_len 0 n i 0 g)
decided t n source false h =
    let within : h.0 < n = omega (arith, h.1, length-range_with_len 0 n) in
    let is : get_or (range_with_len 0 n) h.0 0 ≡ h.0 = omega (arith, get_or-range_with_len 0 n h.0 0 within) in
    λ all. h.2 0 (subst (NodeOk t n source) (sym is) (all h.0 within))

-- where the tests before them hold, the records decide
judged : {t source : List ℕ} {count : ℕ} (r : Bool) → 1 ≤ count → count ≤ most_records → record_size * count ≤ length t
    → is_packet (kind_at t 0) ≡ true → end_at t 0 ≡ count → MatchBool r (AllOk t count source) (AllOk t count source → ⊥)
    → Decides r (WellFormed t count source)
judged true some few fits root whole all = record {
  sound = λ _. record { some = some; few = few; fits = fits; root = root; whole = whole; nodes = all };
  complete = λ _. refl;
}
judged false some few fits root whole not = record { sound = λ e. absurd (false≢true e); complete = λ w. absurd (not w.nodes) }

pub returns-then-field_at-count : goal.returns-then-field_at-count
returns-then-field_at-count c =
    let t = c.args.table.now in
    let n = c.args.count in
    let s = c.args.source.now in
    let some : 1 ≤ n = search rules in
    let few : n ≤ most_records = search rules in
    let fits : record_size * n ≤ length t = search rules in
    let root : is_packet (kind_at t 0) ≡ true = search rules in
    let whole : end_at t 0 ≡ n = search rules in
    judged c.all.result some few fits root whole
    (decided t n s c.all.result
    (cases_from_all _ _ _ (NodeOk t n s) (λ i. NodeOk t n s i → ⊥) c.all.ensures.ran
    (YieldsList-from_range 0 n n refl (omega arith)) (λ x q k. search rules) (λ x q k. search rules)))
