-- Shifts of a table add up: by x then y is by x + y modulo 2^64, by zero nothing changes, and by x and then its opposite all is as before.
use Rattle.std.proofs.Common.{◌≡◌, ℕ, zero, suc, ◌*◌, ◌^◌, ◌<◌, ◌≤◌, Bool, true, false, List, [], ◌∷◌, ◌++◌, map, length, get_or, take, drop, sym, refl, ap, ◌∙◌, arith, length-drop, take-append-drop, length-take-le, drop-drop, take_at, drop_at}
use mathlib.Core.List.{map-append}
use Rattle.refusal.specs.declared.Refusal.TheVariants.{BadTable}
use Rattle.wire.specs.Number.{bytes}
use Rattle.wire.proofs.Numbers.{number_small, bytes_read}
use Rattle.wire.proofs.Parts.{take-small, drop-small}
use Rattle.node.specs.Records.{record_size}
use Rattle.clock.specs.Shift.{shifted}
use Rattle.shifts.specs.Shifts.{is_timed, time_tag, shifted_record, own_tag, shifted_table, time_tags, lookable, Shifts}
use Rattle.shifts.specs.Sums.{TagsShifted, TableByZero, TableByTwo, CallsAndBack}
use Rattle.shifts.specs.Results.{Shifted}
use Rattle.std.specs.Prelude.{Err, Ok}
use Rattle.shifts.proofs.Lookable.{lookable-fits}
use Rattle.shifts.proofs.Records.{shifted-timed, shifted-other, tag-timed, tag-other, length-shifted}
use Rattle.shifts.proofs.Items.{kind-is, tag-moved, tail-kept, front_kept}
use Rattle.shifts.proofs.Tables.{lookable-same}

-- ---- one record

record-two : (x y : ℕ) (r : List ℕ) → length r ≡ record_size
    → shifted_record y (shifted_record x r) ≡ shifted_record (shifted x y) r
record-two x y r l = go (is_timed (get_or r 0 0)) refl
  where
    go : (b : Bool) → is_timed (get_or r 0 0) ≡ b → shifted_record y (shifted_record x r) ≡ shifted_record (shifted x y) r
    go true q =
        let k : is_timed (get_or (shifted_record x r) 0 0) ≡ true = ap is_timed (kind-is x r l) ∙ q in
        let sum : shifted (shifted (time_tag r) x) y ≡ shifted (time_tag r) (shifted x y) = omega arith in
        shifted-timed y (shifted_record x r) k
        ∙ ap (λ (f : List ℕ). f ++ (bytes 8 (shifted (time_tag (shifted_record x r)) y) ++ drop 16 (shifted_record x r))) (front_kept x r l q)
        ∙ ap (λ (d : List ℕ). take 8 r ++ (bytes 8 (shifted (time_tag (shifted_record x r)) y) ++ d)) (tail-kept x r l q)
        ∙ ap (λ (m : ℕ). take 8 r ++ (bytes 8 m ++ drop 16 r)) (ap (λ (m : ℕ). shifted m y) (tag-moved x r l q) ∙ sum)
        ∙ sym (shifted-timed (shifted x y) r q)
    go false q =
        ap (shifted_record y) (shifted-other x r q) ∙ shifted-other y r q ∙ sym (shifted-other (shifted x y) r q)

record-zero : (r : List ℕ) → ((i : ℕ) → get_or r i 0 < 256) → length r ≡ record_size → shifted_record 0 r ≡ r
record-zero r small l = go (is_timed (get_or r 0 0)) refl
  where
    go : (b : Bool) → is_timed (get_or r 0 0) ≡ b → shifted_record 0 r ≡ r
    go true q =
        let low : time_tag r < 256 ^ 8 = number_small 8 (drop 8 r) (drop-small 8 r small) in
        let same : shifted (time_tag r) 0 ≡ time_tag r = omega arith in
        shifted-timed 0 r q
        ∙ ap (λ (m : ℕ). take 8 r ++ (bytes 8 m ++ drop 16 r)) same
        ∙ ap (λ (m : List ℕ). take 8 r ++ (m ++ drop 16 r)) (bytes_read r small 8 8 (omega arith))
        ∙ ap (λ (m : List ℕ). take 8 r ++ (take 8 (drop 8 r) ++ m)) (sym (drop-drop 8 8 r))
        ∙ ap (λ (m : List ℕ). take 8 r ++ m) (take-append-drop 8 (drop 8 r))
        ∙ take-append-drop 8 r
    go false q = shifted-other 0 r q

-- ---- a table

-- "by x then y equals by x + y modulo 2^64"
table-two : (x y n : ℕ) (t : List ℕ) → record_size * n ≤ length t
    → shifted_table y n (shifted_table x n t) ≡ shifted_table (shifted x y) n t
unfolding shifted_table
table-two x y zero t h = refl
table-two x y (suc n) t h =
    let r = take record_size t in
    let u = drop record_size t in
    let S = shifted_record x r in
    let l : length r ≡ record_size = length-take-le record_size t (omega arith) in
    let s : length S ≡ record_size = length-shifted x r l in
    ap (λ (a : List ℕ). shifted_record y a ++ shifted_table y n (drop record_size (S ++ shifted_table x n u)))
    (take_at S (shifted_table x n u) record_size s)
    ∙ ap (λ (d : List ℕ). shifted_record y S ++ shifted_table y n d) (drop_at S (shifted_table x n u) record_size s)
    ∙ ap (λ (d : List ℕ). shifted_record y S ++ d) (table-two x y n u (omega (arith, length-drop record_size t)))
    ∙ ap (λ (a : List ℕ). a ++ shifted_table (shifted x y) n u) (record-two x y r l)

pub table_by_two : TableByTwo
table_by_two n t small h x y = table-two x y n t h

-- "by zero changes nothing"
pub table-zero : TableByZero
unfolding shifted_table
table-zero zero t small h = refl
table-zero (suc n) t small h =
    let r = take record_size t in
    ap (λ (a : List ℕ). a ++ shifted_table 0 n (drop record_size t))
    (record-zero r (take-small record_size t small) (length-take-le record_size t (omega arith)))
    ∙ ap (λ (d : List ℕ). r ++ d)
    (table-zero n (drop record_size t) (drop-small record_size t small) (omega (arith, length-drop record_size t)))
    ∙ take-append-drop record_size t

-- "by x and then its opposite": the opposite is what x and it make 0 of
pub table-back : (x y n : ℕ) (t : List ℕ) → ((i : ℕ) → get_or t i 0 < 256) → record_size * n ≤ length t → shifted x y ≡ 0
    → shifted_table y n (shifted_table x n t) ≡ t
table-back x y n t small h e = table-two x y n t h ∙ ap (λ (k : ℕ). shifted_table k n t) e ∙ table-zero n t small h

-- ---- the tags

own-shifted : (by : ℕ) (r : List ℕ) → length r ≡ record_size → own_tag (shifted_record by r) ≡ map (λ tag. shifted tag by) (own_tag r)
own-shifted by r l = go (is_timed (get_or r 0 0)) refl
  where
    go : (b : Bool) → is_timed (get_or r 0 0) ≡ b → own_tag (shifted_record by r) ≡ map (λ tag. shifted tag by) (own_tag r)
    go true q =
        tag-timed (shifted_record by r) (ap is_timed (kind-is by r l) ∙ q) ∙ ap (λ (m : ℕ). m ∷ []) (tag-moved by r l q)
        ∙ sym (ap (map (λ tag. shifted tag by)) (tag-timed r q))
    go false q =
        tag-other (shifted_record by r) (ap is_timed (kind-is by r l) ∙ q) ∙ sym (ap (map (λ tag. shifted tag by)) (tag-other r q))

table-tags : (by n : ℕ) (t : List ℕ) → record_size * n ≤ length t
    → time_tags n (shifted_table by n t) ≡ map (λ tag. shifted tag by) (time_tags n t)
unfolding shifted_table time_tags
table-tags by zero t h = refl
table-tags by (suc n) t h =
    let r = take record_size t in
    let u = drop record_size t in
    let S = shifted_record by r in
    let l : length r ≡ record_size = length-take-le record_size t (omega arith) in
    let s : length S ≡ record_size = length-shifted by r l in
    ap (λ (a : List ℕ). own_tag a ++ time_tags n (drop record_size (S ++ shifted_table by n u))) (take_at S (shifted_table by n u) record_size s)
    ∙ ap (λ (d : List ℕ). own_tag S ++ time_tags n d) (drop_at S (shifted_table by n u) record_size s)
    ∙ ap (λ (d : List ℕ). own_tag S ++ d) (table-tags by n u (omega (arith, length-drop record_size t)))
    ∙ ap (λ (a : List ℕ). a ++ map (λ tag. shifted tag by) (time_tags n u)) (own-shifted by r l)
    ∙ sym (map-append (λ tag. shifted tag by) (own_tag r) (time_tags n u))

pub tags_shifted : TagsShifted
tags_shifted n t small h by = table-tags by n t h

-- ---- the calls

-- what a call leaves, by its check
left-moved : {t after : List ℕ} {count by : ℕ} {r : Shifted} → lookable t count ≡ true → Shifts t count by r after
    → after ≡ shifted_table by count t
left-moved {t} {after} {count} {by} {r} h w = let e : r ≡ Ok (length (time_tags count t)) = w.answers ∙ rw h in rw e at w.leaves

left_alone : {t after : List ℕ} {count by : ℕ} {r : Shifted} → lookable t count ≡ false → Shifts t count by r after → after ≡ t
left_alone {t} {after} {count} {by} {r} h w = let e : r ≡ Err BadTable = w.answers ∙ rw h in rw e at w.leaves

-- a call by zero leaves the table
pub call-zero : {t after : List ℕ} {count : ℕ} {r : Shifted} → ((i : ℕ) → get_or t i 0 < 256) → Shifts t count 0 r after → after ≡ t
call-zero {t} {after} {count} {r} small w = go (lookable t count) refl
  where
    go : (b : Bool) → lookable t count ≡ b → after ≡ t
    go true h = left-moved h w ∙ table-zero count t small (lookable-fits t count h)
    go false h = left_alone h w

-- two calls, by x and then by its opposite, leave the table
pub call_back : {t after again : List ℕ} {count x y : ℕ} {r s : Shifted} → ((i : ℕ) → get_or t i 0 < 256) → shifted x y ≡ 0
    → Shifts t count x r after → Shifts after count y s again → again ≡ t
call_back {t} {after} {again} {count} {x} {y} {r} {s} small e v w = go (lookable t count) refl
  where
    go : (b : Bool) → lookable t count ≡ b → again ≡ t
    go true h =
        let f = lookable-fits t count h in
        let m : after ≡ shifted_table x count t = left-moved h v in
        let k : lookable after count ≡ true
        = ap (λ (u : List ℕ). lookable u count) m ∙ lookable-same x count count t (omega arith) f ∙ h in
        left-moved k w ∙ ap (shifted_table y count) m ∙ table-back x y count t small f e
    go false h =
        let m : after ≡ t = left_alone h v in
        left_alone (ap (λ (u : List ℕ). lookable u count) m ∙ h) w ∙ m

pub calls_and_back : CallsAndBack
calls_and_back t after again count x y r s small e v w = call_back small e v w
