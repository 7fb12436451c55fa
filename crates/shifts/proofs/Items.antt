-- What each record of a shifted table says: of a # or a t the tag is shifted, and every other number is as before.
use Rattle.std.proofs.Common.{◌≡◌, ℕ, ◌+◌, ◌*◌, ◌/◌, ◌%◌, ◌^◌, ◌≤◌, Bool, true, false, cond, ◌⊎◌, List, ◌++◌, length, get_or, take, drop, sym, refl, ap, ◌∙◌, inl, inr, ⊎_elim, append_assoc, arith, take-append-drop, length-take-le, get_or-take, drop-drop, take_at, drop_at, ne_eqb}
use mathlib.Core.Bool.{false≢true}
use lib.ListN.{get_or-append}
use Rattle.wire.specs.Number.{number, bytes}
use Rattle.wire.proofs.Choices.{is-or, by-test}
use Rattle.wire.proofs.Numbers.{length-bytes, eight-bytes, read-written, number-parts}
use Rattle.node.specs.Tags.{sort_of, class_of}
use Rattle.node.specs.Records.{record_size}
use Rattle.node.specs.Rules.{own_rules}
use Rattle.node.specs.declared.record.Item.{Item}
use Rattle.clock.specs.Shift.{shifted}
use Rattle.shifts.specs.Shifts.{is_timed, time_tag, shifted_record}
use Rattle.shifts.proofs.Records.{shifted-timed, shifted-other, number-inside}

-- ---- a node's own numbers

-- the tag of a node
abbrev pub item_tag : Item → ℕ
item_tag item = item.a * 2 ^ 32 + item.b

-- a node with these two numbers in place of its own
abbrev pub with_tag : ℕ → Item → Item
with_tag tag item = record { kind = item.kind; a = tag / 2 ^ 32; b = tag % 2 ^ 32; start = item.start }

-- a node with its tag shifted
unfoldable pub shifted_item : ℕ → Item → Item
shifted_item by item = cond (is_timed item.kind) (with_tag (shifted (item_tag item) by) item) item

pub item-timed : (by : ℕ) (item : Item) → is_timed item.kind ≡ true → shifted_item by item ≡ with_tag (shifted (item_tag item) by) item
unfolding shifted_item
item-timed by item e = ap (λ (b : Bool). cond b (with_tag (shifted (item_tag item) by) item) item) e

pub item-other : (by : ℕ) (item : Item) → is_timed item.kind ≡ false → shifted_item by item ≡ item
unfolding shifted_item
item-other by item e = ap (λ (b : Bool). cond b (with_tag (shifted (item_tag item) by) item) item) e

-- a # or a t
pub timed-kinds : (k : ℕ) → is_timed k ≡ true → (k ≡ 35) ⊎ (k ≡ 116)
timed-kinds k e =
    ⊎_elim inl
    (λ n. ⊎_elim inr (λ m. absurd (false≢true (rw (ne_eqb k 35 n, ne_eqb k 116 m) at e))) (is-or k 116))
    (is-or k 35)

-- the kind stays
pub kind-kept : (by : ℕ) (item : Item) → (shifted_item by item).kind ≡ item.kind
unfolding shifted_item
kind-kept by item = by-test (λ (x : Item). x.kind ≡ item.kind) (is_timed item.kind) (λ _. refl) (λ _. refl)

-- a # or a t has no rule of its own
timed-rules : (item : Item) → is_timed item.kind ≡ true → own_rules item ≡ true
unfolding own_rules sort_of class_of
timed-rules item e = ⊎_elim (λ q. rw q) (λ q. rw q) (timed-kinds item.kind e)

-- a shifted node obeys its own rules as before
pub rules-kept : (by : ℕ) (item : Item) → own_rules (shifted_item by item) ≡ own_rules item
rules-kept by item = go (is_timed item.kind) refl
  where
    go : (b : Bool) → is_timed item.kind ≡ b → own_rules (shifted_item by item) ≡ own_rules item
    go true e =
        timed-rules (shifted_item by item) (ap is_timed (kind-kept by item) ∙ e) ∙ sym (timed-rules item e)
    go false e = ap own_rules (item-other by item e)

-- ---- the bytes of a record

module _ (by : ℕ) (r : List ℕ) (l : length r ≡ record_size) where
  -- the first eight bytes stay, and so does each number in them
  head-length : length (take 8 r) ≡ 8
  head-length = length-take-le 8 r (omega arith)

  whole : take 8 r ++ drop 8 r ≡ r
  whole = take-append-drop 8 r

  module _ (q : is_timed (get_or r 0 0) ≡ true) where
    abbrev moved : ℕ
    moved = shifted (time_tag r) by

    head-kept : (n k : ℕ) → k + n ≤ 8 → number n (drop k (shifted_record by r)) ≡ number n (drop k r)
    head-kept n k h =
        ap (λ (x : List ℕ). number n (drop k x)) (shifted-timed by r q)
        ∙ number-inside n k (take 8 r) (bytes 8 moved ++ drop 16 r) (omega (arith, head-length))
        ∙ sym (number-inside n k (take 8 r) (drop 8 r) (omega (arith, head-length)))
        ∙ ap (λ (x : List ℕ). number n (drop k x)) whole

    kind-same : get_or (shifted_record by r) 0 0 ≡ get_or r 0 0
    kind-same =
        ap (λ (x : List ℕ). get_or x 0 0) (shifted-timed by r q)
        ∙ get_or-append (take 8 r) (bytes 8 moved ++ drop 16 r) 0 0 (omega (arith, head-length))
        ∙ get_or-take 8 r 0 0 (omega arith)

    -- what stands from the tag on
    pub from-tag : drop 8 (shifted_record by r) ≡ bytes 8 moved ++ drop 16 r
    from-tag = ap (drop 8) (shifted-timed by r q) ∙ drop_at (take 8 r) (bytes 8 moved ++ drop 16 r) 8 head-length

    halves : drop 8 (shifted_record by r) ≡ bytes 4 (moved / 2 ^ 32) ++ (bytes 4 (moved % 2 ^ 32) ++ drop 16 r)
    halves =
        from-tag ∙ ap (λ (x : List ℕ). x ++ drop 16 r) (sym (eight-bytes moved))
        ∙ append_assoc (bytes 4 (moved / 2 ^ 32)) (bytes 4 (moved % 2 ^ 32)) (drop 16 r)

    pub tag-moved : time_tag (shifted_record by r) ≡ moved
    tag-moved = ap (number 8) from-tag ∙ read-written 8 moved (drop 16 r) (omega arith)

    upper : number 4 (drop 8 (shifted_record by r)) ≡ moved / 2 ^ 32
    upper = ap (number 4) halves ∙ read-written 4 (moved / 2 ^ 32) (bytes 4 (moved % 2 ^ 32) ++ drop 16 r) (omega arith)

    lower : number 4 (drop 12 (shifted_record by r)) ≡ moved % 2 ^ 32
    lower =
        ap (number 4)
        (sym (drop-drop 4 8 (shifted_record by r)) ∙ ap (drop 4) halves
        ∙ drop_at (bytes 4 (moved / 2 ^ 32)) (bytes 4 (moved % 2 ^ 32) ++ drop 16 r) 4 (length-bytes 4 (moved / 2 ^ 32)))
        ∙ read-written 4 (moved % 2 ^ 32) (drop 16 r) (omega arith)

    pub tail-kept : drop 16 (shifted_record by r) ≡ drop 16 r
    tail-kept =
        sym (drop-drop 8 8 (shifted_record by r)) ∙ ap (drop 8) from-tag
        ∙ drop_at (bytes 8 moved) (drop 16 r) 8 (length-bytes 8 moved)

    pub front_kept : take 8 (shifted_record by r) ≡ take 8 r
    front_kept = ap (take 8) (shifted-timed by r q) ∙ take_at (take 8 r) (bytes 8 moved ++ drop 16 r) 8 head-length

  -- the halves of a tag
  pub tag-halves : time_tag r ≡ number 4 (drop 8 r) * 2 ^ 32 + number 4 (drop 12 r)
  tag-halves = number-parts 4 4 r 8 (omega arith)

  -- what holds of a shifted record where it has a tag, and of the record itself
  by_kind : (P : List ℕ → Type 0) → (is_timed (get_or r 0 0) ≡ true → P (shifted_record by r)) → P r → P (shifted_record by r)
  by_kind P f g = go (is_timed (get_or r 0 0)) refl
    where
      go : (b : Bool) → is_timed (get_or r 0 0) ≡ b → P (shifted_record by r)
      go true q = f q
      go false q = rw (shifted-other by r q) g

  -- each number of a shifted record; n bytes before the tag, and four after it
  pub head-same : (n k : ℕ) → k + n ≤ 8 → number n (drop k (shifted_record by r)) ≡ number n (drop k r)
  head-same n k h = by_kind (λ (x : List ℕ). number n (drop k x) ≡ number n (drop k r)) (λ q. head-kept q n k h) refl

  pub kind-is : get_or (shifted_record by r) 0 0 ≡ get_or r 0 0
  kind-is = by_kind (λ (x : List ℕ). get_or x 0 0 ≡ get_or r 0 0) kind-same refl

  pub last-same : number 4 (drop 16 (shifted_record by r)) ≡ number 4 (drop 16 r)
  last-same = by_kind (λ (x : List ℕ). number 4 (drop 16 x) ≡ number 4 (drop 16 r)) (λ q. ap (number 4) (tail-kept q)) refl

  -- the numbers of a record's node
  abbrev ItemIn : List ℕ → Item
  ItemIn x = record { kind = get_or x 0 0; a = number 4 (drop 8 x); b = number 4 (drop 12 x); start = number 4 (drop 16 x) }

  -- a shifted record is that of the shifted node
  pub item-shifted : ItemIn (shifted_record by r) ≡ shifted_item by (ItemIn r)
  item-shifted = go (is_timed (get_or r 0 0)) refl
    where
      go : (b : Bool) → is_timed (get_or r 0 0) ≡ b → ItemIn (shifted_record by r) ≡ shifted_item by (ItemIn r)
      go true q =
          rw (item-timed by (ItemIn r) q, ← tag-halves, kind-same q, upper q, lower q, last-same)
      go false q = ap ItemIn (shifted-other by r q) ∙ sym (item-other by (ItemIn r) q)
