-- A writer's loop over the records of a row: what is written, and what is left to write.
use mathlib.Core.Path.{◌≡◌, refl, sym, ap, ◌∙◌}
use mathlib.Core.List.{List, [], ◌∷◌, ◌++◌, append_assoc, append-nil}
use Prim.Native.Nat.{ℕ, ◌+◌, ◌-◌, ◌*◌, ◌≤◌, ◌<◌}
use native.Mathlib.Omega.{arith}
use lib.ListN.{length, set, length-append, length-set}
use borrow.Rule.Slice.PartMut.{mid_of, put_mid}
use Rattle.wire.specs.Limits.{longest}
use Rattle.wire.specs.Wrote.{Filled}
use Rattle.wire.proofs.Parts.{length-lent}
use Rattle.wire.proofs.Writers.{wrote_none, filled-length, filled-set, filled-lent, same_length}
use Rattle.node.specs.Forest.{Forest, nil}
use Rattle.node.specs.Tags.{array_kind}
use Rattle.node.specs.Records.{record_size, kind_at, end_at, item_at}
use Rattle.table.specs.Tree.{Spans}
use Rattle.table.proofs.Spanned.{Cut, Parts, cut, cut_parts, no_more, spans_unique}
use Rattle.writers.specs.Osc.{write_tags}
use Rattle.writers.specs.CodeWriters.{Any, SoundIn, OutputRoom, WritesRow}
use Rattle.writers.proofs.Classed.{tags-array, tags-leaf, tags-some}

-- of a row that is P, and of which g is to be written, k bytes stand in the output, and f of the records from `at` on is left
pub record Going (P : Forest → Type 0) (g f : Forest → List ℕ) (t : List ℕ) (lo hi : ℕ) (o₀ o : List ℕ) (at k : ℕ) : Type 0 where
  pub whole : Forest
  pub rest : Forest
  pub done : List ℕ
  pub spans : Spans t lo hi whole
  pub left : Spans t at hi rest
  pub holds : P rest
  pub splits : g whole ≡ done ++ f rest
  pub filled : Filled done o₀ o k
  pub fits : length (g whole) ≤ length o₀
  pub few : length (g whole) ≤ longest
  pub table : record_size * hi ≤ length t
  pub passed : lo ≤ at

-- the loop begins
pub begun : {P : Forest → Type 0} {g f : Forest → List ℕ} {t : List ℕ} {lo hi : ℕ} {o₀ o : List ℕ} {k : ℕ}
    (r : OutputRoom P g t lo hi (length o₀)) (done : List ℕ)
    → g r.forest ≡ done ++ f r.forest → Filled done o₀ o k → Going P g f t lo hi o₀ o lo k
begun r done e w =
    record {
      whole = r.forest;
      rest = r.forest;
      done = done;
      spans = r.spans;
      left = r.spans;
      holds = r.holds;
      splits = e;
      filled = w;
      fits = r.fits;
      few = r.few;
      table = r.table;
      passed = omega arith;
    }

-- the loop begins with nothing written
pub begun-empty : {P : Forest → Type 0} {f : Forest → List ℕ} {t : List ℕ} {lo hi : ℕ} {o : List ℕ} → OutputRoom P f t lo hi (length o)
    → Going P f f t lo hi o o lo 0
begun-empty r = begun r [] refl (record { count = refl; wrote = wrote_none _ })

module _ {P : Forest → Type 0} {g f : Forest → List ℕ} {t : List ℕ} {lo hi : ℕ} {o₀ o : List ℕ} {at k : ℕ}
    (w : Going P g f t lo hi o₀ o at k) where
  -- it ends
  pub ended : f nil ≡ [] → hi ≤ at → WritesRow g t lo hi o₀ o k
  ended e h F s =
      let r : w.rest ≡ nil = no_more t at hi w.rest h w.left in
      let q : w.whole ≡ F = spans_unique t lo hi w.whole F w.spans s in
      let d : g F ≡ w.done = ap g (sym q) ∙ w.splits ∙ rw (r, e) (append-nil w.done) in
      rw d w.filled

  -- what is left has room
  pub room-left : (k + length (f w.rest) ≤ length o₀) × (k + length (f w.rest) ≤ longest)
  room-left =
      let l : length (g w.whole) ≡ length w.done + length (f w.rest) = ap length w.splits ∙ simp length-append in
      (omega (arith, w.filled.count, w.fits), omega (arith, w.filled.count, w.few))

  -- the first record that is left
  pub next : at < hi → Cut t at hi w.rest
  next h = cut t at hi w.rest h w.left

  -- one record further: its bytes are bs
  pub gone : (h : at < hi) (bs : List ℕ) {o' : List ℕ} {k' : ℕ} → f w.rest ≡ bs ++ f (next h).rest → P (next h).rest
      → Filled (w.done ++ bs) o₀ o' k' → Going P g f t lo hi o₀ o' (end_at t at) k'
  gone h bs e p v =
      record {
        whole = w.whole;
        rest = (next h).rest;
        done = w.done ++ bs;
        spans = w.spans;
        left = (next h).rest-spans;
        holds = p;
        splits = w.splits ∙ rw (e, ← append_assoc);
        filled = v;
        fits = w.fits;
        few = w.few;
        table = w.table;
        passed = omega (arith, w.passed, (next h).on);
      }

  -- the record that is read at `at` ends after it, and in the row
  pub ends : at < hi → {end : ℕ} → end ≡ end_at t at → (at < end) × (end ≤ hi)
  ends h e = rw e ((next h).on, (next h).within)

-- the first record that is left obeys its rules, and so do what it contains and what is left after it
pub obeyed : {source t : List ℕ} {g f : Forest → List ℕ} {lo hi : ℕ} {o₀ o : List ℕ} {at k : ℕ}
    (w : Going (SoundIn source) g f t lo hi o₀ o at k) (h : at < hi)
    → Parts source w.holds.container (item_at t at) (next w h).inside (next w h).rest
obeyed {source} w h = cut_parts (next w h) source w.holds.container w.holds.obeys

-- ---- a turn of the tags' loop

module _ {t : List ℕ} {lo hi : ℕ} {o₀ o : List ℕ} {at k : ℕ} (w : Going Any write_tags write_tags t lo hi o₀ o at k) (h : at < hi) where
  leaf-is : (kind_at t at ≡ array_kind → ⊥) → write_tags w.rest ≡ (kind_at t at ∷ []) ++ write_tags (next w h).rest
  leaf-is n = ap write_tags (next w h).is ∙ tags-leaf (item_at t at) (next w h).inside (next w h).rest n

  array-is : kind_at t at ≡ array_kind
      → write_tags w.rest ≡ (kind_at t at ∷ (write_tags (next w h).inside ++ (93 ∷ []))) ++ write_tags (next w h).rest
  array-is y = ap write_tags (next w h).is ∙ tags-array (item_at t at) (next w h).inside (next w h).rest y

  -- there is room for a tag
  pub tag-room : (k + 1 ≤ length o₀) × (k + 1 ≤ longest)
  tag-room =
      let l : 1 ≤ length (write_tags w.rest) = rw (next w h).is
      (tags-some (item_at t at) (next w h).inside (next w h).rest) in
      (omega (arith, room-left w), omega (arith, room-left w))

  array-length : kind_at t at ≡ array_kind → 2 + length (write_tags (next w h).inside) ≤ length (write_tags w.rest)
  array-length y = omega (arith, simp length-append at (ap length (array-is y)))

  module _ {kind end : ℕ} (e : kind ≡ kind_at t at) (e' : end ≡ end_at t at) where
    -- an argument that is no array is passed with its tag
    pub tags-leaf-gone : (kind ≡ array_kind → ⊥) → Going Any write_tags write_tags t lo hi o₀ (set o k kind) end (k + 1)
    tags-leaf-gone n = rw (e, e')
        (gone w h (kind_at t at ∷ []) (leaf-is (rw e at n)) tt (filled-set (kind_at t at) w.filled (omega (arith, tag-room))))

    -- the output with the opening bracket
    abbrev opened : List ℕ
    opened = set o k kind

    opened-length : length opened ≡ length o₀
    opened-length = simp length-set (filled-length w.filled)

    -- what an array contains has room after it
    pub tags-inside : kind ≡ array_kind
        → OutputRoom Any write_tags t (at + 1) end (length (mid_of (k + 1) (length opened - (k + 1)) opened))
    tags-inside y =
        let m = array-length (rw e at y) in
        record {
          forest = (next w h).inside;
          spans = rw e' (next w h).in-spans;
          holds = tt;
          fits = rw length-lent (omega (arith, room-left w, opened-length));
          few = omega (arith, room-left w);
          table = omega (arith, w.table, ends w h e');
        }

    -- and then there is room for the closing bracket
    module _ (y : kind ≡ array_kind) {p : List ℕ} {n : ℕ}
        (f : WritesRow write_tags t (at + 1) end (mid_of (k + 1) (length opened - (k + 1)) opened) p n) where
      inside-filled : Filled (write_tags (next w h).inside) (mid_of (k + 1) (length opened - (k + 1)) opened) p n
      inside-filled = f (next w h).inside (rw e' (next w h).in-spans)

      -- it fits the output
      pub close-room : (k + 1 + n + 1 ≤ length (put_mid (k + 1) (length opened - (k + 1)) opened p)) × (k + 1 + n + 1 ≤ longest)
      close-room =
          let m = array-length (rw e at y) in
          let c = inside-filled.count in
          (omega (arith, room-left w, opened-length, same_length opened (k + 1) inside-filled.wrote), omega (arith, room-left w))

      -- an array is passed with its closing bracket
      pub tags-array-gone : Going Any write_tags write_tags t lo hi o₀
          (set (put_mid (k + 1) (length opened - (k + 1)) opened p) (k + 1 + n) 93) end (k + 1 + n + 1)
      tags-array-gone =
          let l = same_length opened (k + 1) inside-filled.wrote in
          let f₁ = filled-set kind w.filled (omega (arith, tag-room)) in
          let f₂ = filled-set 93 (filled-lent f₁ inside-filled) (omega (arith, close-room, l, opened-length)) in
          let q : write_tags w.rest ≡ (kind ∷ (write_tags (next w h).inside ++ (93 ∷ []))) ++ write_tags (next w h).rest = rw e
          (array-is (rw e at y)) in
          rw e' (gone w h (kind ∷ (write_tags (next w h).inside ++ (93 ∷ []))) q tt (simp append_assoc at f₂))
