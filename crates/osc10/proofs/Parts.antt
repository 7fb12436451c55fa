-- What OSC 1.0 spells, read: texts, blobs and the data of one argument.
use mathlib.Core.Path.{◌≡◌, refl, sym, ap, ◌∙◌}
use mathlib.Core.Bool.{true}
use mathlib.Core.List.{List, [], ◌∷◌, ◌++◌, append_assoc}
use Prim.Native.Nat.{ℕ, suc, ◌+◌, ◌-◌, ◌*◌, ◌/◌, ◌%◌, ◌^◌, ◌≤◌, ◌<◌}
use native.Mathlib.Omega.{arith}
use borrow.Author.Tests.{ne_eqb}
use lib.ListN.{length, take, drop, replicate, length-append, length-replicate}
use lib.Seq.{take_at, drop_at}
use Rattle.wire.specs.Number.{number}
use Rattle.utf8.specs.Utf8.{Octets, Decides}
use Rattle.utf8.specs.Derive.{utf8}
use Rattle.utf8.proofs.Grammar.{octets, same_answer}
use Rattle.node.specs.declared.record.Item.{Item}
use Rattle.text.specs.Text.{until_nul, read_text}
use Rattle.argument.specs.Results.{Given}
use Rattle.text.specs.Results.{Found}
use Rattle.argument.specs.Argument.{arg_item, read_arg}
use Rattle.osc10.specs.Words.{NoNul}
use Rattle.osc10.specs.Osc10.{Atom, IsText, AtomAllowed, osc_int32, OscString, OscBlob, tag_of, AtomSpells, as_word, as_long, as_bare}
use Rattle.osc10.specs.Osc10.{as_string, as_blob, as_char, AtomIs}
use Rattle.wire.proofs.Numbers.{length-bytes, read-written}
use Rattle.text.proofs.Texts.{found}
use Rattle.argument.proofs.Argued.{four-given, eight-given, scalar-given, text-given, blob-given}
use Rattle.osc10.proofs.Placed.{At, at_front, at_back, range_at}
use Rattle.osc10.proofs.Tags.{class_is, scalar-small}

-- ---- texts

-- the first NUL
nul-after : (text more : List ℕ) → NoNul text → until_nul (text ++ (0 ∷ more)) ≡ length text
unfolding NoNul
nul-after [] more h = refl
nul-after (x ∷ text) more h = rw (ne_eqb x 0 h.0) (ap suc (nul-after text more h.1))

module _ {text bs : List ℕ} (w : OscString text bs) where
  string-before : (more : List ℕ) → bs ++ more ≡ text ++ (0 ∷ (replicate w.additional 0 ++ more))
  string-before more = rw w.spelled (append_assoc text _ more)

  -- an OSC-string has its text, one null and the additional ones
  pub string-length : length bs ≡ length text + 1 + w.additional
  string-length = ap length w.spelled ∙ simp (length-append, length-replicate) (omega arith)

  -- it begins with its text
  pub string-take : (more : List ℕ) → take (length text) (bs ++ more) ≡ text
  string-take more = rw string-before (take_at text _ (length text) refl)

  -- an OSC-string at a multiple of 4 is found, with its padding
  pub string-read : (more : List ℕ) (p : ℕ) → IsText text → p % 4 ≡ 0 → Found (length text) (length bs) ≡ read_text (bs ++ more) p
  string-read more p t z =
      let n = length text in
      let l = string-length in
      let r : (p + n + 4) / 4 * 4 - p ≡ length bs = omega (arith, w.few, w.multiple) in
      let k = length-append bs more in
      let e : n ≡ until_nul (bs ++ more) = rw string-before (sym (nul-after text _ t.non_null)) in
      let d : Decides true (Octets (take n (bs ++ more))) = rw (string-take more)
      (record { sound = λ _. t.valid; complete = λ _. refl }) in
      let u : utf8 (take n (bs ++ more)) ≡ true = same_answer (octets (take n (bs ++ more))) d in
      rw r at (found (bs ++ more) p n e (omega arith) (omega arith) u)

-- ---- one argument

-- its data is a multiple of 4 bytes
pub atom-even : {v : Atom} {bs : List ℕ} → AtomSpells v bs → length bs % 4 ≡ 0
atom-even as_word = rw length-bytes refl
atom-even as_long = simp (length-append, length-bytes)
atom-even as_bare = refl
atom-even (as_string w) = w.multiple
atom-even (as_blob w) = w.multiple
atom-even as_char = rw length-bytes refl

-- its data is read as a node that stands for it
pub record AtomRead (s : List ℕ) (base : ℕ) (v : Atom) (bs l : List ℕ) (p : ℕ) : Type 0 where
  pub item : Item
  pub given : Given item (length bs) ≡ read_arg (tag_of v) (class_is v) base l p
  pub is : AtomIs s v item

four-long : (x : ℕ) (more : List ℕ) → 4 ≤ length (osc_int32 x ++ more)
four-long x more = simp (length-append, length-bytes) (omega arith)

module _ (s : List ℕ) (base : ℕ) where
  -- where a blob's content stands
  blob-at : {content bs : List ℕ} (w : OscBlob content bs) {q : ℕ} → At s q bs → At s (q + 4) content
  blob-at {content} w {q} h =
      let n = osc_int32 (length content) in
      let e : length n ≡ 4 = length-bytes 4 (length content) in
      let back : At s (q + length n) (content ++ replicate w.additional 0) = at_back n _ (rw w.spelled at h) in
      at_front content _ (rw e at back)

  -- the data of an argument that is no array is read as numbers that stand for it
  pub atom-read : {v : Atom} {bs : List ℕ} → AtomSpells v bs → AtomAllowed v → (more : List ℕ) (p : ℕ) → p % 4 ≡ 0
      → At s (base + p) bs → length bs < 256 ^ 4
      → AtomRead s base v bs (bs ++ more) p
  unfolding read_arg
  atom-read (as_word {tag = tag} {x = x}) h more p z at low =
      record {
        item = arg_item tag (base + p) x 0;
        given = rw length-bytes (four-given _ tag base p (four-long x more) (sym (read-written 4 x more h.1)));
        is = record { kind = refl; numbers = (refl, refl) };
      }
  atom-read (as_long {tag = tag} {high = x} {low = y}) h more p z at low =
      let e : (osc_int32 x ++ osc_int32 y) ++ more ≡ osc_int32 x ++ (osc_int32 y ++ more) = append_assoc (osc_int32 x) (osc_int32 y) more in
      let n : length (osc_int32 x ++ osc_int32 y) ≡ 8 = simp (length-append, length-bytes) in
      let d : drop 4 (osc_int32 x ++ (osc_int32 y ++ more)) ≡ osc_int32 y ++ more = drop_at (osc_int32 x) _ 4 (length-bytes 4 x) in
      let k : 8 ≤ length (osc_int32 x ++ (osc_int32 y ++ more)) = simp (length-append, length-bytes) (omega arith) in
      record {
        item = arg_item tag (base + p) x y;
        given = rw (n, e) (eight-given _ tag base p k (sym (read-written 4 x (osc_int32 y ++ more) h.1))
            (sym (ap (number 4) d ∙ read-written 4 y more h.2)));
        is = record { kind = refl; numbers = (refl, refl) };
      }
  atom-read (as_bare {tag = tag}) h more p z at low =
      record { item = arg_item tag (base + p) 0 0; given = refl; is = record { kind = refl; numbers = (refl, refl) } }
  atom-read (as_string {text = text} w) h more p z at low =
      record {
        item = arg_item 115 (base + p) (base + p) (length text);
        given = text-given _ 115 base p (string-read w more p h z);
        is = record { kind = refl; numbers = range_at (at_front text _ (rw w.spelled at at)) };
      }
  atom-read (as_blob {content = content} {bs = bs} w) h more p z at low =
      let n = length content in
      let e : bs ++ more ≡ osc_int32 n ++ ((content ++ replicate w.additional 0) ++ more) = rw w.spelled
      (append_assoc (osc_int32 n) _ more) in
      let l : length bs ≡ 4 + n + w.additional = ap length w.spelled
      ∙ simp (length-append, length-bytes, length-replicate) (omega arith) in
      let k = length-append bs more in
      let x : n ≡ number 4 (bs ++ more) = rw e (sym (read-written 4 n _ (omega arith))) in
      let r : (p + (4 + n) + 3) / 4 * 4 - p ≡ length bs = omega (arith, w.few, w.multiple) in
      record {
        item = arg_item 98 (base + p + 4 - 4) (base + p + 4) n;
        given = rw r at (blob-given (bs ++ more) 98 base p (omega arith) x (omega arith) (omega arith));
        is = record { kind = refl; numbers = range_at (blob-at w at) };
      }
  atom-read (as_char {x = x}) h more p z at low =
      record {
        item = arg_item 99 (base + p) x 0;
        given = rw length-bytes
            (scalar-given _ 99 base p (four-long x more) (sym (read-written 4 x more (scalar-small x h))) h);
        is = record { kind = refl; numbers = (refl, refl) };
      }
