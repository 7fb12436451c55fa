-- A field that is told is the one that is short, and what is accepted has none: every rule of reading, from texts to packets (Ticket 2).
use mathlib.Core.Path.{◌≡◌, refl, ap, sym, subst, ◌∙◌}
use mathlib.Core.List.{List, [], ◌∷◌, ◌++◌}
use Prim.Native.Nat.{ℕ, ◌+◌, ◌≤◌, ◌<◌}
use native.Mathlib.Omega.{arith}
use borrow.Author.Tests.{ltb-true, ltb-false}
use lib.Dec.{eqb, ltb}
use lib.ListN.{length, get_or, take, drop, length-drop}
use lib.Seq.{drop-drop}
use Rattle.refusal.specs.declared.Fault.{Fault}
use Rattle.refusal.specs.declared.Fault.TheVariants.{Empty, Short, NotUtf8, BadStart, NotOpen, UnknownTag, NotScalar}
use Rattle.refusal.specs.declared.Field.{Field}
use Rattle.refusal.specs.declared.Field.TheVariants.{Data, Padding}
use Rattle.wire.specs.Number.{number}
use Rattle.wire.specs.Same.{same_bytes}
use Rattle.wire.proofs.Choices.{by-test, by-eq, by_le, by_both}
use Rattle.utf8.specs.Derive.{utf8}
use Rattle.node.specs.Forest.{Forest, nil, snoc}
use Rattle.node.specs.Tags.{message_kind, array_kind, class_of, sort_of, is_scalar}
use Rattle.node.specs.declared.record.Item.{Item}
use Rattle.node.specs.declared.tags.Class.{Class}
use Rattle.node.specs.declared.tags.Class.TheVariants.{Four, Eight, Bare, Text as String, Blob, Scalar, Unknown}
use Rattle.node.specs.declared.tags.Sort.{Sort}
use Rattle.node.specs.declared.tags.Sort.TheVariants.{Opens, Closes, Leaf}
use Rattle.text.specs.Text.{until_nul, reach, read_text, fault_in}
use Rattle.argument.specs.Results.{Arg}
use Rattle.packet.specs.Results.{Start}
use Rattle.std.specs.Prelude.{Err, Ok}
use Rattle.text.specs.Results.{Found, Text}
use Rattle.argument.specs.Argument.{having, text_arg, read_arg}
use Rattle.arguments.specs.Arguments.{Args, refused, args, later, arg_taken, Open, waits, array_item, act, read_tags, read_args}
use Rattle.heads.specs.Heads.{tags_in, message_item, bundle_item}
use Rattle.packet.specs.FirstText.{bundle_word, start_by, start_of}
use Rattle.packet.specs.Packet.{Out, fault, one, Elements, upto, after, message_with, types_then, read_message, bundle_with, bundle_by}
use Rattle.packet.specs.Packet.{started_by, packet_by, read_packet, read_elements}
use Rattle.packet.proofs.Knot.{packet-eq}
use Rattle.calls.specs.Fields.{Form, address, type_text, padding, plain, string, blob, time_tag, field_of, needs}
use Rattle.calls.specs.Fields.{class_fields, data_fields, message_fields, later_fields, packet_fields, ShortIn, cut_here, cut_later}

-- ---- what a reading says of the fields that it reads

-- how a reading ends: with a fault, or well
pub data Judgement : Type 0 where
  bad : Fault → Judgement
  fine : Judgement

-- of these fields a fault tells the one that is short; where there is no fault, none is short
abbrev pub Judged : List Form → List ℕ → ℕ → Judgement → Type 0
Judged forms l p (bad Empty) = Unit {0}
Judged forms l p (bad (Short field at)) = ShortIn forms l p field at
Judged forms l p (bad NotUtf8) = Unit {0}
Judged forms l p (bad BadStart) = Unit {0}
Judged forms l p (bad NotOpen) = Unit {0}
Judged forms l p (bad UnknownTag) = Unit {0}
Judged forms l p (bad NotScalar) = Unit {0}
Judged forms l p fine = (field : Field) (at : ℕ) → ShortIn forms l p field at → ⊥

module _ (form : Form) (forms : List Form) (l : List ℕ) (p : ℕ) (h : needs form p l ≤ length l) where
  not_first : {field : Field} {at : ℕ} → ShortIn (form ∷ forms) l p field at
      → ShortIn forms (drop (needs form p l) l) (p + needs form p l) field at
  not_first (cut_here g) = absurd (omega arith)
  not_first (cut_later g s) = s

  -- what is said of the fields after one that is all there is said of all of them
  pub pass : (x : Judgement) → Judged forms (drop (needs form p l) l) (p + needs form p l) x → Judged (form ∷ forms) l p x
  pass (bad Empty) s = tt
  pass (bad (Short field at)) s = cut_later {form = form} {l = l} {p = p} (omega arith) s
  pass (bad NotUtf8) s = tt
  pass (bad BadStart) s = tt
  pass (bad NotOpen) s = tt
  pass (bad UnknownTag) s = tt
  pass (bad NotScalar) s = tt
  pass fine s = λ field at t. s field at (not_first t)

-- no field is short where there is none
abbrev Some : List Form → Type 0
Some [] = ⊥
Some (form ∷ forms) = Unit {0}

some-form : {forms : List Form} {l : List ℕ} {p : ℕ} {field : Field} {at : ℕ} → ShortIn forms l p field at → Some forms
some-form (cut_here h) = tt
some-form (cut_later h s) = tt

-- these fields are all there, and take so many bytes: what is said of those after them is said of all
abbrev Passed : List Form → List ℕ → ℕ → ℕ → Type 0
Passed fields l p used = (forms : List Form) (x : Judgement) → Judged forms (drop used l) (p + used) x → Judged (fields ++ forms) l p x

-- nothing, and one field, and two
passed_none : (l : List ℕ) (p : ℕ) → Passed [] l p 0
passed_none l p forms x s = let e : p + 0 ≡ p = omega arith in subst (λ (q : ℕ). Judged forms l q x) e s

passed-one : (form : Form) (l : List ℕ) (p : ℕ) → needs form p l ≤ length l → Passed (form ∷ []) l p (needs form p l)
passed-one form l p h forms x s = pass form forms l p h x s

module _ (form form' : Form) (l : List ℕ) (p : ℕ) (h : needs form p l ≤ length l)
    (g : needs form' (p + needs form p l) (drop (needs form p l) l) ≤ length (drop (needs form p l) l)) where
  passed-two : (used : ℕ) → used ≡ needs form p l + needs form' (p + needs form p l) (drop (needs form p l) l)
      → Passed (form ∷ form' ∷ []) l p used
  passed-two used e forms x s =
      let a = needs form p l in
      let b = needs form' (p + a) (drop a l) in
      let sum : p + used ≡ p + a + b = omega (arith, e) in
      let rest : drop used l ≡ drop b (drop a l) = ap (λ (n : ℕ). drop n l) e ∙ sym (drop-drop b a l) in
      let t : Judged forms (drop b (drop a l)) (p + a + b) x =
      subst (λ (m : List ℕ). Judged forms m (p + a + b) x) rest (subst (λ (q : ℕ). Judged forms (drop used l) q x) sum s) in
      pass form (form' ∷ forms) l p h x (pass form' forms (drop a l) (p + a) g x t)

-- ---- texts

module _ (form : Form) (text : (q : ℕ) (m : List ℕ) → needs form q m ≡ until_nul m + 1) (l : List ℕ) (p : ℕ) where
  -- a text that is this field, and its padding
  abbrev TextJudged : Text → Type 0
  TextJudged (Ok text) =
      (Found text.length text.used ≡ Found (until_nul l) (reach p (until_nul l + 1)))
      × Passed (form ∷ padding ∷ []) l p (reach p (until_nul l + 1))
  TextJudged (Err k) = (forms : List Form) → Judged (form ∷ padding ∷ forms) l p (bad (fault_in (field_of form) p k))

  no_nul : length l ≤ until_nul l → (forms : List Form) → ShortIn (form ∷ padding ∷ forms) l p (field_of form) p
  no_nul h forms = let n : length l < needs form p l = omega (arith, text p l) in cut_here n

  module _ (h : until_nul l < length l) where
    no_padding : length l < reach p (until_nul l + 1) → (forms : List Form)
        → ShortIn (form ∷ padding ∷ forms) l p Padding (p + until_nul l + 1)
    no_padding g forms =
        let a = needs form p l in
        let e : p + a ≡ p + until_nul l + 1 = omega (arith, text p l) in
        let few : length (drop a l) < needs padding (p + a) (drop a l) = omega (arith, text p l, length-drop a l) in
        subst (λ (n : ℕ). ShortIn (form ∷ padding ∷ forms) l p Padding n) e
        (pass form (padding ∷ forms) l p (omega (arith, text p l)) (bad (Short Padding (p + a))) (cut_here few))

    text-passed : reach p (until_nul l + 1) ≤ length l → Passed (form ∷ padding ∷ []) l p (reach p (until_nul l + 1))
    text-passed g =
        passed-two form padding l p (omega (arith, text p l)) (omega (arith, text p l, length-drop (needs form p l) l))
        (reach p (until_nul l + 1)) (omega (arith, text p l))

  text-judged : TextJudged (read_text l p)
  unfolding read_text
  text-judged =
      by-test TextJudged (ltb (until_nul l) (length l))
      (λ h.
      let low = ltb-true (until_nul l) (length l) h in
      by_le TextJudged (reach p (until_nul l + 1)) (length l)
      (λ k. by-test TextJudged (utf8 (take (until_nul l) l)) (λ e. (refl, text-passed low k)) (λ e forms. tt))
      (λ k forms. no_padding low k forms))
      (λ h forms. no_nul (ltb-false (until_nul l) (length l) h) forms)

-- ---- arguments

module _ (class : Class) (l : List ℕ) (p : ℕ) where
  abbrev ArgJudged : Arg → Type 0
  ArgJudged (Ok given) = Passed (class_fields class) l p given.used
  ArgJudged (Err k) = (forms : List Form) → Judged (class_fields class ++ forms) l p (bad k)

  -- data of n bytes that are there or not
  having-judged : (n : ℕ) (k : Fault) (x : Arg) → (n ≤ length l → ArgJudged x)
      → (length l < n → (forms : List Form) → Judged (class_fields class ++ forms) l p (bad k)) → ArgJudged (having n l k x)
  having-judged n k x f g = by_le ArgJudged n (length l) f g

text-arg-judged : (tag offset : ℕ) (l : List ℕ) (p : ℕ) (t : Text) → TextJudged string (λ q m. refl) l p t
    → ArgJudged String l p (text_arg tag offset p t)
text-arg-judged tag offset l p (Ok text) j =
    let e : text.used ≡ reach p (until_nul l + 1) = cc in subst (Passed (string ∷ padding ∷ []) l p) (sym e) j.1
text-arg-judged tag offset l p (Err k) j = j

module _ (l : List ℕ) (p : ℕ) where
  blob-short : length l < 4 + number 4 l → (forms : List Form) → ShortIn (blob ∷ padding ∷ forms) l p Data p
  blob-short h forms = cut_here h

  blob-padding-short : 4 + number 4 l ≤ length l → length l < reach p (4 + number 4 l) → (forms : List Form)
      → ShortIn (blob ∷ padding ∷ forms) l p Padding (p + (4 + number 4 l))
  blob-padding-short h g forms =
      let a = 4 + number 4 l in
      let few : length (drop a l) < needs padding (p + a) (drop a l) = omega (arith, length-drop a l) in
      pass blob (padding ∷ forms) l p h (bad (Short Padding (p + a))) (cut_here few)

arg-judged : (tag : ℕ) (class : Class) (base : ℕ) (l : List ℕ) (p : ℕ) → ArgJudged class l p (read_arg tag class base l p)
unfolding read_arg
arg-judged tag Four base l p = having-judged Four l p 4 _ _ (λ h. passed-one (plain 4) l p h) (λ h forms. cut_here h)
arg-judged tag Eight base l p = having-judged Eight l p 8 _ _ (λ h. passed-one (plain 8) l p h) (λ h forms. cut_here h)
arg-judged tag Bare base l p = passed_none l p
arg-judged tag String base l p = text-arg-judged tag (base + p) l p (read_text l p) (text-judged string (λ q m. refl) l p)
arg-judged tag Blob base l p =
    let n = 4 + number 4 l in
    having-judged Blob l p 4 _ _
    (λ _. having-judged Blob l p n _ _
    (λ h. having-judged Blob l p (reach p n) _ _
    (λ g. passed-two blob padding l p h (omega (arith, length-drop n l)) (reach p n) (omega arith))
    (λ g forms. blob-padding-short l p h g forms))
    (λ h forms. blob-short l p h forms))
    (λ h forms. blob-short l p (omega arith) forms)
arg-judged tag Scalar base l p =
    having-judged Scalar l p 4 _ _
    (λ h. by-test (ArgJudged Scalar l p) (is_scalar (number 4 l)) (λ _. passed-one (plain 4) l p h) (λ _ forms. tt))
    (λ h forms. cut_here h)
arg-judged tag Unknown base l p = λ forms. tt

-- how arguments end
abbrev args_end : Args → Judgement
args_end (refused k) = bad k
args_end (args kept used) = fine

more-end : (n : ℕ) (o : Args) → args_end o ≡ args_end (later n o)
more-end n (refused k) = refl
more-end n (args kept used) = refl

-- a tag's fields by its sort
abbrev sort_fields : Sort → List Form
sort_fields Opens = []
sort_fields Closes = []
sort_fields (Leaf class) = class_fields class

sort-fields : (t : ℕ) → sort_fields (sort_of t) ≡ class_fields (class_of t)
unfolding sort_of class_of
sort-fields t =
    let P : Sort → Type 0 = λ s. sort_fields s ≡ class_fields (class_of t) in
    by-eq P t array_kind (λ e. subst (λ (n : ℕ). [] ≡ class_fields (class_of n)) (sym e) refl)
    (λ _. by-eq P t 93 (λ e. subst (λ (n : ℕ). [] ≡ class_fields (class_of n)) (sym e) refl) (λ _. refl))

act-judged : (s : Sort) (go : List ℕ → ℕ → Forest → List Open → Args) (forms : List Form) (base tag : ℕ) (l : List ℕ) (p : ℕ)
    (frame : Forest) (below : List Open)
    → ((m : List ℕ) (q : ℕ) (f : Forest) (b : List Open) → Judged forms m q (args_end (go m q f b)))
    → Judged (sort_fields s ++ forms) l p (args_end (act s go base tag l p frame below))
act-judged Opens go forms base tag l p frame below h = h l p nil (waits frame (array_item (base + p)) ∷ below)
act-judged Closes go forms base tag l p frame [] h = tt
act-judged Closes go forms base tag l p frame (waits outer item ∷ below) h = h l p (snoc outer item frame) below
act-judged (Leaf class) go forms base tag l p frame below h = by-arg (read_arg tag class base l p) (arg-judged tag class base l p)
  where
    by-arg : (x : Arg) → ArgJudged class l p x
        → Judged (class_fields class ++ forms) l p (args_end (arg_taken (λ m q f. go m q f below) l p frame x))
    by-arg (Err k) j = j forms
    by-arg (Ok given) j =
        let o = go (drop given.used l) (p + given.used) (snoc frame given.item nil) below in
        j forms (args_end (later given.used o))
        (subst (Judged forms (drop given.used l) (p + given.used)) (more-end given.used o)
        (h (drop given.used l) (p + given.used) (snoc frame given.item nil) below))

tags-judged : (base : ℕ) (ts l : List ℕ) (p : ℕ) (frame : Forest) (below : List Open)
    → Judged (data_fields ts) l p (args_end (read_tags base ts l p frame below))
unfolding read_tags
tags-judged base [] l p frame below = λ field at s. some-form s
tags-judged base (t ∷ ts) l p frame below =
    let x = args_end (act (sort_of t) (λ m q f b. read_tags base ts m q f b) base t l p frame below) in
    subst (λ (fields : List Form). Judged (fields ++ data_fields ts) l p x) (sort-fields t)
    (act-judged (sort_of t) _ (data_fields ts) base t l p frame below (λ m q f b. tags-judged base ts m q f b))

-- ---- packets

-- how a packet ends
abbrev pub out_end : Out → Judgement
out_end (fault k) = bad k
out_end (one item inside used) = fine

pub after-end : (n : ℕ) (o : Out) → out_end o ≡ out_end (after n o)
after-end n (fault k) = refl
after-end n (one item inside used) = refl

with-end : (item : Item) (o : Args) → args_end o ≡ out_end (message_with item o)
with-end item (refused k) = refl
with-end item (args kept used) = refl

message-judged : (base : ℕ) (item : Item) (l : List ℕ) (p : ℕ) → Judged (message_fields l) l p (out_end (read_message base item l p))
unfolding read_message
message-judged base item l p = by-text (read_text l p) (text-judged type_text (λ q m. refl) l p)
  where
    n : ℕ
    n = until_nul l

    used : ℕ
    used = reach p (n + 1)

    tags : List ℕ
    tags = tags_in (take n l)

    by-text : (t : Text) → TextJudged type_text (λ q m. refl) l p t → Judged (message_fields l) l p (out_end (types_then base item l p t))
    by-text (Err k) j = j (data_fields tags)
    by-text (Ok text) j =
        let o = read_args base tags (drop used l) (p + used) in
        subst (λ (t : Text). Judged (message_fields l) l p (out_end (types_then base item l p t))) (sym j.0)
        (j.1 (data_fields tags) (out_end (after used (message_with item o)))
        (subst (Judged (data_fields tags) (drop used l) (p + used)) (with-end item o ∙ after-end used (message_with item o))
        (tags-judged base tags (drop used l) (p + used) nil [])))

bundle-judged : (start : ℕ) (es : List ℕ → ℕ → Elements) (l : List ℕ) (p : ℕ) → Judged (time_tag ∷ []) l p (out_end (bundle_by start es l p))
unfolding bundle_by
bundle-judged start es l p =
    by_le (λ o. Judged (time_tag ∷ []) l p (out_end o)) 8 (length l) (λ h. with-elements h (es (drop 8 l) (p + 8)))
    (λ h. cut_here {l = l} (omega arith))
  where
    with-elements : 8 ≤ length l → (x : Elements) → Judged (time_tag ∷ []) l p (out_end (bundle_with (bundle_item start l) x))
    with-elements h (upto inside used) = pass time_tag [] l p (omega arith) fine (λ field at s. some-form s)

-- a fault of a packet tells the field that is short, and a packet that is accepted has none
pub packet-judged : (base : ℕ) (l : List ℕ) (p : ℕ) → Judged (packet_fields l p) l p (out_end (read_packet base l p))
unfolding packet_by start_of
packet-judged base l p =
    subst (λ (o : Out). Judged (packet_fields l p) l p (out_end o)) (sym (packet-eq base l p))
    (by-test Starts (eqb (length l) 0) (λ _. tt) (λ _. by-text (read_text l p) (text-judged address (λ q m. refl) l p)))
  where
    es : List ℕ → ℕ → Elements
    es = λ m q. read_elements base m q

    Starts : Start → Type 0
    Starts s = Judged (packet_fields l p) l p (out_end (started_by base es l p s))

    n : ℕ
    n = until_nul l

    used : ℕ
    used = reach p (n + 1)

    rest : List ℕ
    rest = drop used l

    by-text : (t : Text) → TextJudged address (λ q m. refl) l p t → Starts (start_by l p t)
    by-text (Err k) j = j (later_fields l rest)
    by-text (Ok text) j = subst (λ (t : Text). Starts (start_by l p t)) (sym j.0) found
      where
        Goes : List Form → Start → Type 0
        Goes forms s = Judged (address ∷ padding ∷ forms) l p (out_end (started_by base es l p s))

        follows : (forms : List Form) (o : Out) → Judged forms rest (p + used) (out_end o)
            → Judged (address ∷ padding ∷ forms) l p (out_end (after used o))
        follows forms o k = j.1 forms (out_end (after used o)) (subst (Judged forms rest (p + used)) (after-end used o) k)

        found : Starts (start_by l p (Found n used))
        found =
            let item = message_item (base + p) n in
            let bundle = bundle_by (base + p) es rest (p + used) in
            by_both Goes (eqb (get_or l 0 0) message_kind)
            (follows (message_fields rest) (read_message base item rest (p + used)) (message-judged base item rest (p + used)))
            (by_both Goes (same_bytes (take n l) bundle_word)
            (follows (time_tag ∷ []) bundle (bundle-judged (base + p) es rest (p + used))) tt)
