-- The data of a message's arguments stands end to end, and each begins at its own.
use mathlib.Core.Path.{◌≡◌, refl, sym, ap, subst, ◌∙◌}
use mathlib.Core.Bool.{Bool, true, false, cond, true≢false}
use mathlib.Core.List.{List, [], ◌∷◌, ◌++◌, append_assoc, append-nil}
use Prim.Native.Nat.{ℕ, ◌+◌, ◌%◌, ◌≤◌}
use native.Mathlib.Omega.{arith}
use borrow.Author.Tests.{ne_eqb}
use lib.Dec.{eqb}
use lib.ListN.{length, take, drop}
use lib.Seq.{take-add}
use Rattle.wire.specs.Number.{number, bytes}
use Rattle.wire.specs.Pad.{padded}
use Rattle.wire.proofs.Choices.{by-test, by_le}
use Rattle.wire.proofs.Numbers.{bytes_read}
use Rattle.node.specs.Forest.{Forest, nil, snoc}
use Rattle.node.specs.Tags.{message_kind, bundle_kind, array_kind, among, is_scalar, class_of, sort_of}
use Rattle.node.specs.Rules.{is_packet}
use Rattle.node.specs.declared.record.Item.{Item}
use Rattle.node.specs.declared.tags.Class.{Class}
use Rattle.node.specs.declared.tags.Class.TheVariants.{Four, Eight, Bare, Text as String, Blob, Scalar, Unknown}
use Rattle.node.specs.declared.tags.Sort.{Sort}
use Rattle.node.specs.declared.tags.Sort.TheVariants.{Opens, Closes, Leaf}
use Rattle.text.specs.Text.{reach, read_text}
use Rattle.argument.specs.Results.{Arg}
use Rattle.std.specs.Prelude.{Err, Ok}
use Rattle.text.specs.Results.{Text}
use Rattle.argument.specs.Results as arg
use Rattle.text.proofs.Within.{found-ends}
use Rattle.argument.specs.Argument.{arg_item, text_arg, read_arg}
use Rattle.argument.proofs.Within.{given-start, given-within, given-kind}
use Rattle.arguments.specs.Arguments.{Args, refused, args, later, arg_taken, array_item, Open, waits, act, read_tags, read_args}
use Rattle.arguments.specs.Arguments.{Balanced, nothing, another, matched}
use Rattle.refusal.specs.declared.Fault.{Fault}
use Rattle.osc10.specs.Osc10.{words, longs, bares}
use Rattle.osc10.specs.Words.{Bytes}
use Rattle.osc10.proofs.Placed.{At, at_take, at_on, at-bytes, range_at}
use Rattle.osc10.proofs.Tags.{of-among, HasTag, HasSort, has-sort}
use Rattle.given.specs.Starts.{BytesStand, number_bytes, OwnStart, data_size, data_end}
use Rattle.given.proofs.Starts.Forests.{Own, Laid, done, laid-snoc}

-- ---- one argument

-- a kind whose start is that of a bundle, an address, a blob or a text
abbrev marked : ℕ → Bool
marked kind = among kind (bundle_kind ∷ message_kind ∷ 98 ∷ 115 ∷ [])

-- of any other kind only its number is asked
plain : {msg : List ℕ} (item : Item) → marked item.kind ≡ false
    → BytesStand msg item.start (number_bytes (class_of item.kind) item) → OwnStart msg item
plain item h n =
    record {
      bundle = λ e. absurd (true≢false (sym (ap marked e) ∙ h));
      text = λ e. absurd
          (true≢false (sym (of-among (λ k. marked k ≡ true) item.kind (message_kind ∷ 115 ∷ []) (refl, (refl, tt)) e) ∙ h));
      blob = λ e. absurd (true≢false (sym (ap marked e) ∙ h));
      number = n;
    }

-- an argument that was read begins at its own data, takes its size with its padding, and is no packet
abbrev LeafLaid : List ℕ → Class → Arg → Type 0
LeafLaid msg class (Ok given) =
    Own msg given.item × (given.used ≡ padded (data_size class given.item)) × (is_packet given.item.kind ≡ false)
LeafLaid msg class (Err k) = Unit {0}

module _ {msg : List ℕ} (base : ℕ) {l : List ℕ} (p : ℕ) (at : At msg (base + p) l) (four : p % 4 ≡ 0) where
  -- four bytes that are read are those of their number
  word-here : Bytes msg → 4 ≤ length l → BytesStand msg (base + p) (bytes 4 (number 4 l))
  word-here small h = subst (BytesStand msg (base + p)) (sym (bytes_read l (at-bytes small at) 4 0 h)) (range_at (at_take 4 at)).holds

  -- and eight are those of two
  long-here : Bytes msg → 8 ≤ length l → BytesStand msg (base + p) (bytes 4 (number 4 l) ++ bytes 4 (number 4 (drop 4 l)))
  long-here small h =
      let b = at-bytes small at in
      let high : bytes 4 (number 4 l) ≡ take 4 l = bytes_read l b 4 0 (omega arith) in
      let low : bytes 4 (number 4 (drop 4 l)) ≡ take 4 (drop 4 l) = bytes_read l b 4 4 h in
      subst (BytesStand msg (base + p)) (take-add 4 4 l ∙ rw (high, low)) (range_at (at_take 8 at)).holds

  -- the number of a kind is that of its class
  number-here : (class : Class) (tag a b : ℕ) → class_of tag ≡ class
      → BytesStand msg (base + p) (number_bytes class (arg_item tag (base + p) a b))
      → BytesStand msg (base + p) (number_bytes (class_of tag) (arg_item tag (base + p) a b))
  number-here class tag a b c w =
      subst (λ (x : Class). BytesStand msg (base + p) (number_bytes x (arg_item tag (base + p) a b))) (sym c) w

  leaf-laid : (class : Class) (tag : ℕ) → HasTag tag class → class_of tag ≡ class → LeafLaid msg class (read_arg tag class base l p)
  unfolding read_arg class_of
  leaf-laid Four tag t c =
      let r = of-among (λ k. marked k ≡ false) tag words (refl, (refl, (refl, (refl, tt)))) t in
      let no = of-among (λ k. is_packet k ≡ false) tag words (refl, (refl, (refl, (refl, tt)))) t in
      by_le (LeafLaid msg Four) 4 (length l)
      (λ h. (
        λ small. plain (arg_item tag (base + p) (number 4 l) 0) r
            (number-here Four tag (number 4 l) 0 c (word-here small h)),
        refl,
        no,
      ))
      (λ _. tt)
  leaf-laid Eight tag t c =
      let r = of-among (λ k. marked k ≡ false) tag longs (refl, (refl, (refl, tt))) t in
      let no = of-among (λ k. is_packet k ≡ false) tag longs (refl, (refl, (refl, tt))) t in
      let a = number 4 l in
      let b = number 4 (drop 4 l) in
      by_le (LeafLaid msg Eight) 8 (length l)
      (λ h. (λ small. plain (arg_item tag (base + p) a b) r (number-here Eight tag a b c (long-here small h)), refl, no)) (λ _. tt)
  leaf-laid Bare tag t c =
      let r = of-among (λ k. marked k ≡ false) tag bares (refl, (refl, (refl, (refl, tt)))) t in
      let no = of-among (λ k. is_packet k ≡ false) tag bares (refl, (refl, (refl, (refl, tt)))) t in
      (λ _. plain (arg_item tag (base + p) 0 0) r (number-here Bare tag 0 0 c refl), refl, no)
  leaf-laid String tag t c = by-text (read_text l p) refl
    where
      by-text : (x : Text) → x ≡ read_text l p → LeafLaid msg String (text_arg tag (base + p) p x)
      by-text (Ok text') e = (
        λ _. record {
          bundle = λ q. absurd (omega arith);
          text = λ _. refl;
          blob = λ q. absurd (omega arith);
          number = number-here String tag (base + p) text'.length c refl;
        },
        omega (arith, (found-ends l p e).1),
        ap is_packet t,
      )
      by-text (Err k) e = tt
  leaf-laid Blob tag t c =
      let n = number 4 l in
      by_le (LeafLaid msg Blob) 4 (length l)
      (λ h. by_le (LeafLaid msg Blob) (4 + n) (length l)
      (λ _. by_le (LeafLaid msg Blob) (reach p (4 + n)) (length l)
      (λ _. (
        λ small. record {
          bundle = λ q. absurd (omega arith);
          text = λ q. absurd (true≢false (sym q ∙ ap (λ (k : ℕ). among k (message_kind ∷ 115 ∷ [])) t));
          blob = λ _. (omega arith, word-here small h);
          number = number-here Blob tag (base + (p + 4)) n c refl;
        },
        omega arith,
        ap is_packet t,
      )) (λ _. tt))
      (λ _. tt))
      (λ _. tt)
  leaf-laid Scalar tag t c =
      by_le (LeafLaid msg Scalar) 4 (length l)
      (λ h. by-test (LeafLaid msg Scalar) (is_scalar (number 4 l))
      (λ _. (
        λ small. plain (arg_item tag (base + p) (number 4 l) 0) (ap marked t) (number-here Scalar tag (number 4 l) 0 c (word-here small h)),
        refl,
        ap is_packet t,
      ))
      (λ _. tt))
      (λ _. tt)
  leaf-laid Unknown tag t c = tt

  -- one that is given ends where its data does
  leaf-given : (class : Class) (tag : ℕ) → HasTag tag class → class_of tag ≡ class → {item : Item} {used : ℕ}
      → arg.Given item used ≡ read_arg tag class base l p
      → Own msg item × (item.start ≡ base + p) × (data_end item ≡ base + (p + used)) × ((p + used) % 4 ≡ 0)
      × (is_packet item.kind ≡ false)
  leaf-given class tag t c {item} {used} g =
      let w : LeafLaid msg class (arg.Given item used) = rw (← g) at (leaf-laid class tag t c) in
      let s : item.start ≡ base + p = given-start tag class base l p g in
      let k : class_of item.kind ≡ class = ap class_of (given-kind tag class base l p g) ∙ c in
      let z : used ≡ padded (data_size (class_of item.kind) item) = rw k w.1 in
      (w.0, s, omega arith, omega arith, w.2)

-- ---- frames

-- the data of the frame that is filled stands end to end, from the array that it is for on, and so does that of the frames that wait
abbrev FramesLaid : List ℕ → ℕ → Forest → List Open → ℕ → Type 0
FramesLaid msg low frame [] high = Laid msg low frame high
FramesLaid msg low frame (waits outer item ∷ below) high =
    Laid msg (data_end item) frame high × Own msg item × (low ≤ data_end item) × (is_packet item.kind ≡ false)
    × FramesLaid msg low outer below item.start

-- what holds of every frame holds under those that wait
frames-map : {msg : List ℕ} (low h h' : ℕ) (f f' : Forest) (below : List Open) → ((l : ℕ) → Laid msg l f h → Laid msg l f' h')
    → FramesLaid msg low f below h
    → FramesLaid msg low f' below h'
frames-map low h h' f f' [] g w = g low w
frames-map low h h' f f' (waits outer item ∷ below) g w = (g (data_end item) w.0, w.1, w.2, w.3, w.4)

-- arguments whose data stands end to end from `low` or later
pub record KeptLaid (msg : List ℕ) (low : ℕ) (F : Forest) (to : ℕ) : Type 0 where
  pub from : ℕ
  pub above : low ≤ from
  pub laid : Laid msg from F to

-- what is kept is the frame that is filled
frames-kept : {msg : List ℕ} (low high : ℕ) (f : Forest) (below : List Open) → FramesLaid msg low f below high → KeptLaid msg low f high
frames-kept low high f [] w = record { from = low; above = omega arith; laid = w }
frames-kept low high f (waits outer item ∷ below) w = record { from = data_end item; above = w.2; laid = w.0 }

-- ---- the arguments of a message

-- the arguments that are kept stand between `low` and the end of the data that was read at p
abbrev ArgsLaid : List ℕ → ℕ → ℕ → ℕ → Args → Type 0
ArgsLaid msg low base p (refused k) = Unit {0}
ArgsLaid msg low base p (args f used) = KeptLaid msg low f (base + (p + used))

later-laid : (msg : List ℕ) (low base p n : ℕ) (o : Args) → ArgsLaid msg low base (p + n) o → ArgsLaid msg low base p (later n o)
later-laid msg low base p n (refused k) w = tt
later-laid msg low base p n (args f used) w =
    let q : base + (p + n + used) ≡ base + (p + (n + used)) = omega arith in subst (KeptLaid msg low f) q w

module _ {msg : List ℕ} (base low : ℕ) where
  act-laid : (sort : Sort) (tag : ℕ) → sort_of tag ≡ sort → (go : List ℕ → ℕ → Forest → List Open → Args) {l : List ℕ} (p : ℕ)
      (frame : Forest) (below : List Open)
      → At msg (base + p) l → p % 4 ≡ 0 → low ≤ base + p → FramesLaid msg low frame below (base + p)
      → ((m : List ℕ) (q : ℕ) (f : Forest) (b : List Open) → At msg (base + q) m → q % 4 ≡ 0 → low ≤ base + q
      → FramesLaid msg low f b (base + q) → ArgsLaid msg low base q (go m q f b))
      → ArgsLaid msg low base p (act sort go base tag l p frame below)
  unfolding sort_of class_of
  act-laid Opens tag e go {l} p frame below at a le w h =
      let item = array_item (base + p) in
      let same : base + p ≡ data_end item = omega arith in
      h l p nil (waits frame item ∷ below) at a le
      (subst (λ (x : ℕ). Laid msg x nil (base + p)) same done, λ _. plain item refl refl, omega arith, refl, w)
  act-laid Closes tag e go p frame [] at a le w h = tt
  act-laid Closes tag e go {l} p frame (waits outer item ∷ below) at a le w h =
      h l p (snoc outer item frame) below at a le
      (frames-map low item.start (base + p) outer (snoc outer item frame) below (λ q x. laid-snoc x w.3 refl w.1 w.0) w.4)
  act-laid (Leaf class) tag e go {l} p frame below at a le w h = by-arg (read_arg tag class base l p) refl
    where
      class-is : (x y : Bool) → cond x Opens (cond y Closes (Leaf (class_of tag))) ≡ Leaf class → class_of tag ≡ class
      class-is true y q = let z : ◌≡◌ {A = ℕ} 0 1 = cc in absurd (omega arith)
      class-is false true q = let z : ◌≡◌ {A = ℕ} 0 1 = cc in absurd (omega arith)
      class-is false false q = cc

      by-arg : (x : Arg) → x ≡ read_arg tag class base l p
          → ArgsLaid msg low base p (arg_taken (λ m q f. go m q f below) l p frame x)
      by-arg (Err k) g = tt
      by-arg (Ok given) g =
          let t = (subst (HasSort tag) e (has-sort tag)).1 in
          let v = leaf-given base p at a class tag t (class-is (eqb tag array_kind) (eqb tag 93) e) g in
          let n = given-within tag class base l p g in
          later-laid msg low base p given.used (go (drop given.used l) (p + given.used) (snoc frame given.item nil) below)
          (h (drop given.used l) (p + given.used) (snoc frame given.item nil) below (at_on base p given.used n at) v.3 (omega arith)
          (frames-map low (base + p) (base + (p + given.used)) frame (snoc frame given.item nil) below
          (λ q x. laid-snoc x v.4 v.1 v.0 (subst (Laid msg (data_end given.item) nil) v.2 done)) w))

  read-laid : (ts : List ℕ) {l : List ℕ} (p : ℕ) (frame : Forest) (below : List Open) → At msg (base + p) l → p % 4 ≡ 0 → low ≤ base + p
      → FramesLaid msg low frame below (base + p)
      → ArgsLaid msg low base p (read_tags base ts l p frame below)
  unfolding read_tags
  read-laid [] p frame below at a le w =
      let q : base + p ≡ base + (p + 0) = omega arith in subst (KeptLaid msg low frame) q (frames-kept low (base + p) frame below w)
  read-laid (t ∷ ts) p frame below at a le w =
      act-laid (sort_of t) t refl (λ m q f b. read_tags base ts m q f b) p frame below at a le w (λ m q f b. read-laid ts {l = m} q f b)

-- the data of a message's arguments stands end to end in what is read of them
pub args-laid : {msg : List ℕ} (base : ℕ) (ts : List ℕ) {l : List ℕ} (p : ℕ) → At msg (base + p) l → p % 4 ≡ 0
    → {kept : Forest} {used : ℕ} → args kept used ≡ read_args base ts l p
    → KeptLaid msg (base + p) kept (base + (p + used))
args-laid {msg} base ts p at a e =
    subst (ArgsLaid msg (base + p) base p) (sym e) (read-laid base (base + p) ts p nil [] at a (omega arith) done)

-- ---- tags that close every array

-- a law of what is read of tags that holds of a refusal, and with bytes read before
module _ {msg : List ℕ} (base : ℕ) (Q : ℕ → Args → Type 0) (stop : (p : ℕ) (k : Fault) → Q p (refused k))
    (step : (p n : ℕ) (o : Args) → Q (p + n) o → Q p (later n o)) where
  leaf-on : (tag : ℕ) → sort_of tag ≡ Leaf (class_of tag) → (go : List ℕ → ℕ → Forest → Args) {l : List ℕ} (p from : ℕ) (frame : Forest)
      → At msg (base + p) l → p % 4 ≡ 0 → Laid msg from frame (base + p)
      → ((m : List ℕ) (q : ℕ) (f : Forest) → At msg (base + q) m → q % 4 ≡ 0 → Laid msg from f (base + q) → Q q (go m q f))
      → Q p (arg_taken go l p frame (read_arg tag (class_of tag) base l p))
  leaf-on tag e go {l} p from frame at a w h = by-arg (read_arg tag (class_of tag) base l p) refl
    where
      by-arg : (x : Arg) → x ≡ read_arg tag (class_of tag) base l p → Q p (arg_taken go l p frame x)
      by-arg (Err k) g = stop p k
      by-arg (Ok given) g =
          let v = leaf-given base p at a (class_of tag) tag (subst (HasSort tag) e (has-sort tag)).1 refl g in
          let n = given-within tag (class_of tag) base l p g in
          step p given.used (go (drop given.used l) (p + given.used) (snoc frame given.item nil))
          (h (drop given.used l) (p + given.used) (snoc frame given.item nil) (at_on base p given.used n at) v.3
          (laid-snoc w v.4 v.1 v.0 (subst (Laid msg (data_end given.item) nil) v.2 done)))

  -- where it holds of the rest, it holds with tags before it that close every array: the frame that is filled is the same one then
  balanced-laid : {ts : List ℕ} → Balanced ts → (rest : List ℕ) {l : List ℕ} (p from : ℕ) (frame : Forest) (below : List Open)
      → At msg (base + p) l → p % 4 ≡ 0 → Laid msg from frame (base + p)
      → ((m : List ℕ) (q : ℕ) (f : Forest) → At msg (base + q) m → q % 4 ≡ 0 → Laid msg from f (base + q)
      → Q q (read_tags base rest m q f below))
      → Q p (read_tags base (ts ++ rest) l p frame below)
  unfolding read_tags sort_of class_of
  balanced-laid nothing rest {l} p from frame below at a w h = h l p frame at a w
  balanced-laid (another tag {tags = ts} n m b) rest {l} p from frame below at a w h =
      let e : sort_of tag ≡ Leaf (class_of tag) = rw (ne_eqb tag array_kind n, ne_eqb tag 93 m) in
      subst (λ (s : Sort). Q p (act s (λ x q f d. read_tags base (ts ++ rest) x q f d) base tag l p frame below)) (sym e)
      (leaf-on tag e (λ x q f. read_tags base (ts ++ rest) x q f below) p from frame at a w
      (λ x q f at' a' w'. balanced-laid b rest q from f below at' a' w' h))
  balanced-laid (matched {within} {tags} b d) rest {l} p from frame below at a w h =
      let item = array_item (base + p) in
      let same : base + p ≡ data_end item = omega arith in
      subst (λ (x : List ℕ). Q p (read_tags base x l p nil (waits frame item ∷ below))) (sym (append_assoc within (93 ∷ tags) rest))
      (balanced-laid b (93 ∷ (tags ++ rest)) p (data_end item) nil (waits frame item ∷ below) at a
      (subst (λ (x : ℕ). Laid msg x nil (base + p)) same done)
      (λ m q f at' a' w'. balanced-laid d rest q from (snoc frame item f) below at' a'
      (laid-snoc w refl refl (λ _. plain item refl refl) w') h))

abbrev ArgsFrom : List ℕ → ℕ → ℕ → ℕ → Args → Type 0
ArgsFrom msg from base p (refused k) = Unit {0}
ArgsFrom msg from base p (args f used) = Laid msg from f (base + (p + used))

later-from : (msg : List ℕ) (from base p n : ℕ) (o : Args) → ArgsFrom msg from base (p + n) o → ArgsFrom msg from base p (later n o)
later-from msg from base p n (refused k) w = tt
later-from msg from base p n (args f used) w =
    let q : base + (p + n + used) ≡ base + (p + (n + used)) = omega arith in subst (Laid msg from f) q w

-- of tags that close every array all arguments are kept, so that the first begins where the data does
pub args-closed : {msg : List ℕ} (base : ℕ) (ts : List ℕ) {l : List ℕ} (p : ℕ) → At msg (base + p) l → p % 4 ≡ 0
    → {kept : Forest} {used : ℕ} → args kept used ≡ read_args base ts l p → Balanced ts
    → Laid msg (base + p) kept (base + (p + used))
unfolding read_tags
args-closed {msg} base ts {l} p at a e b =
    let Q : ℕ → Args → Type 0 = ArgsFrom msg (base + p) base in
    let last : (m : List ℕ) (q : ℕ) (f : Forest) → At msg (base + q) m → q % 4 ≡ 0 → Laid msg (base + p) f (base + q)
    → Q q (args f 0) = λ m q f _ _ w. let z : base + q ≡ base + (q + 0) = omega arith in subst (Laid msg (base + p) f) z w in
    let all : Q p (read_tags base (ts ++ []) l p nil [])
    = balanced-laid base Q (λ q k. tt) (later-from msg (base + p) base) b [] p (base + p) nil [] at a done last in
    subst (Q p) (ap (λ (x : List ℕ). read_tags base x l p nil []) (append-nil ts) ∙ sym e) all
