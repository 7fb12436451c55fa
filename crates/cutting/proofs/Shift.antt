-- What is read k bytes further on is the same, moved: an argument, the arguments of a message, a packet, a frame of edition 2, and what is
-- left of a list of frames.
use mathlib.Core.Path.{◌≡◌, refl, ap, sym, ◌∙◌}
use mathlib.Core.Bool.{false}
use mathlib.Core.Logic.{⊎_elim}
use mathlib.Core.List.{List, [], ◌∷◌}
use Prim.Native.Nat.{ℕ, zero, suc, ◌+◌, ◌≤◌, ◌<◌}
use native.Mathlib.Nat.{add_assoc}
use native.Mathlib.Omega.{arith}
use lib.Dec.{eqb, leb}
use lib.ListN.{length, take, drop, length-drop}
use Rattle.refusal.specs.Refusal.{moved_by}
use Rattle.refusal.specs.declared.Fault.{Fault}
use Rattle.refusal.specs.declared.Fault.TheVariants.{Empty, Short, NotUtf8, BadStart, NotOpen, UnknownTag, NotScalar}
use Rattle.refusal.specs.declared.Refusal.TheVariants.{Unreadable}
use Rattle.wire.specs.Number.{number}
use Rattle.wire.proofs.Choices.{by_both, lt-or-le}
use Rattle.node.specs.Forest.{Forest, nil, node, size, depth, snoc}
use Rattle.node.specs.Tags.{is_scalar, sort_of}
use Rattle.node.specs.declared.record.Item.{Item}
use Rattle.node.specs.declared.tags.Class.{Class}
use Rattle.node.specs.declared.tags.Class.TheVariants.{Four, Eight, Bare, Text as String, Blob, Scalar, Unknown}
use Rattle.node.specs.declared.tags.Sort.{Sort}
use Rattle.node.specs.declared.tags.Sort.TheVariants.{Opens, Closes, Leaf}
use Rattle.text.specs.Text.{reach, read_text}
use Rattle.argument.specs.Results.{Arg}
use Rattle.heads.specs.Results.{ElementSize, Length}
use Rattle.packet.specs.Results.{Start}
use Rattle.std.specs.Prelude.{Err, None, Some, Ok}
use Rattle.text.specs.Results.{Text}
use Rattle.argument.specs.Results as arg
use Rattle.heads.specs.Results as cut
use Rattle.packet.specs.Results as start
use Rattle.argument.specs.Argument.{arg_item, text_arg, read_arg}
use Rattle.arguments.specs.Arguments.{Args, refused, args, later, arg_taken, array_item, Open, waits, act, read_tags, read_args}
use Rattle.heads.specs.Heads.{tags_in, size_of, length_of, message_item, bundle_item}
use Rattle.packet.specs.FirstText.{start_of}
use Rattle.packet.specs.Packet.{Out, fault, one, Elements, upto, after, message_with, types_then, read_message, bundle_with, bundle_by}
use Rattle.packet.specs.Packet.{filling, held_by, element_by, joined, go_on, elements_by, started_by, packet_by, packet_at, elements_at, read_packet}
use Rattle.framing.specs.Framing.{Whole, trees, waiting, refusal, stopped, Frame, wait, read, refused as ended, wholly, cut_with, cut_frame}
use Rattle.framing.specs.Framing.{before, stops}
use Rattle.framing.proofs.FrameKnot.{FrameIn, cut_in}
use Rattle.framing.proofs.Lists as lists
use Rattle.decoder.proofs.Cuts.{rest_of, rest-by, rest-tree}
use Rattle.osc10.specs.Osc10.{words, longs, bares}
use Rattle.osc10.proofs.Tags.{of-among, HasTag, HasSort, has-sort}
use Rattle.given.specs.Encodable.{ranged_kind}
use Rattle.cutting.specs.Moved.{moved_item, moved_forest, moved_refusal, moved_whole}

-- ---- forests

-- trees k bytes further on have as many nodes
pub size-moved : (k : ℕ) (f : Forest) → size (moved_forest k f) ≡ size f
unfolding size moved_forest
size-moved k nil = refl
size-moved k (node item inside rest) = omega (arith, size-moved k inside, size-moved k rest)

-- trees k bytes further on are as deep
pub depth-moved : (k : ℕ) (f : Forest) → depth (moved_forest k f) ≡ depth f
unfolding depth moved_forest
depth-moved k nil = refl
depth-moved k (node item inside rest) = cc (depth-moved k inside, depth-moved k rest)

-- one node more at the end, further on
snoc-moved : (k : ℕ) (f : Forest) (item : Item) (g : Forest)
    → snoc (moved_forest k f) (moved_item k item) (moved_forest k g) ≡ moved_forest k (snoc f item g)
unfolding snoc moved_forest
snoc-moved k nil item g = refl
snoc-moved k (node item' f' rest) item g = ap (node (moved_item k item') (moved_forest k f')) (snoc-moved k rest item g)

-- ---- what is read, further on: a fault is told from the part that is read, and stays

abbrev moved_arg : ℕ → Arg → Arg
moved_arg k (Ok given) = arg.Given (moved_item k given.item) given.used
moved_arg k (Err j) = Err j

abbrev moved_args : ℕ → Args → Args
moved_args k (refused j) = refused j
moved_args k (args kept used) = args (moved_forest k kept) used

abbrev moved_opens : ℕ → List Open → List Open
moved_opens k [] = []
moved_opens k (waits outer item ∷ below) = waits (moved_forest k outer) (moved_item k item) ∷ moved_opens k below

abbrev moved_out : ℕ → Out → Out
moved_out k (fault j) = fault j
moved_out k (one item inside used) = one (moved_item k item) (moved_forest k inside) used

abbrev moved_elements : ℕ → Elements → Elements
moved_elements k (upto inside used) = upto (moved_forest k inside) used

abbrev moved_frame : ℕ → Frame → Frame
moved_frame k wait = wait
moved_frame k (read o) = read (moved_out k o)
moved_frame k (ended why) = ended (moved_refusal k why)

later-moved : (k n : ℕ) (x : Args) → later n (moved_args k x) ≡ moved_args k (later n x)
later-moved k n (refused j) = refl
later-moved k n (args kept used) = refl

after-moved : (k n : ℕ) (o : Out) → after n (moved_out k o) ≡ moved_out k (after n o)
after-moved k n (fault j) = refl
after-moved k n (one item inside used) = refl

module _ (k base : ℕ) where
  -- ---- one argument

  -- the first argument is the second further on
  abbrev ArgMoved : Arg → Arg → Type 0
  ArgMoved x y = x ≡ moved_arg k y

  -- a kind with no range: its numbers stay
  plain_moved : (tag p a b used : ℕ) → ranged_kind tag ≡ false
      → ArgMoved (arg.Given (arg_item tag (k + base + p) a b) used) (arg.Given (arg_item tag (base + p) a b) used)
  plain_moved tag p a b used h = rw (h, add_assoc)

  arg-moved : (l : List ℕ) (p : ℕ) (class : Class) (tag : ℕ) → HasTag tag class
      → ArgMoved (read_arg tag class (k + base) l p) (read_arg tag class base l p)
  unfolding read_arg
  arg-moved l p Four tag t =
      by_both ArgMoved (leb 4 (length l))
      (plain_moved tag p (number 4 l) 0 4 (of-among (λ x. ranged_kind x ≡ false) tag words (refl, (refl, (refl, (refl, tt)))) t)) refl
  arg-moved l p Eight tag t =
      by_both ArgMoved (leb 8 (length l))
      (plain_moved tag p (number 4 l) (number 4 (drop 4 l)) 8 (of-among (λ x. ranged_kind x ≡ false) tag longs (refl, (refl, (refl, tt))) t))
      refl
  arg-moved l p Bare tag t =
      plain_moved tag p 0 0 0 (of-among (λ x. ranged_kind x ≡ false) tag bares (refl, (refl, (refl, (refl, tt)))) t)
  arg-moved l p String tag t = by-text (read_text l p)
    where
      by-text : (x : Text) → ArgMoved (text_arg tag (k + base + p) p x) (text_arg tag (base + p) p x)
      by-text (Ok text) = rw (t, add_assoc)
      by-text (Err j) = refl
  arg-moved l p Blob tag t =
      by_both ArgMoved (leb 4 (length l))
      (by_both ArgMoved (leb (4 + number 4 l) (length l))
      (by_both ArgMoved (leb (reach p (4 + number 4 l)) (length l)) (rw (t, add_assoc k base (p + 4), add_assoc k base p)) refl)
      refl)
      refl
  arg-moved l p Scalar tag t =
      by_both ArgMoved (leb 4 (length l))
      (by_both ArgMoved (is_scalar (number 4 l)) (plain_moved tag p (number 4 l) 0 4 (ap ranged_kind t)) refl) refl
  arg-moved l p Unknown tag t = refl

  -- ---- the arguments of a message

  act-moved : (sort : Sort) (tag : ℕ) → HasSort tag sort → (go go' : List ℕ → ℕ → Forest → List Open → Args)
      → ((m : List ℕ) (q : ℕ) (f : Forest) (b : List Open) → go' m q (moved_forest k f) (moved_opens k b) ≡ moved_args k (go m q f b))
      → (l : List ℕ) (p : ℕ) (frame : Forest) (below : List Open)
      → act sort go' (k + base) tag l p (moved_forest k frame) (moved_opens k below) ≡ moved_args k (act sort go base tag l p frame below)
  unfolding moved_forest
  act-moved Opens tag t go go' h l p frame below = rw add_assoc (h l p nil (waits frame (array_item (base + p)) ∷ below))
  act-moved Closes tag t go go' h l p frame [] = refl
  act-moved Closes tag t go go' h l p frame (waits outer item ∷ below) =
      ap (λ (f : Forest). go' l p f (moved_opens k below)) (snoc-moved k outer item frame) ∙ h l p (snoc outer item frame) below
  act-moved (Leaf class) tag t go go' h l p frame below =
      ap (arg_taken (λ m q f. go' m q f (moved_opens k below)) l p (moved_forest k frame)) (arg-moved l p class tag t.1)
      ∙ by-arg (read_arg tag class base l p)
    where
      by-arg : (x : Arg)
          → arg_taken (λ m q f. go' m q f (moved_opens k below)) l p (moved_forest k frame) (moved_arg k x)
          ≡ moved_args k (arg_taken (λ m q f. go m q f below) l p frame x)
      by-arg (Err j) = refl
      by-arg (Ok given) =
          ap (λ (f : Forest). later given.used (go' (drop given.used l) (p + given.used) f (moved_opens k below)))
          (snoc-moved k frame given.item nil)
          ∙ ap (later given.used) (h (drop given.used l) (p + given.used) (snoc frame given.item nil) below)
          ∙ later-moved k given.used (go (drop given.used l) (p + given.used) (snoc frame given.item nil) below)

  tags-moved : (tags l : List ℕ) (p : ℕ) (frame : Forest) (below : List Open)
      → read_tags (k + base) tags l p (moved_forest k frame) (moved_opens k below) ≡ moved_args k (read_tags base tags l p frame below)
  unfolding read_tags
  tags-moved [] l p frame below = refl
  tags-moved (tag ∷ tags) l p frame below =
      act-moved (sort_of tag) tag (has-sort tag) (λ m q f b. read_tags base tags m q f b) (λ m q f b. read_tags (k + base) tags m q f b)
      (λ m q f b. tags-moved tags m q f b) l p frame below

  -- ---- packets

  message-moved : (item : Item) (l : List ℕ) (p : ℕ)
      → read_message (k + base) (moved_item k item) l p ≡ moved_out k (read_message base item l p)
  unfolding read_message moved_forest
  message-moved item l p = by-text (read_text l p)
    where
      by_args : (x : Args) → message_with (moved_item k item) (moved_args k x) ≡ moved_out k (message_with item x)
      by_args (refused j) = refl
      by_args (args kept used) = refl

      by-text : (x : Text) → types_then (k + base) (moved_item k item) l p x ≡ moved_out k (types_then base item l p x)
      by-text (Err j) = refl
      by-text (Ok text) =
          let tags = tags_in (take text.length l) in
          let o = read_args base tags (drop text.used l) (p + text.used) in
          ap (λ (x : Args). after text.used (message_with (moved_item k item) x))
          (tags-moved tags (drop text.used l) (p + text.used) nil [])
          ∙ ap (after text.used) (by_args o)
          ∙ after-moved k text.used (message_with item o)

  module _ (es es' : List ℕ → ℕ → Elements) (he : (m : List ℕ) (q : ℕ) → es' m q ≡ moved_elements k (es m q)) where
    bundle-moved : (at : ℕ) (l : List ℕ) (p : ℕ) → bundle_by (k + at) es' l p ≡ moved_out k (bundle_by at es l p)
    unfolding bundle_by
    bundle-moved at l p =
        by_both (λ x y. x ≡ moved_out k y) (leb 8 (length l))
        (ap (bundle_with (bundle_item (k + at) l)) (he (drop 8 l) (p + 8)) ∙ by-elements (es (drop 8 l) (p + 8))) refl
      where
        by-elements : (x : Elements) → bundle_with (bundle_item (k + at) l) (moved_elements k x) ≡ moved_out k (bundle_with (bundle_item at l) x)
        by-elements (upto inside used) = refl

    packet-by-moved : (l : List ℕ) (p : ℕ) → packet_by (k + base) es' l p ≡ moved_out k (packet_by base es l p)
    unfolding packet_by
    packet-by-moved l p = by-start (start_of l p)
      where
        by-start : (x : Start) → started_by (k + base) es' l p x ≡ moved_out k (started_by base es l p x)
        by-start (start.Message n used) =
            let item = message_item (base + p) n in
            let same : message_item (k + base + p) n ≡ moved_item k item = rw add_assoc in
            ap (λ (x : Item). after used (read_message (k + base) x (drop used l) (p + used))) same
            ∙ ap (after used) (message-moved item (drop used l) (p + used))
            ∙ after-moved k used (read_message base item (drop used l) (p + used))
        by-start (start.Bundle used) =
            ap (λ (x : ℕ). after used (bundle_by x es' (drop used l) (p + used))) (add_assoc k base p)
            ∙ ap (after used) (bundle-moved (base + p) (drop used l) (p + used))
            ∙ after-moved k used (bundle_by (base + p) es (drop used l) (p + used))
        by-start (Err j) = refl

    module _ (pk pk' : List ℕ → ℕ → Out) (hp : (m : List ℕ) (q : ℕ) → pk' m q ≡ moved_out k (pk m q)) where
      elements-by-moved : (l : List ℕ) (p : ℕ) → elements_by pk' es' l p ≡ moved_elements k (elements_by pk es l p)
      unfolding elements_by element_by moved_forest
      elements-by-moved l p = ap (go_on es' l p) (by_size (size_of l)) ∙ by_out (held_by pk l p (size_of l))
        where
          by-filling : (n : ℕ) (o : Out) → filling n (moved_out k o) ≡ moved_out k (filling n o)
          by-filling n (fault j) = refl
          by-filling n (one item inside used) = refl

          by_size : (x : ElementSize) → held_by pk' l p x ≡ moved_out k (held_by pk l p x)
          by_size (Some n) =
              ap (filling n) (hp (take n (drop 4 l)) (p + 4)) ∙ by-filling n (pk (take n (drop 4 l)) (p + 4))
          by_size None = refl

          by-joined : (item : Item) (inside : Forest) (n : ℕ) (x : Elements)
              → joined (moved_item k item) (moved_forest k inside) n (moved_elements k x) ≡ moved_elements k (joined item inside n x)
          by-joined item inside n (upto rest used) = refl

          by_out : (o : Out) → go_on es' l p (moved_out k o) ≡ moved_elements k (go_on es l p o)
          by_out (fault j) = refl
          by_out (one item inside n) =
              ap (joined (moved_item k item) (moved_forest k inside) n) (he (drop (4 + n) l) (p + (4 + n)))
              ∙ by-joined item inside n (es (drop (4 + n) l) (p + (4 + n)))

  mutual
    unfolding packet_at moved_forest

    packet-at-moved : (n : ℕ) (l : List ℕ) (p : ℕ) → packet_at (k + base) n l p ≡ moved_out k (packet_at base n l p)
    packet-at-moved zero l p = refl
    packet-at-moved (suc n) l p = packet-by-moved _ _ (λ m q. elements-at-moved n m q) l p

    elements-at-moved : (n : ℕ) (l : List ℕ) (p : ℕ) → elements_at (k + base) n l p ≡ moved_elements k (elements_at base n l p)
    elements-at-moved zero l p = refl
    elements-at-moved (suc n) l p =
        elements-by-moved _ _ (λ m q. elements-at-moved n m q) _ _ (λ m q. packet-at-moved n m q) l p

  packet-moved : (l : List ℕ) (p : ℕ) → read_packet (k + base) l p ≡ moved_out k (read_packet base l p)
  unfolding read_packet
  packet-moved l p = packet-at-moved (length l) l p

  -- ---- a frame

  -- the first frame is the second further on
  abbrev FrameMoved : Frame → Frame → Type 0
  FrameMoved x y = x ≡ moved_frame k y

  frame-moved : (limit : ℕ) (l : List ℕ) → FrameMoved (cut_frame limit (k + base) l) (cut_frame limit base l)
  unfolding cut_frame moved_forest
  frame-moved limit l = by_length (length_of l)
    where
      by-packet : (n : ℕ) (o : Out) → FrameMoved (wholly limit n (moved_out k o)) (wholly limit n o)
      by-packet n (fault j) = refl
      by-packet n (one item inside used) =
          let same : depth (node (moved_item k item) (moved_forest k inside) nil) ≡ depth (node item inside nil)
          = depth-moved k (node item inside nil) in
          rw same
          (by_both FrameMoved (eqb used n) (by_both FrameMoved (leb (depth (node item inside nil)) limit) refl refl) refl)

      by_length : (x : Length) → FrameMoved (cut_with limit (k + base) l x) (cut_with limit base l x)
      by_length (cut.Cuts n) =
          let bytes = take n (drop 4 l) in
          ap (λ (o : Out). wholly limit (4 + n) (after 4 o)) (packet-moved bytes 4)
          ∙ ap (wholly limit (4 + n)) (after-moved k 4 (read_packet base bytes 4))
          ∙ by-packet (4 + n) (after 4 (read_packet base bytes 4))
      by_length cut.Waiting = refl
      by_length cut.Over = refl
      by_length cut.Odd = refl

-- ---- what is left of a list

-- a fault moved twice
fault-moved : (k base : ℕ) (j : Fault) → moved_by (k + base) j ≡ moved_by k (moved_by base j)
fault-moved k base Empty = refl
fault-moved k base (Short field at) = ap (Short field) (add_assoc k base at)
fault-moved k base NotUtf8 = refl
fault-moved k base BadStart = refl
fault-moved k base NotOpen = refl
fault-moved k base UnknownTag = refl
fault-moved k base NotScalar = refl

before-moved : (k : ℕ) (item : Item) (f : Forest) (w : Whole)
    → before (moved_item k item) (moved_forest k f) (moved_whole k w) ≡ moved_whole k (before item f w)
unfolding moved_forest
before-moved k item f (trees g left) = refl
before-moved k item f waiting = refl
before-moved k item f (refusal why) = refl
before-moved k item f (stopped g left why at) = refl

module _ (limit k : ℕ) where
  -- what is left of l further on is what is left of it here, moved
  abbrev RestMoved : ℕ → List ℕ → Type 0
  RestMoved base l = rest_of limit (k + base) l ≡ moved_whole k (rest_of limit base l)

  rest-by-frame : (base : ℕ) (l : List ℕ) → 0 < length l → (x : Frame) → cut_frame limit base l ≡ x
      → cut_frame limit (k + base) l ≡ moved_frame k x → FrameIn (length l) x
      → ((u : ℕ) → 5 ≤ u → u ≤ length l → RestMoved (base + u) (drop u l)) → RestMoved base l
  unfolding moved_forest
  rest-by-frame base l some wait e e' w go =
      rest-by limit (k + base) l some e' ∙ ap (moved_whole k) (sym (rest-by limit base l some e))
  rest-by-frame base l some (ended why) e e' w go =
      rest-by limit (k + base) l some e' ∙ ap (moved_whole k) (sym (rest-by limit base l some e))
  rest-by-frame base l some (read (fault j)) e e' w go =
      rest-by limit (k + base) l some e'
      ∙ ap (λ (x : Fault). stopped nil (length l) (Unreadable x) (k + base)) (fault-moved k base j)
      ∙ ap (moved_whole k) (sym (rest-by limit base l some e))
  rest-by-frame base l some (read (one item f u)) e e' w go =
      rest-tree limit (k + base) l some e'
      ∙ ap (λ (b : ℕ). before (moved_item k item) (moved_forest k f) (rest_of limit b (drop u l))) (add_assoc k base u)
      ∙ ap (before (moved_item k item) (moved_forest k f)) (go u (omega arith) w.1)
      ∙ before-moved k item f (rest_of limit (base + u) (drop u l))
      ∙ ap (moved_whole k) (sym (rest-tree limit base l some e))

  rest-within : (n base : ℕ) (l : List ℕ) → length l < n → RestMoved base l
  unfolding moved_forest
  rest-within zero base l h = absurd (omega arith)
  rest-within (suc n) base l h =
      ⊎_elim
      (λ some. rest-by-frame base l some (cut_frame limit base l) refl (frame-moved k base limit l) (cut_in limit base l)
      (λ u low high. rest-within n (base + u) (drop u l) (omega (arith, length-drop u l))))
      (λ no. lists.remaining-none (λ b m. cut_frame limit b m) stops (k + base) l no
      ∙ ap (moved_whole k) (sym (lists.remaining-none (λ b m. cut_frame limit b m) stops base l no)))
      (lt-or-le 0 (length l))

  -- what is left of a list k bytes further on is the same, moved
  pub rest-moved : (base : ℕ) (l : List ℕ) → rest_of limit (k + base) l ≡ moved_whole k (rest_of limit base l)
  rest-moved base l = rest-within (suc (length l)) base l (omega arith)
