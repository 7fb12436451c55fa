-- Dirty padding: a time tag is no padding, so another number there leaves the padding of every node of its tree.
use mathlib.Core.Path.{◌≡◌, refl, ap, sym, subst, ◌∙◌}
use mathlib.Core.Bool.{Bool, true, false, cond}
use mathlib.Core.Logic.{◌⊎◌, inl, inr, ⊎_elim}
use mathlib.Core.List.{List, [], ◌∷◌, ◌++◌}
use Prim.Native.Nat.{ℕ, zero, suc, ◌+◌, ◌-◌, ◌^◌, ◌<◌, ◌≤◌}
use native.Mathlib.Nat.{zero-add}
use native.Mathlib.Omega.{arith}
use lib.Dec.{eqb, leb}
use lib.ListN.{length, get_or, take, drop, length-drop, length-take, take-append-drop}
use lib.Seq.{take-append_seam, drop-append_seam}
use Rattle.node.specs.Forest.{Forest, nil, node, snoc, depth}
use Rattle.node.specs.Tags.{bundle_kind, class_of, sort_of}
use Rattle.node.specs.declared.record.Item.{Item}
use Rattle.node.specs.declared.tags.Class.{Class}
use Rattle.node.specs.declared.tags.Sort.{Sort}
use Rattle.node.specs.declared.tags.Sort.TheVariants.{Opens, Closes, Leaf}
use Rattle.text.specs.Text.{read_text, non_zero}
use Rattle.argument.specs.Results.{Arg}
use Rattle.heads.specs.Results.{ElementSize, Length}
use Rattle.packet.specs.Results.{Start}
use Rattle.std.specs.Prelude.{Err, None, Some, Ok}
use Rattle.text.specs.Results.{Found, Text}
use Rattle.argument.specs.Results as arg
use Rattle.heads.specs.Results as cut
use Rattle.packet.specs.Results as start
use Rattle.text.proofs.Within.{found_in, found-ends}
use Rattle.argument.specs.Argument.{read_arg}
use Rattle.argument.specs.CodeParts.{StandsAt, between, padding_from, dirt_of}
use Rattle.argument.specs.Dirt.{own_padding}
use Rattle.argument.proofs.Dirt.{arg-padding, padding-begins, dirt-node, dirt-nil}
use Rattle.argument.proofs.Stands.{stands-rest, stands_on, stands-take}
use Rattle.argument.proofs.Within.{given-within}
use Rattle.arguments.specs.Arguments.{Args, args, later, arg_taken, array_item, Open, waits, act, read_tags, read_args}
use Rattle.arguments.proofs.Dirt.{leaf-own, dirt-snoc}
use Rattle.refusal.specs.declared.Fault.{Fault}
use Rattle.refusal.specs.declared.Fault.TheVariants.{Short}
use Rattle.refusal.specs.declared.Field.TheVariants.{Head}
use Rattle.refusal.specs.declared.Refusal.TheVariants.{TooDeep, BytesLeft}
use Rattle.clock.specs.Shift.{shifted}
use Rattle.wire.specs.Number.{number}
use Rattle.framing.specs.Framing.{read, refused as cutoff, wholly, cut_with, cut_frame}
use Rattle.wire.proofs.Choices.{lt-or-le}
use Rattle.heads.specs.Heads.{tags_in, size_of, length_of, message_item, bundle_item}
use Rattle.heads.proofs.Heads.{size_in}
use Rattle.packet.specs.FirstText.{start_of}
use Rattle.packet.specs.Packet.{Out, fault, one, after, message_with, types_then, read_message, filling, read_packet, read_elements}
use Rattle.packet.specs.Packet.{read_bundle, read_element, trees_in}
use Rattle.packet.proofs.Bundles.{contents, bundle-short, bundle-long, ended, first-trees}
use Rattle.packet.proofs.Dirt.{message-padding, bundle-padding, packet-same, elements_same}
use Rattle.packet.proofs.FirstText.{message-text, bundle-text}
use Rattle.packet.proofs.Knot.{starts-message, starts-bundle, starts-refused, element-holds, element-runs-out}
use Rattle.slides.specs.Slides.{has_time, time_tag_of, time_place, with_time, put_time, slide_one, slid_bytes, slid_forest}
use Rattle.slides.proofs.Puts.{put-length, put-take-before, put-drop-before, put-drop-after, put-take-after, drop-take}
use Rattle.slides.proofs.Fronts.{text-front, arg-front}
use Rattle.slides.proofs.Times.{has-time, AtPlace, TimeAt, at-or-not, retimed, retimed_forest, retimed-at, retimed-not, Placed}
use Rattle.slides.proofs.ArgTimes.{later-is, IsTime, arg-time, ReachedArg, ReachedSort, Reached, args-reached, tags-reached}
use Rattle.slides.proofs.ArgTimes.{args-retimed}
use Rattle.slides.proofs.Marks.{retime_one, retime_all, retimed-slid}
use Rattle.slides.proofs.Slid.{FrameIs, place-room, Has, has_one, has_all, one-slid, all-slid, times-read}
use Rattle.slides.proofs.PacketTimes.{after_is, message-is, bundle-is, message-own, packet-retimed, elements-placed}

-- ---- bytes before, around and after a time tag

-- the same bytes, by how they begin and go on
two-parts : (n : ℕ) (x y z : List ℕ) → take n x ≡ y → drop n x ≡ z → x ≡ y ++ z
two-parts n x y z e f = sym (take-append-drop n x) ∙ rw (e, f)

module _ (i v : ℕ) (l m : List ℕ) (fits : i + 8 ≤ length (l ++ m)) where
  -- a time tag after these bytes
  put-after : length l ≤ i → put_time i v (l ++ m) ≡ l ++ put_time (i - length l) v m
  put-after h =
      two-parts (length l) (put_time i v (l ++ m)) l (put_time (i - length l) v m)
      (put-take-before i v (l ++ m) fits (length l) h ∙ take-append_seam l m)
      (put-drop-before i v (l ++ m) fits (length l) h ∙ ap (put_time (i - length l) v) (drop-append_seam l m))

  -- a time tag among them
  put-among : i + 8 ≤ length l → put_time i v (l ++ m) ≡ put_time i v l ++ m
  put-among h =
      two-parts (length l) (put_time i v (l ++ m)) (put_time i v l) m
      (put-take-after i v (l ++ m) fits (length l) h ∙ ap (put_time i v) (take-append_seam l m))
      (put-drop-after i v (l ++ m) fits (length l) h ∙ drop-append_seam l m)

-- bytes that are the same up to `used`, from n on
between-same : (n used : ℕ) (l l' : List ℕ) → n ≤ used → take used l' ≡ take used l → between n used l' ≡ between n used l
between-same n used l l' h e =
    let sum : n + (used - n) ≡ used = omega arith in
    let cut : (x : List ℕ) → between n used x ≡ drop n (take used x)
    = λ x. sym (drop-take n (used - n) x) ∙ ap (λ (k : ℕ). drop n (take k x)) sum in
    cut l' ∙ ap (drop n) e ∙ sym (cut l)

module _ (q v : ℕ) (small : v < 2 ^ 64) (msg : List ℕ) (fits : q + 8 ≤ length msg) where
  -- the input with another number there
  abbrev other : List ℕ
  other = put_time q v msg

  -- a part after it stands in both
  stands_after : (p : ℕ) (l : List ℕ) → q + 8 ≤ p → StandsAt msg (0 + p) l → StandsAt other (0 + p) l
  stands_after p l h w =
      let far : q + 8 ≤ 0 + p = omega arith in
      (w.0, put-drop-after q v msg fits (0 + p) far ∙ w.1)

  -- what stands at p, where the time tag comes later
  module _ (p : ℕ) (l : List ℕ) (w : StandsAt msg (0 + p) l) (low : p ≤ q) where
    rest-long : length (l ++ w.0) ≡ length msg - p
    rest-long = let z : 0 + p ≡ p = zero-add p in ap length (sym w.1) ∙ length-drop (0 + p) msg ∙ ap (λ (k : ℕ). length msg - k) z

    rest-other : drop (0 + p) other ≡ put_time (q - p) v (l ++ w.0)
    rest-other =
        let z : 0 + p ≡ p = zero-add p in
        put-drop-before q v msg fits (0 + p) (omega arith) ∙ ap (λ (k : ℕ). put_time (q - k) v (drop (0 + p) msg)) z ∙ ap
        (put_time (q - p) v) w.1

    -- a part before it stands in both
    stands-before : p + length l ≤ q → StandsAt other (0 + p) l
    stands-before h =
        (put_time (q - p - length l) v w.0, rest-other ∙ put-after (q - p) v l w.0 (omega (arith, rest-long)) (omega arith))

    -- a part around it stands in the other input with the other number
    stands-around : q + 8 ≤ p + length l → StandsAt other (0 + p) (put_time (q - p) v l)
    stands-around h = (w.0, rest-other ∙ put-among (q - p) v l w.0 (omega (arith, rest-long)) (omega arith))

  -- ---- trees with the same dirt in both

  abbrev Alike : Forest → Type 0
  Alike f = dirt_of 0 msg f ≡ dirt_of 0 other f

  abbrev OwnAlike : Item → Type 0
  OwnAlike item = own_padding 0 msg item ≡ own_padding 0 other item

  nil-alike : Alike nil
  nil-alike = dirt-nil 0 msg ∙ sym (dirt-nil 0 other)

  node_alike : (item : Item) (f rest : Forest) → OwnAlike item → Alike f → Alike rest → Alike (node item f rest)
  node_alike item f rest own h g = omega (arith, ap non_zero own, dirt-node 0 msg item f rest, dirt-node 0 other item f rest)

  -- ---- arguments

  arg-own : (tag : ℕ) (class : Class) (l l' : List ℕ) (p : ℕ) (item : Item) (u : ℕ) → Leaf class ≡ sort_of tag → StandsAt msg (0 + p) l
      → StandsAt other (0 + p) l' → read_arg tag class 0 l p ≡ arg.Given item u → read_arg tag class 0 l' p ≡ arg.Given item u
      → take u l' ≡ take u l → OwnAlike item
  arg-own tag class l l' p item u s w w' e e' t =
      leaf-own 0 msg tag class l p (sym s) (sym e)
      ∙ arg-padding tag 0 l p msg w class (sym e)
      ∙ sym (between-same (padding_from class item u) u l l' (padding-begins tag class 0 l p (sym e)).0 t)
      ∙ sym (arg-padding tag 0 l' p other w' class (sym e'))
      ∙ sym (leaf-own 0 other tag class l' p (sym s) (sym e'))

  snoc-alike : (f : Forest) (item : Item) (g : Forest) → Alike f → OwnAlike item → Alike g → Alike (snoc f item g)
  snoc-alike f item g h own k = omega (arith, ap non_zero own, dirt-snoc 0 msg f item g, dirt-snoc 0 other f item g)

  abbrev OpensAlike : List Open → Type 0
  OpensAlike [] = Unit {0}
  OpensAlike (waits outer item ∷ below) = Alike outer × OwnAlike item × OpensAlike below

  array-alike : (p : ℕ) → OwnAlike (array_item p)
  unfolding class_of
  array-alike p = refl

  -- a t has no padding
  time-own : (tag : ℕ) (class : Class) (l : List ℕ) (p : ℕ) (item : Item) (u : ℕ) → IsTime q tag class l p item u → OwnAlike item
  unfolding class_of
  time-own tag class l p item u t =
      ap (own_padding 0 msg) t.item-is ∙ sym (ap (own_padding 0 other) t.item-is)

  -- the tags after it
  abbrev AfterAlike : (List ℕ → ℕ → Forest → List Open → Args) → Type 0
  AfterAlike go =
      (m : List ℕ) (r : ℕ) (f : Forest) (b : List Open) (kept : Forest) (used : ℕ) → q + 8 ≤ r → StandsAt msg (0 + r) m → Alike f
      → OpensAlike b → go m r f b ≡ args kept used → Alike kept

  -- the tags that reach it
  abbrev ReachAlike : (List ℕ → ℕ → Forest → List Open → Args) → (List ℕ → ℕ → Type 0) → Type 0
  ReachAlike go R =
      (m : List ℕ) (r : ℕ) (f : Forest) (b : List Open) (kept : Forest) (used : ℕ) → R m r → StandsAt msg (0 + r) m → Alike f
      → OpensAlike b → go m r f b ≡ args kept used → Alike kept

  after-act : (sort : Sort) (tag : ℕ) → sort ≡ sort_of tag → (go : List ℕ → ℕ → Forest → List Open → Args) → AfterAlike go
      → AfterAlike (λ l p frame below. act sort go 0 tag l p frame below)
  after-act Opens tag s go h l p frame below kept used far w a b e =
      h l p nil (waits frame (array_item (0 + p)) ∷ below) kept used far w nil-alike (a, array-alike (0 + p), b) e
  after-act Closes tag s go h l p frame [] kept used far w a b e = let z : ◌≡◌ {A = ℕ} 0 1 = cc in absurd (omega arith)
  after-act Closes tag s go h l p frame (waits outer item ∷ below) kept used far w a b e =
      h l p (snoc outer item frame) below kept used far w (snoc-alike outer item frame b.0 b.1 a) b.2 e
  after-act (Leaf class) tag s go h l p frame below kept used far w a b e = by-arg (read_arg tag class 0 l p) refl e
    where
      by-arg : (x : Arg) → read_arg tag class 0 l p ≡ x → arg_taken (λ m r f. go m r f below) l p frame x ≡ args kept used → Alike kept
      by-arg (Err k) d f = let z : ◌≡◌ {A = ℕ} 0 1 = cc in absurd (omega arith)
      by-arg (Ok given) d f =
          let n = later-is given.used (go (drop given.used l) (p + given.used) (snoc frame given.item nil) below) kept used f in
          let own = arg-own tag class l l p given.item given.used s w (stands_after p l far w) d d refl in
          h (drop given.used l) (p + given.used) (snoc frame given.item nil) below kept n.0 (omega arith)
          (stands_on 0 p l msg w given.used (given-within tag class 0 l p (sym d))) (snoc-alike frame given.item nil a own nil-alike) b n.1

  tags-after : (tags : List ℕ) → AfterAlike (λ l p frame below. read_tags 0 tags l p frame below)
  unfolding read_tags
  tags-after [] l p frame below kept used far w a b e = let same : frame ≡ kept = cc in subst Alike same a
  tags-after (tag ∷ tags) l p frame below kept used far w a b e =
      after-act (sort_of tag) tag refl (λ m r f o. read_tags 0 tags m r f o) (tags-after tags) l p frame below kept used far w a b e

  reach-act : (sort : Sort) (tag : ℕ) → sort ≡ sort_of tag → (go : List ℕ → ℕ → Forest → List Open → Args) (R : List ℕ → ℕ → Type 0)
      → AfterAlike go → ReachAlike go R
      → ((m : List ℕ) (r : ℕ) (f : Forest) (b : List Open) (kept : Forest) (used : ℕ) → R m r → go m r f b ≡ args kept used → Placed q m r)
      → ReachAlike (λ l p frame below. act sort go 0 tag l p frame below) (ReachedSort q sort R tag)
  reach-act Opens tag s go R after h placed l p frame below kept used r w a b e =
      h l p nil (waits frame (array_item (0 + p)) ∷ below) kept used r w nil-alike (a, array-alike (0 + p), b) e
  reach-act Closes tag s go R after h placed l p frame [] kept used r w a b e = let z : ◌≡◌ {A = ℕ} 0 1 = cc in absurd (omega arith)
  reach-act Closes tag s go R after h placed l p frame (waits outer item ∷ below) kept used r w a b e =
      h l p (snoc outer item frame) below kept used r w (snoc-alike outer item frame b.0 b.1 a) b.2 e
  reach-act (Leaf class) tag s go R after h placed l p frame below kept used r w a b e = by-arg (read_arg tag class 0 l p) refl r e
    where
      by-arg : (x : Arg) → read_arg tag class 0 l p ≡ x → ReachedArg q R l p x
          → arg_taken (λ m t f. go m t f below) l p frame x ≡ args kept used → Alike kept
      by-arg (Err k) d c f = absurd c
      by-arg (Ok given) d (inl c) f =
          let n = later-is given.used (go (drop given.used l) (p + given.used) (snoc frame given.item nil) below) kept used f in
          let t = arg-time q tag class l p given.item given.used d s c in
          let own : OwnAlike given.item = time-own tag class l p given.item given.used t in
          let at : q ≡ p = t.place_is in
          let eight : given.used ≡ 8 = t.used-is in
          after (drop given.used l) (p + given.used) (snoc frame given.item nil) below kept n.0 (omega arith)
          (stands_on 0 p l msg w given.used (given-within tag class 0 l p (sym d))) (snoc-alike frame given.item nil a own nil-alike) b n.1
      by-arg (Ok given) d (inr c) f =
          let n = later-is given.used (go (drop given.used l) (p + given.used) (snoc frame given.item nil) below) kept used f in
          let k = placed (drop given.used l) (p + given.used) (snoc frame given.item nil) below kept n.0 c n.1 in
          let low : p + given.used ≤ q = k.low in
          let high : q + 8 ≤ p + given.used + length (drop given.used l) = k.high in
          let in-it : given.used ≤ length l = given-within tag class 0 l p (sym d) in
          let room : q - p + 8 ≤ length l = omega (arith, length-drop given.used l) in
          let l' = put_time (q - p) v l in
          let front : take given.used l' ≡ take given.used l = put-take-before (q - p) v l room given.used (omega arith) in
          let d' = arg-front l l' p (put-length (q - p) v l room) tag class given.item given.used d front in
          let w' = stands-around p l w (omega arith) (omega (arith, length-drop given.used l)) in
          let own = arg-own tag class l l' p given.item given.used s w w' d d' front in
          h (drop given.used l) (p + given.used) (snoc frame given.item nil) below kept n.0 c
          (stands_on 0 p l msg w given.used in-it) (snoc-alike frame given.item nil a own nil-alike) b n.1

  tags-reach : (tags : List ℕ) → ReachAlike (λ l p frame below. read_tags 0 tags l p frame below) (Reached q tags)
  unfolding read_tags
  tags-reach [] l p frame below kept used r w a b e = absurd r
  tags-reach (tag ∷ tags) l p frame below kept used r w a b e =
      reach-act (sort_of tag) tag refl (λ m t f o. read_tags 0 tags m t f o) (λ m t. Reached q tags m t) (tags-after tags) (tags-reach tags)
      (λ m t f o k u c d. (tags-reached q v small tags m t f o k u c d).0) l p frame below kept used r w a b e

  -- the arguments of a message
  args-alike : (tags l : List ℕ) (p : ℕ) (kept : Forest) (used : ℕ) → StandsAt msg (0 + p) l → read_args 0 tags l p ≡ args kept used
      → TimeAt q kept → Alike kept
  args-alike tags l p kept used w e a =
      tags-reach tags l p nil [] kept used (args-reached q tags l p kept used e a) w nil-alike tt e

  -- ---- messages

  message-none : (o m : ℕ) → AtPlace q (message_item o m) → ⊥
  message-none o m b = let z : ◌≡◌ {A = ℕ} 0 1 = cc b.0 in omega arith

  message-alike : (n used : ℕ) (l : List ℕ) (p : ℕ) (item : Item) (f : Forest) (u : ℕ) → StandsAt msg (0 + p) l
      → read_text l p ≡ Found n used
      → read_message 0 (message_item (0 + p) n) (drop used l) (p + used) ≡ one item f u → TimeAt q f
      → OwnAlike (message_item (0 + p) n) × Alike f
  unfolding read_message
  message-alike n used l p item f u w t e a = by-text (read_text (drop used l) (p + used)) refl e
    where
      by-text : (x : Text) → read_text (drop used l) (p + used) ≡ x
          → types_then 0 (message_item (0 + p) n) (drop used l) (p + used) x ≡ one item f u → OwnAlike (message_item (0 + p) n) × Alike f
      by-text (Err k) d g = let z : ◌≡◌ {A = ℕ} 0 1 = cc in absurd (omega arith)
      by-text (Ok text) d g =
          let tags = tags_in (take text.length (drop used l)) in
          let rest = drop text.used (drop used l) in
          let r = p + used + text.used in
          let x = read_args 0 tags rest r in
          let o = after_is text.used (message_with (message_item (0 + p) n) x) item f u g in
          let k = message-is (message_item (0 + p) n) x item f o.0 o.1 in
          let placed = (args-retimed q v small tags rest r f o.0 k.0 a).0 in
          let i = found_in l p (sym t) in
          let j = found_in (drop used l) (p + used) (sym d) in
          let low : p + used + text.used ≤ q = placed.low in
          let high : q + 8 ≤ p + used + text.used + length rest = placed.high in
          let long : length rest ≡ length l - used - text.used
          = length-drop text.used (drop used l) ∙ ap (λ (y : ℕ). y - text.used) (length-drop used l) in
          let room : q - p + 8 ≤ length l = omega (arith, length-drop used l) in
          let l' = put_time (q - p) v l in
          let same : length l' ≡ length l = put-length (q - p) v l room in
          let front : take used l' ≡ take used l = put-take-before (q - p) v l room used (omega arith) in
          let later : drop used l' ≡ put_time (q - p - used) v (drop used l) = put-drop-before (q - p) v l room used (omega arith) in
          let front' : take text.used (drop used l') ≡ take text.used (drop used l)
          = ap (take text.used) later
          ∙ put-take-before (q - p - used) v (drop used l) (omega (arith, length-drop used l)) text.used (omega arith) in
          let t' : read_text l' p ≡ Found n used = text-front l l' p same n used t front in
          let same' : length (drop used l') ≡ length (drop used l) = omega (arith, length-drop used l', length-drop used l) in
          let d' : read_text (drop used l') (p + used) ≡ Found text.length text.used
          = text-front (drop used l) (drop used l') (p + used) same' text.length text.used d front' in
          let w' = stands-around p l w (omega arith) (omega (arith, length-drop used l)) in
          let both : between (n + 1) used l' ++ between (text.length + 1) text.used (drop used l')
          ≡ between (n + 1) used l ++ between (text.length + 1) text.used (drop used l)
          = rw (
            between-same (n + 1) used l l' (omega arith) front,
            between-same (text.length + 1) text.used (drop used l) (drop used l')
                (omega arith) front',
          ) in (
            message-padding 0 p l msg w (sym t) (sym d) ∙ sym both ∙ sym (message-padding 0 p l' other w' (sym t') (sym d')),
            args-alike tags rest r f o.0 (stands_on 0 (p + used) (drop used l) msg (stands_on 0 p l msg w used i.1) text.used j.1)
                k.0 a,
          )

  -- ---- bundles and elements

  -- what the elements have, and a packet, by how many bytes they are
  abbrev PacketAlike : ℕ → Type 0
  PacketAlike n =
      (l : List ℕ) (p : ℕ) (item : Item) (f : Forest) (u : ℕ) → length l < n → StandsAt msg (0 + p) l → read_packet 0 l p ≡ one item f u
      → TimeAt q (node item f nil) → OwnAlike item × Alike f

  abbrev ElementsAlike : ℕ → Type 0
  ElementsAlike n =
      (l : List ℕ) (p : ℕ) → length l < n → StandsAt msg (0 + p) l → TimeAt q (trees_in (read_elements 0 l p))
      → Alike (trees_in (read_elements 0 l p))

  bundle-alike : (n : ℕ) → ElementsAlike n → (used : ℕ) (l : List ℕ) (p : ℕ) (item : Item) (f : Forest) (u : ℕ) → length l < n + 1
      → StandsAt msg (0 + p) l → start.Bundle used ≡ start_of l p → read_bundle 0 (0 + p) (drop used l) (p + used) ≡ one item f u
      → Placed q l p → TimeAt q (node item f nil) → OwnAlike item × Alike f
  bundle-alike n he used l p item f u short w s e placed a =
      ⊎_elim (λ few. let z : fault (Short Head (p + used)) ≡ one item f u = sym (bundle-short 0 (0 + p) m (p + used) few) ∙ e in
      let no : ◌≡◌ {A = ℕ} 0 1 = cc in absurd (omega arith))
      (λ many. by-tag many) (lt-or-le (length (drop used l)) 8)
    where
      m : List ℕ
      m = drop used l

      by-tag : 8 ≤ length (drop used l) → OwnAlike item × Alike f
      by-tag many =
          let text = bundle-text l p s in
          let i = found_in l p text in
          let ends = found-ends l p text in
          let k = bundle-is (bundle_item (0 + p) (drop used l)) (contents 0 (drop used l) (p + used)) item f u
          (sym (bundle-long 0 (0 + p) (drop used l) (p + used) many) ∙ e) in
          let inner : trees_in (read_elements 0 (drop 8 (drop used l)) (p + used + 8)) ≡ f = ap trees_in k.1 in
          let at : time_place item ≡ p + used = ap time_place (sym k.2) ∙ omega (arith, ends.1) in
          let low-in : TimeAt q f → p + used + 8 ≤ q
          = λ b. (elements-placed q v small (drop 8 (drop used l)) (p + used + 8) (subst (TimeAt q) (sym inner) b)).low in
          let after_text : p + used ≤ q
          = ⊎_elim (λ b. omega (arith, b.1)) (⊎_elim (λ b. omega (arith, low-in b)) (λ (b : ⊥). absurd b)) a in
          let low : p ≤ q = placed.low in
          let high : q + 8 ≤ p + length l = placed.high in
          let room : q - p + 8 ≤ length l = omega arith in
          let l' = put_time (q - p) v l in
          let front : take used l' ≡ take used l = put-take-before (q - p) v l room used (omega arith) in
          let text' : read_text l' p ≡ Found 7 used = text-front l l' p (put-length (q - p) v l room) 7 used (sym text) front in
          let w' = stands-around p l w low high in
          let own : OwnAlike (bundle_item (0 + p) (drop used l))
          = bundle-padding 0 p l msg w (drop used l) text ∙ sym (between-same 8 used l l' (omega arith) front)
          ∙ sym (bundle-padding 0 p l' other w' (drop used l) (sym text')) in
          let there = stands_on 0 (p + used) (drop used l) msg (stands_on 0 p l msg w used i.1) 8 many in
          let less : length (drop 8 (drop used l)) < n = omega (arith, length-drop 8 (drop used l), length-drop used l, i.0) in (
            subst OwnAlike k.2 own,
            subst Alike inner
                (⊎_elim
                (λ b. elements_same 0 (drop 8 (drop used l)) (p + used + 8) msg other there
                (stands_after (p + used + 8) (drop 8 (drop used l)) (omega (arith, b.1)) there))
                (⊎_elim (λ b. he (drop 8 (drop used l)) (p + used + 8) less there (subst (TimeAt q) (sym inner) b)) (λ (b : ⊥). absurd b))
                a),
          )

  module _ (n : ℕ) (hp : PacketAlike n) (he : ElementsAlike n) where
    -- elements whose first one is this
    elements-first : (l : List ℕ) (p : ℕ) → length l < n + 1 → StandsAt msg (0 + p) l → (size : ℕ) → Some size ≡ size_of l
        → (item : Item)
        (f : Forest) (u : ℕ) → read_packet 0 (take size (drop 4 l)) (p + 4) ≡ one item f u → TimeAt q (trees_in (read_elements 0 l p))
        → Alike (trees_in (read_elements 0 l p))
    elements-first l p short w size s item f u e a =
        let fit : 4 + size ≤ length l = size_in l s in
        let held : read_element 0 l p ≡ one item f size = element-holds 0 l p s ∙ ap (filling size) e in
        let rest = read_elements 0 (drop (4 + size) l) (p + (4 + size)) in
        let trees : trees_in (read_elements 0 l p) ≡ node item f (trees_in rest) = first-trees 0 l p held in
        let body-long : length (take size (drop 4 l)) ≡ size
        = length-take size (drop 4 l) ∙ omega (arith, length-drop 4 l) in
        let body : StandsAt msg (0 + (p + 4)) (take size (drop 4 l))
        = stands-take msg (0 + (p + 4)) (drop 4 l) (stands_on 0 p l msg w 4 (omega arith)) size in
        let back : StandsAt msg (0 + (p + (4 + size))) (drop (4 + size) l) = stands_on 0 p l msg w (4 + size) fit in
        let first : TimeAt q (node item f nil) → (OwnAlike item × Alike f) × Alike (trees_in rest)
        = λ b. let placed = (packet-retimed q 0 (omega arith) (take size (drop 4 l)) (p + 4) item f u e b).0 in
        let high : q + 8 ≤ p + 4 + length (take size (drop 4 l)) = placed.high in (
          hp (take size (drop 4 l)) (p + 4) item f u (omega arith) body e b,
          elements_same 0 (drop (4 + size) l) (p + (4 + size)) msg other back
              (stands_after (p + (4 + size)) (drop (4 + size) l) (omega arith) back),
        ) in
        let later : TimeAt q (trees_in rest) → Alike (node item f nil) × Alike (trees_in rest)
        = λ b. let placed = elements-placed q 0 (omega arith) (drop (4 + size) l) (p + (4 + size)) b in
        let low : p + (4 + size) ≤ q = placed.low in (
          packet-same 0 (take size (drop 4 l)) (p + 4) msg other body
              (stands-before (p + 4) (take size (drop 4 l)) body (omega arith) (omega arith)) e,
          he (drop (4 + size) l) (p + (4 + size)) (omega (arith, length-drop (4 + size) l)) back b,
        ) in
        subst Alike (sym trees) (by_place (trees_in rest) (subst (TimeAt q) trees a) first later)
      where
        by_first : (g : Forest) → (OwnAlike item × Alike f) × Alike g → Alike (node item f g)
        by_first g x = node_alike item f g x.0.0 x.0.1 x.1

        by_place : (g : Forest) → TimeAt q (node item f g) → (TimeAt q (node item f nil) → (OwnAlike item × Alike f) × Alike g)
            → (TimeAt q g → Alike (node item f nil) × Alike g) → Alike (node item f g)
        by_place g (inl b) first later = by_first g (first (inl b))
        by_place g (inr (inl b)) first later = by_first g (first (inr (inl b)))
        by_place g (inr (inr b)) first later =
            let x = later b in
            omega (
              arith,
              x.0,
              x.1,
              dirt-node 0 msg item f g,
              dirt-node 0 other item f g,
              dirt-node 0 msg item f nil,
              dirt-node 0 other item f nil,
              dirt-nil 0 msg,
              dirt-nil 0 other,
            )

    elements-on : ElementsAlike (n + 1)
    elements-on l p short w a = by_size (size_of l) refl
      where
        none : (k : Fault) → read_element 0 l p ≡ fault k → Alike (trees_in (read_elements 0 l p))
        none k e = subst Alike (sym (ap trees_in (ended 0 l p e))) nil-alike

        by_out : (size : ℕ) → Some size ≡ size_of l → (o : Out) → read_packet 0 (take size (drop 4 l)) (p + 4) ≡ o
            → Alike (trees_in (read_elements 0 l p))
        by_out size s (fault k) e = none k (element-holds 0 l p s ∙ ap (filling size) e)
        by_out size s (one item f u) e = elements-first l p short w size s item f u e a

        by_size : (x : ElementSize) → x ≡ size_of l → Alike (trees_in (read_elements 0 l p))
        by_size (Some size) s = by_out size s (read_packet 0 (take size (drop 4 l)) (p + 4)) refl
        by_size None s = none (Short Head p) (element-runs-out 0 l p s)

    packet-on : PacketAlike (n + 1)
    packet-on l p item f u short w e a = by-start (start_of l p) refl
      where
        by-start : (x : Start) → x ≡ start_of l p → OwnAlike item × Alike f
        by-start (Err k) s =
            let z : fault k ≡ one item f u = sym (starts-refused 0 l p s) ∙ e in
            let no : ◌≡◌ {A = ℕ} 0 1 = cc in absurd (omega arith)
        by-start (start.Message m used) s =
            let own = message_item (0 + p) m in
            let o = after_is used (read_message 0 own (drop used l) (p + used)) item f u (sym (starts-message 0 l p s) ∙ e) in
            let is : own ≡ item = message-own own (drop used l) (p + used) item f o.0 o.1 in
            let inner : TimeAt q f
            = ⊎_elim (λ b. absurd (message-none (0 + p) m (subst (AtPlace q) (sym is) b))) (⊎_elim (λ b. b) (λ (b : ⊥). absurd b)) a in
            let x = message-alike m used l p item f o.0 w (sym (message-text l p s)) o.1 inner in
            (subst OwnAlike is x.0, x.1)
        by-start (start.Bundle used) s =
            let o = after_is used (read_bundle 0 (0 + p) (drop used l) (p + used)) item f u (sym (starts-bundle 0 l p s) ∙ e) in
            bundle-alike n he used l p item f o.0 short w s o.1 (packet-retimed q 0 (omega arith) l p item f u e a).0 a

  all_alike : (n : ℕ) → PacketAlike n × ElementsAlike n
  all_alike zero = ((λ l p item f u short w e a. absurd (omega arith)), (λ l p short w a. absurd (omega arith)))
  all_alike (suc n) =
      let h = all_alike n in
      let one_more : n + 1 ≡ suc n = omega arith in
      (subst PacketAlike one_more (packet-on n h.0 h.1), subst ElementsAlike one_more (elements-on n h.0 h.1))

  -- the dirt of a packet stays where a time tag of it changes
  pub packet-alike : (l : List ℕ) (p : ℕ) (item : Item) (f : Forest) (u : ℕ) → StandsAt msg (0 + p) l → read_packet 0 l p ≡ one item f u
      → TimeAt q (node item f nil) → dirt_of 0 msg (node item f nil) ≡ dirt_of 0 other (node item f nil)
  packet-alike l p item f u w e a =
      let x = (all_alike (suc (length l))).0 l p item f u (omega arith) w e a in
      node_alike item f nil x.0 x.1 nil-alike

-- ---- a frame

-- the time tag of a node is no padding of it
time-same : (v : ℕ) (m : List ℕ) (item : Item) → (item.kind ≡ bundle_kind) ⊎ (item.kind ≡ 116)
    → own_padding 0 m (with_time v item) ≡ own_padding 0 m item
unfolding class_of
time-same v m item (inl e) = rw e
time-same v m item (inr e) = rw e

-- another time tag leaves what a node has itself
own-retimed : (q v : ℕ) (m : List ℕ) (item : Item) → own_padding 0 m (retimed q v item) ≡ own_padding 0 m item
own-retimed q v m item =
    ⊎_elim (λ a. ap (own_padding 0 m) (retimed-at q v item a) ∙ time-same v m item (has-time item.kind a.0))
    (λ n. ap (own_padding 0 m) (retimed-not q v item n)) (at-or-not q item)

dirt-retimed : (q v : ℕ) (m : List ℕ) (t : Forest) → dirt_of 0 m (retimed_forest q v t) ≡ dirt_of 0 m t
unfolding retimed_forest
dirt-retimed q v m nil = refl
dirt-retimed q v m (node item inside rest) =
    omega (
      arith,
      ap non_zero (own-retimed q v m item),
      dirt-node 0 m (retimed q v item) (retimed_forest q v inside) (retimed_forest q v rest),
      dirt-node 0 m item inside rest,
      dirt-retimed q v m inside,
      dirt-retimed q v m rest,
    )

-- the packet of a frame
record Holds (l : List ℕ) (item : Item) (f : Forest) : Type 0 where
  n : ℕ
  m : ℕ
  reads : read_packet 0 (take n (drop 4 l)) 4 ≡ one item f m

frame-holds : (limit : ℕ) (l : List ℕ) (item : Item) (f : Forest) (used : ℕ) → cut_frame limit 0 l ≡ read (one item f used) → Holds l item f
unfolding cut_frame
frame-holds limit l item f used e = by_length (length_of l) e
  where
    by-limit : (n u : ℕ) (i : Item) (g : Forest) (b c : Bool)
        → cond b (cond c (read (one i g u)) (cutoff TooDeep)) (cutoff BytesLeft) ≡ read (one item f used) → one i g u ≡ one item f used
    by-limit n u i g false c d = let z : ◌≡◌ {A = ℕ} 0 1 = cc in absurd (omega arith)
    by-limit n u i g true false d = let z : ◌≡◌ {A = ℕ} 0 1 = cc in absurd (omega arith)
    by-limit n u i g true true d = cc

    by_out : (n : ℕ) (o : Out) → read_packet 0 (take n (drop 4 l)) 4 ≡ o → wholly limit (4 + n) (after 4 o) ≡ read (one item f used)
        → Holds l item f
    by_out n (fault k) o d = let z : ◌≡◌ {A = ℕ} 0 1 = cc in absurd (omega arith)
    by_out n (one i g m) o d =
        let same = by-limit n (4 + m) i g (eqb (4 + m) (4 + n)) (leb (depth (node i g nil)) limit) d in
        let a : i ≡ item = cc in
        let b : g ≡ f = cc in
        record { n = n; m = m; reads = o ∙ cc }

    by_length : (x : Length) → cut_with limit 0 l x ≡ read (one item f used) → Holds l item f
    by_length (cut.Cuts n) d = by_out n (read_packet 0 (take n (drop 4 l)) 4) refl d
    by_length cut.Waiting d = let z : ◌≡◌ {A = ℕ} 0 1 = cc in absurd (omega arith)
    by_length cut.Over d = let z : ◌≡◌ {A = ℕ} 0 1 = cc in absurd (omega arith)
    by_length cut.Odd d = let z : ◌≡◌ {A = ℕ} 0 1 = cc in absurd (omega arith)

module _ (limit : ℕ) where
  -- one time tag of a frame
  one-dirt : (q v : ℕ) → v < 2 ^ 64 → (l : List ℕ) (used : ℕ) (t : Forest) → FrameIs limit l used t → TimeAt q t
      → dirt_of 0 (put_time q v l) (retimed_forest q v t) ≡ dirt_of 0 l t
  one-dirt q v small l used t w a =
      let r = place-room limit l used t w q a in
      let h = frame-holds limit l w.item w.inside used w.reads in
      let here : TimeAt q (node w.item w.inside nil) = subst (TimeAt q) w.tree a in
      let stands : StandsAt l (0 + 4) (take h.n (drop 4 l)) = stands-take l (0 + 4) (drop 4 l) (stands-rest l 4) h.n in
      dirt-retimed q v (put_time q v l) t
      ∙ ap (dirt_of 0 (put_time q v l)) w.tree
      ∙ sym (packet-alike q v small l (omega (arith, r.near, r.high)) (take h.n (drop 4 l)) 4 w.item w.inside h.m stands
      h.reads here)
      ∙ ap (dirt_of 0 l) (sym w.tree)

  node-dirt : (by : ℕ) (item : Item) (l : List ℕ) (used : ℕ) (t : Forest) → FrameIs limit l used t
      → (has_time item.kind ≡ true → TimeAt (time_place item) t) → dirt_of 0 (slide_one by item l) (retime_one by item t) ≡ dirt_of 0 l t
  node-dirt by item l used t w h = by_kind (has_time item.kind) refl
    where
      by_kind : (b : Bool) → has_time item.kind ≡ b
          → dirt_of 0 (cond b (put_time (time_place item) (shifted (time_tag_of item) by) l) l)
          (cond b (retimed_forest (time_place item) (shifted (time_tag_of item) by) t) t)
          ≡ dirt_of 0 l t
      by_kind true e = one-dirt (time_place item) (shifted (time_tag_of item) by) (omega arith) l used t w (h e)
      by_kind false e = refl

  all-dirt : (by : ℕ) (g : Forest) (l : List ℕ) (used : ℕ) (t : Forest) → FrameIs limit l used t → Has limit g t
      → dirt_of 0 (slid_bytes by g l) (retime_all by g t) ≡ dirt_of 0 l t
  unfolding slid_bytes retime_all
  all-dirt by nil l used t w h = refl
  all-dirt by (node item inside rest) l used t w h =
      let own : has_time item.kind ≡ true → TimeAt (time_place item) t = λ e. h (time_place item) (inl (e, refl)) in
      let a = one-slid limit by item l used t w own in
      let l1 = slide_one by item l in
      let t1 = retime_one by item t in
      let in-it : Has limit inside t1 = has_one limit by item inside t (λ q c. h q (inr (inl c))) in
      let b = all-slid limit by inside l1 used t1 a.0 in-it in
      let after-it : Has limit rest (retime_all by inside t1)
      = has_all limit by inside rest t1 (has_one limit by item rest t (λ q c. h q (inr (inr c)))) in
      all-dirt by rest (slid_bytes by inside l1) used (retime_all by inside t1) b.0 after-it
      ∙ all-dirt by inside l1 used t1 a.0 in-it
      ∙ node-dirt by item l used t w own

  -- a frame that is slid has the dirt that it had
  pub slid-dirt : (by : ℕ) (l : List ℕ) → ((i : ℕ) → get_or l i 0 < 256) → (used : ℕ) (t : Forest) → FrameIs limit l used t
      → dirt_of 0 (slid_bytes by t l) (slid_forest by t) ≡ dirt_of 0 l t
  slid-dirt by l small used t w =
      ap (dirt_of 0 (slid_bytes by t l)) (sym (retimed-slid by (λ q. number 8 (drop q l)) t (times-read limit l small used t w)))
      ∙ all-dirt by t l used t w (λ q b. b)
