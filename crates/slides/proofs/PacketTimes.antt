-- A time tag of a packet: another number there is read as that number, and nothing else changes.
use mathlib.Core.Path.{◌≡◌, refl, ap, sym, subst, ◌∙◌}
use mathlib.Core.Bool.{Bool, true, false, cond}
use mathlib.Core.Logic.{inl, inr, ⊎_elim}
use mathlib.Core.List.{List}
use Prim.Native.Nat.{ℕ, zero, suc, ◌+◌, ◌-◌, ◌^◌, ◌<◌, ◌≤◌}
use native.Mathlib.Omega.{arith}
use borrow.Author.Tests.{le-leb, leb-true}
use lib.Dec.{leb}
use lib.ListN.{length, get_or, take, drop, length-drop, length-take}
use lib.Seq.{get_or-take, take-take}
use Rattle.refusal.specs.declared.Fault.TheVariants.{Short}
use Rattle.refusal.specs.declared.Field.TheVariants.{Head}
use Rattle.wire.specs.Pad.{padded}
use Rattle.node.specs.Forest.{Forest, nil, node}
use Rattle.node.specs.declared.record.Item.{Item}
use Rattle.text.specs.Text.{read_text}
use Rattle.heads.specs.Results.{ElementSize}
use Rattle.packet.specs.Results.{Start}
use Rattle.std.specs.Prelude.{Err, None, Some, Ok}
use Rattle.text.specs.Results.{Found, Text}
use Rattle.packet.specs.Results as start
use Rattle.text.proofs.Within.{found_in, found-ends}
use Rattle.arguments.specs.Arguments.{Args, refused, args, read_args}
use Rattle.heads.specs.Heads.{tags_in, size_of, message_item, bundle_item}
use Rattle.heads.proofs.Heads.{SizeIn, size-within}
use Rattle.packet.specs.FirstText.{start_of}
use Rattle.packet.specs.Packet.{Out, fault, one, Elements, upto, after, message_with, types_then, read_message, bundle_with, bundle_by}
use Rattle.packet.specs.Packet.{read_elements, trees_in}
use Rattle.packet.specs.Packet.{filling, held_by, element_by, joined, go_on}
use Rattle.packet.specs.Packet.{elements_by, started_by, packet_by, packet_at, elements_at, read_packet}
use Rattle.packet.proofs.FirstText.{message-start-in, bundle-start-in, message-text, bundle-text}
use Rattle.packet.proofs.Items.{HasItem, message-item}
use Rattle.slides.specs.Slides.{time_place, with_time, put_time}
use Rattle.slides.proofs.Puts.{put-length, put-take-before, put-drop-before, put-drop-after}
use Rattle.slides.proofs.Puts.{put-take-after, put-high, put_low, drop-take}
use Rattle.slides.proofs.Fronts.{number-front, number-later, text-front}
use Rattle.slides.proofs.Times.{AtPlace, TimeAt, retimed, retimed_forest, retimed-at, retimed-not, forest-not, Placed}
use Rattle.slides.proofs.ArgTimes.{args-retimed}

-- ---- what a result is made of

pub after_is : (n : ℕ) (o : Out) (item : Item) (f : Forest) (u : ℕ) → after n o ≡ one item f u
    → (m : ℕ) × (o ≡ one item f m) × (u ≡ n + m)
after_is n (fault k) item f u e = let z : ◌≡◌ {A = ℕ} 0 1 = cc in absurd (omega arith)
after_is n (one i g m) item f u e = (m, (cc), cc)

pub message-is : (item : Item) (x : Args) (item' : Item) (f : Forest) (u : ℕ) → message_with item x ≡ one item' f u
    → (x ≡ args f u) × (item ≡ item')
message-is item (refused k) item' f u e = let z : ◌≡◌ {A = ℕ} 0 1 = cc in absurd (omega arith)
message-is item (args g m) item' f u e = ((cc), cc)

pub bundle-is : (item : Item) (x : Elements) (item' : Item) (f : Forest) (u : ℕ) → bundle_with item x ≡ one item' f u
    → (m : ℕ) × (x ≡ upto f m) × (item ≡ item') × (u ≡ 8 + m)
bundle-is item (upto g m) item' f u e = (m, (cc), (cc), cc)

pub filling-is : (n : ℕ) (o : Out) (item : Item) (f : Forest) (u : ℕ) → filling n o ≡ one item f u
    → (m : ℕ) × (o ≡ one item f m) × (u ≡ n)
filling-is n (fault k) item f u e = let z : ◌≡◌ {A = ℕ} 0 1 = cc in absurd (omega arith)
filling-is n (one i g m) item f u e = (m, (cc), cc)

joined_is : (item : Item) (g : Forest) (n : ℕ) (x : Elements) (f : Forest) (u : ℕ) → joined item g n x ≡ upto f u
    → (rest : Forest) × (m : ℕ) × (x ≡ upto rest m) × (f ≡ node item g rest) × (u ≡ 4 + n + m)
joined_is item g n (upto rest m) f u e = (rest, m, refl, (cc), cc)

-- a message has the own numbers that it is given
pub message-own : (own : Item) (l : List ℕ) (p : ℕ) (item : Item) (f : Forest) (u : ℕ) → read_message 0 own l p ≡ one item f u → own ≡ item
message-own own l p item f u e = sym (subst (HasItem own) e (message-item 0 own l p))

-- what a packet starts with is told by its own bytes
start-front : (l l' : List ℕ) (p n used : ℕ) → length l' ≡ length l → read_text l p ≡ Found n used → take used l' ≡ take used l
    → start_of l' p ≡ start_of l p
unfolding start_of
start-front l l' p n used long e s =
    let w = found_in l p (sym e) in
    let first : get_or l' 0 0 ≡ get_or l 0 0
    = sym (get_or-take used l' 0 0 (omega arith)) ∙ ap (λ (m : List ℕ). get_or m 0 0) s ∙ get_or-take used l 0 0 (omega arith) in
    let word : take n l' ≡ take n l
    = sym (take-take n used l' (omega arith)) ∙ ap (take n) s ∙ take-take n used l (omega arith) in
    rw (long, text-front l l' p long n used e s, e, first, word)

module _ (q v : ℕ) (small : v < 2 ^ 64) where
  -- a rule for packets, and one for elements, that read another number at a time tag
  abbrev OutRetimed : (List ℕ → ℕ → Out) → Type 0
  OutRetimed pk =
      (l : List ℕ) (p : ℕ) (item : Item) (f : Forest) (u : ℕ) → pk l p ≡ one item f u → TimeAt q (node item f nil)
      → Placed q l p × (pk (put_time (q - p) v l) p ≡ one (retimed q v item) (retimed_forest q v f) u)

  abbrev ElementsRetimed : (List ℕ → ℕ → Elements) → Type 0
  ElementsRetimed es =
      (l : List ℕ) (p : ℕ) (f : Forest) (u : ℕ) → es l p ≡ upto f u → TimeAt q f
      → Placed q l p × (es (put_time (q - p) v l) p ≡ upto (retimed_forest q v f) u)

  -- ---- a part of the bytes

  -- what stands after the first u bytes
  module _ (l : List ℕ) (p u : ℕ) (within : u ≤ length l) (w : Placed q (drop u l) (p + u)) where
    after-fits : q - p + 8 ≤ length l
    after-fits = let h : q + 8 ≤ p + u + length (drop u l) = w.high in omega (arith, length-drop u l, w.low)

    after-placed : Placed q l p
    after-placed =
        let h : q + 8 ≤ p + u + length (drop u l) = w.high in
        record { low = omega (arith, w.low); high = omega (arith, length-drop u l, w.low) }

    after-drop : drop u (put_time (q - p) v l) ≡ put_time (q - (p + u)) v (drop u l)
    after-drop =
        let less : q - p - u ≡ q - (p + u) = omega arith in
        put-drop-before (q - p) v l after-fits u (omega (arith, w.low)) ∙ ap (λ (k : ℕ). put_time k v (drop u l)) less

    after-take : take u (put_time (q - p) v l) ≡ take u l
    after-take = put-take-before (q - p) v l after-fits u (omega (arith, w.low))

    after-long : length (put_time (q - p) v l) ≡ length l
    after-long = put-length (q - p) v l after-fits

  -- ---- messages

  message-retimed : (item : Item) (l : List ℕ) (p : ℕ) (item' : Item) (f : Forest) (u : ℕ) → read_message 0 item l p ≡ one item' f u
      → TimeAt q f → Placed q l p × (read_message 0 item (put_time (q - p) v l) p ≡ one item' (retimed_forest q v f) u)
  unfolding read_message
  message-retimed item l p item' f u e a = by-text (read_text l p) refl e
    where
      by-text : (x : Text) → read_text l p ≡ x → types_then 0 item l p x ≡ one item' f u
          → Placed q l p
          × (types_then 0 item (put_time (q - p) v l) p (read_text (put_time (q - p) v l) p) ≡ one item' (retimed_forest q v f) u)
      by-text (Err k) d g = let z : ◌≡◌ {A = ℕ} 0 1 = cc in absurd (omega arith)
      by-text (Ok text) d g =
          let x = read_args 0 (tags_in (take text.length l)) (drop text.used l) (p + text.used) in
          let o = after_is text.used (message_with item x) item' f u g in
          let k = message-is item x item' f o.0 o.1 in
          let w = args-retimed q v small (tags_in (take text.length l)) (drop text.used l) (p + text.used) f o.0 k.0 a in
          let t = found_in l p (sym d) in
          let in-it : text.used ≤ length l = t.1 in
          let front = after-take l p text.used in-it w.0 in
          let l' = put_time (q - p) v l in
          let word : take text.length l' ≡ take text.length l
          = sym (take-take text.length text.used l' (omega arith)) ∙ ap (take text.length) front
          ∙ take-take text.length text.used l (omega arith) in (
            after-placed l p text.used in-it w.0,
            ap (types_then 0 item l' p) (text-front l l' p (after-long l p text.used in-it w.0) text.length text.used d front)
                ∙ ap (λ (t : List ℕ). after text.used (message_with item (read_args 0 (tags_in t) (drop text.used l') (p + text.used))))
                word
                ∙ ap (λ (t : List ℕ). after text.used (message_with item (read_args 0 (tags_in (take text.length l)) t (p + text.used))))
                (after-drop l p text.used in-it w.0)
                ∙ ap (λ (y : Args). after text.used (message_with item y)) w.1
                ∙ cc (k.1, o.2),
          )

  -- ---- bundles

  module _ (es : List ℕ → ℕ → Elements) (he : ElementsRetimed es) where
    -- a bundle's own time tag stands right after its "#bundle"
    bundle-own : (s : ℕ) (l : List ℕ) (p : ℕ) → padded (s + 8) ≡ p → 8 ≤ length l → q ≡ p → (f : Forest) (m : ℕ)
        → es (drop 8 l) (p + 8) ≡ upto f m
        → bundle_by s es (put_time (q - p) v l) p ≡ one (retimed q v (bundle_item s l)) (retimed_forest q v f) (8 + m)
    unfolding bundle_by
    bundle-own s l p at fits here f m e =
        let none : q - p ≡ 0 = omega arith in
        let long : 8 ≤ length (put_time 0 v l) = omega (arith, put-length 0 v l fits) in
        let back : drop 8 (put_time 0 v l) ≡ drop 8 l = put-drop-after 0 v l fits 8 (omega arith) in
        let same : retimed_forest q v f ≡ f = forest-not q v f (λ a. let w = he (drop 8 l) (p + 8) f m e a in omega (arith, w.0.low)) in
        let own : retimed q v (bundle_item s l) ≡ with_time v (bundle_item s l) = retimed-at q v (bundle_item s l) (refl, at ∙ sym here) in
        ap (λ (k : ℕ). bundle_by s es (put_time k v l) p) none
        ∙ rw (le-leb 8 (length (put_time 0 v l)) long, back, e, put-high v l small, put_low v l small, same, own)

    bundle-inner : (s : ℕ) (l : List ℕ) (p : ℕ) → padded (s + 8) ≡ p → 8 ≤ length l → (f : Forest) (m : ℕ)
        → es (drop 8 l) (p + 8) ≡ upto f m → TimeAt q f
        → Placed q l p × (bundle_by s es (put_time (q - p) v l) p ≡ one (retimed q v (bundle_item s l)) (retimed_forest q v f) (8 + m))
    unfolding bundle_by
    bundle-inner s l p at fits f m e a =
        let w = he (drop 8 l) (p + 8) f m e a in
        let l' = put_time (q - p) v l in
        let long : length l' ≡ length l = after-long l p 8 fits w.0 in
        let front : take 8 l' ≡ take 8 l = after-take l p 8 fits w.0 in
        let back : drop 8 l' ≡ put_time (q - (p + 8)) v (drop 8 l) = after-drop l p 8 fits w.0 in
        let own : retimed q v (bundle_item s l) ≡ bundle_item s l
        = retimed-not q v (bundle_item s l) (λ b. let low : p + 8 ≤ q = w.0.low in omega (arith, b.1, at)) in (
          after-placed l p 8 fits w.0,
          rw (long, le-leb 8 (length l) fits, back, w.1, number-front 4 8 l l' (omega arith) front, number-later l l' front, own),
        )

    bundle-retimed : (s : ℕ) (l : List ℕ) (p : ℕ) → padded (s + 8) ≡ p → (item : Item) (f : Forest) (u : ℕ)
        → bundle_by s es l p ≡ one item f u → TimeAt q (node item f nil)
        → Placed q l p × (bundle_by s es (put_time (q - p) v l) p ≡ one (retimed q v item) (retimed_forest q v f) u)
    unfolding bundle_by
    bundle-retimed s l p at item f u e a = by_length (leb 8 (length l)) refl e
      where
        by_length : (b : Bool) → leb 8 (length l) ≡ b
            → cond b (bundle_with (bundle_item s l) (es (drop 8 l) (p + 8))) (fault (Short Head p)) ≡ one item f u
            → Placed q l p × (bundle_by s es (put_time (q - p) v l) p ≡ one (retimed q v item) (retimed_forest q v f) u)
        by_length false h g = let z : ◌≡◌ {A = ℕ} 0 1 = cc in absurd (omega arith)
        by_length true h g =
            let w = bundle-is (bundle_item s l) (es (drop 8 l) (p + 8)) item f u g in
            let fits : 8 ≤ length l = leb-true 8 (length l) h in
            let r : Placed q l p
            × (bundle_by s es (put_time (q - p) v l) p ≡ one (retimed q v (bundle_item s l)) (retimed_forest q v f) (8 + w.0)) =
            ⊎_elim
            (λ b. let here : q ≡ p = sym b.1 ∙ ap time_place (sym w.2) ∙ at in
            (record { low = omega arith; high = omega arith }, bundle-own s l p at fits here f w.0 w.1))
            (⊎_elim (λ b. bundle-inner s l p at fits f w.0 w.1 b) (λ (b : ⊥). absurd b))
            a in (
              r.0,
              r.1
                  ∙ ap (λ (i : Item). one (retimed q v i) (retimed_forest q v f) (8 + w.0)) w.2
                  ∙ ap (λ (k : ℕ). one (retimed q v item) (retimed_forest q v f) k) (sym w.3),
            )

    -- ---- packets

    message-not : (o n : ℕ) → AtPlace q (message_item o n) → ⊥
    message-not o n a = let z : ◌≡◌ {A = ℕ} 0 1 = cc a.0 in omega arith

    packet-by-retimed : OutRetimed (λ l p. packet_by 0 es l p)
    unfolding packet_by
    packet-by-retimed l p item f u e a = by-start (start_of l p) refl e
      where
        by-start : (x : Start) → start_of l p ≡ x → started_by 0 es l p x ≡ one item f u
            → Placed q l p × (packet_by 0 es (put_time (q - p) v l) p ≡ one (retimed q v item) (retimed_forest q v f) u)
        by-start (Err k) d g = let z : ◌≡◌ {A = ℕ} 0 1 = cc in absurd (omega arith)
        by-start (start.Message n used) d g =
            let own = message_item (0 + p) n in
            let o = after_is used (read_message 0 own (drop used l) (p + used)) item f u g in
            let k : own ≡ item = message-own own (drop used l) (p + used) item f o.0 o.1 in
            let in-it : used ≤ length l = (message-start-in l p (sym d)).1 in
            let no : AtPlace q item → ⊥ = λ b. message-not (0 + p) n (subst (AtPlace q) (sym k) b) in
            let inner : TimeAt q f = ⊎_elim (λ b. absurd (no b)) (⊎_elim (λ b. b) (λ (b : ⊥). absurd b)) a in
            let w = message-retimed own (drop used l) (p + used) item f o.0 o.1 inner in
            let l' = put_time (q - p) v l in
            let same : start_of l' p ≡ start.Message n used
            = start-front l l' p n used (after-long l p used in-it w.0) (sym (message-text l p (sym d)))
            (after-take l p used in-it w.0) ∙ d in (
              after-placed l p used in-it w.0,
              ap (started_by 0 es l' p) same
                  ∙ ap (λ (m : List ℕ). after used (read_message 0 own m (p + used))) (after-drop l p used in-it w.0)
                  ∙ ap (after used) w.1
                  ∙ cc (o.2, retimed-not q v item no),
            )
        by-start (start.Bundle used) d g =
            let o = after_is used (bundle_by (0 + p) es (drop used l) (p + used)) item f u g in
            let in-it : used ≤ length l = (bundle-start-in l p (sym d)).1 in
            let text : Found 7 used ≡ read_text l p = bundle-text l p (sym d) in
            let ends = found-ends l p text in
            let at : padded (0 + p + 8) ≡ p + used = omega (arith, ends.1) in
            let w = bundle-retimed (0 + p) (drop used l) (p + used) at item f o.0 o.1 a in
            let l' = put_time (q - p) v l in
            let same : start_of l' p ≡ start.Bundle used
            = start-front l l' p 7 used (after-long l p used in-it w.0) (sym text) (after-take l p used in-it w.0) ∙ d in (
              after-placed l p used in-it w.0,
              ap (started_by 0 es l' p) same
                  ∙ ap (λ (m : List ℕ). after used (bundle_by (0 + p) es m (p + used))) (after-drop l p used in-it w.0)
                  ∙ ap (after used) w.1
                  ∙ cc o.2,
            )

    -- ---- elements

    module _ (pk : List ℕ → ℕ → Out) (hp : OutRetimed pk) where
      module _ (l : List ℕ) (p n : ℕ) (d : size_of l ≡ Some n) (item : Item) (g : Forest) (m : ℕ)
          (o : pk (take n (drop 4 l)) (p + 4) ≡ one item g m) (rest : Forest) (k : ℕ)
          (r : es (drop (4 + n) l) (p + (4 + n)) ≡ upto rest k) where
        abbrev Joined : Type 0
        Joined =
            Placed q l p
            × (elements_by pk es (put_time (q - p) v l) p ≡ upto (node (retimed q v item) (retimed_forest q v g) (retimed_forest q v rest))
            (4 + n + k))

        fits : 4 + n ≤ length l
        fits = subst (SizeIn (length l)) d (size-within l)

        body-long : length (take n (drop 4 l)) ≤ n
        body-long = omega (arith, length-take n (drop 4 l))

        -- a time tag of the first element is none of the later ones
        rest-low : TimeAt q rest → p + 4 + n ≤ q
        rest-low a = let w = he (drop (4 + n) l) (p + (4 + n)) rest k r a in let low : p + (4 + n) ≤ q = w.0.low in omega arith

        first-high : TimeAt q (node item g nil) → (p + 4 ≤ q) × (q + 8 ≤ p + 4 + n)
        first-high a =
            let w = hp (take n (drop 4 l)) (p + 4) item g m o a in
            let high : q + 8 ≤ p + 4 + length (take n (drop 4 l)) = w.0.high in
            (w.0.low, omega (arith, body-long))

        -- the size is told by its four bytes
        size_same : (l' : List ℕ) → length l' ≡ length l → take 4 l' ≡ take 4 l → size_of l' ≡ Some n
        unfolding size_of
        size_same l' long front = rw (long, number-front 4 4 l l' (omega arith) front) d

        elements-are : (l' : List ℕ) (item' : Item) (g' rest' : Forest) → size_of l' ≡ Some n
            → pk (take n (drop 4 l')) (p + 4) ≡ one item' g' m → es (drop (4 + n) l') (p + (4 + n)) ≡ upto rest' k
            → elements_by pk es l' p ≡ upto (node item' g' rest') (4 + n + k)
        unfolding elements_by element_by
        elements-are l' item' g' rest' s e f = rw (s, e, f)

        first-retimed : TimeAt q (node item g nil) → Joined
        first-retimed a =
            let w = hp (take n (drop 4 l)) (p + 4) item g m o a in
            let b = first-high a in
            let l' = put_time (q - p) v l in
            let room : q - p + 8 ≤ length l = omega (arith, fits) in
            let less : q - p - 4 ≡ q - (p + 4) = omega arith in
            let inner : drop 4 l' ≡ put_time (q - (p + 4)) v (drop 4 l)
            = put-drop-before (q - p) v l room 4 (omega arith) ∙ ap (λ (i : ℕ). put_time i v (drop 4 l)) less in
            let body : take n (drop 4 l') ≡ put_time (q - (p + 4)) v (take n (drop 4 l))
            = ap (take n) inner ∙ put-take-after (q - (p + 4)) v (drop 4 l) (omega (arith, length-drop 4 l, fits)) n (omega arith) in
            let back : drop (4 + n) l' ≡ drop (4 + n) l = put-drop-after (q - p) v l room (4 + n) (omega arith) in
            let none : retimed_forest q v rest ≡ rest = forest-not q v rest (λ c. omega (arith, rest-low c)) in (
              record { low = omega arith; high = omega (arith, fits) },
              elements-are l' (retimed q v item) (retimed_forest q v g) rest
                  (size_same l' (put-length (q - p) v l room) (put-take-before (q - p) v l room 4 (omega arith)))
                  (ap (λ (x : List ℕ). pk x (p + 4)) body ∙ w.1) (ap (λ (x : List ℕ). es x (p + (4 + n))) back ∙ r)
                  ∙ ap (λ (x : Forest). upto (node (retimed q v item) (retimed_forest q v g) x) (4 + n + k)) (sym none),
            )

        rest-retimed : TimeAt q rest → Joined
        rest-retimed a =
            let w = he (drop (4 + n) l) (p + (4 + n)) rest k r a in
            let low = rest-low a in
            let l' = put_time (q - p) v l in
            let front : take (4 + n) l' ≡ take (4 + n) l = after-take l p (4 + n) fits w.0 in
            let four : take 4 l' ≡ take 4 l
            = sym (take-take 4 (4 + n) l' (omega arith)) ∙ ap (take 4) front ∙ take-take 4 (4 + n) l (omega arith) in
            let body : take n (drop 4 l') ≡ take n (drop 4 l) = sym (drop-take 4 n l') ∙ ap (drop 4) front ∙ drop-take 4 n l in
            let no : TimeAt q (node item g nil) → ⊥ = λ c. let b = first-high c in omega arith in
            let own : retimed q v item ≡ item = retimed-not q v item (λ c. no (inl c)) in
            let same : retimed_forest q v g ≡ g = forest-not q v g (λ c. no (inr (inl c))) in (
              after-placed l p (4 + n) fits w.0,
              elements-are l' item g (retimed_forest q v rest) (size_same l' (after-long l p (4 + n) fits w.0) four)
                  (ap (λ (x : List ℕ). pk x (p + 4)) body ∙ o)
                  (ap (λ (x : List ℕ). es x (p + (4 + n))) (after-drop l p (4 + n) fits w.0) ∙ w.1)
                  ∙ ap (λ (i : Item). upto (node i g (retimed_forest q v rest)) (4 + n + k)) (sym own)
                  ∙ ap (λ (x : Forest). upto (node (retimed q v item) x (retimed_forest q v rest)) (4 + n + k)) (sym same),
            )

        all-retimed : TimeAt q (node item g rest) → Joined
        all-retimed (inl a) = first-retimed (inl a)
        all-retimed (inr (inl a)) = first-retimed (inr (inl a))
        all-retimed (inr (inr a)) = rest-retimed a

      elements-by-retimed : ElementsRetimed (λ l p. elements_by pk es l p)
      unfolding elements_by element_by retimed_forest
      elements-by-retimed l p f u e a = by_size (size_of l) refl e
        where
          Goal : Type 0
          Goal = Placed q l p × (elements_by pk es (put_time (q - p) v l) p ≡ upto (retimed_forest q v f) u)

          none : upto nil 0 ≡ upto f u → Goal
          none g = let same : nil ≡ f = cc in absurd (subst (λ (x : Forest). TimeAt q x → ⊥) same (λ (b : ⊥). b) a)

          by-els : (n : ℕ) → size_of l ≡ Some n → (item : Item) (g : Forest) (m : ℕ) → pk (take n (drop 4 l)) (p + 4) ≡ one item g m
              → joined item g n (es (drop (4 + n) l) (p + (4 + n))) ≡ upto f u → Goal
          by-els n d item g m o j =
              let w = joined_is item g n (es (drop (4 + n) l) (p + (4 + n))) f u j in
              let r = all-retimed l p n d item g m o w.0 w.1 w.2 (subst (TimeAt q) w.3 a) in (
                r.0,
                r.1 ∙ ap (λ (x : Forest). upto (retimed_forest q v x) (4 + n + w.1)) (sym w.3) ∙ ap
                    (upto (retimed_forest q v f)) (sym w.4),
              )

          by_out : (n : ℕ) → size_of l ≡ Some n → (o : Out) → pk (take n (drop 4 l)) (p + 4) ≡ o
              → go_on es l p (filling n o) ≡ upto f u → Goal
          by_out n d (fault k) o g = none g
          by_out n d (one item g m) o j = by-els n d item g m o j

          by_size : (x : ElementSize) → size_of l ≡ x → go_on es l p (held_by pk l p x) ≡ upto f u → Goal
          by_size None d g = none g
          by_size (Some n) d g = by_out n d (pk (take n (drop 4 l)) (p + 4)) refl g

  mutual
    unfolding packet_at

    packet-at-retimed : (n : ℕ) → OutRetimed (λ l p. packet_at 0 n l p)
    packet-at-retimed zero l p item f u e a = let z : ◌≡◌ {A = ℕ} 0 1 = cc in absurd (omega arith)
    packet-at-retimed (suc n) l p item f u e a = packet-by-retimed _ (λ m r g k d b. elements-at-retimed n m r g k d b) l p item f u e a

    elements-at-retimed : (n : ℕ) → ElementsRetimed (λ l p. elements_at 0 n l p)
    elements-at-retimed zero l p f u e a =
        let same : nil ≡ f = cc in absurd (subst (λ (x : Forest). TimeAt q x → ⊥) same (λ (b : ⊥). b) a)
    elements-at-retimed (suc n) l p f u e a =
        elements-by-retimed _ (λ m r g k d b. elements-at-retimed n m r g k d b) _ (λ m r i g k d b. packet-at-retimed n m r i g k d b)
        l p f u e a

  -- a time tag of a packet
  pub packet-retimed : OutRetimed (λ l p. read_packet 0 l p)
  unfolding read_packet
  packet-retimed l p item f u e a =
      let w = packet-at-retimed (length l) l p item f u e a in
      let long : length (put_time (q - p) v l) ≡ length l = put-length (q - p) v l (omega (arith, w.0.low, w.0.high)) in
      (w.0, ap (λ (n : ℕ). packet_at 0 n (put_time (q - p) v l) p) long ∙ w.1)

  -- where a time tag of a bundle's elements stands
  pub elements-placed : (l : List ℕ) (p : ℕ) → TimeAt q (trees_in (read_elements 0 l p)) → Placed q l p
  unfolding read_elements
  elements-placed l p a = by-elements (elements_at 0 (length l) l p) refl a
    where
      by-elements : (x : Elements) → elements_at 0 (length l) l p ≡ x → TimeAt q (trees_in x) → Placed q l p
      by-elements (upto f u) e b = (elements-at-retimed (length l) l p f u e b).0
