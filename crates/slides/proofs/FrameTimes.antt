-- A time tag of a frame of edition 2: another number there is read as that number, and nothing else changes.
use mathlib.Core.Path.{◌≡◌, refl, ap, sym, subst, ◌∙◌}
use mathlib.Core.Bool.{Bool, true, false, cond, ◌&&◌}
use mathlib.Core.List.{List}
use Prim.Native.Nat.{ℕ, ◌+◌, ◌-◌, ◌^◌, ◌<◌, ◌≤◌}
use native.Mathlib.Omega.{arith}
use borrow.Author.Tests.{eqb-true}
use lib.Dec.{eqb, leb}
use lib.ListN.{length, take, drop, length-drop, length-take}
use Rattle.refusal.specs.declared.Refusal.TheVariants.{TooDeep, BytesLeft}
use Rattle.wire.proofs.Choices.{by-test}
use Rattle.node.specs.Forest.{Forest, nil, node, size, depth}
use Rattle.node.specs.declared.record.Item.{Item}
use Rattle.heads.specs.Heads.{length_of}
use Rattle.heads.specs.Results.{Length}
use Rattle.heads.specs.Results as cut
use Rattle.heads.proofs.Heads.{length-in}
use Rattle.packet.specs.Packet.{Out, fault, one, after, read_packet}
use Rattle.framing.specs.Framing.{read, refused, wholly, cut_with, cut_frame}
use Rattle.slides.specs.Slides.{has_time, time_place, put_time}
use Rattle.slides.proofs.Puts.{put-length, put-take-before, put-drop-before, put-take-after}
use Rattle.slides.proofs.Fronts.{number-front}
use Rattle.slides.proofs.Times.{TimeAt, retimed, retimed_forest}
use Rattle.slides.proofs.PacketTimes.{packet-retimed}

-- the length of a frame is told by its prefix, and by how many bytes there are
length-same : (l l' : List ℕ) → length l' ≡ length l → take 4 l' ≡ take 4 l → length_of l' ≡ length_of l
unfolding length_of
length-same l l' long front = rw (long, number-front 4 4 l l' (omega arith) front)

module _ (q v : ℕ) where
  -- another time tag leaves a node's kind and start
  pub retimed-kind : (item : Item) → (retimed q v item).kind ≡ item.kind
  retimed-kind item = by-test (λ (i : Item). i.kind ≡ item.kind) (has_time item.kind && eqb (time_place item) q) (λ _. refl) (λ _. refl)

  pub retimed-start : (item : Item) → (retimed q v item).start ≡ item.start
  retimed-start item = by-test (λ (i : Item). i.start ≡ item.start) (has_time item.kind && eqb (time_place item) q) (λ _. refl)
      (λ _. refl)

  pub size-retimed : (f : Forest) → size (retimed_forest q v f) ≡ size f
  unfolding size retimed_forest
  size-retimed nil = refl
  size-retimed (node item inside rest) = omega (arith, size-retimed inside, size-retimed rest)

  pub depth-retimed : (f : Forest) → depth (retimed_forest q v f) ≡ depth f
  unfolding depth retimed_forest
  depth-retimed nil = refl
  depth-retimed (node item inside rest) = rw (retimed-kind item, depth-retimed inside, depth-retimed rest)

  module _ (small : v < 2 ^ 64) (limit : ℕ) (l : List ℕ) (item : Item) (f : Forest) (used : ℕ)
      (e : cut_frame limit 0 l ≡ read (one item f used)) (a : TimeAt q (node item f nil)) where
    -- its eight bytes lie after the prefix
    abbrev Goal : Type 0
    Goal =
        (4 ≤ q) × (q + 8 ≤ used) × (used ≤ length l)
        × (cut_frame limit 0 (put_time q v l) ≡ read (one (retimed q v item) (retimed_forest q v f) used))

    by-limit : (n m : ℕ) (i : Item) (g : Forest) → wholly limit n (one i g m) ≡ read (one item f used)
        → (one i g m ≡ one item f used) × (m ≡ n)
        × (wholly limit n (one (retimed q v i) (retimed_forest q v g) m) ≡ read (one (retimed q v i) (retimed_forest q v g) m))
    unfolding retimed_forest
    by-limit n m i g d = by_left (eqb m n) refl (leb (depth (node i g nil)) limit) refl d
      where
        by_left : (b : Bool) → eqb m n ≡ b → (c : Bool) → leb (depth (node i g nil)) limit ≡ c
            → cond b (cond c (read (one i g m)) (refused TooDeep)) (refused BytesLeft) ≡ read (one item f used)
            → (one i g m ≡ one item f used) × (m ≡ n)
            × (wholly limit n (one (retimed q v i) (retimed_forest q v g) m) ≡ read (one (retimed q v i) (retimed_forest q v g) m))
        by_left false x c y z = let w : ◌≡◌ {A = ℕ} 0 1 = cc in absurd (omega arith)
        by_left true x false y z = let w : ◌≡◌ {A = ℕ} 0 1 = cc in absurd (omega arith)
        by_left true x true y z = ((cc), eqb-true m n x, rw (x, depth-retimed (node i g nil), y))

    by-packet : (n : ℕ) → cut.Cuts n ≡ length_of l
        → wholly limit (4 + n) (after 4 (read_packet 0 (take n (drop 4 l)) 4)) ≡ read (one item f used)
        → Goal
    unfolding cut_frame
    by-packet n c d = by_out (read_packet 0 (take n (drop 4 l)) 4) refl d
      where
        by_out : (o : Out) → read_packet 0 (take n (drop 4 l)) 4 ≡ o → wholly limit (4 + n) (after 4 o) ≡ read (one item f used) → Goal
        by_out (fault k) o g = let w : ◌≡◌ {A = ℕ} 0 1 = cc in absurd (omega arith)
        by_out (one i g m) o x =
            let t = by-limit (4 + n) (4 + m) i g x in
            let item-is : i ≡ item = cc t.0 in
            let inside_is : g ≡ f = cc t.0 in
            let used-is : 4 + m ≡ used = cc t.0 in
            let b : TimeAt q (node i g nil) = subst (λ (j : Item). TimeAt q (node j g nil)) (sym item-is)
            (subst (λ (h : Forest). TimeAt q (node item h nil)) (sym inside_is) a) in
            let w = packet-retimed q v small (take n (drop 4 l)) 4 i g m o b in
            let low : 4 ≤ q = w.0.low in
            let high : q + 8 ≤ 4 + length (take n (drop 4 l)) = w.0.high in
            let fits : 4 + n ≤ length l = (length-in l c).fits in
            let near : q + 8 ≤ 4 + n = omega (arith, length-take n (drop 4 l)) in
            let room : q + 8 ≤ length l = omega arith in
            let l' = put_time q v l in
            let long : length l' ≡ length l = put-length q v l room in
            let same : length_of l' ≡ cut.Cuts n = length-same l l' long (put-take-before q v l room 4 low) ∙ sym c in
            let body : take n (drop 4 l') ≡ put_time (q - 4) v (take n (drop 4 l))
            = ap (take n) (put-drop-before q v l room 4 low)
            ∙ put-take-after (q - 4) v (drop 4 l) (omega (arith, length-drop 4 l)) n (omega arith) in (
              low,
              (omega (arith, t.1)),
              (omega (arith, t.1)),
              ap (cut_with limit 0 l') same
                  ∙ ap (λ (y : List ℕ). wholly limit (4 + n) (after 4 (read_packet 0 y 4))) body
                  ∙ ap (λ (y : Out). wholly limit (4 + n) (after 4 y)) w.1
                  ∙ t.2
                  ∙ ap (λ (j : Item). read (one (retimed q v j) (retimed_forest q v g) (4 + m))) item-is
                  ∙ ap (λ (h : Forest). read (one (retimed q v item) (retimed_forest q v h) (4 + m))) inside_is
                  ∙ ap (λ (k : ℕ). read (one (retimed q v item) (retimed_forest q v f) k)) used-is,
            )

    -- a time tag of a frame
    pub frame-retimed : Goal
    unfolding cut_frame
    frame-retimed = by_length (length_of l) refl e
      where
        by_length : (x : Length) → x ≡ length_of l → cut_with limit 0 l x ≡ read (one item f used) → Goal
        by_length (cut.Cuts n) c d = by-packet n c d
        by_length cut.Waiting c d = let w : ◌≡◌ {A = ℕ} 0 1 = cc in absurd (omega arith)
        by_length cut.Over c d = let w : ◌≡◌ {A = ℕ} 0 1 = cc in absurd (omega arith)
        by_length cut.Odd c d = let w : ◌≡◌ {A = ℕ} 0 1 = cc in absurd (omega arith)
