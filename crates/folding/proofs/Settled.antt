-- A frame of edition 2 that does not wait is the same frame with more bytes after it, whether it is given or refused; and one that is given
-- is the same frame without the bytes after it.
use mathlib.Core.Path.{◌≡◌, refl, ap, sym, subst, ◌∙◌}
use mathlib.Core.Bool.{cond}
use mathlib.Core.List.{List, ◌++◌}
use Prim.Native.Nat.{ℕ, ◌+◌, ◌-◌, ◌%◌, ◌≤◌}
use native.Mathlib.Omega.{arith}
use borrow.Author.Tests.{le-leb}
use lib.Dec.{eqb, leb}
use lib.ListN.{length, take, drop, length-append, length-drop}
use lib.Seq.{take-append-le, drop-append-le, take-add, take-take, drop_at, length-take-le}
use Rattle.wire.specs.Limits.{longest, longest_framed}
use Rattle.wire.specs.Number.{from, number}
use Rattle.wire.proofs.Choices.{by-test, by-eq, by_le, by_both}
use Rattle.node.specs.Forest.{nil, node, depth}
use Rattle.heads.specs.Heads.{length_in, length_of}
use Rattle.heads.specs.Results.{Length}
use Rattle.heads.specs.Results as cut
use Rattle.heads.proofs.Heads.{length-in, length-known, length-cuts}
use Rattle.packet.specs.Packet.{Out, fault, one, after, read_packet}
use Rattle.framing.specs.Framing.{Frame, wait, read, refused, framed, wholly, cut_with, cut_frame}

-- a length that does not wait is the same length
abbrev SameLength : Length → Length → Type 0
SameLength (cut.Cuts n) y = y ≡ cut.Cuts n
SameLength cut.Waiting y = Unit {0}
SameLength cut.Over y = y ≡ cut.Over
SameLength cut.Odd y = y ≡ cut.Odd

-- a frame that does not wait is the same frame
abbrev pub SameFrame : Frame → Frame → Type 0
SameFrame wait y = Unit {0}
SameFrame (read o) y = y ≡ read o
SameFrame (refused k) y = y ≡ refused k

in-same : (there there' n : ℕ) → there ≤ there' → SameLength (length_in there n) (length_in there' n)
in-same there there' n h =
    by_both SameLength (leb n longest_framed)
    (by_both SameLength (eqb (n % 4) 0)
    (by_le (λ (x : Length). SameLength x (cond (leb n there') (cut.Cuts n) cut.Waiting)) n there
    (λ g. rw (le-leb n there' (omega arith))) (λ g. tt)) refl)
    refl

length-same : (l more : List ℕ) → SameLength (length_of l) (length_of (l ++ more))
unfolding length_of number
length-same l more =
    by_le (λ (x : Length). SameLength x (length_of (l ++ more))) 4 (length l)
    (λ h. rw (le-leb 4 (length (l ++ more)) (omega (arith, length-append l more)), take-append-le 4 l more h)
    (in-same (length l - 4) (length (l ++ more) - 4) (number 4 l) (omega (arith, length-append l more))))
    (λ h. tt)

same-frame : (x : Frame) → SameFrame x x
same-frame wait = tt
same-frame (read o) = refl
same-frame (refused k) = refl

-- a frame that does not wait is the same frame with more bytes after it
pub cut-same : (limit base : ℕ) (l more : List ℕ) → SameFrame (cut_frame limit base l) (cut_frame limit base (l ++ more))
unfolding cut_frame
cut-same limit base l more = by_length (length_of l) refl (length-same l more)
  where
    by_length : (x : Length) → x ≡ length_of l → SameLength x (length_of (l ++ more))
        → SameFrame (cut_with limit base l x) (cut_with limit base (l ++ more) (length_of (l ++ more)))
    by_length (cut.Cuts n) e s =
        let w = length-in l e in
        let same : take n (drop 4 (l ++ more)) ≡ take n (drop 4 l)
        = ap (take n) (drop-append-le 4 l more (omega (arith, w.fits)))
        ∙ take-append-le n (drop 4 l) more (omega (arith, w.fits, length-drop 4 l)) in
        rw (s, same) (same-frame (wholly limit (4 + n) (after 4 (read_packet base (take n (drop 4 l)) 4))))
    by_length cut.Waiting e s = tt
    by_length cut.Over e s = rw s
    by_length cut.Odd e s = rw s

-- ---- without the bytes after it

-- a length that cuts is what the prefix says
Said : List ℕ → Length → Type 0
Said l (cut.Cuts n) = n ≡ number 4 l
Said l cut.Waiting = Unit {0}
Said l cut.Over = Unit {0}
Said l cut.Odd = Unit {0}

length-said : (l : List ℕ) → Said l (length_of l)
unfolding length_of Said
length-said l =
    let n = number 4 l in
    by_le (Said l) 4 (length l)
    (λ _. by_le (Said l) n longest_framed
    (λ _. by-eq (Said l) (n % 4) 0 (λ _. by_le (Said l) n (length l - 4) (λ _. refl) (λ _. tt)) (λ _. tt)) (λ _. tt))
    (λ _. tt)

-- a frame that is given is the same without the bytes after it, and no longer than a buffer
abbrev pub GivenAlone : ℕ → ℕ → List ℕ → Frame → Type 0
GivenAlone limit base l wait = Unit {0}
GivenAlone limit base l (read (fault k)) = Unit {0}
GivenAlone limit base l (read (one item f u)) = (u ≤ longest) × (cut_frame limit base (take u l) ≡ read (one item f u))
GivenAlone limit base l (refused k) = Unit {0}

module _ (limit base : ℕ) (l : List ℕ) (n : ℕ) (e : cut.Cuts n ≡ length_of l) where
  short : 4 + n ≤ longest
  short = let w = length-in l e in omega (arith, w.short)

  front_long : length (take (4 + n) l) ≡ 4 + n
  front_long = let w = length-in l e in length-take-le (4 + n) l w.fits

  front-number : n ≡ number 4 (take (4 + n) l)
  unfolding number Said
  front-number = subst (Said l) (sym e) (length-said l) ∙ ap (from 0) (sym (take-take 4 (4 + n) l (omega arith)))

  front_length : cut.Cuts n ≡ length_of (take (4 + n) l)
  front_length =
      let w = length-in l e in
      length-known (take (4 + n) l) (omega (arith, front_long)) front-number
      (length-cuts (length (take (4 + n) l) - 4) w.short w.fours (omega (arith, front_long)))

  front_bytes : take n (drop 4 (take (4 + n) l)) ≡ take n (drop 4 l)
  front_bytes =
      let w = length-in l e in
      let four : length (take 4 l) ≡ 4 = length-take-le 4 l (omega (arith, w.fits)) in
      ap (λ (m : List ℕ). take n (drop 4 m)) (take-add 4 n l) ∙ ap (take n) (drop_at (take 4 l) (take n (drop 4 l)) 4 four)
      ∙ take-take n n (drop 4 l) (omega arith)

  front-frame : cut_frame limit base (take (4 + n) l) ≡ cut_with limit base l (cut.Cuts n)
  unfolding cut_frame
  front-frame =
      ap (cut_with limit base (take (4 + n) l)) (sym front_length) ∙ ap (framed (wholly limit (4 + n)) base) front_bytes

  abbrev Stays : Frame → Type 0
  Stays x = cut_frame limit base (take (4 + n) l) ≡ x → GivenAlone limit base l x

  by-packet : (o : Out) → cut_frame limit base (take (4 + n) l) ≡ wholly limit (4 + n) o → GivenAlone limit base l (wholly limit (4 + n) o)
  by-packet (fault k) y = tt
  by-packet (one item f u) y =
      by-eq Stays u (4 + n)
      (λ s. by-test Stays (leb (depth (node item f nil)) limit)
      (λ _ z. (omega (arith, short), subst (λ (k : ℕ). cut_frame limit base (take k l) ≡ read (one item f u)) (sym s) z))
      (λ _ z. tt))
      (λ s z. tt) y

-- every frame is such a one
pub given-alone : (limit base : ℕ) (l : List ℕ) → GivenAlone limit base l (cut_frame limit base l)
unfolding cut_frame
given-alone limit base l = by_length (length_of l) refl
  where
    by_length : (x : Length) → x ≡ length_of l → GivenAlone limit base l (cut_with limit base l x)
    by_length (cut.Cuts n) e =
        by-packet limit base l n e (after 4 (read_packet base (take n (drop 4 l)) 4)) (front-frame limit base l n e)
    by_length cut.Waiting e = tt
    by_length cut.Over e = tt
    by_length cut.Odd e = tt
