-- Every packet that is read obeys the rules of a well-formed table over the call's input, and its fields fit.
use mathlib.Core.Path.{◌≡◌, refl}
use mathlib.Core.Bool.{true}
use mathlib.Core.List.{List}
use Prim.Native.Nat.{ℕ, zero, suc, ◌+◌, ◌^◌, ◌≤◌, ◌<◌}
use native.Mathlib.Omega.{arith}
use lib.Dec.{eqb}
use lib.ListN.{length, get_or, take, drop}
use Rattle.node.specs.Forest.{Forest}
use Rattle.node.specs.Tags.{message_kind, bundle_kind}
use Rattle.node.specs.declared.record.Item.{Item}
use Rattle.node.specs.Rules.{own_rules}
use Rattle.text.specs.Text.{read_text}
use Rattle.heads.specs.Results.{ElementSize}
use Rattle.packet.specs.Results.{Start}
use Rattle.std.specs.Prelude.{Err, None, Some, Ok}
use Rattle.text.specs.Results.{Text}
use Rattle.arguments.specs.Arguments.{Args, refused, args, read_args}
use Rattle.heads.specs.Heads.{tags_in, size_of}
use Rattle.packet.specs.FirstText.{bundle_word, start_by, start_of}
use Rattle.wire.specs.Same.{same_bytes}
use Rattle.packet.specs.Packet.{Out, fault, one, Elements, upto, after, message_with, types_then, read_message}
use Rattle.heads.specs.Heads.{message_item, bundle_item}
use Rattle.packet.specs.Packet.{bundle_with, bundle_by, filling}
use Rattle.packet.specs.Packet.{held_by, element_by, joined, go_on, elements_by, started_by, packet_by, packet_at, elements_at, read_packet}
use Rattle.heads.proofs.Heads.{size_in}
use Rattle.table.specs.Formed.{range_ok, allowed}
use Rattle.osc10.specs.Words.{Bytes}
use Rattle.wire.proofs.Choices.{by-test, by_le}
use Rattle.wire.proofs.Numbers.{number_small}
use Rattle.text.proofs.Within.{found_in}
use Rattle.wire.proofs.Parts.{drop-small}
use Rattle.osc10.proofs.Placed.{At, at_take, at_on, at-bytes}
use Rattle.given.proofs.Encodable.Arguments.{SoundIn, NodeSound, sound-nil, sound-node, text-range, args-sound}

-- ---- what was read is sound

-- a packet that was read obeys the rules of a bundle's element
abbrev pub OutSound : List ℕ → Out → Type 0
OutSound s (fault k) = Unit {0}
OutSound s (one item f used) = NodeSound s bundle_kind item f

abbrev ElementsSound : List ℕ → Elements → Type 0
ElementsSound s (upto f used) = SoundIn s bundle_kind f

-- so does one with bytes read before it
pub after-sound : (s : List ℕ) (n : ℕ) (o : Out) → OutSound s o → OutSound s (after n o)
after-sound s n (fault k) w = tt
after-sound s n (one item f used) w = w

joined-sound : (s : List ℕ) (item : Item) (f : Forest) (n : ℕ) (g : Elements) → NodeSound s bundle_kind item f → ElementsSound s g
    → ElementsSound s (joined item f n g)
joined-sound s item f n (upto g used) w v = sound-node w v

module _ {s : List ℕ} (small : Bytes s) (low : length s < 256 ^ 4) (base : ℕ) where
  -- ---- messages

  -- the address of n bytes at q
  module _ (q n : ℕ) (address : range_ok s (message_item q n) ≡ true) (fits : q + n ≤ length s) where
    with-sound : (o : Args) → ((kept : Forest) (used : ℕ) → args kept used ≡ o → SoundIn s message_kind kept)
        → OutSound s (message_with (message_item q n) o)
    unfolding own_rules allowed
    with-sound (refused k) h = tt
    with-sound (args kept used) h = record
        { rules = refl; range = address; may = refl; low = (omega arith, omega arith, omega arith); in-sound = h kept used refl }

    types-sound : (l : List ℕ) (p : ℕ) (t : Text) → At s (base + p) l → t ≡ read_text l p
        → OutSound s (types_then base (message_item q n) l p t)
    types-sound l p (Err k) at e = tt
    types-sound l p (Ok text) at e =
        let w = found_in l p e in
        let o = read_args base (tags_in (take text.length l)) (drop text.used l) (p + text.used) in
        after-sound s text.used (message_with (message_item q n) o)
        (with-sound o (λ kept v g. args-sound small low base (tags_in (take text.length l)) (p + text.used)
        (at_on base p text.used w.1 at) g))

    message-sound : (l : List ℕ) (p : ℕ) → At s (base + p) l → OutSound s (read_message base (message_item q n) l p)
    unfolding read_message
    message-sound l p at = types-sound l p (read_text l p) at refl

  -- ---- bundles

  bundle-sound : (start : ℕ) → start ≤ length s → (es : List ℕ → ℕ → Elements) {l : List ℕ} (p : ℕ) → At s (base + p) l
      → ((m : List ℕ) (q : ℕ) → At s (base + q) m → ElementsSound s (es m q))
      → OutSound s (bundle_by start es l p)
  unfolding bundle_by own_rules range_ok allowed
  bundle-sound start le es {l} p at h = by_le (OutSound s) 8 (length l)
      (λ k. with-elements (es (drop 8 l) (p + 8)) (h (drop 8 l) (p + 8) (at_on base p 8 k at))) (λ _. tt)
    where
      with-elements : (x : Elements) → ElementsSound s x → OutSound s (bundle_with (bundle_item start l) x)
      with-elements (upto f used) w =
          let b = at-bytes small at in
          record {
            rules = refl;
            range = refl;
            may = refl;
            low = (number_small 4 l b, number_small 4 (drop 4 l) (drop-small 4 l b), omega arith);
            in-sound = w;
          }

  -- ---- packets

  packet-by-sound : (es : List ℕ → ℕ → Elements) {l : List ℕ} (p : ℕ) → At s (base + p) l
      → ((m : List ℕ) (q : ℕ) → At s (base + q) m → ElementsSound s (es m q))
      → OutSound s (packet_by base es l p)
  unfolding packet_by start_of
  packet-by-sound es {l} p at h =
      by-test (λ x. OutSound s (started_by base es l p x)) (eqb (length l) 0) (λ _. tt) (λ _. by-text (read_text l p) refl)
    where
      by-text : (t : Text) → t ≡ read_text l p → OutSound s (started_by base es l p (start_by l p t))
      by-text (Err k) e = tt
      by-text (Ok text) e =
          let w = found_in l p e in
          let next = at_on base p text.used w.1 at in
          let P : Start → Type 0 = λ x. OutSound s (started_by base es l p x) in
          by-test P (eqb (get_or l 0 0) message_kind)
          (λ _. after-sound s text.used (read_message base (message_item (base + p) text.length) (drop text.used l) (p + text.used))
          (message-sound (base + p) text.length (text-range message_kind refl at (omega arith) w.2) (omega (arith, at.within))
          (drop text.used l) (p + text.used) next))
          (λ _. by-test P (same_bytes (take text.length l) bundle_word)
          (λ _. after-sound s text.used (bundle_by (base + p) es (drop text.used l) (p + text.used))
          (bundle-sound (base + p) (omega (arith, at.within)) es (p + text.used) next h))
          (λ _. tt))

  -- ---- elements

  module _ (pk : List ℕ → ℕ → Out) (es : List ℕ → ℕ → Elements) (hp : (m : List ℕ) (q : ℕ) → At s (base + q) m → OutSound s (pk m q))
      (he : (m : List ℕ) (q : ℕ) → At s (base + q) m → ElementsSound s (es m q)) where
    filled-sound : {l : List ℕ} (p n : ℕ) (o : Out) → 4 + n ≤ length l → At s (base + p) l → OutSound s o
        → ElementsSound s (go_on es l p (filling n o))
    filled-sound p n (fault k) h at w = sound-nil
    filled-sound {l} p n (one item f used) h at w =
        joined-sound s item f n (es (drop (4 + n) l) (p + (4 + n))) w (he (drop (4 + n) l) (p + (4 + n)) (at_on base p (4 + n) h at))

    elements-by-sound : {l : List ℕ} (p : ℕ) → At s (base + p) l → ElementsSound s (elements_by pk es l p)
    unfolding elements_by element_by
    elements-by-sound {l} p at = by_size (size_of l) refl
      where
        by_size : (x : ElementSize) → x ≡ size_of l → ElementsSound s (go_on es l p (held_by pk l p x))
        by_size (Some n) e =
            let h = size_in l e in
            filled-sound p n (pk (take n (drop 4 l)) (p + 4)) h at
            (hp (take n (drop 4 l)) (p + 4) (at_take n (at_on base p 4 (omega arith) at)))
        by_size None e = sound-nil

  mutual
    unfolding packet_at

    packet-at-sound : (n : ℕ) (l : List ℕ) (p : ℕ) → At s (base + p) l → OutSound s (packet_at base n l p)
    packet-at-sound zero l p at = tt
    packet-at-sound (suc n) l p at = packet-by-sound _ p at (λ m q t. elements-at-sound n m q t)

    elements-at-sound : (n : ℕ) (l : List ℕ) (p : ℕ) → At s (base + p) l → ElementsSound s (elements_at base n l p)
    elements-at-sound zero l p at = sound-nil
    elements-at-sound (suc n) l p at = elements-by-sound _ _ (λ m q t. packet-at-sound n m q t) (λ m q t. elements-at-sound n m q t) p at

  -- every packet that is read obeys the rules over the input that it stands in
  pub packet-sound : (l : List ℕ) (p : ℕ) → At s (base + p) l → OutSound s (read_packet base l p)
  unfolding read_packet
  packet-sound l p at = packet-at-sound (length l) l p at
