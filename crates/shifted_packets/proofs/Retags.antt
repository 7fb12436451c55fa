-- Bytes that differ in tags alone: rows of them one after another, and their lengths.
use mathlib.Core.Path.{◌≡◌, refl, ap}
use mathlib.Core.List.{List, [], ◌∷◌, ◌++◌, append_assoc, append-nil}
use Prim.Native.Nat.{ℕ, suc}
use lib.ListN.{length, length-append}
use Rattle.wire.specs.Number.{bytes}
use Rattle.wire.proofs.Numbers.{length-bytes}
use Rattle.clock.specs.Shift.{shifted}
use Rattle.shifted_packets.specs.Packets.{Retagged, none, same, moved}

-- bytes without a tag
pub retag-none : {by : ℕ} (bs : List ℕ) → Retagged by [] bs bs
retag-none [] = none
retag-none (x ∷ bs) = same (retag-none bs)

-- the bytes of one tag
pub retag-one : {by : ℕ} (tag : ℕ) → Retagged by (tag ∷ []) (bytes 8 tag) (bytes 8 (shifted tag by))
retag-one {by} tag =
    let v : Retagged by (tag ∷ []) (bytes 8 tag ++ []) (bytes 8 (shifted tag by) ++ []) = moved none in
    rw (append-nil (bytes 8 tag), append-nil (bytes 8 (shifted tag by))) at v

-- two rows, one after the other
pub retag-both : {by : ℕ} {tags bs cs tags' bs' cs' : List ℕ} → Retagged by tags bs cs → Retagged by tags' bs' cs'
    → Retagged by (tags ++ tags') (bs ++ bs') (cs ++ cs')
retag-both none w = w
retag-both (same v) w = same (retag-both v w)
retag-both {by} (moved {tag} {tags} {bs} {cs} v) w = rw (append_assoc (bytes 8 tag) bs, append_assoc (bytes 8 (shifted tag by)) cs)
    (moved (retag-both v w))

-- both are as long
pub retag-length : {by : ℕ} {tags bs cs : List ℕ} → Retagged by tags bs cs → length cs ≡ length bs
retag-length none = refl
retag-length (same v) = ap suc (retag-length v)
retag-length {by} (moved {tag} {tags} {bs} {cs} v) =
    simp (length-append, length-bytes, retag-length v)

-- tags and bytes after an amount of other bytes
pub retag-after : {by : ℕ} {tags bs cs : List ℕ} (front : List ℕ) → Retagged by tags bs cs → Retagged by tags (front ++ bs) (front ++ cs)
retag-after [] v = v
retag-after (x ∷ front) v = same (retag-after front v)
