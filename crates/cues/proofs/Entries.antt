-- The bytes of a record of an index, as many of them as there are, as slices give them.
use mathlib.Core.Path.{◌≡◌, sym, ap, ◌∙◌}
use mathlib.Core.List.{List}
use Prim.Native.Nat.{ℕ, ◌*◌, ◌-◌, ◌<◌, ◌≤◌}
use native.Mathlib.Omega.{arith}
use lib.ListN.{length, take, drop, length-drop, drop_of_length-le}
use lib.Seq.{length-take-le, take_all, drop-length}
use Rattle.utf8.proofs.Plain.{tail}
use Rattle.cues.specs.Cues.{entry_size}

module _ (l : List ℕ) (k : ℕ) where
  -- after the last there is none
  pub entry_past : length l < entry_size * k → take (length l - length l) (drop (length l) l) ≡ take entry_size (drop (entry_size * k) l)
  entry_past h = tail l (length l) ∙ drop-length l ∙ sym (ap (take entry_size) (drop_of_length-le l {i = entry_size * k} (omega arith)))

  -- the last, which is not whole
  pub entry-part : length l - entry_size * k < entry_size
      → take (length l - entry_size * k) (drop (entry_size * k) l) ≡ take entry_size (drop (entry_size * k) l)
  entry-part h = tail l (entry_size * k) ∙ sym (take_all entry_size (drop (entry_size * k) l) (omega (arith, length-drop (entry_size * k) l)))

  -- one that is whole
  pub entry_whole : take entry_size (take (length l - entry_size * k) (drop (entry_size * k) l)) ≡ take entry_size (drop (entry_size * k) l)
  entry_whole = ap (take entry_size) (tail l (entry_size * k))

  -- and has all its bytes
  pub entry-bytes : entry_size ≤ length l - entry_size * k
      → entry_size ≡ length (take entry_size (take (length l - entry_size * k) (drop (entry_size * k) l)))
  entry-bytes h =
      sym (ap length entry_whole ∙ length-take-le entry_size (drop (entry_size * k) l) (omega (arith, length-drop (entry_size * k) l)))
