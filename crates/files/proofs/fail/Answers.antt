-- `files::fail` is safe: what is shown of a name has room.
use mathlib.Core.Path.{◌≡◌}
use mathlib.Core.List.{List}
use Prim.Native.Nat.{ℕ, ◌≤◌}
use native.Mathlib.Omega.{arith}
use lib.ListN.{length, take, length-take}
use Rattle.files.proofs.fail.Goals as goal

-- the first bytes are at most so many
few : (n : ℕ) {l : List ℕ} (m : List ℕ) → l ≡ take n m → length l ≤ n
few n {l} m e = rw e (omega (arith, length-take n m))

pub show-n-requires : goal.show-n-requires
show-n-requires c = omega (arith, few 4096 c.args.path.now c.front.ensures, c.buffer-name.ensures)
