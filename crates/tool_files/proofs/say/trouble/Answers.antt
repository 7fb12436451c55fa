-- `tool_files::say::trouble` is safe: what is shown of a word has room.
use mathlib.Core.Path.{◌≡◌}
use mathlib.Core.List.{List}
use Prim.Native.Nat.{ℕ, ◌≤◌}
use native.Mathlib.Omega.{arith}
use lib.ListN.{length, take, length-take}
use Rattle.tool_files.proofs.say.trouble.Goals as goal

-- the first bytes are at most so many
few : (n : ℕ) {l : List ℕ} (m : List ℕ) → l ≡ take n m → length l ≤ n
few n {l} m e = rw e (omega (arith, length-take n m))

pub show-s-requires : goal.show-s-requires
show-s-requires c = omega (arith, few 4096 c.front-name.result.now c.front.ensures, c.buffer-shown.ensures)
