-- What puts bytes at the front of a slice, as far as a caller that goes on after them must know.
use Rattle.std.specs.Prelude.{◌≡◌, ℕ, ◌≤◌, List, length}

-- n bytes stand in the slice, which has as many as before
pub record Put (n : ℕ) (old new : List ℕ) : Type 0 where
  pub fits : n ≤ length old
  pub same : length new ≡ length old
