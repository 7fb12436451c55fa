-- Describes code, and no part of the document: the iterator over nodes that stand side by side, and what it asks of their records.
use Rattle.std.specs.Prelude.{◌≡◌, ℕ, ◌*◌, ◌≤◌, ◌<◌, List, length, Option, Some, None}
use Rattle.node.specs.Records.{record_size, end_at}

-- the records lo to hi - 1 are in the table, and each of them ends after itself
abbrev pub Advances : List ℕ → ℕ → ℕ → Type 0
Advances t lo hi = (record_size * hi ≤ length t) × ((i : ℕ) → lo ≤ i → i < hi → i < end_at t i)

-- nothing is left, or the first record that is left with its end, where the next one stands
abbrev pub NextOf : List ℕ → ℕ → ℕ → Option (ℕ × ℕ) → List ℕ → ℕ → ℕ → Type 0
NextOf t at hi None t' at' hi' = (hi ≤ at) × (t' ≡ t) × (at' ≡ at) × (hi' ≡ hi)
NextOf t at hi (Some (k, e)) t' at' hi' =
    (at < hi) × (k ≡ at) × (e ≡ end_at t at) × (t' ≡ t) × (hi' ≡ hi) × (at' ≡ e)
