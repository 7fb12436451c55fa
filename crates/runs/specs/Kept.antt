-- What a call leaves in a slice that was filled before it.
use Rattle.std.specs.Prelude.{◌≡◌, ℕ, ◌<◌, ◌≤◌, Bool, true, List, length, take, slice_index}

-- every byte of l from index n on is the one that `fill` puts there
abbrev pub Kept : List ℕ → ℕ → Type 0
Kept l n = (i : ℕ) → n ≤ i → i < length l → slice_index l i ≡ 0x5A

-- l begins with bs
abbrev pub Begins : List ℕ → List ℕ → Type 0
Begins bs l = take (length bs) l ≡ bs

-- l begins with bs and is filled after it
abbrev pub Holds : List ℕ → List ℕ → Type 0
Holds bs l = Begins bs l × Kept l (length bs)

-- a test is true just where P holds
abbrev pub TellsWhether : Bool → Type 0 → Type 0
TellsWhether r P = (r ≡ true → P) × (P → r ≡ true)
