-- RFC 3629, section 4: the syntax of UTF-8 byte sequences. The ABNF's alternatives for a character are data, row beside row.
use Rattle.std.specs.Prelude.{◌≡◌, Bool, true, List, [], ◌∷◌, ◌++◌, ℕ, ◌≤◌}

-- a range of octets: the ABNF's %xC2-DF is `to 0xC2 0xDF`
pub data Range : Type 0 where
  to : ℕ → ℕ → Range

-- an octet lies in a range, both ends counted
abbrev pub In : Range → ℕ → Type 0
In (to a b) x = (a ≤ x) × (x ≤ b)

-- a single octet: the ABNF's %xE0 is `only 0xE0`
abbrev pub only : ℕ → Range
only x = to x x

-- UTF8-tail = %x80-BF
abbrev pub tail : Range
tail = to 0x80 0xBF

-- UTF8-char = UTF8-1 / UTF8-2 / UTF8-3 / UTF8-4: the alternatives in the RFC's order, each a row of ranges, one to an octet
abbrev pub chars : List (List Range)
chars =
    (to 0x00 0x7F ∷ [])
    ∷ (to 0xC2 0xDF ∷ tail ∷ [])
    ∷ (only 0xE0 ∷ to 0xA0 0xBF ∷ tail ∷ [])
    ∷ (to 0xE1 0xEC ∷ tail ∷ tail ∷ [])
    ∷ (only 0xED ∷ to 0x80 0x9F ∷ tail ∷ [])
    ∷ (to 0xEE 0xEF ∷ tail ∷ tail ∷ [])
    ∷ (only 0xF0 ∷ to 0x90 0xBF ∷ tail ∷ tail ∷ [])
    ∷ (to 0xF1 0xF3 ∷ tail ∷ tail ∷ tail ∷ [])
    ∷ (only 0xF4 ∷ to 0x80 0x8F ∷ tail ∷ tail ∷ [])
    ∷ []

-- a row is one of the alternatives: the ABNF's /
pub data Among : List Range → List (List Range) → Type 0 where
  here : {row : List Range} {rows : List (List Range)} → Among row (row ∷ rows)
  there : {row other : List Range} {rows : List (List Range)} → Among row rows → Among row (other ∷ rows)

-- octets fit a row, one to a range: the ABNF's concatenation
pub data Fit : List Range → List ℕ → Type 0 where
  end : Fit [] []
  next : {r : Range} {row : List Range} {x : ℕ} {s : List ℕ} → In r x → Fit row s → Fit (r ∷ row) (x ∷ s)

-- UTF8-octets = *( UTF8-char ): characters, one after another, or none
pub data Octets : List ℕ → Type 0 where
  none : Octets []
  char : {row : List Range} {c s : List ℕ} → Among row chars → Fit row c → Octets s → Octets (c ++ s)

-- an answer that is true exactly where a statement holds
pub record Decides (r : Bool) (A : Type 0) : Type 0 where
  pub sound : r ≡ true → A
  pub complete : A → r ≡ true
