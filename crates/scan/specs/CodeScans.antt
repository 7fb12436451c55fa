-- Describes code, and no part of the document: the scans of the first reading, which build no tree. Nobody need believe them: the laws
-- `measured-kept`, `measured-refused` and `cut_at` of the crate `arguments` show that they answer as `read_args` does.
use Rattle.std.specs.Prelude.{Bool, false, ◌||◌, List, [], ◌∷◌, ℕ, zero, suc, ◌+◌, max, drop, Err, Ok}
use Rattle.refusal.specs.declared.Fault.TheVariants.{NotOpen}
use Rattle.node.specs.Tags.{array_kind, among, sort_of}
use Rattle.node.specs.declared.tags.Class.{Class}
use Rattle.node.specs.declared.tags.Sort.{Sort}
use Rattle.node.specs.declared.tags.Sort.TheVariants.{Opens, Closes, Leaf}
use Rattle.text.specs.Text.{non_zero}
use Rattle.argument.specs.Argument.{read_arg}
use Rattle.argument.specs.CodeParts.{between, padding_from}
use Rattle.argument.specs.Results.{Arg}
use Rattle.scan.specs.Results.{Scanned, Used}
use Rattle.scan.specs.declared.Back.{Back}
use Rattle.scan.specs.declared.Back.TheVariants.{Uncut, Cut}

-- ---- forward: whether tags and data are accepted, how many bytes they take, and how many of their padding are not zero

-- one argument of this class at the front of l without its own numbers: what it takes, and how many bytes of its padding are not zero
abbrev pub used_of : Class → List ℕ → Arg → Scanned
used_of class l (Ok given) = Used given.used (non_zero (between (padding_from class given.item given.used) given.used l))
used_of class l (Err fault) = Err fault

-- n more bytes were read before, with so much dirt
abbrev pub more_used : ℕ → ℕ → Scanned → Scanned
more_used n dirt (Ok scanned) = Used (n + scanned.used) (dirt + scanned.dirty)
more_used n dirt (Err fault) = Err fault

-- one argument is passed over; `go` reads the later tags' data
abbrev pub arg_passed : (List ℕ → ℕ → Scanned) → List ℕ → ℕ → Scanned → Scanned
arg_passed go l p (Ok scanned) = more_used scanned.used scanned.dirty (go (drop scanned.used l) (p + scanned.used))
arg_passed go l p (Err fault) = Err fault

-- what one tag does while n arrays are open; the offset base does not matter, and is 0
abbrev pub turn : Sort → (List ℕ → ℕ → ℕ → Scanned) → ℕ → List ℕ → ℕ → ℕ → Scanned
turn Opens go tag l p n = go l p (suc n)
turn Closes go tag l p zero = Err NotOpen
turn Closes go tag l p (suc n) = go l p n
turn (Leaf class) go tag l p n = arg_passed (λ m q. go m q n) l p (used_of class l (read_arg tag class 0 l p))

-- the tags and their data, which stands at position p, while n arrays are open
unfoldable pub scan : List ℕ → List ℕ → ℕ → ℕ → Scanned
scan [] l p n = Used 0 0
scan (tag ∷ tags) l p n = turn (sort_of tag) (λ m q k. scan tags m q k) tag l p n

-- ---- backward, tags only: which tags are kept

-- a tag stands before those that were looked at; a '[' that they close, n others around it, stands at level suc n
abbrev pub tag_before : Sort → Back → Back
tag_before Opens (Cut n c d) = Cut (suc n) c d
tag_before Opens (Uncut zero c d) = Cut 1 c d
tag_before Opens (Uncut (suc n) c d) = Uncut n (suc c) (max d (suc n))
tag_before Closes (Cut n c d) = Cut (suc n) c d
tag_before Closes (Uncut n c d) = Uncut (suc n) c d
tag_before (Leaf class) (Cut n c d) = Cut (suc n) c d
tag_before (Leaf class) (Uncut n c d) = Uncut n (suc c) d

-- what the tags keep, from the last to the first: `Uncut` where they close every array that they open, else `Cut` after the last '['
-- that stays open; how many records that are, and how deep their arrays are nested
unfoldable pub back : List ℕ → Back
back [] = Uncut 0 0 0
back (tag ∷ tags) = tag_before (sort_of tag) (back tags)

-- every array that the tags open is closed by them
abbrev pub AllClosed : Back → Type 0
AllClosed (Uncut n c d) = Unit {0}
AllClosed (Cut n c d) = ⊥

-- a tag that opens or closes an array (rule 3)
abbrev pub bracket : ℕ → Bool
bracket tag = among tag (array_kind ∷ 93 ∷ [])

-- one of the tags is a bracket: where none is, every tag is kept
abbrev pub brackets : List ℕ → Bool
brackets [] = false
brackets (tag ∷ tags) = bracket tag || brackets tags
