-- The arguments of a message by its tags: document 01, "How bytes are read", rules 2 and 3.
-- rosc's loop word for word: a frame that is filled, and the frames that wait below it; and rule 3's last sentence in its own words,
-- which is proved of that loop (`kept_since_last` and `ends_so`, in proofs/Unclosed.antt).
use Rattle.std.specs.Prelude.{◌≡◌, List, [], ◌∷◌, ◌++◌, ℕ, ◌+◌, drop, Err, Ok}
use Rattle.refusal.specs.declared.Fault.{Fault}
use Rattle.refusal.specs.declared.Fault.TheVariants.{NotOpen}
use Rattle.node.specs.Forest.{Forest, nil, snoc}
use Rattle.node.specs.Tags.{array_kind, sort_of}
use Rattle.node.specs.declared.record.Item.{Item}
use Rattle.node.specs.declared.tags.Sort.{Sort}
use Rattle.node.specs.declared.tags.Sort.TheVariants.{Opens, Closes, Leaf}
use Rattle.argument.specs.Argument.{read_arg, arg_item}
use Rattle.argument.specs.Results.{Arg}

-- the arguments that are kept and how many bytes of data were read; or the fault
pub data Args : Type 0 where
  refused : Fault → Args
  args : (kept : Forest) (used : ℕ) → Args

-- n more bytes were read before
abbrev pub later : ℕ → Args → Args
later n (refused fault) = refused fault
later n (args kept used) = args kept (n + used)

-- one argument more at the end of the frame; `go` reads the later tags' data
abbrev pub arg_taken : (List ℕ → ℕ → Forest → Args) → List ℕ → ℕ → Forest → Arg → Args
arg_taken go l p frame (Err fault) = refused fault
arg_taken go l p frame (Ok given) = later given.used (go (drop given.used l) (p + given.used) (snoc frame given.item nil))

-- the own numbers of an array whose [ stands where the data has reached `start`: both fields are 0 ("The node table")
abbrev pub array_item : ℕ → Item
array_item start = arg_item array_kind start 0 0

-- an array that is open: the frame that waits for it, and its own numbers
pub data Open : Type 0 where
  waits : (outer : Forest) (item : Item) → Open

-- what one tag does: [ lets the frame wait and opens a new one, ] puts the frame as an array at the end of the one below, any
-- other is an argument
abbrev pub act : Sort → (List ℕ → ℕ → Forest → List Open → Args) → ℕ → ℕ → List ℕ → ℕ → Forest → List Open → Args
act Opens go base tag l p frame below = go l p nil (waits frame (array_item (base + p)) ∷ below)
act Closes go base tag l p frame [] = refused NotOpen
act Closes go base tag l p frame (waits outer item ∷ below) = go l p (snoc outer item frame) below
act (Leaf class) go base tag l p frame below = arg_taken (λ m q f. go m q f below) l p frame (read_arg tag class base l p)

-- each tag's data before the next tag; at the end the frame that is filled is kept, and what waits below it is lost (rule 3)
unfoldable pub read_tags : ℕ → List ℕ → List ℕ → ℕ → Forest → List Open → Args
read_tags base [] l p frame below = args frame 0
read_tags base (tag ∷ tags) l p frame below = act (sort_of tag) (λ m q f b. read_tags base tags m q f b) base tag l p frame below

-- the data of a message's tags, from the first: an empty frame, and none that waits
abbrev pub read_args : ℕ → List ℕ → List ℕ → ℕ → Args
read_args base tags l p = read_tags base tags l p nil []

-- ---- rule 3's last sentence, of tags that end while arrays are open

-- tags that close every array that they open, and no other
pub data Balanced : List ℕ → Type 0 where
  nothing : Balanced []
  another : (tag : ℕ) {tags : List ℕ} → (tag ≡ array_kind → ⊥) → (tag ≡ 93 → ⊥) → Balanced tags → Balanced (tag ∷ tags)
  matched : {within tags : List ℕ} → Balanced within → Balanced tags → Balanced (array_kind ∷ (within ++ (93 ∷ tags)))

-- what is read since the last unclosed '[', once the tags before it were read: those tags give nothing but the bytes of their data
abbrev pub since_last : ℕ → List ℕ → List ℕ → ℕ → Args → Args
since_last base post l p (refused fault) = refused fault
since_last base post l p (args lost n) = later n (read_args base post (drop n l) (p + n))

-- "only what was read since the last unclosed [ is kept; all outside it is lost, its data consumed": whatever stands before that '['
abbrev pub KeptSinceLast : Type 0
KeptSinceLast =
    (base : ℕ) (pre post l : List ℕ) (p : ℕ) → Balanced post
    → read_args base (pre ++ (array_kind ∷ post)) l p ≡ since_last base post l p (read_args base pre l p)

-- no array is open at the end of the tags; or one is, and these are the tags before and after the last '[' that stays open
pub data AtEnd : List ℕ → Type 0 where
  none_open : {tags : List ℕ} → Balanced tags → AtEnd tags
  last_open : (pre : List ℕ) {post : List ℕ} → Balanced post → AtEnd (pre ++ (array_kind ∷ post))

-- tags that are accepted end so: the sentence speaks of all of them that leave an array open
abbrev pub EndsSo : Type 0
EndsSo = (base : ℕ) (tags l : List ℕ) (p : ℕ) (kept : Forest) (used : ℕ) → read_args base tags l p ≡ args kept used → AtEnd tags
