-- Whether a file that exists could be what a command writes.
use Rattle.std.specs.Prelude.{Result, Ok, Err, ⊤, Bool, true, cond, List, [], ◌∷◌, ℕ, ◌%◌, eqb, take}
use Rattle.wire.specs.Same.{same_bytes}
use Rattle.troubles.specs.declared.Trouble.{Trouble}
use Rattle.troubles.specs.declared.Trouble.TheVariants.{IndexLength, IndexFront, TableLength, TableFront, Exists}
use Rattle.files.specs.declared.fit.Kind.{Kind}
use Rattle.files.specs.declared.fit.Kind.TheVariants.{Index, Table, Packet}

-- the first 8 bytes of an index are zero: its first frame stands at offset 0 (Ticket 5)
abbrev pub begins_index : List ℕ → Bool
begins_index head = same_bytes (0 ∷ 0 ∷ 0 ∷ 0 ∷ 0 ∷ 0 ∷ 0 ∷ 0 ∷ []) (take 8 head)

-- the first 4 bytes of a table are the kind of a message, / (47), or of a bundle, # (35), and three zeros (document 01, "The node table")
abbrev pub begins_table : List ℕ → Bool
begins_table head =
    cond (same_bytes (47 ∷ 0 ∷ 0 ∷ 0 ∷ []) (take 4 head)) true (same_bytes (35 ∷ 0 ∷ 0 ∷ 0 ∷ []) (take 4 head))

-- an index has no bytes, or a multiple of 16 that begin so
unfoldable pub index_fit : ℕ → List ℕ → Result ⊤ Trouble
index_fit size head =
    cond (eqb (size % 16) 0) (cond (eqb size 0) (Ok tt) (cond (begins_index head) (Ok tt) (Err IndexFront))) (Err IndexLength)

-- a table has no bytes, as that of a stream without packets, or a multiple of 20 that begin so
unfoldable pub table_fit : ℕ → List ℕ → Result ⊤ Trouble
table_fit size head =
    cond (eqb (size % 20) 0) (cond (eqb size 0) (Ok tt) (cond (begins_table head) (Ok tt) (Err TableFront))) (Err TableLength)

-- a packet or a frame may have any bytes: no file is known by them for one that was written before
abbrev pub fit_of : Kind → ℕ → List ℕ → Result ⊤ Trouble
fit_of Index size head = index_fit size head
fit_of Table size head = table_fit size head
fit_of Packet size head = Err Exists

-- with --replace every file may be replaced
abbrev pub allowed_by : Bool → Result ⊤ Trouble → Result ⊤ Trouble
allowed_by replacing fit = cond replacing (Ok tt) fit
