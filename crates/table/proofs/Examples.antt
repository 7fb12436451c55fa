-- Examples, computed, that meet the hypotheses of this crate's theorems, and the packets and tables that those of other crates share:
-- document 01's P3; a bundle in a bundle, with a message that has a text, a blob, a character and a double that is no number; and a
-- bundle with arrays.
use mathlib.Core.Path.{◌≡◌, sym}
use mathlib.Core.Bool.{Bool, true, false, true≢false, ◌&&◌}
use mathlib.Core.List.{List, [], ◌∷◌, ◌++◌, append-nil}
use Prim.Native.Nat.{ℕ, zero, suc, ◌+◌, ◌^◌, ◌≤◌, ◌<◌}
use native.Mathlib.Omega.{arith}
use mir.Facts.{and_yes}
use denote.Floats.{is_true}
use lib.Dec.{T, leb, leb→le, ltb, ltb→lt}
use lib.ListN.{get_or, take}
use Rattle.wire.specs.Number.{number, bytes}
use Rattle.node.specs.Forest.{Forest, nil, node, size, depth}
use Rattle.node.specs.Tags.{message_kind, bundle_kind, array_kind, sort_of, class_of}
use Rattle.node.specs.declared.record.Item.{Item}
use Rattle.node.specs.Records.{most_records, record_of, records_of, kind_at, field_at, item_at}
use Rattle.node.specs.Rules.{own_rules}
use Rattle.table.specs.Formed.{range_ok, allowed, WellFormed}
use Rattle.table.specs.Tree.{IsTree, Spans, Obeys, FieldsFit}
use Rattle.table.proofs.Spanned.{spans_unique}
use Rattle.table.proofs.Theorem.{formed_tree, tree_formed, tree_bytes, bytes-tree}

-- ---- a list of bytes, by one test

-- every element is at most 255
abbrev pub small : List ℕ → Bool
small [] = true
small (x ∷ l) = leb x 255 && small l

-- a list that passes the test is one of bytes
pub small_bytes : (l : List ℕ) → T (small l) → (i : ℕ) → get_or l i 0 < 256
small_bytes [] t i = omega arith
small_bytes (x ∷ l) t zero = omega (arith, leb→le x 255 (and_yes (leb x 255) (small l) t).0)
small_bytes (x ∷ l) t (suc i) = small_bytes l (and_yes (leb x 255) (small l) t).1 i

-- ---- a tree's table, by two tests

-- a number fits a field
abbrev low : ℕ → Bool
low x = ltb x (256 ^ 4)

-- every node's numbers fit their fields
abbrev fitting : Forest → Bool
fitting nil = true
fitting (node item inside rest) =
    (low item.a && (low item.b && low item.start)) && (fitting inside && fitting rest)

fields_fit : (F : Forest) → T (fitting F) → FieldsFit F
unfolding FieldsFit
fields_fit nil t = tt
fields_fit (node item inside rest) t =
    let (n, f) = and_yes (low item.a && (low item.b && low item.start)) (fitting inside && fitting rest) t in
    let (a, m) = and_yes (low item.a) (low item.b && low item.start) n in
    let (b, s) = and_yes (low item.b) (low item.start) m in
    let (i, r) = and_yes (fitting inside) (fitting rest) f in (
      ltb→lt item.a (256 ^ 4) a,
      ltb→lt item.b (256 ^ 4) b,
      ltb→lt item.start (256 ^ 4) s,
      fields_fit inside i,
      fields_fit rest r,
    )

-- every node obeys the rules
abbrev obeying : List ℕ → ℕ → Forest → Bool
obeying source container nil = true
obeying source container (node item inside rest) =
    (own_rules item && (range_ok source item && allowed container item.kind))
    && (obeying source item.kind inside && obeying source container rest)

obeys-all : (source : List ℕ) (container : ℕ) (F : Forest) → T (obeying source container F) → Obeys source container F
unfolding Obeys
obeys-all source container nil t = tt
obeys-all source container (node item inside rest) t =
    let (n, f) = and_yes (own_rules item && (range_ok source item && allowed container item.kind))
    (obeying source item.kind inside && obeying source container rest) t in
    let (o, m) = and_yes (own_rules item) (range_ok source item && allowed container item.kind) n in
    let (g, a) = and_yes (range_ok source item) (allowed container item.kind) m in
    let (i, r) = and_yes (obeying source item.kind inside) (obeying source container rest) f in (
      is_true (own_rules item) o,
      is_true (range_ok source item) g,
      is_true (allowed container item.kind) a,
      obeys-all source item.kind inside i,
      obeys-all source container rest r,
    )

-- the records of a tree that passes both tests are that tree's
pub by_tests : (source : List ℕ) (item : Item) (inside : Forest) → T (fitting (node item inside nil))
    → T (obeying source bundle_kind (node item inside nil)) → size (node item inside nil) ≤ most_records
    → IsTree (records_of 0 (node item inside nil)) (size (node item inside nil)) source item inside
by_tests source item inside f o few =
    let F = node item inside nil in
    let t = records_of 0 F in
    bytes-tree t [] source item inside (sym (append-nil t)) (fields_fit F f) few (obeys-all source bundle_kind F o)

-- ---- P3

-- P3's packet: 2F610000 2C690000 00000005
abbrev pub packet : List ℕ
packet = 0x2F ∷ 0x61 ∷ 0 ∷ 0 ∷ 0x2C ∷ 0x69 ∷ 0 ∷ 0 ∷ 0 ∷ 0 ∷ 0 ∷ 5 ∷ []

-- a message and an integer, as P3 has them where length is 2 and end is 2; their data begins at 0 and at 8
abbrev pub table : (length end : ℕ) → List ℕ
table length end =
    0x2F ∷ 0 ∷ 0 ∷ 0 ∷ 0 ∷ 0 ∷ 0 ∷ 2 ∷ 0 ∷ 0 ∷ 0 ∷ 0 ∷ 0 ∷ 0 ∷ 0 ∷ length ∷ 0 ∷ 0 ∷ 0 ∷ 0
    ∷ 0x69 ∷ 0 ∷ 0 ∷ 0 ∷ 0 ∷ 0 ∷ 0 ∷ end ∷ 0 ∷ 0 ∷ 0 ∷ 5 ∷ 0 ∷ 0 ∷ 0 ∷ 0 ∷ 0 ∷ 0 ∷ 0 ∷ 8 ∷ []

-- P3's message: its address has 2 bytes from 0 on
abbrev pub message : Item
message = record { kind = message_kind; a = 0; b = 2; start = 0 }

-- the integer that it contains
abbrev pub five : Forest
five = node (record { kind = 105; a = 5; b = 0; start = 8 }) nil nil

-- P3's table is the tree of a message with one integer
pub p3-tree : IsTree (table 2 2) 2 packet message five
unfolding bytes size class_of sort_of record_of records_of own_rules range_ok allowed
p3-tree = by_tests packet message five tt tt (omega arith)

-- so it is well formed
pub p3-formed : WellFormed (table 2 2) 2 packet
p3-formed = tree_formed p3-tree

-- the integer ends after the table's end
pub wrong-end : WellFormed (table 2 3) 2 packet → ⊥
unfolding number field_at
wrong-end w = let h : 3 ≤ 2 = (w.nodes 1 (omega arith)).within in omega arith

-- the address ends after the packet's end
pub range-past : WellFormed (table 13 2) 2 packet → ⊥
unfolding number kind_at field_at range_ok
range-past w = let h : false ≡ true = (w.nodes 0 (omega arith)).range in true≢false (sym h)

-- no other forest's records are P3's table
one-forest : (F : Forest) → Spans (table 2 2) 0 2 F → F ≡ node message five nil
one-forest F s = spans_unique (table 2 2) 0 2 F (node message five nil) s p3-tree.spans

-- ---- a bundle in a bundle

-- a bundle to be played at once, without elements: 2362756E 646C6500 00000000 00000001
abbrev pub empty : List ℕ
empty = 0x23 ∷ 0x62 ∷ 0x75 ∷ 0x6E ∷ 0x64 ∷ 0x6C ∷ 0x65 ∷ 0 ∷ 0 ∷ 0 ∷ 0 ∷ 0 ∷ 0 ∷ 0 ∷ 0 ∷ 1 ∷ []

-- /b with the text é, a blob of one byte, the character é and a double that is no number: 2F620000 2C736263 64000000 C3A90000 00000001
-- FF000000 000000E9 7FF80000 00000000
abbrev pub mixed : List ℕ
mixed =
    0x2F ∷ 0x62 ∷ 0 ∷ 0 ∷ 0x2C ∷ 0x73 ∷ 0x62 ∷ 0x63 ∷ 0x64 ∷ 0 ∷ 0 ∷ 0 ∷ 0xC3 ∷ 0xA9 ∷ 0 ∷ 0 ∷ 0 ∷ 0 ∷ 0 ∷ 1 ∷ 0xFF ∷ 0 ∷ 0 ∷ 0
    ∷ 0 ∷ 0 ∷ 0 ∷ 0xE9 ∷ 0x7F ∷ 0xF8 ∷ 0 ∷ 0 ∷ 0 ∷ 0 ∷ 0 ∷ 0 ∷ []

-- a bundle whose one element is a bundle whose one element is that message, each with its size
abbrev pub nested : List ℕ
nested = empty ++ (0 ∷ 0 ∷ 0 ∷ 56 ∷ (empty ++ (0 ∷ 0 ∷ 0 ∷ 36 ∷ mixed)))

-- a list of two frames: the message and the bundle, each behind its length
abbrev pub two : List ℕ
two = (0 ∷ 0 ∷ 0 ∷ 36 ∷ mixed) ++ (0 ∷ 0 ∷ 0 ∷ 76 ∷ nested)

-- the bundle's own numbers, where it begins at an offset
abbrev pub once : (offset : ℕ) → Item
once offset = record { kind = bundle_kind; a = 0; b = 1; start = offset }

-- the message's, where it begins at an offset
abbrev pub mixed-item : (offset : ℕ) → Item
mixed-item offset = record { kind = message_kind; a = offset; b = 2; start = offset }

-- its arguments
abbrev pub mixed-arguments : (offset : ℕ) → Forest
mixed-arguments offset =
    node (record { kind = 115; a = offset + 12; b = 2; start = offset + 12 }) nil
    (node (record { kind = 98; a = offset + 20; b = 1; start = offset + 16 }) nil
    (node (record { kind = 99; a = 0xE9; b = 0; start = offset + 24 }) nil
    (node (record { kind = 100; a = 0x7FF80000; b = 0; start = offset + 28 }) nil nil)))

-- what the outer bundle contains, where it begins at an offset
abbrev pub within : (offset : ℕ) → Forest
within offset = node (once (offset + 20)) (node (mixed-item (offset + 40)) (mixed-arguments (offset + 40)) nil) nil

-- the records of the bundle by itself
unfoldable pub nested-table : List ℕ
nested-table = records_of 0 (node (once 0) (within 0) nil)

-- they are its tree's over its bytes
pub nested-tree : IsTree nested-table 7 nested (once 0) (within 0)
unfolding nested-table size own_rules range_ok allowed sort_of class_of
nested-tree = by_tests nested (once 0) (within 0) tt tt (omega arith)

-- so the table is well formed
pub nested-formed : WellFormed nested-table 7 nested
nested-formed = tree_formed nested-tree

-- and has a tree, whose root is the first record
its-tree : (inside : Forest) × IsTree nested-table 7 nested (item_at nested-table 0) inside
its-tree = formed_tree nested-table 7 nested nested-formed

-- its bytes are that tree's records
nested-bytes : take 140 nested-table ≡ records_of 0 (node (once 0) (within 0) nil)
unfolding nested-table bytes size record_of records_of
nested-bytes = tree_bytes (small_bytes nested-table tt) nested-tree

-- ---- arrays in a bundle

-- an array's own numbers
abbrev array : Item
array = record { kind = array_kind; a = 0; b = 0; start = 8 }

-- P3's message with two arrays in place of its integer: an array is in the first, and the integer in the second
abbrev arrays : Forest
arrays = node message (node array (node array nil nil) (node array five nil)) nil

-- a bundle with that message is a tree's
arrays-tree : IsTree (records_of 0 (node (once 0) arrays nil)) 6 packet (once 0) arrays
unfolding size own_rules range_ok allowed sort_of class_of
arrays-tree = by_tests packet (once 0) arrays tt tt (omega arith)

-- a bundle, an array and the array in it are one path, and 3 deep; the message adds none, nor does the second array, which stands beside
arrays-deep : (x y : Bool) → ((F : Forest) → Spans (records_of 0 (node (once 0) arrays nil)) 0 6 F → x ≡ ltb 3 (depth F))
    → ((F : Forest) → Spans (records_of 0 (node (once 0) arrays nil)) 0 6 F → y ≡ ltb 2 (depth F)) → (x ≡ false) × (y ≡ true)
unfolding depth
arrays-deep x y d e = (d (node (once 0) arrays nil) arrays-tree.spans, e (node (once 0) arrays nil) arrays-tree.spans)
