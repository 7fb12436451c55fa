-- Examples of shifted records: each is what the definitions compute.
use Rattle.std.proofs.Common.{◌≡◌, ℕ, ◌-◌, ◌^◌, true, false, List, [], ◌∷◌, ◌++◌, refl}
use Rattle.wire.specs.Number.{number, bytes}
use Rattle.node.specs.Records.{kind_at, zeros_at, field_at}
use Rattle.node.specs.Rules.{own_rules}
use Rattle.node.specs.Tags.{sort_of, class_of}
use Rattle.values.specs.Look.{look_at}
use Rattle.shifts.specs.Shifts.{shifted_record, shifted_table, time_tags, lookable}

-- a record of a kind with a tag's two numbers; its end is 1, and its start 0
rec : ℕ → List ℕ → List ℕ
rec kind tag = (kind ∷ 0 ∷ 0 ∷ 0 ∷ 0 ∷ 0 ∷ 0 ∷ 1 ∷ []) ++ (tag ++ (0 ∷ 0 ∷ 0 ∷ 0 ∷ []))

-- the immediate tag of a # is a plain number: half a second on
immediate : shifted_record (2 ^ 31) (rec 35 (0 ∷ 0 ∷ 0 ∷ 0 ∷ 0 ∷ 0 ∷ 0 ∷ 1 ∷ [])) ≡ rec 35 (0 ∷ 0 ∷ 0 ∷ 0 ∷ 128 ∷ 0 ∷ 0 ∷ 1 ∷ [])
unfolding number bytes rec
immediate = refl

-- a carry from the fractions of a t to its seconds
carry : shifted_record 1 (rec 116 (0 ∷ 0 ∷ 0 ∷ 7 ∷ 255 ∷ 255 ∷ 255 ∷ 255 ∷ [])) ≡ rec 116 (0 ∷ 0 ∷ 0 ∷ 8 ∷ 0 ∷ 0 ∷ 0 ∷ 0 ∷ [])
unfolding number bytes rec
carry = refl

-- around the wrap, by the opposite of 1
wrapped : shifted_record (2 ^ 64 - 1) (rec 116 (0 ∷ 0 ∷ 0 ∷ 0 ∷ 0 ∷ 0 ∷ 0 ∷ 0 ∷ []))
    ≡ rec 116 (255 ∷ 255 ∷ 255 ∷ 255 ∷ 255 ∷ 255 ∷ 255 ∷ 255 ∷ [])
unfolding number bytes rec
wrapped = refl

-- the two numbers of an h stay
long-stays : shifted_record 1 (rec 104 (0 ∷ 0 ∷ 0 ∷ 7 ∷ 255 ∷ 255 ∷ 255 ∷ 255 ∷ [])) ≡ rec 104 (0 ∷ 0 ∷ 0 ∷ 7 ∷ 255 ∷ 255 ∷ 255 ∷ 255 ∷ [])
unfolding number bytes rec
long-stays = refl

-- of a table of two bundles the second is left where one record is asked for
first_alone : shifted_table 1 1 (rec 35 (bytes 8 5) ++ rec 35 (bytes 8 9)) ≡ rec 35 (bytes 8 6) ++ rec 35 (bytes 8 9)
unfolding number bytes rec shifted_table
first_alone = refl

both : time_tags 2 (shifted_table 1 2 (rec 35 (bytes 8 5) ++ rec 35 (bytes 8 9))) ≡ 6 ∷ 10 ∷ []
unfolding number bytes rec shifted_table time_tags
both = refl

-- a record of an unknown kind after the first is no obstacle, unless it is asked for
not-looked-at : lookable (rec 35 (bytes 8 5) ++ rec 120 (bytes 8 0)) 1 ≡ true
unfolding number bytes rec lookable look_at kind_at zeros_at field_at own_rules sort_of class_of
not-looked-at = refl

looked-at : lookable (rec 35 (bytes 8 5) ++ rec 120 (bytes 8 0)) 2 ≡ false
unfolding number bytes rec lookable look_at kind_at zeros_at field_at own_rules sort_of class_of
looked-at = refl
