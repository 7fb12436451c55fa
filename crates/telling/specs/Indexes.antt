-- The line for a cue index, as the order of Ticket 5 has it: one that was written, and one that was checked. Both end alike.
use Rattle.std.specs.Prelude.{List, [], ◌∷◌, ℕ, Ok, Err}
use Prim.Native.String.{String, ◌++◌}
use Rattle.refusal.specs.Refusal.{moved_refusal}
use Rattle.results.specs.Differs.{index_differs}
use Rattle.results.specs.Ends.{FieldUpTo}
use Rattle.results.specs.declared.End.{End}
use Rattle.results.specs.declared.End.TheVariants as end
use Rattle.results.specs.Results.{Checked}
use Rattle.telling.specs.Forms.{line}
use Rattle.telling.specs.Refusals.{refused_words, numbered_line}

-- what is said of an index that was written, and of one that is the one written afresh
abbrev pub written_words : String
written_words = "index"

abbrev pub fits_words : String
fits_words = "index fits"

-- an index of a whole recording: its records
abbrev pub whole_form : String → String
whole_form what = what ++ ": % records, whole\n"

-- one that stopped at a frame that is not all there: its records, and the offset of that frame
abbrev pub index_waiting_form : String → String
index_waiting_form what = what ++ ": % records, stopped at %: waiting\n"

-- one that stopped at a frame that is refused: the same, and the words of the refusal, which are the text
abbrev pub index_refused_form : String → String
index_refused_form what = what ++ ": % records, stopped at %: ~\n"

-- how much of a recording is read
abbrev pub progress_form : String
progress_form = "osc: % MiB read\n"

-- the form of an index that ends so
abbrev pub end_form : String → End → String
end_form what end.Whole = whole_form what
end_form what end.Waiting = index_waiting_form what
end_form what (end.Refused k) = index_refused_form what

-- the words of the refusal of the frame at offset `at`, as `decode` has them; a field that was short has its offset in the recording
abbrev pub end_words : ℕ → End → List ℕ
end_words at end.Whole = []
end_words at end.Waiting = []
end_words at (end.Refused k) = refused_words (moved_refusal at k)

-- an index of so many records that ends at an offset, with these words
abbrev pub end_line : String → ℕ → ℕ → List ℕ → List ℕ
end_line form records at words = line form (records ∷ at ∷ []) words

-- an index that was written, and where and why it ends
abbrev pub index_line : ℕ → ℕ → End → List ℕ
index_line records at why = end_line (end_form written_words why) records at (end_words at why)

-- "25 index differs": the first record that does, is missing or is one too many
abbrev pub differs_line : ℕ → List ℕ
differs_line k = numbered_line index_differs k

-- one that was checked: where it fits, where and why the recording's ends
abbrev pub checked_line : Checked → ℕ → End → List ℕ
checked_line (Ok records) at why = end_line (end_form fits_words why) records at (end_words at why)
checked_line (Err differs) at why = differs_line differs.at

-- every offset that is told has 63 bits
abbrev pub Tellable : ℕ → End → Type 0
Tellable at why = FieldUpTo at 0x7fff_ffff_ffff_ffff why

-- how much is read
abbrev pub progress_line : ℕ → List ℕ
progress_line mebibytes = line progress_form (mebibytes ∷ []) []

-- a recording that was shifted whole: its bytes
abbrev pub shift_whole_form : String
shift_whole_form = "shift: % bytes, whole\n"

-- one that stopped at a frame that is not all there: the offset of that frame
abbrev pub shift_waiting_form : String
shift_waiting_form = "shift: stopped at %: waiting\n"

-- one that stopped at a frame that is refused: the same, and the words of the refusal, which are the text
abbrev pub shift_refused_form : String
shift_refused_form = "shift: stopped at %: ~\n"

-- the form of a shift that ends so
abbrev pub shift_form : End → String
shift_form end.Whole = shift_whole_form
shift_form end.Waiting = shift_waiting_form
shift_form (end.Refused k) = shift_refused_form

-- a shift that ends at an offset, with these words
abbrev pub shift_end_line : End → ℕ → List ℕ → List ℕ
shift_end_line why at words = line (shift_form why) (at ∷ []) words

-- "it stops at the first frame not accepted and says where, as `index` does" (Ticket 13)
abbrev pub shift_line : ℕ → End → List ℕ
shift_line at why = shift_end_line why at (end_words at why)
