-- How a call ends, by its answer: document 01, "Refusal numbers", and document 02, Tickets 1, 2, 5 and 7.
use Rattle.std.specs.Prelude.{ℕ, Err, Ok}
use Rattle.refusal.specs.declared.Refusal.{Refusal}
use Rattle.clock.specs.Results.{Tagged, Unix}
use Rattle.results.specs.Results.{Checked, CueAnswer, DecodeAnswer, Encoded, IndexAnswer, PortionAnswer}
use Rattle.results.specs.Results as answers
use Rattle.results.specs.declared.End.{End}
use Rattle.results.specs.declared.End.TheVariants as end
use Rattle.clock.specs.declared.OutOfRange.{OutOfRange}

-- with a result; with Waiting; with a refusal, which has its number and nothing else (refusal's `number_of`), but of 17 to 21 the offset;
-- with the packets, or the cues, before a refused frame, and its refusal, "an answer of its own beside demand 1's refusals" (Ticket 1);
-- with 25, and "beside it .. one more number, the first differing, missing or extra record" (Ticket 5); or with 26 to 28 (Ticket 7)
pub data Ending : Type 0 where
  result : Ending
  waits : Ending
  refuses : Refusal → Ending
  stops : Refusal → Ending
  differs : (first : ℕ) → Ending
  outside : OutOfRange → Ending

-- by the answer of a decoder
abbrev pub by_decoded : DecodeAnswer → Ending
by_decoded (answers.Packets count left dirty) = result
by_decoded answers.Waiting = waits
by_decoded (Err r) = refuses r
by_decoded (answers.Stopped count left dirty r at) = stops r

-- of a step over a stream (Ticket 14)
abbrev pub by_portion : PortionAnswer → Ending
by_portion (answers.Read count used dirty) = result
by_portion (answers.Ended count used dirty r) = stops r
by_portion (Err r) = refuses r

-- of why an index goes no further (Ticket 5)
abbrev pub by_end : End → Ending
by_end end.Whole = result
by_end end.Waiting = result
by_end (end.Refused r) = stops r

-- of a step that writes an index
abbrev pub by_indexed : IndexAnswer → Ending
by_indexed (Ok indexed) = by_end indexed.end
by_indexed (Err r) = refuses r

-- of the check of an index
abbrev pub by_checked : Checked → Ending
by_checked (Ok records) = result
by_checked (Err other) = differs other.at

-- of a cue by its number
abbrev pub by_cue_at : CueAnswer → Ending
by_cue_at (Ok cue) = result
by_cue_at (Err r) = refuses r

-- of an encoder
abbrev pub by_encoded : Encoded → Ending
by_encoded (Ok n) = result
by_encoded (Err r) = refuses r

-- of a conversion to a tag (Ticket 7)
abbrev pub by_tagged : Tagged → Ending
by_tagged (Ok t) = result
by_tagged (Err r) = outside r

-- and to Unix time
abbrev pub by_unix : Unix → Ending
by_unix (Ok time) = result
by_unix (Err r) = outside r
