-- The line for an answer of the library.
use Rattle.std.specs.Prelude.{cond, List, [], ◌∷◌, ℕ, eqb, Err, Ok}
use Prim.Native.String.{String}
use Rattle.results.specs.Results.{DecodeAnswer, Encoded}
use Rattle.results.specs.Results as decoded
use Rattle.telling.specs.Forms.{line}
use Rattle.telling.specs.Refusals.{refused_line, refused_words}

-- how many packets were read, their records, and the bytes that were not read
abbrev pub packets_form : String
packets_form = "packets: %, records: %, bytes left: %\n"

-- the same with the bytes of their padding that are not zero (Ticket 8)
abbrev pub dirty_form : String
dirty_form = "packets: %, records: %, bytes left: %, dirty padding bytes: %\n"

-- a list that stopped at a refused frame: what was read before it, the words of the refusal, which are the text, and the frame's offset
-- (Ticket 1)
abbrev pub stopped_form : String
stopped_form = "stopped: packets: %, records: %, bytes left: %, ~, frame at offset %\n"

-- the same with dirty padding
abbrev pub stopped_dirty_form : String
stopped_dirty_form = "stopped: packets: %, records: %, bytes left: %, dirty padding bytes: %, ~, frame at offset %\n"

-- the first frame is not all there
abbrev pub waiting_form : String
waiting_form = "waiting: % bytes, nothing read\n"

-- how long the result is
abbrev pub written_form : String
written_form = "written: % bytes\n"

-- the version: major, minor and patch
abbrev pub version_form : String
version_form = "osc %.%.%\n"

-- packets that were read: their dirty padding is told where there is any
abbrev pub packets_line : ℕ → ℕ → ℕ → ℕ → List ℕ
packets_line packets count left dirty =
    cond (eqb dirty 0) (line packets_form (packets ∷ count ∷ left ∷ []) []) (line dirty_form (packets ∷ count ∷ left ∷ dirty ∷ []) [])

-- packets that were read before the frame that these words refuse
abbrev pub stopped_line : ℕ → ℕ → ℕ → ℕ → List ℕ → ℕ → List ℕ
stopped_line packets count left dirty words frame =
    cond (eqb dirty 0) (line stopped_form (packets ∷ count ∷ left ∷ frame ∷ []) words)
    (line stopped_dirty_form (packets ∷ count ∷ left ∷ dirty ∷ frame ∷ []) words)

-- a decoder's answer to an input of so many packets and bytes
abbrev pub decoded_line : ℕ → ℕ → DecodeAnswer → List ℕ
decoded_line packets bytes (decoded.Packets count left dirty) = packets_line packets count left dirty
decoded_line packets bytes decoded.Waiting = line waiting_form (bytes ∷ []) []
decoded_line packets bytes (Err refusal) = refused_line refusal
decoded_line packets bytes (decoded.Stopped count left dirty refusal frame) =
    stopped_line packets count left dirty (refused_words refusal) frame

-- an encoder's answer
abbrev pub encoded_line : Encoded → List ℕ
encoded_line (Ok n) = line written_form (n ∷ []) []
encoded_line (Err refusal) = refused_line refusal

-- the version
abbrev pub version_line : ℕ → ℕ → ℕ → List ℕ
version_line major minor patch = line version_form (major ∷ minor ∷ patch ∷ []) []

-- a frame of a recording, after the words for its packet, which are the text: its offset in the recording and the packet's length
abbrev pub frame_form : String
frame_form = "~, frame at byte %, packet of % bytes\n"

abbrev pub frame_line : ℕ → ℕ → List ℕ → List ℕ
frame_line at size words = line frame_form (at ∷ size ∷ []) words
