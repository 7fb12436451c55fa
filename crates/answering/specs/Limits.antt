-- What the decoders answer and leave in the table: document 01, "Refusal numbers" (the decode order) and "The node table"; document 02,
-- Ticket 1, for edition 2.
use Rattle.std.specs.Prelude.{◌≡◌, Bool, true, false, cond, List, [], ◌∷◌, ◌++◌, ℕ, leb, length, Err}
use Rattle.refusal.specs.declared.Refusal.TheVariants.{TooLong, TooDeep, TableFull, DepthLimit}
use Rattle.wire.specs.Limits.{longest, deepest}
use Rattle.node.specs.Forest.{Forest, nil, size, depth}
use Rattle.node.specs.Records.{capacity, stored}
use Rattle.argument.specs.Dirt.{dirty_in}
use Rattle.edition.specs.declared.Edition.TheVariants.{Rosc, Standard}
use Rattle.edition.specs.declared.Framing.{Framing}
use Rattle.edition.specs.declared.Framing.TheVariants.{Udp, Tcp, TcpVec}
use Rattle.framing.specs.Framing.{Whole, trees, waiting, refusal, stopped}
use Rattle.results.specs.Results.{DecodeAnswer, Packets, Stopped, Waiting}

-- the refusals of a decoder by their numbers: "Decode order: 13, 1, then 2 to 8, then 9, then 10", 17 to 21 in the place of 3 (Ticket 2)
abbrev pub decode_order : List ℕ
decode_order = 13 ∷ 1 ∷ 2 ∷ 17 ∷ 18 ∷ 19 ∷ 20 ∷ 21 ∷ 4 ∷ 5 ∷ 6 ∷ 7 ∷ 8 ∷ 9 ∷ 10 ∷ []

-- those of a frame of edition 2 (Ticket 1): "in order per frame: 1 (length over 65,531), 16, Waiting, 2 to 8, 15, 9"
abbrev pub frame_order : List ℕ
frame_order = 1 ∷ 16 ∷ 2 ∷ 17 ∷ 18 ∷ 19 ∷ 20 ∷ 21 ∷ 4 ∷ 5 ∷ 6 ∷ 7 ∷ 8 ∷ 15 ∷ 9 ∷ []

-- the refusals of a decoder by its framing; of a list of edition 2 only those of the whole call: "1 before any frame is read", and 10
abbrev pub order_of : Framing → List ℕ
order_of Udp = decode_order
order_of (Tcp Rosc) = decode_order
order_of (Tcp Standard) = (13 ∷ frame_order) ++ (10 ∷ [])
order_of (TcpVec Rosc) = decode_order
order_of (TcpVec Standard) = 13 ∷ 1 ∷ 10 ∷ []

-- the refusals of a frame at which a decoder may stop: only a list of edition 2 does
abbrev pub stops_by : Framing → List ℕ
stops_by Udp = []
stops_by (Tcp edition) = []
stops_by (TcpVec Rosc) = []
stops_by (TcpVec Standard) = frame_order

-- "`decode_tcp` may also answer Waiting"
abbrev pub waits_by : Framing → Bool
waits_by Udp = false
waits_by (Tcp edition) = true
waits_by (TcpVec edition) = false

-- an answer with these trees, if they are within the limits: 9, then 10; both speak of all of them
abbrev pub bounded : ℕ → ℕ → Forest → DecodeAnswer → DecodeAnswer
bounded capacity limit f given = cond (leb (depth f) limit) (cond (leb (size f) capacity) given (Err TableFull)) (Err TooDeep)

-- 2 to 8 first, then 9, then 10; Waiting has no trees. What is accepted comes with its dirty padding (Ticket 8). A list of edition 2 that
-- stops gives the trees before the refused frame
abbrev pub limited : ℕ → ℕ → List ℕ → Whole → DecodeAnswer
limited capacity limit msg (refusal k) = Err k
limited capacity limit msg waiting = Waiting
limited capacity limit msg (trees f left) = bounded capacity limit f (Packets (size f) left (dirty_in msg f))
limited capacity limit msg (stopped f left k at) = bounded capacity limit f (Stopped (size f) left (dirty_in msg f) k at)

-- what a decoder answers: 13, then 1, then what the rule gives within the limits
unfoldable pub decoded : (List ℕ → Whole) → ℕ → ℕ → List ℕ → DecodeAnswer
decoded rule capacity limit msg =
    cond (leb limit deepest) (cond (leb (length msg) longest) (limited capacity limit msg (rule msg)) (Err TooLong))
    (Err DepthLimit)

-- the trees that an input is read as
abbrev pub forest_of : Whole → Forest
forest_of (trees f left) = f
forest_of waiting = nil
forest_of (refusal k) = nil
forest_of (stopped f left k at) = f

-- the table after an answer: on success, and of a list that stops, exactly the records of the count are written, and a refusal or Waiting
-- changes no byte
abbrev pub tabled : DecodeAnswer → Forest → List ℕ → List ℕ
tabled (Packets count left dirty) f table = stored 0 f table
tabled Waiting f table = table
tabled (Err r) f table = table
tabled (Stopped count left dirty r at) f table = stored 0 f table

-- the contract of a decoder, by its rule, msg, table and depth limit: the answer r, and the table after the call
pub record Decodes (rule : List ℕ → Whole) (msg table : List ℕ) (limit : ℕ) (r : DecodeAnswer) (after : List ℕ) : Type 0 where
  pub answered : r ≡ decoded rule (capacity table) limit msg
  pub left : after ≡ tabled r (forest_of (rule msg)) table
