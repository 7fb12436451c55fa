-- The numbers of the operations in `data/answers.bin`.
use Rattle.std.specs.Prelude.{◌≡◌, ℕ, ◌<◌, ◌≤◌, Result, MatchResult}
use Rattle.recorded_runs.specs.declared.operation.Operation.{Operation}
use Rattle.recorded_runs.specs.declared.operation.Operation.TheVariants.{DecodeUdp, DecodeTcp, DecodeTcpVec}
use Rattle.recorded_runs.specs.declared.operation.Operation.TheVariants.{Encode, EncodeTcp, EncodeString}
use Rattle.recorded_runs.specs.declared.operation.Operation.TheVariants.{Pad, Look, StartOf}
use Rattle.recorded_runs.specs.declared.operation.Operation.TheVariants.{DecodeTcp2, DecodeTcpVec2, EncodeTcp2}
use Rattle.recorded_runs.specs.declared.operation.UnknownOperation.{UnknownOperation}

-- the number of an operation in the file
abbrev pub number_of : Operation → ℕ
number_of DecodeUdp = 0
number_of DecodeTcp = 1
number_of DecodeTcpVec = 2
number_of Encode = 3
number_of EncodeTcp = 4
number_of EncodeString = 5
number_of Pad = 6
number_of Look = 7
number_of StartOf = 8
number_of DecodeTcp2 = 9
number_of DecodeTcpVec2 = 10
number_of EncodeTcp2 = 11

-- the operation with this number, which is less than 12; none where it is not
abbrev pub Decodes : ℕ → Result Operation UnknownOperation → Type 0
Decodes n r = MatchResult r (λ operation. (number_of operation ≡ n) × (n < 12)) (λ e. (e.0 ≡ n) × (12 ≤ n))
