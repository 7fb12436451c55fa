-- Demand 1 of a field that was short: it begins where the refusal says, and is not all there.
--     Judged      every rule of reading, up to packets
--     Told        the theorems, for each of the three calls
--     Cut         those of edition 2, where a frame's length cuts it
--     One         no second field fits
--     Examples    calls that meet the hypotheses
pub mod Judged
pub mod Told
pub mod Cut
pub mod One
pub mod Examples
