-- Demand 3: room.
--     MoreRoom      more room, or a higher depth limit, takes back no answer but 9 and 10
--     RecordsHold   n records always hold what n bytes decode to
--     Examples      calls that meet the hypotheses
pub mod MoreRoom
pub mod RecordsHold
pub mod Examples
