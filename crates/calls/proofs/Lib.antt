-- The order's demands 1 and 3, proved. A folder to each, and what they and the crates above cite.
--     Answered    what an answer with packets shows of the input and of the table
--     Calls       demand 1: every call ends as document 01 lists it, and its contract settles all that it leaves
--     Room        demand 3: more room; n records hold what n bytes decode to
--     Longer      demand 3: more bytes
--     Soiled      Ticket 8: what the count of dirty padding says
--     Fields      demand 1 of a field that was short: where it began, and that it is not all there
pub mod Answered
pub mod Calls
pub mod Room
pub mod Longer
pub mod Soiled
pub mod Fields
