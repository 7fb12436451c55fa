-- Ticket 7's conversions, and the differences of tags, proved.
--     Nearest    the formulas are the nearest; nanoseconds there and back; when a second is full
--     Shifts     differences of tags, and 64 bits read as signed
--     Starts     a signed number of seconds, taken as an unsigned one
--     Tags       the answers of `tag_of`, case by case
--     Times      those of `unix_of`
--     Domains    the domains of the refusals
--     Returns    a time comes back unchanged
--     Moved      the carry, and how far a tag is moved
--     Agree      the two rules agree
--     Order      order is kept within an era
--     Only       no second outcome
--     Examples   the inputs that the readings name
pub mod Nearest
pub mod Shifts
pub mod Starts
pub mod Tags
pub mod Times
pub mod Domains
pub mod Returns
pub mod Moved
pub mod Agree
pub mod Order
pub mod Only
pub mod Examples
pub mod Adding
