-- Ticket 5 of a recording of any length, proved.
--     Parts        every check in parts says what the check of all says
--     AnyBuffers   the theorem of a writer that repeats the step
--     Walks        every program that does so writes the index of the whole, and checks it
--     Fields       the numbers of an index's records
--     Alone        a cue is a cue alone
--     Lookup       where the cues lie, and a cue looked up
--     Examples     recordings that meet every hypothesis
pub mod Parts
pub mod AnyBuffers
pub mod Walks
pub mod Fields
pub mod Alone
pub mod Lookup
pub mod Examples
