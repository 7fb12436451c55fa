-- Ticket 5's step, its check and its lookup, proved.
--     Shortest       a frame that is given has 12 bytes
--     Cues           one frame, as it is judged for an index
--     Numbers        the refusals of a frame that ends an index
--     Indexes        an index by its first frame, and within its bytes
--     Kept           what waits is shorter than a buffer
--     Passes         the two passes over a buffer
--     Steps          what a step that writes tells
--     Folds          the index is a sound fold
--     Only           no second outcome of a step
--     Entries        the bytes of a record
--     IndexExamples  recordings that meet the hypotheses
--     Checks         what a check says
--     CheckExamples  indexes that meet its hypotheses
pub mod Shortest
pub mod Cues
pub mod Numbers
pub mod Indexes
pub mod Kept
pub mod Passes
pub mod Steps
pub mod Folds
pub mod Only
pub mod Entries
pub mod IndexExamples
pub mod Checks
pub mod CheckExamples
