-- Ticket 14, proved.
--     Shift         what is read k bytes further on is the same, moved
--     Records       trees side by side, and trees further on, in the table
--     Soil          the dirty padding of both
--     Fold          a list is read in one go or in two
--     Told          what a call answers where no limit refuses it
--     Calls         the three laws of a cut, over answers and tables
--     AnyPortions   the theorem of a recorder
--     Examples      a stream that meets every hypothesis
pub mod Shift
pub mod Records
pub mod Soil
pub mod Fold
pub mod Told
pub mod Calls
pub mod AnyPortions
pub mod Examples
