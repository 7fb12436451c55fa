-- Ticket 10: where each item began.
--     Forests     forests whose starts do not fall in preorder, and the records that hold them
--     Arguments   the arguments of a message begin one after another
--     Packets     so do packets, and the elements of a bundle
--     Tables      the starts of a decoder's table, for every framing
--     Examples    calls that meet the hypothesis
pub mod Forests
pub mod Arguments
pub mod Packets
pub mod Tables
pub mod Examples
