-- What is decoded can be read without testing it again, and encoded.
--     Arguments   every argument that is read obeys the rules of a well-formed table
--     Packets     so does every packet that is read
--     Reliable    what a node that keeps its rules holds needs no test
--     Tables      the records that a call answers with are such trees, and a table of one packet is well formed
--     Examples    calls that meet the hypotheses
pub mod Arguments
pub mod Packets
pub mod Reliable
pub mod Tables
pub mod Examples
