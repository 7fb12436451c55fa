-- What is told, read back.
--     Unpacked  the record from both numbers, once for all functions
--     Back      the answer from its record
--     Seen      the kind of a value is that of its record
pub mod Unpacked
pub mod Back
pub mod Seen
