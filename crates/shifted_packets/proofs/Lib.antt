-- A shifted table.
--     Retags     bytes that differ in tags alone
--     Trees      the tree of a shifted table; it stays well formed
--     Writing    what a shifted tree is written as
--     Encoding   what the encoders answer for it
pub mod Retags
pub mod Trees
pub mod Writing
pub mod Encoding
