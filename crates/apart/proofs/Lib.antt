-- The laws of the C boundary.
--     Ended, Shapes, Bounds     what the library's answers are, and that their records have their bits
--     Contracts                 demand 1 of a function that its maker gives
--     Once, IndexTold           which answer the numbers tell
--     ClockTold                 demand 1 of the clock conversions, and which answer they tell
--     Boundary                  demand 1 of every function
--     Examples, IndexExamples   computed
pub mod Ended
pub mod Shapes
pub mod Bounds
pub mod Once
pub mod Contracts
pub mod ClockTold
pub mod Boundary
pub mod IndexTold
pub mod Examples
pub mod IndexExamples
