pub mod Lows
pub mod Loops
pub mod Ends
pub mod Examples
