pub mod Flat
pub mod Passed
pub mod Turns
