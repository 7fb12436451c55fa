pub mod Lines
pub mod Sums
