pub mod Counted
pub mod Answers
pub mod Parts
pub mod Room
