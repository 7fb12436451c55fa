pub mod Limits
pub mod CodeAnswered
