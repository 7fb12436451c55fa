pub mod Atomic
pub mod CodeStrings
