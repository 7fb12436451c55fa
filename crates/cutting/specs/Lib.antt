pub mod Moved
pub mod Cutting
