pub mod Forests
pub mod Keys
pub mod Recorded
pub mod Stored
