pub mod Tags
pub mod Seconds
pub mod Asked
