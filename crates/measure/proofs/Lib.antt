pub mod Extents
pub mod Skims
pub mod Turns
