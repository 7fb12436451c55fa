pub mod Asked
pub mod Slid
