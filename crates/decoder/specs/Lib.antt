pub mod Cases
pub mod CodeFrames
pub mod Examples
pub mod Offsets
