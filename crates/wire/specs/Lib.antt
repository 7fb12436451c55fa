pub mod Limits
pub mod Number
pub mod CodeNumber
pub mod Pad
pub mod Part
pub mod Same
pub mod Wrote
pub mod Results
