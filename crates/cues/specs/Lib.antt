pub mod Cues
pub mod CodeCues
pub mod Checks
pub mod Refusals
pub mod Results
