pub mod Judged
pub mod Fronts
pub mod Frames
pub mod Walks
