pub mod Folding
pub mod Walks
pub mod Frames
