pub mod FrameKnot
pub mod FrameStarts
pub mod Lists
