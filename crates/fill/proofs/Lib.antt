pub mod Contents
pub mod Elements
pub mod Fills
pub mod Messages
