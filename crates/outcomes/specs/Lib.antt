pub mod Kept
pub mod Told
pub mod CodeRoots
pub mod Cued
pub mod Framed
pub mod Tried
