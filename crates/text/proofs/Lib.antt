pub mod Dirt
pub mod Nuls
pub mod Only
pub mod Passing
pub mod Texts
pub mod Within
