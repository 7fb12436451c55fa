pub mod Walks
pub mod CodeWalks
