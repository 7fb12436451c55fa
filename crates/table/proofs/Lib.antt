pub mod Only
pub mod Spanned
pub mod Depths
pub mod Grown
pub mod Held
pub mod Theorem
pub mod Examples
pub mod Walks
