pub mod Osc
pub mod CodeWriters
pub mod Siblings
