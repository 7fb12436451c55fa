pub mod CodeCame
pub mod Loops
