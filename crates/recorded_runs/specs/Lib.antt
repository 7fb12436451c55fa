pub mod Operation
pub mod Layout
pub mod Compared
