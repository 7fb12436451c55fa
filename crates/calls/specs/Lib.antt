pub mod Calls
pub mod Words
pub mod Demands
pub mod Fields
