pub mod Words
pub mod Osc10
pub mod Strict
