pub mod Numerals
pub mod Tables
pub mod Pushed
pub mod Beside
