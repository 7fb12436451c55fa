pub mod Ascii
pub mod Tables
pub mod Numeral
