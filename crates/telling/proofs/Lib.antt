pub mod Told
pub mod Decimals
pub mod Tables
pub mod Said
pub mod Shorts
