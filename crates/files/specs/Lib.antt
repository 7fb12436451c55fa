pub mod Beside
pub mod Told
pub mod Rest
pub mod Fits
pub mod Shown
pub mod Numbers
pub mod Names
