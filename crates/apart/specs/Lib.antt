pub mod CContracts
pub mod Boundary
pub mod ReadBack
