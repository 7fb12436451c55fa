pub mod Months
pub mod Inverse
pub mod Examples
