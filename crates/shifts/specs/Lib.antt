pub mod Shifts
pub mod Call
pub mod Sums
pub mod Results
