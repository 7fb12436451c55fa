pub mod Nearest
pub mod Clock
pub mod Shift
pub mod Promises
pub mod Sums
pub mod Results
